-- A script has one world and one transcript, and there are such.
use Rattle.std.proofs.Common.{◌≡◌, ℕ, ◌+◌, ◌-◌, ◌≤◌, List, [], ◌∷◌, ◌++◌, length, map, refl, sym, ap, ◌∙◌, subst, arith, inl, inr}
use Rattle.std.specs.Prelude.{All}
use Rattle.std.specs.FinMap.{empty, get-empty, len-empty}
use Rattle.std.proofs.lemmas.List.{get_or_past, get_or_append_left, get_or-append_right}
use Rattle.std.proofs.lemmas.List.Elements.{All-nil, All-cons, All-map}
use Rattle.std.proofs.lemmas.Bool.{cases_lt}
use Rattle.std.proofs.lemmas.Option.{none-some}
use Rattle.alg_model.specs.Lattices as lattices
use Rattle.alg_model.specs.Lattices.{Lattice, IsEdition}
use Rattle.alg_compatible.proofs.Laws.{opening_exists_law}
use Rattle.lat_core.specs.declared.tagged.Tagged.{Tagged}
use Rattle.lat_core.specs.declared.replies.Entry.{Entry}
use Rattle.lat_core.proofs.HistoryLaws.{history_one}
use Rattle.lat_language.specs.declared.commands.Command.{Command}
use Rattle.lat_language.specs.declared.scripts.Script.{Script}
use Rattle.lat_language.specs.declared.scripts.SessionScript.{SessionScript}
use Rattle.lat_session.specs.Variables.{name_cmp, AreVariables}
use Rattle.lat_session.specs.Commands.{IsProperCommand}
use Rattle.lat_session.specs.Outcomes.{Operations, KeepsValues}
use Rattle.lat_history.proofs.BookLemmas.{after_none}
use Rattle.lat_playing.specs.Worlds.{SessionState, World, new_session, session_at, only_prologue, open_sessions, rest, Runs, IsWorld, IsSolo}
use Rattle.lat_playing.specs.Transcripts.{transcript_text, IsText, IsTranscript}
use Rattle.lat_playing.specs.Plays.{IsPlayable}
use Rattle.lat_playing.specs.PrivateWorlds.{CanGoOn, IsSound}
use Rattle.lat_playing.proofs.WorldEvents.{runs_one, runs_exists, runs_sound}

-- what holds of the sessions of two lists, and where there is none, holds of those of both
pub sessions_both : (P : SessionState → Type 0) (xs ys : List SessionState)
    → P (new_session 0 []) → ((n : ℕ) → P (session_at xs n)) → All P ys
    → (n : ℕ) → P (session_at (xs ++ ys) n)
sessions_both P xs ys none first later n = elim (cases_lt n (length xs)) [
  | inl within ↦ subst P (sym (get_or_append_left xs ys (new_session 0 []) n within)) (first n)
  | inr past ↦ subst P (sym (get_or-append_right xs ys (length xs) n (new_session 0 []) refl past))
      (elim (cases_lt (n - length xs) (length ys)) [
        | inl inside ↦ later (n - length xs) (new_session 0 []) inside
        | inr outside ↦ subst P (sym (get_or_past ys (n - length xs) (new_session 0 []) outside)) none
      ])
]

-- ---- sessions that open
no_variables : (L : Lattice) → AreVariables L empty
no_variables L = record {
  values = λ {name} {t} h. absurd (none-some t (sym (get-empty name_cmp name) ∙ h.found));
  room = omega (arith, len-empty name_cmp Tagged);
}

new_goes : (edition : lattices.Edition) (history : List Entry) (front : ℕ)
    (commands : List Command) → front ≤ length history → All IsProperCommand commands
    → CanGoOn edition history (new_session front commands)
new_goes edition history front commands within proper = record {
  fitted = record { within = within; fit = λ L a. no_variables L };
  proper = proper;
}

-- a session with nothing to do
none_goes : (edition : lattices.Edition) (history : List Entry)
    → CanGoOn edition history (new_session 0 [])
none_goes edition history =
    new_goes edition history 0 [] (omega arith) (All-nil IsProperCommand)

-- before the first command
pub prologue_sound : (edition : lattices.Edition) (commands : List Command)
    → All IsProperCommand commands → IsSound edition (only_prologue commands)
prologue_sound edition commands proper =
    let (L, e, o) = opening_exists_law edition in
    record {
      legal = (L, after_none e o);
      each = sessions_both (CanGoOn edition []) [] (new_session 0 commands ∷ [])
          (none_goes edition []) (λ n. none_goes edition [])
          (All-cons (CanGoOn edition []) (new_session 0 commands) [] (new_goes edition [] 0 commands (omega arith) proper) (All-nil (CanGoOn edition [])));
    }

-- when the sessions open
pub open_sound : (edition : lattices.Edition) (script : Script) (w : World) → IsPlayable script
    → IsSound edition w → IsSound edition (open_sessions script w)
open_sound edition script w p S = record {
  legal = S.legal;
  each = sessions_both (CanGoOn edition w.history) w.sessions
      (map (λ (s : SessionScript). new_session (length w.history) s.commands) script.sessions)
      (none_goes edition w.history) S.each
      (All-map (CanGoOn edition w.history) (λ (s : SessionScript). new_session (length w.history) s.commands) script.sessions
      (λ k d l. new_goes edition w.history (length w.history) _ (omega arith) (p.sessions k d l)));
}

module _ {edition : lattices.Edition} (operations : Operations) (E : IsEdition edition)
    (keeps : KeepsValues operations) {script : Script} (playable : IsPlayable script) where
  begun : IsSound edition (only_prologue script.prologue)
  begun = prologue_sound edition script.prologue playable.prologue

  -- **all sessions can go on in each world**
  opened_sound : {events : List ℕ} {w : World} → (a : IsWorld edition operations script events w)
      → IsSound edition (open_sessions script a.prologue)
  opened_sound a = open_sound edition script a.prologue playable
      (runs_sound operations E keeps (rest (only_prologue script.prologue)) begun a.played)

  pub world_sound : {events : List ℕ} {w : World} → IsWorld edition operations script events w
      → IsSound edition w
  world_sound {events} a = runs_sound operations E keeps events (opened_sound a) a.runs

  -- **the world after events is one**
  pub world_one : (events : List ℕ) {w v : World}
      → IsWorld edition operations script events w → IsWorld edition operations script events v
      → w ≡ v
  world_one events {w} {v} a b =
      let same = runs_one operations E keeps (rest (only_prologue script.prologue)) begun a.played b.played in
      runs_one operations E keeps events (opened_sound a) a.runs
      (subst (λ u. Runs edition operations events (open_sessions script u) v) (sym same) b.runs)

  pub world_exists : (events : List ℕ)
      → (w : World) × IsWorld edition operations script events w
  world_exists events =
      let (prologue, played) = runs_exists operations E keeps (rest (only_prologue script.prologue)) (only_prologue script.prologue) begun in
      let sound = runs_sound operations E keeps (rest (only_prologue script.prologue)) begun played in
      let (w, runs) = runs_exists operations E keeps events (open_sessions script prologue) (open_sound edition script prologue playable sound) in
      (w, record { prologue = prologue; played = played; runs = runs })

  -- **the world after the schedule and the rest is one**
  pub solo_one : {w v : World} → IsSolo edition operations script w
      → IsSolo edition operations script v → w ≡ v
  solo_one {w} {v} a b =
      let same = world_one (map (λ place. place + 1) script.schedule) a.is_world b.is_world in
      runs_one operations E keeps (rest a.scheduled) (world_sound a.is_world) a.runs
      (subst (λ u. Runs edition operations (rest u) u v) (sym same) b.runs)

  pub solo_exists : (w : World) × IsSolo edition operations script w
  solo_exists =
      let (scheduled, is_world) = world_exists (map (λ place. place + 1) script.schedule) in
      let (w, runs) = runs_exists operations E keeps (rest scheduled) scheduled (world_sound is_world) in
      (w, record { scheduled = scheduled; is_world = is_world; runs = runs })

  pub solo_sound : {w : World} → IsSolo edition operations script w → IsSound edition w
  solo_sound a = runs_sound operations E keeps (rest a.scheduled) (world_sound a.is_world) a.runs

  -- **the transcript is one**
  text_one : {w : World} {text other : List ℕ} → IsText edition script w text
      → IsText edition script w other → text ≡ other
  text_one {w} a b =
      let same = history_one edition w.history a.lattice b.lattice E a.after b.after in
      a.is ∙ ap (transcript_text script w) same ∙ sym b.is

  pub transcript_one : {text other : List ℕ}
      → IsTranscript edition operations script text → IsTranscript edition operations script other
      → text ≡ other
  transcript_one {text} {other} a b =
      text_one a.is_text
      (subst (λ u. IsText edition script u other) (sym (solo_one a.solo b.solo)) b.is_text)

  pub transcript_exists : (text : List ℕ) × IsTranscript edition operations script text
  transcript_exists =
      let (w, solo) = solo_exists in
      let (L, a) = (solo_sound solo).legal in (
        transcript_text script w L,
        record {
          world = w;
          solo = solo;
          is_text = record { lattice = L; after = a; is = refl };
        },
      )
