-- From the parts of a play on threads to what it promises.
use Rattle.std.proofs.Common.{◌≡◌, ℕ, zero, suc, ◌+◌, ◌<◌, ◌≤◌, List, [], ◌∷◌, ◌++◌, length, map, take, drop, refl, sym, ap, ◌∙◌, subst, arith, append-nil, add-one, Some}
use Rattle.std.specs.Prelude.{All, Contains, slice_get, slice_index_or}
use Rattle.std.proofs.lemmas.List.{nil_from_length}
use Rattle.std.proofs.lemmas.List.Elements.{All-nil, All-append, All-from_get_or}
use Rattle.std.proofs.lemmas.Option.{none-some}
use Rattle.alg_model.specs.Lattices as lattices
use Rattle.lat_core.specs.declared.replies.Entry.{Entry}
use Rattle.lat_core.specs.Histories.{entries_of}
use Rattle.lat_language.specs.declared.scripts.Script.{Script}
use Rattle.lat_language.specs.declared.scripts.SessionScript.{SessionScript}
use Rattle.lat_language.specs.Grammar.{session_commands}
use Rattle.lat_session.specs.Outcomes.{Operations}
use Rattle.lat_history.specs.Books.{IsHistory}
use Rattle.lat_playing.specs.declared.plays.Performance.{Performance}
use Rattle.lat_playing.specs.Worlds.{SessionState, new_session, session_at, only_prologue, open_sessions}
use Rattle.lat_playing.specs.Transcripts.{lines_text, blocks_text}
use Rattle.lat_playing.specs.Plays.{PerformsPrologue, PerformsFairly}
use Rattle.lat_playing.proofs.FinishedWorlds.{rest_left}
use Rattle.lat_shared.specs.Sharing.{Sharing, SharedPass, IsSession, IsPassOf, EndsAs, knowledge_of, first_pass, sharing_of}
use Rattle.lat_sharing.specs.PrivateSharings.{HasPlayed, HavePlayed, ArePlayed, session_blocks}
use Rattle.lat_sharing.proofs.FairWorlds.{fair_world}

-- ---- the passes at the opening
-- the sessions began with the passes that were dealt
pub are_played : (operations : Operations) (sharing : Sharing) (entries : List Entry) (n : ℕ)
    (scripts : List SessionScript) (olds news : List SharedPass) (texts : List (List ℕ))
    → ((i : ℕ) → i < length scripts → slice_get olds i ≡ Some (first_pass sharing (i + n) entries))
    → HavePlayed operations scripts olds news texts
    → ArePlayed operations sharing entries n scripts news texts
are_played operations sharing entries n [] [] [] [] dealt played = tt
are_played operations sharing entries n [] [] [] (t ∷ texts) dealt played = absurd played
are_played operations sharing entries n [] [] (p ∷ news) texts dealt played = absurd played
are_played operations sharing entries n [] (p ∷ olds) news texts dealt played = absurd played
are_played operations sharing entries n (s ∷ scripts) [] news texts dealt played = absurd played
are_played operations sharing entries n (s ∷ scripts) (p ∷ olds) [] texts dealt played = absurd played
are_played operations sharing entries n (s ∷ scripts) (p ∷ olds) (q ∷ news) [] dealt played = absurd played
are_played operations sharing entries n (s ∷ scripts) (p ∷ olds) (q ∷ news) (t ∷ texts) dealt (first, later) =
    let at : Some p ≡ Some (first_pass sharing n entries)
    = dealt 0 (omega arith) ∙ ap (λ m. Some (first_pass sharing m entries)) (omega arith) in
    let is : p ≡ first_pass sharing n entries = cc in (
      subst (λ old. HasPlayed operations (knowledge_of old) s.commands (knowledge_of q) t) is first,
      are_played operations sharing entries (suc n) scripts olds news texts
          (λ i l. dealt (suc i) (omega (arith, l)) ∙ ap (λ m. Some (first_pass sharing m entries)) (omega arith)) later,
    )

-- the number of a pass at its place
at_number : (sharing : Sharing) (entries : List Entry) (m i : ℕ) (olds : List SharedPass) (d : ℕ)
    → slice_get olds i ≡ Some (first_pass sharing m entries)
    → (i < length (map (λ (pass : SharedPass). pass.number) olds))
    × (slice_index_or (map (λ (pass : SharedPass). pass.number) olds) i d ≡ m)
at_number sharing entries m i [] d is = absurd (none-some (first_pass sharing m entries) is)
at_number sharing entries m zero (p ∷ olds) d is =
    let same : p ≡ first_pass sharing m entries = cc in (
      omega arith,
      ap (λ (pass : SharedPass). pass.number) same,
    )
at_number sharing entries m (suc i) (p ∷ olds) d is =
    let later = at_number sharing entries m i olds d is in (omega (arith, later.0), later.1)

-- each session has its pass among them
pub every_pass : (sharing : Sharing) (entries : List Entry) (count n : ℕ)
    (olds : List SharedPass)
    → ((i : ℕ) → i < count → slice_get olds i ≡ Some (first_pass sharing (i + 1) entries))
    → IsSession count n → Contains (map (λ (pass : SharedPass). pass.number) olds) n
every_pass sharing entries count zero olds dealt is = absurd (omega (arith, is.0))
every_pass sharing entries count (suc i) olds dealt is =
    let at = at_number sharing entries (i + 1) i olds (suc i) (dealt i (omega (arith, is.1))) in
    (i, at.0, at.1 ∙ add-one i)

-- the pass at its place
at_place : (olds : List SharedPass) (k : ℕ) (d p : SharedPass) → slice_get olds k ≡ Some p
    → slice_index_or olds k d ≡ p
at_place [] k d p is = absurd (none-some p is)
at_place (x ∷ olds) zero d p is = cc
at_place (x ∷ olds) (suc k) d p is = at_place olds k d p is

-- all passes are of the shared history
pub all_dealt : (sharing : Sharing) (entries : List Entry) (count : ℕ) (olds : List SharedPass)
    → length olds ≡ count
    → ((i : ℕ) → i < count → slice_get olds i ≡ Some (first_pass sharing (i + 1) entries))
    → All (IsPassOf sharing) olds
all_dealt sharing entries count olds counted dealt =
    All-from_get_or (IsPassOf sharing) olds (first_pass sharing 0 entries)
    (λ i l. ap (λ (p : SharedPass). p.sharing)
    (at_place olds i (first_pass sharing 0 entries) (first_pass sharing (i + 1) entries) (dealt i (omega (arith, l, counted)))))

-- there are as many texts as sessions
pub texts_counted : (operations : Operations) (scripts : List SessionScript)
    (olds news : List SharedPass) (texts : List (List ℕ))
    → HavePlayed operations scripts olds news texts → length texts ≡ length scripts
texts_counted operations [] [] [] [] played = refl
texts_counted operations [] [] [] (t ∷ texts) played = absurd played
texts_counted operations [] [] (p ∷ news) texts played = absurd played
texts_counted operations [] (p ∷ olds) news texts played = absurd played
texts_counted operations (s ∷ scripts) [] news texts played = absurd played
texts_counted operations (s ∷ scripts) (p ∷ olds) [] texts played = absurd played
texts_counted operations (s ∷ scripts) (p ∷ olds) (q ∷ news) [] played = absurd played
texts_counted operations (s ∷ scripts) (p ∷ olds) (q ∷ news) (t ∷ texts) (first, later) =
    ap suc (texts_counted operations scripts olds news texts later)

-- ---- what was played
module _ (edition : lattices.Edition) (operations : Operations) (script : Script)
    (first : Performance) (before : PerformsPrologue edition operations script first) where
  -- **on threads**
  pub performs_fairly : (last : Performance) (shared : Sharing) (olds news : List SharedPass)
      (texts : List (List ℕ)) → 1 ≤ length script.sessions
      → shared ≡ sharing_of shared.gate first.book (length script.sessions)
      → ((i : ℕ) → i < length script.sessions
      → slice_get olds i ≡ Some (first_pass shared (i + 1) first.book.entries))
      → HavePlayed operations script.sessions olds news texts
      → last.book.edition ≡ shared.edition → last.book.room ≡ shared.room → IsHistory last.book
      → All (λ (pass : SharedPass). EndsAs pass last.book) news
      → ((n : ℕ) → ¬ IsSession shared.sessions n → entries_of n last.book.entries
      ≡ entries_of n (take shared.opened last.book.entries))
      → last.lines.items ≡ first.lines.items ++ session_blocks script.sessions texts
      → PerformsFairly edition operations script last
  performs_fairly last shared olds news texts some is dealt played same_edition same_room whole ends others lines =
      let of_edition : shared.edition ≡ edition = ap (λ (s : Sharing). s.edition) is ∙ before.of_edition in
      let room : shared.room ≡ length script.prologue + session_commands script.sessions
      = ap (λ (s : Sharing). s.room) is ∙ before.room in
      let fair = fair_world edition operations script before.prologue shared news texts last.book before.played some
      of_edition room (ap (λ (s : Sharing). s.sessions) is)
      (ap (λ (s : Sharing). s.opened) is ∙ ap length before.history)
      (are_played operations shared before.prologue.history 1 script.sessions olds news texts
      (λ i l. dealt i l ∙ ap (λ es. Some (first_pass shared (i + 1) es)) before.history) played)
      whole (same_edition ∙ of_edition) ends others in
      record {
        events = fair.events;
        world = fair.world;
        is_world = fair.is_world;
        none_left = fair.none_left;
        of_edition = same_edition ∙ of_edition;
        room = same_room ∙ room;
        history = fair.history;
        lines = lines ∙ ap (λ t. t ++ session_blocks script.sessions texts) before.lines ∙ fair.lines;
      }

  -- **and where the script has no sessions**
  pub performs_alone : length script.sessions ≡ 0 → PerformsFairly edition operations script first
  performs_alone none =
      let e : script.sessions ≡ [] = nil_from_length script.sessions none in
      let w = before.prologue in
      let opened = λ (s : SessionScript). new_session (length w.history) s.commands in
      let ended : All (λ (s : SessionState). s.left ≡ []) w.sessions
      = All-from_get_or (λ (s : SessionState). s.left ≡ []) w.sessions (new_session 0 [])
      (λ i l. nil_from_length (session_at w.sessions i).left (rest_left edition operations (only_prologue script.prologue) w i before.played)) in
      record {
        events = [];
        world = open_sessions script w;
        is_world = record { prologue = w; played = before.played; runs = refl };
        none_left = subst (λ ss. All (λ (s : SessionState). s.left ≡ []) (w.sessions ++ map opened ss)) (sym e)
            (All-append (λ (s : SessionState). s.left ≡ []) w.sessions [] ended (All-nil (λ (s : SessionState). s.left ≡ [])));
        of_edition = before.of_edition;
        room = before.room;
        history = before.history;
        lines = before.lines
            ∙ subst (λ ss. lines_text (session_at w.sessions 0).lines
            ≡ lines_text (session_at (w.sessions ++ map opened ss) 0).lines
            ++ blocks_text ss (drop 1 (w.sessions ++ map opened ss))) (sym e)
            (sym (append-nil (lines_text (session_at (w.sessions ++ []) 0).lines)
            ∙ ap (λ xs. lines_text (session_at xs 0).lines) (append-nil w.sessions)));
      }
