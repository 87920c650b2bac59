-- The changes of each session are the entries of its number.
use Rattle.std.proofs.Common.{◌≡◌, ℕ, zero, suc, ◌+◌, ◌-◌, ◌≤◌, Bool, true, false, List, [], ◌∷◌, ◌++◌, length, map, set, refl, sym, ap, ◌∙◌, subst, arith, inl, inr, append-nil, get_or-set_same, get_or-set_other, Option, None}
use Rattle.std.specs.Prelude.{◌==◌, if◌then◌else◌, filter_map}
use Rattle.std.specs.Option.{option_map}
use Rattle.std.proofs.lemmas.List.{get_or_past, get_or_append_left, get_or-append_right}
use Rattle.std.proofs.lemmas.List.Elements.{filter_map-append}
use Rattle.std.proofs.lemmas.Bool.{cases_eq, cases_lt, eq-eqb, ne_eqb}
use Rattle.alg_model.specs.Lattices as lattices
use Rattle.alg_model.specs.Lattices.{Lattice}
use Rattle.lat_core.specs.declared.questions.Answer.{Answer}
use Rattle.lat_core.specs.declared.replies.Reply.{Reply}
use Rattle.lat_core.specs.declared.replies.Entry.{Entry}
use Rattle.lat_core.specs.declared.outcomes.Outcome.{Outcome}
use Rattle.lat_core.specs.declared.outcomes.Outcome.TheVariants.{Changed}
use Rattle.lat_core.specs.declared.outcomes.Line.{Line}
use Rattle.lat_language.specs.declared.commands.Command.{Command}
use Rattle.lat_language.specs.declared.scripts.Script.{Script}
use Rattle.lat_language.specs.declared.scripts.SessionScript.{SessionScript}
use Rattle.lat_session.specs.Variables.{Variables}
use Rattle.lat_session.specs.Outcomes.{Shows, Operations, HasOutcome}
use Rattle.lat_session.specs.Outcomes.Shows.{image, named, numbers, polynomial, over_field, counted, refused as not_answered}
use Rattle.lat_session.specs.Outcomes.HasOutcome.{unknown_variable, unknown_field, asked, shown, refused, full, stored}
use Rattle.lat_playing.specs.Worlds.{SessionState, World, new_session, session_at, only_prologue, open_sessions, rest, HasLine, Happens, Runs, IsWorld}
use Rattle.lat_playing.specs.Worlds.HasLine.{change, read}
use Rattle.lat_playing.specs.Worlds.Happens.{nothing, plays}
use Rattle.lat_playing.specs.Theorems.{reply_of, change_of, changes_of, own_entries_from, own_entries}
use Rattle.lat_playing.specs.PrivateWorlds.{lines_at}

-- ---- entries
-- those of the first entries, and then those of the others
pub own_both : (n place : ℕ) (xs ys : List Entry) → own_entries_from n place (xs ++ ys)
    ≡ own_entries_from n place xs ++ own_entries_from n (place + length xs) ys
own_both n place [] ys = ap (λ k. own_entries_from n k ys) (omega arith)
own_both n place (x ∷ xs) ys =
    let more = own_both n (suc place) xs ys
    ∙ ap (λ k. own_entries_from n (suc place) xs ++ own_entries_from n k ys) (omega arith) in
    by_test (x.session == n) more
  where
    by_test : (b : Bool) → own_entries_from n (suc place) (xs ++ ys)
        ≡ own_entries_from n (suc place) xs ++ own_entries_from n (place + suc (length xs)) ys
        → (if b then (place, x.reply) ∷ own_entries_from n (suc place) (xs ++ ys) else own_entries_from n (suc place) (xs ++ ys))
        ≡ (if b then (place, x.reply) ∷ own_entries_from n (suc place) xs else own_entries_from n (suc place) xs)
        ++ own_entries_from n (place + suc (length xs)) ys
    by_test true e = ap (λ r. (place, x.reply) ∷ r) e
    by_test false e = e

-- an entry of the session at the end
own_more : (n : ℕ) (history : List Entry) (entry : Entry) → entry.session ≡ n
    → own_entries n (history ++ entry ∷ [])
    ≡ own_entries n history ++ (length history, entry.reply) ∷ []
own_more n history entry e = own_both n 0 history (entry ∷ [])
    ∙ ap (λ b. own_entries n history ++ (if b then (0 + length history, entry.reply) ∷ [] else [])) (eq-eqb entry.session n e)
    ∙ ap (λ k. own_entries n history ++ (k, entry.reply) ∷ []) (omega arith)

-- an entry of another session
own_less : (n : ℕ) (history : List Entry) (entry : Entry) → (entry.session ≡ n → ⊥)
    → own_entries n (history ++ entry ∷ []) ≡ own_entries n history
own_less n history entry other = own_both n 0 history (entry ∷ [])
    ∙ ap (λ b. own_entries n history ++ (if b then (0 + length history, entry.reply) ∷ [] else [])) (ne_eqb entry.session n other)
    ∙ append-nil (own_entries n history)

-- ---- lines
-- an outcome is no reply to a change
shown_no_change : {L : Lattice} {answer : Answer} {outcome : Outcome} → Shows L answer outcome
    → reply_of outcome ≡ None
shown_no_change image = refl
shown_no_change named = refl
shown_no_change numbers = refl
shown_no_change polynomial = refl
shown_no_change over_field = refl
shown_no_change counted = refl
shown_no_change not_answered = refl

pub outcome_no_change : {operations : Operations} {L : Lattice} {variables after : Variables}
    {command : Command} {outcome : Outcome}
    → HasOutcome operations L variables command outcome after → reply_of outcome ≡ None
outcome_no_change (unknown_variable h) = refl
outcome_no_change (unknown_field known h) = refl
outcome_no_change (asked q a s) = shown_no_change s
outcome_no_change (shown e h) = refl
outcome_no_change (refused c) = refl
outcome_no_change (full c n f) = refl
outcome_no_change (stored c n f) = refl

changes_more : (lines : List Line) (line : Line)
    → changes_of (lines ++ line ∷ []) ≡ changes_of lines ++ changes_of (line ∷ [])
changes_more lines line = filter_map-append change_of lines (line ∷ [])

-- a read is no change
read_no_change : (outcome : Outcome) (mark : ℕ) → reply_of outcome ≡ None
    → changes_of (record { outcome = outcome; mark = mark } ∷ []) ≡ []
read_no_change outcome mark e =
    ap (λ o. filter_map (λ (l : Option (ℕ × Reply)). l) (option_map (λ reply. (mark, reply)) o ∷ [])) e

-- ---- one event
module _ (edition : lattices.Edition) (operations : Operations) where
  -- the session's new line and the history's new entry belong together
  line_holds : {n : ℕ} {history h : List Entry} {variables v : Variables} {front f : ℕ}
      {command : Command} {l : Line} (lines : List Line)
      → HasLine edition operations n history variables front command h v f l
      → changes_of lines ≡ own_entries n history
      → changes_of (lines ++ l ∷ []) ≡ own_entries n h
  line_holds {n} {history} lines (change {request} {reply} M requested after step) e =
      changes_more lines (record { outcome = Changed reply; mark = length history })
      ∙ ap (λ cs. cs ++ (length history, reply) ∷ []) e
      ∙ sym (own_more n history (record { session = n; request = request; reply = reply }) refl)
  line_holds {front = front} lines (read {outcome = outcome} none seen has) e =
      changes_more lines (record { outcome = outcome; mark = front })
      ∙ ap (λ cs. changes_of lines ++ cs) (read_no_change outcome front (outcome_no_change has))
      ∙ append-nil (changes_of lines) ∙ e

  -- the entries of other numbers are as before
  line_leaves_others : {n : ℕ} {history h : List Entry} {variables v : Variables} {front f : ℕ}
      {command : Command} {l : Line} (k : ℕ) → (k ≡ n → ⊥)
      → HasLine edition operations n history variables front command h v f l
      → own_entries k h ≡ own_entries k history
  line_leaves_others {n} {history} k other (change {request} {reply} M requested after step) =
      own_less k history (record { session = n; request = request; reply = reply }) (λ e. other (sym e))
  line_leaves_others k other (read none seen has) = refl

  happens_holds : (n : ℕ) (w v : World) → Happens edition operations n w v
      → ((k : ℕ) → changes_of (lines_at w k) ≡ own_entries k w.history)
      → (k : ℕ) → changes_of (lines_at v k) ≡ own_entries k v.history
  happens_holds n w v (nothing none) held k = held k
  happens_holds n w v (plays {history'} {s' = t} within P) held k =
      let s = session_at w.sessions n in
      elim (cases_eq k n) [
        | inl same ↦
            let there : (session_at (set w.sessions n t) k).lines ≡ t.lines = ap (λ i. (session_at (set w.sessions n t) i).lines) same ∙ ap (λ (u : SessionState). u.lines) (get_or-set_same w.sessions n t (new_session 0 []) within) in
            ap changes_of (there ∙ P.lines) ∙ line_holds s.lines P.has_line (held n) ∙ ap (λ i. own_entries i history') (sym same)
        | inr other ↦
            let there : (session_at (set w.sessions n t) k).lines ≡ lines_at w k = ap (λ (u : SessionState). u.lines) (get_or-set_other w.sessions n k t (new_session 0 []) other) in
            ap changes_of there ∙ held k ∙ sym (line_leaves_others k other P.has_line)
      ]

  runs_hold : (events : List ℕ) (w v : World) → Runs edition operations events w v
      → ((k : ℕ) → changes_of (lines_at w k) ≡ own_entries k w.history)
      → (k : ℕ) → changes_of (lines_at v k) ≡ own_entries k v.history
  runs_hold [] w v e held = λ k. subst (λ u. changes_of (lines_at u k) ≡ own_entries k u.history) (sym e) (held k)
  runs_hold (n ∷ events) w v (x, h, r) held = runs_hold events x v r (happens_holds n w x h held)

  -- ---- sessions that open have no lines
  pub no_lines_past : (sessions : List SessionState) (n : ℕ) → length sessions ≤ n
      → (session_at sessions n).lines ≡ []
  no_lines_past sessions n past =
      ap (λ (s : SessionState). s.lines) (get_or_past sessions n (new_session 0 []) past)

  new_no_lines : (front : ℕ) (scripts : List SessionScript) (n : ℕ)
      → (session_at (map (λ (s : SessionScript). new_session front s.commands) scripts) n).lines ≡ []
  new_no_lines front [] n = refl
  new_no_lines front (s ∷ scripts) zero = refl
  new_no_lines front (s ∷ scripts) (suc n) = new_no_lines front scripts n

  pub open_lines : (script : Script) (w : World) (n : ℕ)
      → lines_at (open_sessions script w) n ≡ lines_at w n
  open_lines script w n =
      let new = map (λ (s : SessionScript). new_session (length w.history) s.commands) script.sessions in
      elim (cases_lt n (length w.sessions)) [
        | inl within ↦ ap (λ (s : SessionState). s.lines) (get_or_append_left w.sessions new (new_session 0 []) n within)
        | inr past ↦ ap (λ (s : SessionState). s.lines) (get_or-append_right w.sessions new (length w.sessions) n (new_session 0 []) refl past)
            ∙ new_no_lines (length w.history) script.sessions (n - length w.sessions)
            ∙ sym (no_lines_past w.sessions n past)
      ]

  begun_lines : (commands : List Command) (n : ℕ) → lines_at (only_prologue commands) n ≡ []
  begun_lines commands zero = refl
  begun_lines commands (suc n) = refl

  pub prologue_holds : (commands : List Command) (w : World)
      → Runs edition operations (rest (only_prologue commands)) (only_prologue commands) w
      → (n : ℕ) → changes_of (lines_at w n) ≡ own_entries n w.history
  prologue_holds commands w r = runs_hold (rest (only_prologue commands)) (only_prologue commands) w r (λ i. ap changes_of (begun_lines commands i))

  -- **a history holds the changes of all sessions**
  pub world_holds : (script : Script) (events : List ℕ) (w : World)
      → IsWorld edition operations script events w
      → (n : ℕ) → changes_of (session_at w.sessions n).lines ≡ own_entries n w.history
  world_holds script events w a =
      runs_hold events (open_sessions script a.prologue) w a.runs
      (λ k. ap changes_of (open_lines script a.prologue k) ∙ prologue_holds script.prologue a.prologue a.played k)
