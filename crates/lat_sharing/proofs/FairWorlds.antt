-- Sessions that were played over a shared history have the lines of a world.
--     prologue_unused         a prologue has no entries of the other sessions
--     fair_world              the history and the lines are those of the world after some events
use Rattle.std.proofs.Common.{◌≡◌, ℕ, zero, suc, ◌+◌, ◌<◌, ◌≤◌, List, [], ◌∷◌, ◌++◌, length, map, take, drop, refl, sym, ap, ap₂, ◌∙◌, subst, arith, inl, inr, length-append, append-nil, append_assoc, Option, Some, None}
use Rattle.std.specs.Prelude.{◌⊎◌, All, ◌==◌, slice_get, slice_index_or}
use Rattle.std.specs.FinMap.{empty}
use Rattle.std.specs.List.{cons_option}
use Rattle.std.proofs.lemmas.List.{get_or-drop, take_at, drop_at, take-append-le, append_cancel_left, nil_from_length, length-map, length-drop}
use Rattle.std.proofs.lemmas.List.Elements.{All-head, All-tail, filter-append}
use Rattle.std.proofs.lemmas.List.Sums.{sum_by-cons}
use Rattle.std.proofs.lemmas.Bool.{cases_lt}
use Rattle.std.proofs.lemmas.Option.{none-some, slice_get_within}
use Rattle.alg_model.specs.Lattices as lattices
use Rattle.lat_core.specs.declared.replies.Entry.{Entry}
use Rattle.lat_core.specs.declared.replies.Reply.{Reply}
use Rattle.lat_core.specs.declared.outcomes.Line.{Line}
use Rattle.lat_core.specs.Histories.{Knowledge, IsAfter, IsLegal, entries_of}
use Rattle.lat_language.specs.declared.commands.Command.{Command}
use Rattle.lat_language.specs.declared.scripts.Script.{Script}
use Rattle.lat_language.specs.declared.scripts.SessionScript.{SessionScript}
use Rattle.lat_language.specs.Grammar.{session_commands}
use Rattle.lat_language.specs.Texts.{session_text}
use Rattle.lat_session.specs.Variables.{Variables}
use Rattle.lat_session.specs.Outcomes.{Operations}
use Rattle.lat_history.specs.Books.{History, IsHistory}
use Rattle.lat_playing.specs.Worlds.{SessionState, World, new_session, session_at, only_prologue, open_sessions, rest, Runs, IsWorld}
use Rattle.lat_playing.specs.Transcripts.{lines_text, blocks_text}
use Rattle.lat_playing.specs.Answered.{IsAnswered, AreAnswered, commands_of, opening_front}
use Rattle.lat_playing.specs.Answered.IsAnswered.{change, read}
use Rattle.lat_playing.specs.PrivateAnswered.{Answers}
use Rattle.lat_playing.specs.PrivateWorlds.{lines_at}
use Rattle.lat_playing.specs.Theorems.{change_of, changes_of, own_entries_from, own_entries}
use Rattle.lat_playing.proofs.FinishedWorlds.{rest_left}
use Rattle.lat_playing.proofs.HeldChanges.{own_both, no_lines_past, prologue_holds}
use Rattle.lat_playing.proofs.AnsweredSessions.{AllStand, runs_stand, prologue_stands, runs_length, no_commands}
use Rattle.lat_playing.proofs.AnsweredScripts.{answered_world}
use Rattle.lat_shared.specs.Sharing.{Sharing, SharedPass, IsSession, knowledge_of, first_pass, EndsAs}
use Rattle.lat_sharing.specs.PrivateSharings.{HasPlayed, ArePlayed, session_blocks, IsFairWorld}
use Rattle.lat_sharing.proofs.SessionLines.{played_on, changes_few, changes_are_own, session_answers}
use Rattle.lat_sharing.proofs.EntryCounts.{sum_below, same_sums, fewer_below, entries_counted, own_count}

-- ---- the prologue
get_later : (xs ys : List Entry) (k : ℕ) (x : Entry) → slice_get xs k ≡ Some x
    → slice_get (xs ++ ys) k ≡ Some x
get_later [] ys k x e = absurd (none-some x e)
get_later (y ∷ xs) ys zero x e = e
get_later (y ∷ xs) ys (suc k) x e = get_later xs ys k x e

module _ (edition : lattices.Edition) (operations : Operations) where
  -- a line answers its command over a longer history too
  one_later : {n : ℕ} {history : List Entry} (later : List Entry) {l : Line}
      {variables v : Variables} {front f : ℕ} {command : Command} → front ≤ length history
      → IsAnswered edition operations n history variables front command l v f
      → IsAnswered edition operations n (history ++ later) variables front command l v f
      × (f ≤ length history)
  one_later {history = history} later {l = l} within (change {request} {reply} requested changed beyond at) = (
    change requested changed beyond (get_later history later l.mark _ at),
    omega (arith, slice_get_within history l.mark _ at),
  )
  one_later {history = history} later {front = front} within (read {L} none mark seen has) = (
    read none mark (subst (λ es. IsAfter edition es L) (sym (take-append-le front history later within)) seen) has,
    within,
  )

  -- and so do all
  answered_later : (n : ℕ) (history later : List Entry) (commands : List Command)
      (lines : List Line) (variables : Variables) (front : ℕ) (after : Variables) (seen : ℕ)
      → front ≤ length history
      → Answers edition operations n history variables front commands lines after seen
      → AreAnswered edition operations n (history ++ later) variables front commands lines
  answered_later n history later [] [] variables front after seen within e = tt
  answered_later n history later (c ∷ commands) (l ∷ lines) variables front after seen within (v, f, one, more) =
      let (also, inside) = one_later later within one in
      (v, f, also, answered_later n history later commands lines v f after seen inside more)
  answered_later n history later [] (l ∷ lines) variables front after seen within e = absurd e
  answered_later n history later (c ∷ commands) [] variables front after seen within e = absurd e

  module _ (script : Script) (prologue : World)
      (played : Runs edition operations (rest (only_prologue script.prologue))
      (only_prologue script.prologue) prologue) where
    one_session : length prologue.sessions ≡ 1
    one_session = runs_length edition operations (rest (only_prologue script.prologue)) (only_prologue script.prologue) prologue played

    -- the lines of the prologue, over a longer history
    prologue_answered : (later : List Entry) → AreAnswered edition operations 0
        (prologue.history ++ later) empty 0 script.prologue (lines_at prologue 0)
    unfolding AllStand
    prologue_answered later =
        let s = session_at prologue.sessions 0 in
        let stand = runs_stand edition operations (commands_of script) (opening_front 0) (rest (only_prologue script.prologue)) (only_prologue script.prologue) prologue played (prologue_stands edition operations script) 0 (omega (arith, one_session)) in
        let none : s.left ≡ [] = nil_from_length s.left (rest_left edition operations (only_prologue script.prologue) prologue 0 played) in
        let all : script.prologue ≡ stand.played = stand.all ∙ ap (λ cs. stand.played ++ cs) none ∙ append-nil stand.played in
        subst (λ cs. AreAnswered edition operations 0 (prologue.history ++ later) empty 0 cs s.lines) (sym all)
        (answered_later 0 prologue.history later stand.played s.lines empty 0 s.variables s.front stand.begun stand.answers)

    -- only session 0 has lines
    only_lines : (n : ℕ) → 1 ≤ n → lines_at prologue n ≡ []
    only_lines n past = no_lines_past edition operations prologue.sessions n (omega (arith, past, one_session))

    own_none : (n : ℕ) → 1 ≤ n → own_entries n prologue.history ≡ []
    own_none n past = sym (prologue_holds edition operations script.prologue prologue played n) ∙ ap changes_of (only_lines n past)

-- **a prologue has entries of session 0 alone**
pub prologue_unused : (edition : lattices.Edition) (operations : Operations) (script : Script)
    (prologue : World)
    → Runs edition operations (rest (only_prologue script.prologue))
    (only_prologue script.prologue) prologue
    → (n : ℕ) → 1 ≤ n → entries_of n prologue.history ≡ []
prologue_unused edition operations script prologue played n past =
    nil_from_length (entries_of n prologue.history)
    (sym (own_count n 0 prologue.history) ∙ ap length (own_none edition operations script prologue played n past))

-- ---- lines and changes
-- the lines of a session, and those of the sessions behind it
first_lines : List Line → (ℕ → List Line) → ℕ → List Line
first_lines first others zero = first
first_lines first others (suc k) = others k

changes_within : (lines : List Line) → length (changes_of lines) ≤ length lines
changes_within [] = omega arith
changes_within (l ∷ lines) = by_change (change_of l) (changes_within lines)
  where
    by_change : (c : Option (ℕ × Reply)) → length (changes_of lines) ≤ length lines
        → length (cons_option c (changes_of lines)) ≤ suc (length lines)
    by_change None within = omega (arith, within)
    by_change (Some x) within = omega (arith, within)

as_many : (edition : lattices.Edition) (operations : Operations) (n : ℕ) (history : List Entry)
    (commands : List Command) (lines : List Line) (variables : Variables) (front : ℕ)
    → AreAnswered edition operations n history variables front commands lines
    → length lines ≡ length commands
as_many edition operations n history [] [] variables front a = refl
as_many edition operations n history (c ∷ commands) (l ∷ lines) variables front (v, f, one, more) =
    ap suc (as_many edition operations n history commands lines v f more)
as_many edition operations n history [] (l ∷ lines) variables front a = absurd a
as_many edition operations n history (c ∷ commands) [] variables front a = absurd a

-- the commands of the sessions, by their numbers
commands_counted : (scripts : List SessionScript)
    → sum_below (λ k. length (slice_index_or (map (λ (s : SessionScript). s.commands) scripts) k []))
    (length scripts) ≡ session_commands scripts
commands_counted [] = refl
commands_counted (s ∷ scripts) = ap (λ n. length s.commands + n) (commands_counted scripts)
    ∙ sym (sum_by-cons (λ (x : SessionScript). length x.commands) s scripts)

-- ---- the sessions
module _ (edition : lattices.Edition) (operations : Operations) (sharing : Sharing)
    (opened : List Entry) (h : History) where
  -- The lines of session n: each answers its command, or a change found the history full.
  record HasLines (n : ℕ) (commands : List Command) (lines : List Line) : Type 0 where
    pub answers : ((length (changes_of lines) < length commands)
        × (sharing.room ≤ length h.entries))
        ⊎ AreAnswered edition operations n h.entries empty (length opened) commands lines
    pub few : length (changes_of lines) ≤ length commands
    pub changes : changes_of lines
        ≡ own_entries_from n (length opened) (drop (length opened) h.entries)

  -- the lines of these sessions, whose numbers begin with n, and their text
  record AreLines (n : ℕ) (scripts : List SessionScript) (texts : List (List ℕ)) : Type 0 where
    pub lines : ℕ → List Line
    pub none : (k : ℕ) → length scripts ≤ k → lines k ≡ []
    pub each : (k number : ℕ) → k < length scripts → number ≡ n + k → HasLines number
        (slice_index_or (map (λ (s : SessionScript). s.commands) scripts) k []) (lines k)
    pub blocks : (sessions : List SessionState) → length sessions ≡ length scripts
        → ((k : ℕ) → (session_at sessions k).lines ≡ lines k)
        → session_blocks scripts texts ≡ blocks_text scripts sessions

  module _ (of_edition : sharing.edition ≡ edition) where
    has_lines : (n : ℕ) (commands : List Command) (pass : SharedPass) (text : List ℕ)
        → (P : HasPlayed operations (knowledge_of (first_pass sharing n opened)) commands
        (knowledge_of pass) text)
        → EndsAs pass h → HasLines n commands P.lines
    has_lines n commands pass text P E =
        let old : Knowledge = knowledge_of (first_pass sharing n opened) in
        let new : Knowledge = knowledge_of pass in
        let same : pass.number ≡ n = (played_on operations old new empty P.after commands P.lines P.plays).same.number in
        let none : entries_of n E.later ≡ [] = subst (λ i. entries_of i E.later ≡ []) same E.none_own in
        record {
          answers = session_answers operations edition old new empty P.after commands P.lines [] E.later h.entries of_edition (sym (append-nil opened)) refl P.plays E.told_first none;
          few = changes_few operations old new empty P.after commands P.lines P.plays;
          changes = changes_are_own operations old new empty P.after commands P.lines E.later P.plays none h.entries E.told_first;
        }

    have_lines : (n : ℕ) (scripts : List SessionScript) (passes : List SharedPass)
        (texts : List (List ℕ)) → ArePlayed operations sharing opened n scripts passes texts
        → All (λ pass. EndsAs pass h) passes → AreLines n scripts texts
    unfolding first_lines
    have_lines n [] [] [] p ends = record {
      lines = λ k. [];
      none = λ k past. refl;
      each = λ k number within e. absurd (omega (arith, within));
      blocks = λ sessions long same. refl;
    }
    have_lines n (script ∷ scripts) (pass ∷ passes) (text ∷ texts) (P, more) ends =
        let first : HasLines n script.commands P.lines = has_lines n script.commands pass text P (All-head (λ p. EndsAs p h) pass passes ends) in
        let others : AreLines (suc n) scripts texts = have_lines (suc n) scripts passes texts more (All-tail (λ p. EndsAs p h) pass passes ends) in
        record {
          lines = first_lines P.lines others.lines;
          none = none_past P.lines others;
          each = each_one script.commands P.lines first others;
          blocks = all_blocks script text P.lines P.is_text others;
        }
      where
        none_past : (lines : List Line) (others : AreLines (suc n) scripts texts) (k : ℕ)
            → suc (length scripts) ≤ k → first_lines lines others.lines k ≡ []
        none_past lines others zero past = absurd (omega (arith, past))
        none_past lines others (suc k) past = others.none k (omega (arith, past))

        each_one : (commands : List Command) (lines : List Line) → HasLines n commands lines
            → (others : AreLines (suc n) scripts texts) (k number : ℕ)
            → k < suc (length scripts) → number ≡ n + k
            → HasLines number
            (slice_index_or (commands ∷ map (λ (s : SessionScript). s.commands) scripts) k [])
            (first_lines lines others.lines k)
        each_one commands lines first others zero number within e =
            subst (λ i. HasLines i commands lines) (omega (arith, e)) first
        each_one commands lines first others (suc k) number within e =
            others.each k number (omega (arith, within)) (omega (arith, e))

        all_blocks : (script : SessionScript) (text : List ℕ) (lines : List Line)
            → text ≡ lines_text lines → (others : AreLines (suc n) scripts texts)
            (sessions : List SessionState)
            → length sessions ≡ suc (length scripts)
            → ((k : ℕ) → (session_at sessions k).lines ≡ first_lines lines others.lines k)
            → session_text script.name ++ text ++ session_blocks scripts texts
            ≡ blocks_text (script ∷ scripts) sessions
        all_blocks script text lines is_text others [] long same = absurd (omega (arith, long))
        all_blocks script text lines is_text others (s ∷ sessions) long same =
            ap₂ (λ t b. session_text script.name ++ t ++ b) (is_text ∙ ap lines_text (sym (same 0)))
            (others.blocks sessions (omega (arith, long)) (λ k. same (suc k)))
    have_lines n [] [] (text ∷ texts) p ends = absurd p
    have_lines n [] (pass ∷ passes) texts p ends = absurd p
    have_lines n (script ∷ scripts) [] texts p ends = absurd p
    have_lines n (script ∷ scripts) (pass ∷ passes) [] p ends = absurd p

    -- the history begins with what the sessions were told first
    begins_so : (n : ℕ) (scripts : List SessionScript) (passes : List SharedPass)
        (texts : List (List ℕ)) → 1 ≤ length scripts
        → ArePlayed operations sharing opened n scripts passes texts
        → All (λ pass. EndsAs pass h) passes → (later : List Entry) × (h.entries ≡ opened ++ later)
    begins_so n (script ∷ scripts) (pass ∷ passes) (text ∷ texts) some (P, more) ends =
        let E : EndsAs pass h = All-head (λ p. EndsAs p h) pass passes ends in
        let G = played_on operations (knowledge_of (first_pass sharing n opened)) (knowledge_of pass) empty P.after script.commands P.lines P.plays in
        (G.grown ++ E.later, E.told_first ∙ ap (λ es. es ++ E.later) G.told ∙ append_assoc opened G.grown E.later)
    begins_so n [] passes texts some p ends = absurd (omega (arith, some))
    begins_so n (script ∷ scripts) [] texts some p ends = absurd p
    begins_so n (script ∷ scripts) (pass ∷ passes) [] some p ends = absurd p

-- ---- the world
module _ (edition : lattices.Edition) (operations : Operations) (script : Script)
    (prologue : World) (sharing : Sharing) (texts : List (List ℕ)) (h : History)
    (later : List Entry)
    (played : Runs edition operations (rest (only_prologue script.prologue))
    (only_prologue script.prologue) prologue)
    (whole : h.entries ≡ prologue.history ++ later) (legal : IsLegal edition h.entries)
    (A : AreLines edition operations sharing prologue.history h 1 script.sessions texts)
    (unused : (n : ℕ) → ¬ IsSession (length script.sessions) n
    → entries_of n h.entries ≡ entries_of n prologue.history)
    (of_room : sharing.room ≡ length script.prologue + session_commands script.sessions) where
  lines : ℕ → List Line
  lines = first_lines (lines_at prologue 0) A.lines

  -- a number that is no session's has its entries in the prologue
  own_before : (n : ℕ) → ¬ IsSession (length script.sessions) n
      → own_entries n h.entries ≡ own_entries n prologue.history
  own_before n other =
      let e : entries_of n prologue.history ++ entries_of n later ≡ entries_of n prologue.history ++ [] =
      sym (filter-append (λ (x : Entry). x.session == n) prologue.history later) ∙ ap (entries_of n) (sym whole)
      ∙ unused n other ∙ sym (append-nil (entries_of n prologue.history)) in
      let none : entries_of n later ≡ [] = append_cancel_left (entries_of n prologue.history) (entries_of n later) [] e in
      let own : own_entries_from n (0 + length prologue.history) later ≡ [] = nil_from_length _ (own_count n (0 + length prologue.history) later ∙ ap length none) in
      ap (own_entries n) whole ∙ own_both n 0 prologue.history later
      ∙ ap (λ cs. own_entries n prologue.history ++ cs) own ∙ append-nil (own_entries n prologue.history)

  -- a session's are behind it
  own_behind : (n : ℕ) → 1 ≤ n
      → own_entries_from n (length prologue.history) (drop (length prologue.history) h.entries)
      ≡ own_entries n h.entries
  own_behind n some =
      ap (own_entries_from n (length prologue.history)) (ap (drop (length prologue.history)) whole ∙ drop_at prologue.history later (length prologue.history) refl)
      ∙ ap (λ k. own_entries_from n k later) (omega arith)
      ∙ ap (λ cs. cs ++ own_entries_from n (0 + length prologue.history) later) (sym (own_none edition operations script prologue played n some))
      ∙ sym (own_both n 0 prologue.history later) ∙ ap (own_entries n) (sym whole)

  changes : (n : ℕ) → changes_of (lines n) ≡ own_entries n h.entries
  unfolding lines first_lines
  changes zero = prologue_holds edition operations script.prologue prologue played 0 ∙ sym (own_before 0 (λ s. omega (arith, s.0)))
  changes (suc k) = elim (cases_lt k (length script.sessions)) [
    | inl within ↦ (A.each k (suc k) within (omega arith)).changes ∙ own_behind (suc k) (omega arith)
    | inr past ↦ ap changes_of (A.none k past) ∙ sym (own_before (suc k) (λ s. omega (arith, past, s.1)) ∙ own_none edition operations script prologue played (suc k) (omega arith))
  ]

  first_answered : AreAnswered edition operations 0 h.entries empty 0 script.prologue
      (lines_at prologue 0)
  first_answered = subst (λ es. AreAnswered edition operations 0 es empty 0 script.prologue (lines_at prologue 0)) (sym whole)
      (prologue_answered edition operations script prologue played later)

  -- no session has more changes than commands
  few : (n : ℕ) → n < suc (length script.sessions)
      → length (changes_of (lines n)) ≤ length (commands_of script n)
  unfolding lines first_lines
  few zero within = omega (
    arith,
    changes_within (lines_at prologue 0),
    as_many edition operations 0 h.entries script.prologue (lines_at prologue 0) empty 0 first_answered,
  )
  few (suc k) within = (A.each k (suc k) (omega (arith, within)) (omega arith)).few

  -- all entries are changes of the sessions
  counted : length h.entries
      ≡ sum_below (λ n. length (changes_of (lines n))) (suc (length script.sessions))
  counted =
      entries_counted (suc (length script.sessions)) h.entries
      (λ n past. unused n (λ s. omega (arith, past, s.1)) ∙ prologue_unused edition operations script prologue played n (omega (arith, past)))
      ∙ same_sums (λ n. length (entries_of n h.entries)) (λ n. length (changes_of (lines n))) (suc (length script.sessions))
      (λ n. sym (own_count n 0 h.entries) ∙ ap length (sym (changes n)))

  -- **so it has room for all**
  never_full : (k : ℕ) → k < length script.sessions
      → length (changes_of (lines (suc k))) < length (commands_of script (suc k))
      → sharing.room ≤ length h.entries → ⊥
  never_full k within fewer full =
      let less = fewer_below (λ n. length (changes_of (lines n))) (λ n. length (commands_of script n)) (suc (length script.sessions)) (suc k) (omega (arith, within)) few fewer in
      omega (arith, less, counted, full, of_room, commands_counted script.sessions)

  answers : (n : ℕ) → AreAnswered edition operations n h.entries empty
      (opening_front (length prologue.history) n) (commands_of script n) (lines n)
  unfolding lines first_lines
  answers zero = first_answered
  answers (suc k) = elim (cases_lt k (length script.sessions)) [
    | inl within ↦ elim (A.each k (suc k) within (omega arith)).answers [
      | inl full ↦ absurd (never_full k within full.0 full.1)
      | inr answered ↦ answered
    ]
    | inr past ↦ subst (λ cs. AreAnswered edition operations (suc k) h.entries empty (length prologue.history) cs (A.lines k)) (sym (no_commands edition operations script (suc k) (omega (arith, past))))
        (subst (λ ls. AreAnswered edition operations (suc k) h.entries empty (length prologue.history) [] ls) (sym (A.none k past)) tt)
  ]

  world_length : (events : List ℕ) (w : World) → IsWorld edition operations script events w
      → length (drop 1 w.sessions) ≡ length script.sessions
  world_length events w a =
      let new = map (λ (s : SessionScript). new_session (length a.prologue.history) s.commands) script.sessions in
      omega (
        arith,
        length-drop 1 w.sessions,
        runs_length edition operations events (open_sessions script a.prologue) w a.runs,
        length-append a.prologue.sessions new,
        one_session edition operations script a.prologue a.played,
        length-map script.sessions (λ (s : SessionScript). new_session (length a.prologue.history) s.commands),
      )

  -- **they are the lines of a world**
  are_fair : IsFairWorld edition operations script prologue texts h.entries
  unfolding lines first_lines
  are_fair =
      let (events, w, is_world, history, none_left, same) = answered_world edition operations script prologue h.entries later lines played whole legal refl answers changes in
      record {
        events = events;
        world = w;
        is_world = is_world;
        none_left = none_left;
        history = sym history;
        lines = ap₂ ◌++◌ (ap lines_text (sym (same 0)))
            (A.blocks (drop 1 w.sessions) (world_length events w is_world)
            (λ k. ap (λ (s : SessionState). s.lines) (get_or-drop 1 w.sessions k (new_session 0 [])) ∙ ap (λ i. (session_at w.sessions i).lines) (omega arith) ∙ same (suc k)));
      }

-- **sessions that were played over a shared history are those of a world**
pub fair_world : (edition : lattices.Edition) (operations : Operations) (script : Script)
    (prologue : World) (sharing : Sharing) (passes : List SharedPass) (texts : List (List ℕ))
    (h : History)
    → Runs edition operations (rest (only_prologue script.prologue))
    (only_prologue script.prologue) prologue
    → 1 ≤ length script.sessions → sharing.edition ≡ edition
    → sharing.room ≡ length script.prologue + session_commands script.sessions
    → sharing.sessions ≡ length script.sessions → sharing.opened ≡ length prologue.history
    → ArePlayed operations sharing prologue.history 1 script.sessions passes texts
    → IsHistory h → h.edition ≡ edition → All (λ pass. EndsAs pass h) passes
    → ((n : ℕ) → ¬ IsSession sharing.sessions n
    → entries_of n h.entries ≡ entries_of n (take sharing.opened h.entries))
    → IsFairWorld edition operations script prologue texts h.entries
fair_world edition operations script prologue sharing passes texts h played some of_edition of_room sessions opened all H same_edition ends unused =
    let (later, whole) = begins_so edition operations sharing prologue.history h of_edition 1 script.sessions passes texts some all ends in
    let before : take sharing.opened h.entries ≡ prologue.history = ap₂ take opened whole ∙ take_at prologue.history later (length prologue.history) refl in
    are_fair edition operations script prologue sharing texts h later played whole
    (subst (λ e. IsLegal e h.entries) same_edition H.legal)
    (have_lines edition operations sharing prologue.history h of_edition 1 script.sessions passes texts all ends)
    (λ n other. unused n (subst (λ s. ¬ IsSession s n) (sym sessions) other) ∙ ap (entries_of n) before)
    of_room
