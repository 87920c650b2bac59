-- The canonical text of a script that can be printed spells it; each script that bytes spell can.
use Rattle.std.proofs.Common.{◌≡◌, ℕ, zero, suc, ◌+◌, ◌-◌, ◌*◌, ◌<◌, ◌≤◌, min, true, false, eqb, Ok, List, [], ◌∷◌, ◌++◌, length, get_or, take, drop, map, sym, refl, ap, ap₂, ◌∙◌, subst, inl, inr, arith, length-drop}
use Rattle.std.specs.Prelude.{All, Contains, codes, flat_map}
use Rattle.std.specs.Fork.{slice_chunk}
use Rattle.std.specs.Int.{div_ceil}
use Rattle.std.specs.List.{join_with_byte, range_with_len}
use Rattle.std.specs.Str.{bytes_eq}
use Rattle.std.proofs.lemmas.Bool.{cases_Bool}
use Rattle.std.proofs.lemmas.Slice.Eq.{bytes_eq-Decides}
use Rattle.std.proofs.lemmas.List.{length-map, length-take, take-map, drop-map, take_all}
use Rattle.std.proofs.lemmas.List.FromFn.{map-range_with_len_more}
use Rattle.std.proofs.lemmas.List.Elements.{All-nil, All-cons, All-head, All-tail, All-append, All-weaker, All-map, All-take, All-drop, All-get_or, All-from_get_or, Contains-get_or}
use Rattle.std.proofs.lemmas.List.Sums.{position_or_len_is}
use Rattle.std.proofs.Math.Seq.{take-add}
use Rattle.lat_core.specs.Names.{IsDeclaredName}
use Rattle.lat_language.specs.declared.commands.Command.{Command}
use Rattle.lat_language.specs.declared.scripts.TheConstants.{MAX_LINE, SCHEDULE_NAMES}
use Rattle.lat_language.specs.declared.scripts.Script.{Script}
use Rattle.lat_language.specs.declared.scripts.SessionScript.{SessionScript}
use Rattle.lat_language.specs.Commands.{word_text, form_of, command_words}
use Rattle.lat_language.specs.Grammar.{words_of, header_words, State, at_start, script_of, session_names, place_of, OfSchedule, after, Means, Spells}
use Rattle.lat_language.specs.CanonicalText.{name_at, scheduled_names, schedule_lines, session_lines, canonical_lines, canonical_text}
use Rattle.lat_language.proofs.LedStates.{Leads, leads_append, led_ends, begun_with, schedule_said, whole_lead}
use Rattle.lat_language.proofs.PrintedLines.{IsPrintedWord, printed_words, printed_length, printed_line, printed_lines}
use Rattle.lat_language.proofs.PrintedCommands.{form_some, form_short, command_printed, header_printed, session_printed, schedule_printed}
use Rattle.lat_language.proofs.SpelledScripts.{IsGrammatical, IsGrammaticalSession, AreDistinct, IsPrintable, spelled_printable}

-- the bytes of a line of these words, without its line feed
abbrev printed : List (List ℕ) → List ℕ
printed words = join_with_byte 32 words

-- no line feed stands in the line
abbrev IsOneLine : List (List ℕ) → Type 0
IsOneLine words = All (λ b. eqb b 10 ≡ false) (printed words)

-- the line has these words, no line feed, and isn't too long
record IsFine (words : List (List ℕ)) : Type 0 where
  pub same : words_of (printed words) ≡ words
  pub line : IsOneLine words
  pub fits : length (printed words) ≤ MAX_LINE

words_fine : (most : ℕ) (words : List (List ℕ)) → All (IsPrintedWord most) words → 0 < length words
    → length words * (most + 1) ≤ MAX_LINE → IsFine words
words_fine most words all some room = record {
  same = printed_words most words all some;
  line = printed_line most words all;
  fits = let below = printed_length most words all in omega (arith, below, room);
}

command_fine : (c : Command) → IsGrammatical c → IsFine (command_words c)
command_fine c good =
    let count : length (command_words c) ≡ length (form_of c) = length-map (form_of c) word_text in
    let short = form_short c in
    words_fine 256 (command_words c) (command_printed c good) (omega (arith, form_some c, count)) (omega (arith, short, count))

-- printed lines say what their words lead to
printed_means : (lines : List (List (List ℕ))) (state final : State) (n : ℕ) → final.begun ≡ true
    → All IsFine lines → Leads state lines final
    → Means state n (map printed lines) (Ok (script_of final))
printed_means [] state final n begun fine l = led_ends state final n begun l
printed_means (words ∷ lines) state final n begun fine l =
    let first = All-head IsFine words lines fine in (
      Ok l.0,
      l.1 (printed words) first.fits first.same,
      printed_means lines (after state l.0) final (n + 1) begun (All-tail IsFine words lines fine) l.2,
    )

-- ---- the schedule
-- a name stands at its place
place_named : (names : List (List ℕ)) → AreDistinct names → (k : ℕ) → k < length names
    → place_of names (get_or names k []) ≡ k
place_named names distinct k l =
    position_or_len_is (λ other. bytes_eq other (get_or names k [])) names k [] (omega arith)
    (λ j less. elim (cases_Bool (bytes_eq (get_or names j []) (get_or names k []))) [
      | inl t ↦ absurd (distinct j k less l ((bytes_eq-Decides (get_or names j []) (get_or names k [])).0 t))
      | inr f ↦ f
    ])
    (λ within. (bytes_eq-Decides (get_or names k []) (get_or names k [])).1 refl)

places_named : (names : List (List ℕ)) → AreDistinct names → (places : List ℕ)
    → All (λ k. k < length names) places
    → map (place_of names) (map (λ k. get_or names k []) places) ≡ places
places_named names distinct [] all = refl
places_named names distinct (k ∷ places) all =
    ap₂ (λ k places. k ∷ places) (place_named names distinct k (All-head (λ k. k < length names) k places all))
    (places_named names distinct places (All-tail (λ k. k < length names) k places all))

module _ (script : Script) (h : IsPrintable script) where
  count : length (session_names script.sessions) ≡ length script.sessions
  count = length-map script.sessions (λ (s : SessionScript). s.name)

  -- the places of line n of the schedule
  abbrev part : ℕ → List ℕ
  part n = take SCHEDULE_NAMES (drop (n * SCHEDULE_NAMES) script.schedule)

  -- its names
  abbrev names_at : ℕ → List (List ℕ)
  names_at n = slice_chunk (scheduled_names script) SCHEDULE_NAMES n

  names_of_part : (n : ℕ) → names_at n ≡ map (name_at script.sessions) (part n)
  names_of_part n =
      ap (take SCHEDULE_NAMES) (drop-map (name_at script.sessions) (n * SCHEDULE_NAMES) script.schedule)
      ∙ take-map (name_at script.sessions) SCHEDULE_NAMES (drop (n * SCHEDULE_NAMES) script.schedule)

  declared : All IsDeclaredName (session_names script.sessions)
  declared = All-map IsDeclaredName (λ (s : SessionScript). s.name) script.sessions (All-weaker IsGrammaticalSession (λ (s : SessionScript). IsDeclaredName s.name) (λ s good. good.name) script.sessions h.sessions)

  part_within : (n : ℕ) → All (λ k. k < length (session_names script.sessions)) (part n)
  part_within n = All-take (λ k. k < length (session_names script.sessions)) SCHEDULE_NAMES (drop (n * SCHEDULE_NAMES) script.schedule)
      (All-drop (λ k. k < length (session_names script.sessions)) (n * SCHEDULE_NAMES) script.schedule
      (subst (λ m. All (λ k. k < m) script.schedule) (sym count) h.places))

  -- what holds of all names of sessions holds of those of a line
  names_hold : (P : List ℕ → Type 0)
      → ((k : ℕ) → k < length (session_names script.sessions) → P (name_at script.sessions k))
      → (n : ℕ) → All P (names_at n)
  names_hold P each n = subst (All P) (sym (names_of_part n)) (
      All-map P (name_at script.sessions) (part n) (All-weaker (λ k. k < length (session_names script.sessions)) (λ k. P (name_at script.sessions k)) each (part n) (part_within n))
      )

  names_declared : (n : ℕ) → All IsDeclaredName (names_at n)
  names_declared = names_hold IsDeclaredName (λ k l. All-get_or IsDeclaredName (session_names script.sessions) k [] l declared)

  names_known : (n : ℕ) → All (Contains (session_names script.sessions)) (names_at n)
  names_known = names_hold (Contains (session_names script.sessions)) (λ k l. Contains-get_or (session_names script.sessions) k [] l)

  names_length : (n : ℕ) → length (names_at n)
      ≡ min SCHEDULE_NAMES (length script.schedule - n * SCHEDULE_NAMES)
  names_length n = ap length (names_of_part n) ∙ length-map (part n) (name_at script.sessions)
      ∙ length-take SCHEDULE_NAMES (drop (n * SCHEDULE_NAMES) script.schedule)
      ∙ ap (min SCHEDULE_NAMES) (length-drop (n * SCHEDULE_NAMES) script.schedule)

  abbrev line_at : ℕ → List (List ℕ)
  line_at n = codes "schedule" ∷ names_at n

  -- after k lines of the schedule
  abbrev after_lines : ℕ → State
  after_lines k = begun_with script.prologue script.sessions (take (k * SCHEDULE_NAMES) script.schedule)

  abbrev LinesLead : ℕ → Type 0
  LinesLead k = Leads (begun_with script.prologue script.sessions [])
      (map line_at (range_with_len 0 k)) (after_lines k)

  next_leads : (k : ℕ) → k < div_ceil (length script.schedule) SCHEDULE_NAMES
      → Leads (after_lines k) (line_at k ∷ []) (after_lines (k + 1))
  next_leads k l =
      let some : 0 < length (names_at k) = omega (arith, names_length k, l) in
      let placed : map (place_of (session_names script.sessions)) (names_at k) ≡ part k =
      ap (map (place_of (session_names script.sessions))) (names_of_part k)
      ∙ places_named (session_names script.sessions) h.distinct (part k) (part_within k) in
      let longer : (k + 1) * SCHEDULE_NAMES ≡ k * SCHEDULE_NAMES + SCHEDULE_NAMES = omega arith in (
        OfSchedule (names_at k),
        schedule_said (after_lines k) refl (names_at k) some (names_declared k) (names_known k),
        ap (λ schedule. begun_with script.prologue script.sessions schedule) (
            ap (λ places. take (k * SCHEDULE_NAMES) script.schedule ++ places) placed
            ∙ sym (take-add (k * SCHEDULE_NAMES) SCHEDULE_NAMES script.schedule)
            ∙ ap (λ n. take n script.schedule) (sym longer)
            ),
      )

  schedule_leads : (k : ℕ) → k ≤ div_ceil (length script.schedule) SCHEDULE_NAMES → LinesLead k
  schedule_leads zero le = refl
  schedule_leads (suc k) le =
      let next : k + 1 ≡ suc k = omega arith in
      let lines : map line_at (range_with_len 0 (k + 1)) ≡ map line_at (range_with_len 0 k) ++ line_at k ∷ [] = map-range_with_len_more line_at 0 k k (omega arith) in
      subst LinesLead next (subst (λ lines. Leads (begun_with script.prologue script.sessions []) lines (after_lines (k + 1))) (sym lines)
      (leads_append (map line_at (range_with_len 0 k)) (line_at k ∷ []) _ (after_lines k) _
      (schedule_leads k (omega arith)) (next_leads k (omega arith))))

  schedule_lead : Leads (begun_with script.prologue script.sessions [])
      (schedule_lines (scheduled_names script))
      (begun_with script.prologue script.sessions script.schedule)
  unfolding schedule_lines
  schedule_lead =
      let size : ℕ = div_ceil (length script.schedule) SCHEDULE_NAMES in
      let same : length (scheduled_names script) ≡ length script.schedule = length-map script.schedule (name_at script.sessions) in
      let all : take (size * SCHEDULE_NAMES) script.schedule ≡ script.schedule = take_all (size * SCHEDULE_NAMES) script.schedule (omega arith) in
      subst (λ k. Leads (begun_with script.prologue script.sessions []) (map line_at (range_with_len 0 (div_ceil k SCHEDULE_NAMES))) (begun_with script.prologue script.sessions script.schedule)) (sym same)
      (subst (λ schedule. Leads (begun_with script.prologue script.sessions []) (map line_at (range_with_len 0 size)) (begun_with script.prologue script.sessions schedule)) all
      (schedule_leads size (omega arith)))

  -- ---- the whole text
  canonical_lead : Leads at_start (canonical_lines script)
      (begun_with script.prologue script.sessions script.schedule)
  canonical_lead = whole_lead script h (schedule_lines (scheduled_names script)) schedule_lead

  commands_fine : (cs : List Command) → All IsGrammatical cs → All IsFine (map command_words cs)
  commands_fine cs good = All-map IsFine command_words cs (All-weaker IsGrammatical (λ c. IsFine (command_words c)) (λ c g. command_fine c g) cs good)

  sessions_fine : (ss : List SessionScript) → All IsGrammaticalSession ss
      → All IsFine (flat_map session_lines ss)
  sessions_fine [] good = All-nil IsFine
  sessions_fine (s ∷ ss) good =
      let first = All-head IsGrammaticalSession s ss good in
      All-append IsFine (session_lines s) (flat_map session_lines ss)
      (All-cons IsFine (codes "session" ∷ s.name ∷ []) (map command_words s.commands)
      (words_fine 32 (codes "session" ∷ s.name ∷ []) (session_printed s.name first.name) (omega arith) (omega arith)) (commands_fine s.commands first.commands))
      (sessions_fine ss (All-tail IsGrammaticalSession s ss good))

  line_fine : (n : ℕ) → IsFine (line_at n)
  line_fine n =
      let few : length (names_at n) ≤ SCHEDULE_NAMES = omega (arith, names_length n) in
      words_fine 32 (line_at n) (schedule_printed (names_at n) (names_declared n)) (omega arith) (omega (arith, few))

  schedule_fine : All IsFine (schedule_lines (scheduled_names script))
  unfolding schedule_lines
  schedule_fine =
      let lines : List ℕ = range_with_len 0 (div_ceil (length (scheduled_names script)) SCHEDULE_NAMES) in
      All-map IsFine line_at lines (All-from_get_or (λ n. IsFine (line_at n)) lines 0 (λ i l. line_fine (get_or lines i 0)))

  canonical_fine : All IsFine (canonical_lines script)
  canonical_fine =
      let commands : List (List (List ℕ)) = map command_words script.prologue in
      let sessions : List (List (List ℕ)) = flat_map session_lines script.sessions in
      let schedule : List (List (List ℕ)) = schedule_lines (scheduled_names script) in
      All-cons IsFine header_words (commands ++ (sessions ++ schedule)) (words_fine 32 header_words header_printed (omega arith) (omega arith))
      (All-append IsFine commands (sessions ++ schedule) (commands_fine script.prologue h.prologue)
      (All-append IsFine sessions schedule (sessions_fine script.sessions h.sessions) schedule_fine))

  -- the canonical text of a script that can be printed
  pub printable_spells : Spells (canonical_text script) script
  unfolding canonical_text
  printable_spells = subst (λ lines. Means at_start 1 lines (Ok script)) (sym (printed_lines (canonical_lines script) (All-weaker IsFine IsOneLine (λ words fine. fine.line) (canonical_lines script) canonical_fine)))
      (printed_means (canonical_lines script) at_start (begun_with script.prologue script.sessions script.schedule) 1 refl canonical_fine canonical_lead)

-- the canonical text of a script that bytes spell
pub canonical_spells : (bytes : List ℕ) (script : Script) → Spells bytes script
    → Spells (canonical_text script) script
canonical_spells bytes script spells = printable_spells script (spelled_printable bytes script spells)
