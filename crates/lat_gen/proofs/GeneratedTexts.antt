-- How long the canonical text of a generated script may be.
use Rattle.std.proofs.Common.{◌≡◌, ℕ, ◌+◌, ◌*◌, ◌<◌, ◌≤◌, ◌^◌, List, [], ◌∷◌, ◌++◌, length, map, refl, ap, subst, ◌∙◌, arith, lit≤, length-append}
use Rattle.std.specs.Prelude.{All, codes, flat_map}
use Rattle.std.specs.List.{join_with_byte}
use Rattle.std.proofs.lemmas.List.{length-map}
use Rattle.std.proofs.lemmas.List.Concat.{flat_map-append}
use Rattle.std.proofs.lemmas.List.Elements.{All-nil, All-cons, All-head, All-tail, All-weaker, All-map}
use Rattle.lat_core.specs.Names.{IsDeclaredName}
use Rattle.lat_language.specs.declared.commands.Command.{Command}
use Rattle.lat_language.specs.declared.scripts.SessionScript.{SessionScript}
use Rattle.lat_language.specs.Commands.{word_text, form_of, command_words}
use Rattle.lat_language.specs.Grammar.{header_words}
use Rattle.lat_language.specs.CanonicalText.{line_of, schedule_lines, session_lines, canonical_text}
use Rattle.lat_language.proofs.PrintedLines.{printed_length, joined_length}
use Rattle.lat_language.proofs.PrintedCommands.{form_short, command_printed, session_printed}
use Rattle.lat_language.proofs.SpelledScripts.{IsGrammatical}
use Rattle.lat_gen.specs.Generated.{state_after, field_name, embedding, session_commands, generated}
use Rattle.lat_gen.specs.Theorems.{AreSizes, GeneratedFits}
use Rattle.lat_gen.proofs.FieldNames.{digits_few}
use Rattle.lat_gen.proofs.GeneratedCommands.{script_with}
use Rattle.lat_gen.proofs.GeneratedScripts.{session_at, embeddings_hold, session_length, four_hold, prologue_good, prologue_length, sessions_four}

-- a line of at most so many bytes, its line feed counted
abbrev pub IsLineWithin : ℕ → List (List ℕ) → Type 0
IsLineWithin most words = length (line_of words) ≤ most

lines_length : (most : ℕ) (lines : List (List (List ℕ))) → All (IsLineWithin most) lines
    → length (flat_map line_of lines) ≤ length lines * most
lines_length most [] all = omega arith
lines_length most (words ∷ lines) all =
    let first = All-head (IsLineWithin most) words lines all in
    let rest = lines_length most lines (All-tail (IsLineWithin most) words lines all) in
    let sum = length-append (line_of words) (flat_map line_of lines) in
    grind (arith, first, rest, sum)

-- the lines of two lists
both_lengths : (xs ys : List (List (List ℕ)))
    → length (flat_map line_of (xs ++ ys)) ≡ length (flat_map line_of xs) + length (flat_map line_of ys)
both_lengths xs ys = ap length (flat_map-append line_of xs ys) ∙ length-append (flat_map line_of xs) (flat_map line_of ys)

-- a session whose lines have at most so many bytes
abbrev pub IsSessionWithin : ℕ → SessionScript → Type 0
IsSessionWithin most session = length (flat_map line_of (session_lines session)) ≤ most

sessions_length : (most : ℕ) (sessions : List SessionScript) → All (IsSessionWithin most) sessions
    → length (flat_map line_of (flat_map session_lines sessions)) ≤ length sessions * most
sessions_length most [] all = omega arith
sessions_length most (session ∷ sessions) all =
    let first = All-head (IsSessionWithin most) session sessions all in
    let rest = sessions_length most sessions (All-tail (IsSessionWithin most) session sessions all) in
    let sum = both_lengths (session_lines session) (flat_map session_lines sessions) in
    grind (arith, first, rest, sum)

-- ---- lines
line_length : (words : List (List ℕ)) → length (line_of words) ≡ length (join_with_byte 32 words) + 1
unfolding line_of
line_length words = length-append (join_with_byte 32 words) (10 ∷ [])

command_line : (c : Command) → IsGrammatical c → IsLineWithin 2057 (command_words c)
command_line c good =
    omega (arith, line_length (command_words c), printed_length 256 (command_words c) (command_printed c good), form_short c, length-map (form_of c) word_text)

name_length : (k : ℕ) → k < 2 ^ 32 → length (field_name k) ≤ 11
name_length k small = omega (arith, digits_few k small)

embedding_line : (u v : ℕ) → u < 2 ^ 32 → v < 2 ^ 32
    → IsLineWithin 49 (command_words (embedding u v))
unfolding embedding
embedding_line u v small less =
    let words : List (List ℕ) = codes "embed" ∷ field_name u ∷ codes "into" ∷ field_name v ∷ [] in
    let joined : length (join_with_byte 32 words) ≤ length words * 12 =
    joined_length 32 11 words
    (All-cons (λ w. length w ≤ 11) (codes "embed") (field_name u ∷ codes "into" ∷ field_name v ∷ []) (lit≤ tt)
    (All-cons (λ w. length w ≤ 11) (field_name u) (codes "into" ∷ field_name v ∷ []) (name_length u small)
    (All-cons (λ w. length w ≤ 11) (codes "into") (field_name v ∷ []) (lit≤ tt)
    (All-cons (λ w. length w ≤ 11) (field_name v) [] (name_length v less) (All-nil (λ w. length w ≤ 11)))))) in
    omega (arith, line_length words, joined)

session_line : (name : List ℕ) → IsDeclaredName name
    → IsLineWithin 67 (codes "session" ∷ name ∷ [])
session_line name declared =
    omega (arith, line_length (codes "session" ∷ name ∷ []), printed_length 32 (codes "session" ∷ name ∷ []) (session_printed name declared))

-- ---- texts without a schedule
header_line : length (line_of header_words) ≡ 10
unfolding line_of
header_line = refl

text_length : (prologue : List Command) (sessions : List SessionScript) (line session : ℕ)
    → All (IsLineWithin line) (map command_words prologue) → All (IsSessionWithin session) sessions
    → length (canonical_text (script_with prologue sessions))
    ≤ 10 + length prologue * line + length sessions * session
unfolding canonical_text schedule_lines
text_length prologue sessions line session fits all =
    let commands : List (List (List ℕ)) = map command_words prologue in
    let others : List (List (List ℕ)) = flat_map session_lines sessions in
    let first = length-append (line_of header_words) (flat_map line_of (commands ++ (others ++ []))) in
    let second = both_lengths commands (others ++ []) in
    let third = both_lengths others [] in
    let count : length commands ≡ length prologue = length-map prologue command_words in
    let few : length (flat_map line_of commands) ≤ length prologue * line = subst (λ n. length (flat_map line_of commands) ≤ n * line) count (lines_length line commands fits) in
    omega (arith, first, second, third, header_line, few, sessions_length session sessions all)

module _ (seed fields embeds : ℕ) (sizes : AreSizes fields embeds) where
  abbrev s : ℕ
  s = state_after seed fields

  session_within : (name : List ℕ) (position : ℕ) → IsDeclaredName name
      → IsSessionWithin (67 + 2000 * 49) (session_at s fields embeds name position)
  session_within name position declared =
      let commands : List Command = session_commands s fields embeds position in
      let short : All (IsLineWithin 49) (map command_words commands) =
      All-map (IsLineWithin 49) command_words commands
      (embeddings_hold (λ c. IsLineWithin 49 (command_words c)) s fields embeds position sizes.0
      (λ u v l m. embedding_line u v (omega (arith, l, sizes.1)) (omega (arith, m, sizes.1)))) in
      omega (
        arith,
        length-append (line_of (codes "session" ∷ name ∷ [])) (flat_map line_of (map command_words commands)),
        session_line name declared,
        lines_length 49 (map command_words commands) short,
        length-map commands command_words,
        session_length s fields embeds position,
        sizes.2,
      )

  text_fits : length (canonical_text (script_with (generated seed fields embeds).prologue (generated seed fields embeds).sessions)) ≤ 1048576
  text_fits =
      let lines : All (IsLineWithin 2057) (map command_words (generated seed fields embeds).prologue) =
      All-map (IsLineWithin 2057) command_words (generated seed fields embeds).prologue
      (All-weaker IsGrammatical (λ c. IsLineWithin 2057 (command_words c)) command_line (generated seed fields embeds).prologue (prologue_good seed fields embeds sizes)) in
      omega (
        arith,
        text_length (generated seed fields embeds).prologue (generated seed fields embeds).sessions 2057 (67 + 2000 * 49) lines
            (four_hold seed fields embeds sizes (IsSessionWithin (67 + 2000 * 49)) session_within),
        prologue_length seed fields embeds sizes,
        sessions_four seed fields embeds sizes,
        sizes.1,
      )

  whole : script_with (generated seed fields embeds).prologue (generated seed fields embeds).sessions ≡ generated seed fields embeds
  unfolding generated
  whole = refl

pub generated_fits : GeneratedFits
generated_fits seed fields embeds sizes =
    subst (λ script. length (canonical_text script) ≤ 1048576) (whole seed fields embeds sizes) (text_fits seed fields embeds sizes)
