-- The lines of a text that aren't passed over, and their words.
use Rattle.std.proofs.Common.{◌≡◌, ℕ, true, false, eqb, Option, Some, None, List, [], ◌∷◌, ◌++◌, map, sym, refl, ap, ◌∙◌}
use Rattle.std.specs.Prelude.{◌↔◌, IsTrue, not, filter, IfSome}
use Rattle.std.proofs.lemmas.Bool.{cond-true, cond-false, ne_eqb, true≢false}
use Rattle.std.proofs.lemmas.List.{map-append}
use Rattle.std.proofs.lemmas.List.Elements.{filter-append}
use Rattle.lat_language.specs.Grammar.{words_of, first_byte, IsPassedOver}
use Rattle.lat_language.specs.Theorems.{begins_a_form, is_taken}

-- what a test of the first byte that isn't a space says
passed_test : (first : Option ℕ) → IfSome first (λ b. b ≡ 35) → begins_a_form first ≡ false
passed_test None h = refl
passed_test (Some b) h = ap (λ c. not (eqb c 35)) h

other_test : (first : Option ℕ) → (IfSome first (λ b. b ≡ 35) → ⊥) → begins_a_form first ≡ true
other_test None h = absurd (h tt)
other_test (Some b) h = ap not (ne_eqb b 35 h)

passed_not_taken : (line : List ℕ) → IsPassedOver line → is_taken line ≡ false
passed_not_taken line = passed_test (first_byte line)

other_taken : (line : List ℕ) → ¬ (IsPassedOver line) → is_taken line ≡ true
other_taken line = other_test (first_byte line)

-- a line is taken exactly where it isn't passed over
pub taken_lines : (line : List ℕ) → IsTrue (is_taken line) ↔ (¬ (IsPassedOver line))
taken_lines line = (
  λ t passed. true≢false (sym t ∙ passed_not_taken line passed),
  other_taken line,
)

-- the words of the lines that aren't passed over
abbrev pub taken_words : List (List ℕ) → List (List (List ℕ))
taken_words lines = map words_of (filter is_taken lines)

pub words_passed : (line : List ℕ) (lines : List (List ℕ)) → IsPassedOver line
    → taken_words (line ∷ lines) ≡ taken_words lines
words_passed line lines h =
    ap (map words_of) (cond-false (is_taken line) (line ∷ filter is_taken lines) (filter is_taken lines) (passed_not_taken line h))

pub words_taken : (line : List ℕ) (lines : List (List ℕ)) → ¬ (IsPassedOver line)
    → taken_words (line ∷ lines) ≡ words_of line ∷ taken_words lines
words_taken line lines h =
    ap (map words_of) (cond-true (is_taken line) (line ∷ filter is_taken lines) (filter is_taken lines) (other_taken line h))

-- the first line's words, and the others'
pub words_append : (line : List ℕ) (lines : List (List ℕ))
    → taken_words (line ∷ lines) ≡ taken_words (line ∷ []) ++ taken_words lines
words_append line lines =
    ap (map words_of) (filter-append is_taken (line ∷ []) lines)
    ∙ map-append words_of (filter is_taken (line ∷ [])) (filter is_taken lines)
