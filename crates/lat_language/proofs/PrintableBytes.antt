-- A line of a form that isn't passed over has bytes from 32 to 126 only.
use Rattle.std.proofs.Common.{◌≡◌, ℕ, ◌<◌, ◌^◌, Bool, true, eqb, leb, List, [], ◌∷◌, ◌++◌, map, sym, refl, ap, ◌∙◌, subst, inl, inr, arith}
use Rattle.std.specs.Prelude.{◌==◌, filter, codes, decimal, All}
use Rattle.std.specs.Int.{IsInRange, is_in_range}
use Rattle.std.specs.Char.{IsAsciiAlphabetic}
use Rattle.std.specs.List.{AllByRecursion, list_all, slice_split, onto_first, join_with_byte}
use Rattle.std.specs.Str.Parse.{AllDigits}
use Rattle.std.proofs.lemmas.Bool.{and_parts, eqb-true, cases_Bool, leb-true}
use Rattle.std.proofs.lemmas.Fmt.{decimal_is_IsNumeral}
use Rattle.std.proofs.lemmas.Str.Parse.{digit_from_value}
use Rattle.std.proofs.lemmas.List.Elements.{All-from_recursion, recursion_from_All, All-head, All-tail}
use Rattle.std.proofs.lemmas.List.Splits.{slice_split-cons_yes, slice_split-cons_no}
use Rattle.lat_core.specs.Names.{IsNameByte, IsDeclaredName, IsFieldName}
use Rattle.lat_core.specs.Digits.{AreDigits}
use Rattle.lat_language.specs.declared.commands.Op.{Op}
use Rattle.lat_language.specs.declared.commands.Op.TheVariants.{First, Second, Third}
use Rattle.lat_language.specs.declared.commands.Command.{Command}
use Rattle.lat_language.specs.declared.commands.Command.TheVariants as command
use Rattle.lat_language.specs.Commands.{digits_text, op_text, Word, Fixed, Name, FieldWord, Number, Coefficients, Operation, word_text, IsWord, form_of, command_words}
use Rattle.lat_language.specs.Grammar.{words_of, header_words, IsPassedOver, State, Form, PassedOver, Header, OfCommand, OfSession, OfSchedule, HasForm}
use Rattle.lat_language.specs.PrivateCoefficients.{split_cons}
use Rattle.lat_language.proofs.LinesAndWords.{is_word, word_taken}

abbrev IsPrintable : ℕ → Type 0
IsPrintable b = IsInRange 32 126 b

abbrev ArePrintable : List ℕ → Type 0
ArePrintable = AllByRecursion IsPrintable

-- the bytes of a text are spaces or those of its words
from_parts : (line : List ℕ) → AllByRecursion ArePrintable (slice_split (λ b. b == 32) line)
    → ArePrintable line
from_parts [] h = tt
from_parts (x ∷ xs) h =
    let rest = split_cons (λ b. b == 32) xs in
    elim (cases_Bool (eqb x 32)) [
      | inl t ↦
          let space = eqb-true x 32 t in
          let parts = subst (AllByRecursion ArePrintable) (slice_split-cons_yes (λ b. b == 32) x xs t) h in
          ((omega arith, omega arith), from_parts xs parts.1)
      | inr f ↦
          let parts = subst (AllByRecursion ArePrintable) (slice_split-cons_no (λ b. b == 32) x xs f ∙ ap (onto_first x) rest.2) h in
          (parts.0.0, from_parts xs (subst (AllByRecursion ArePrintable) (sym rest.2) (parts.0.1, parts.1)))
    ]

from_words : (parts : List (List ℕ)) → AllByRecursion ArePrintable (filter is_word parts)
    → AllByRecursion ArePrintable parts
from_words [] h = tt
from_words ([] ∷ parts) h = (tt, from_words parts h)
from_words ((b ∷ bs) ∷ parts) h =
    let taken = subst (AllByRecursion ArePrintable) (word_taken (b ∷ bs) parts (omega arith)) h in
    (taken.0, from_words parts taken.1)

printable_line : (line : List ℕ) (words : List (List ℕ)) → words_of line ≡ words
    → AllByRecursion ArePrintable words → All IsPrintable line
unfolding words_of
printable_line line words e h =
    All-from_recursion IsPrintable line (from_parts line (from_words (slice_split (λ b. b == 32) line) (subst (AllByRecursion ArePrintable) (sym e) h)))

-- the words of the forms
by_test : (xs : List ℕ) → list_all (is_in_range 32 126) xs ≡ true → ArePrintable xs
by_test [] t = tt
by_test (x ∷ xs) t =
    let both = and_parts (is_in_range 32 126 x) (list_all (is_in_range 32 126) xs) t in
    let range = and_parts _ _ both.0 in
    ((leb-true _ _ range.0, leb-true _ _ range.1), by_test xs both.1)

by_digits : (ds : List ℕ) → AllDigits 10 ds → ArePrintable ds
by_digits [] h = tt
by_digits (d ∷ ds) h = let range = digit_from_value d h.0 in ((omega arith, omega arith), by_digits ds h.1)

by_decimal : (n : ℕ) → n < 2 ^ 64 → ArePrintable (decimal n)
by_decimal n l = by_digits (decimal n) (decimal_is_IsNumeral n l).0.1

name_byte : (b : ℕ) → IsNameByte b → IsPrintable b
name_byte b (inl (inl (inl h))) = (omega arith, omega arith)
name_byte b (inl (inl (inr h))) = (omega arith, omega arith)
name_byte b (inl (inr h)) = (omega arith, omega arith)
name_byte b (inr h) = (omega arith, omega arith)

letter : (b : ℕ) → IsAsciiAlphabetic b → IsPrintable b
letter b (inl h) = (omega arith, omega arith)
letter b (inr h) = (omega arith, omega arith)

by_name_bytes : (bs : List ℕ) → AllByRecursion IsNameByte bs → ArePrintable bs
by_name_bytes [] h = tt
by_name_bytes (b ∷ bs) h = (name_byte b h.0, by_name_bytes bs h.1)

by_name : (text : List ℕ) → IsDeclaredName text → ArePrintable text
by_name [] h = absurd h
by_name (b ∷ bs) h = (letter b h.0, by_name_bytes bs (recursion_from_All IsNameByte bs h.1))

append_printable : (xs ys : List ℕ) → ArePrintable xs → ArePrintable ys → ArePrintable (xs ++ ys)
append_printable [] ys h h' = h'
append_printable (x ∷ xs) ys h h' = (h.0, append_printable xs ys h.1 h')

by_join : (c : List ℕ) → All (λ n. n < 256) c → ArePrintable (join_with_byte 44 (map decimal c))
by_join [] small = tt
by_join (n ∷ []) small = let l = All-head (λ n. n < 256) n [] small in by_decimal n (omega arith)
by_join (n ∷ m ∷ c) small =
    let l = All-head (λ n. n < 256) n (m ∷ c) small in
    append_printable (decimal n) (44 ∷ join_with_byte 44 (map decimal (m ∷ c))) (by_decimal n (omega arith))
    ((omega arith, omega arith), by_join (m ∷ c) (All-tail (λ n. n < 256) n (m ∷ c) small))

by_digits_text : (c : List ℕ) → AreDigits c → ArePrintable (digits_text c)
unfolding digits_text
by_digits_text c are = by_join c are.bytes

by_field_name : (text : List ℕ) → IsFieldName text → ArePrintable text
by_field_name text (inl h) = by_name text h
by_field_name text (inr (n, l, e)) =
    let number : n < 2 ^ 64 = omega (arith, l) in
    subst ArePrintable (sym e) (append_printable (codes "_") (decimal n) (by_test (codes "_") refl) (by_decimal n number))

by_op : (op : Op) → ArePrintable (op_text op)
by_op First = by_test (codes "first") refl
by_op Second = by_test (codes "second") refl
by_op Third = by_test (codes "third") refl

-- a word of a form: the bytes of a fixed one are printable, and a number is a machine word
abbrev plain : Word → Bool
plain (Fixed text) = list_all (is_in_range 32 126) text
plain (Number bound n) = leb bound (2 ^ 64)
plain _ = true

by_word : (w : Word) → plain w ≡ true → IsWord w → ArePrintable (word_text w)
by_word (Fixed text) t h = by_test text t
by_word (Name name) t h = by_name name h
by_word (FieldWord name) t h = by_field_name name h
by_word (Number bound n) t h = by_decimal n (omega (arith, h, leb-true bound (2 ^ 64) t))
by_word (Coefficients c) t h = by_digits_text c h
by_word (Operation op) t h = by_op op

by_form : (words : List Word) → list_all plain words ≡ true → AllByRecursion IsWord words
    → AllByRecursion ArePrintable (map word_text words)
by_form [] t h = tt
by_form (w ∷ words) t h =
    let both = and_parts (plain w) (list_all plain words) t in
    (by_word w both.0 h.0, by_form words both.1 h.1)

plain_form : (c : Command) → list_all plain (form_of c) ≡ true
plain_form (command.Field name p poly) = refl
plain_form (command.Embed from into) = refl
plain_form (command.EmbedSending from into value image) = refl
plain_form command.Sync = refl
plain_form (command.Let r field digits) = refl
plain_form (command.Add r left right) = refl
plain_form (command.Mul r left right) = refl
plain_form (command.Inv r value) = refl
plain_form (command.Pow r value exponent) = refl
plain_form (command.Frob r value) = refl
plain_form (command.Trace r value) = refl
plain_form (command.Norm r value) = refl
plain_form (command.Lift r value to) = refl
plain_form (command.Apply r op value) = refl
plain_form (command.Show value) = refl
plain_form (command.Map from into) = refl
plain_form (command.Meet first second within) = refl
plain_form (command.Common first second) = refl
plain_form (command.MinPoly value) = refl
plain_form (command.MinPolyOver value over) = refl
plain_form (command.List field) = refl
plain_form command.Count = refl

by_names : (names : List (List ℕ)) → AllByRecursion IsDeclaredName names
    → AllByRecursion ArePrintable names
by_names [] h = tt
by_names (name ∷ names) h = (by_name name h.0, by_names names h.1)

-- a line of each form has printable bytes
pub printable_form : (state : State) (line : List ℕ) (form : Form) → HasForm state line form
    → ¬ (IsPassedOver line) → All (IsInRange 32 126) line
printable_form state line PassedOver has other = absurd (other has)
printable_form state line Header has other = printable_line line header_words has.0 (by_test (codes "lattice") refl, (by_test (codes "1") refl, tt))
printable_form state line (OfCommand c) has other =
    printable_line line (command_words c) has.0 (by_form (form_of c) (plain_form c) (recursion_from_All IsWord (form_of c) has.1))
printable_form state line (OfSession name) has other =
    printable_line line (codes "session" ∷ name ∷ []) has.0 (by_test (codes "session") refl, (by_name name has.1, tt))
printable_form state line (OfSchedule names) has other =
    printable_line line (codes "schedule" ∷ names) has.0 (by_test (codes "schedule") refl, by_names names (recursion_from_All IsDeclaredName names has.2))
