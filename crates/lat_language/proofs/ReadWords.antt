-- What is read of a word is what the word spells.
use Rattle.std.proofs.Common.{◌≡◌, ℕ, ◌+◌, ◌<◌, ◌≤◌, ◌^◌, Bool, true, false, cond, Option, Some, None, List, ◌∷◌, sym, refl, ap, ◌∙◌, subst, inl, inr, arith}
use Rattle.std.specs.Prelude.{◌≢◌, ◌⊎◌, codes, decimal, length, SomeIff, MatchOption}
use Rattle.std.specs.Str.{bytes_eq}
use Rattle.std.proofs.lemmas.Bool.{cases_Bool}
use Rattle.std.proofs.lemmas.Fmt.{decimal_injective}
use Rattle.std.proofs.lemmas.Slice.Eq.{bytes_eq-Decides}
use Rattle.alg_model.specs.Lattices.{made_name}
use Rattle.lat_core.specs.declared.TheConstants.{MAX_FIELDS}
use Rattle.lat_core.specs.Names.{IsDeclaredName, IsMadeName, IsFieldName}
use Rattle.lat_core.specs.Digits.{IsDigitCount, AreDigits}
use Rattle.lat_language.specs.declared.commands.Op.{Op}
use Rattle.lat_language.specs.declared.commands.Op.TheVariants.{First, Second, Third}
use Rattle.lat_language.specs.Commands.{digits_text, Name, FieldWord, Number, Coefficients, Operation}
use Rattle.lat_language.specs.PrivateReading.{name_of, field_of, number_of, digits_of, op_of}
use Rattle.lat_language.specs.PrivateDecisions.{Decided, Spelled, found, decide_name, decide_field_word, decide_number, decide_digits}
use Rattle.lat_language.specs.PrivateCoefficients.{digits_text_injective}

-- what is found, is; what is, is found; and where nothing is, nothing is found
module _ {A : Type 0} (P : A → Type 0) (unique : (a b : A) → P a → P b → a ≡ b) where
  found_holds : (decided : Decided ((a : A) × P a)) (a : A) → found decided ≡ Some a → P a
  found_holds (inl x) a e = let same : x.0 ≡ a = cc in subst P same x.1
  found_holds (inr none) a e = absurd (cc)

  holds_found : (decided : Decided ((a : A) × P a)) (a : A) → P a → found decided ≡ Some a
  holds_found (inl x) a h = ap Some (unique x.0 a x.1 h)
  holds_found (inr none) a h = absurd (none (a, h))

none_found : {A : Type 0} {P : A → Type 0} → (decided : Decided ((a : A) × P a))
    → ((a : A) → ¬ (P a)) → found decided ≡ None
none_found (inl x) none = absurd (none x.0 x.1)
none_found (inr x) none = refl

-- the operands of a text
name_unique : (text a b : List ℕ) → Spelled text (Name a) → Spelled text (Name b) → a ≡ b
name_unique text a b h h' = sym h.0 ∙ h'.0

field_unique : (text a b : List ℕ) → Spelled text (FieldWord a) → Spelled text (FieldWord b) → a ≡ b
field_unique text a b h h' = sym h.0 ∙ h'.0

number_unique : (bound : ℕ) → bound ≤ 2 ^ 64 → (text : List ℕ) (a b : ℕ) → Spelled text (Number bound a)
    → Spelled text (Number bound b) → a ≡ b
number_unique bound fits text a b h h' = decimal_injective a b (omega (arith, h.1)) (omega (arith, h'.1)) (sym h.0 ∙ h'.0)

digits_unique : (text a b : List ℕ) → Spelled text (Coefficients a) → Spelled text (Coefficients b)
    → a ≡ b
digits_unique text a b h h' = digits_text_injective a b h.1 h'.1 (sym h.0 ∙ h'.0)

-- what each reading gives is spelled, and what is spelled is given
pub name_spelled : (text name : List ℕ) → name_of text ≡ Some name → Spelled text (Name name)
unfolding name_of
name_spelled text = found_holds (λ a. Spelled text (Name a)) (name_unique text) (decide_name text)

pub name_given : (text name : List ℕ) → Spelled text (Name name) → name_of text ≡ Some name
unfolding name_of
name_given text = holds_found (λ a. Spelled text (Name a)) (name_unique text) (decide_name text)

pub field_spelled : (text name : List ℕ) → field_of text ≡ Some name
    → Spelled text (FieldWord name)
unfolding field_of
field_spelled text = found_holds (λ a. Spelled text (FieldWord a)) (field_unique text) (decide_field_word text)

pub field_given : (text name : List ℕ) → Spelled text (FieldWord name)
    → field_of text ≡ Some name
unfolding field_of
field_given text = holds_found (λ a. Spelled text (FieldWord a)) (field_unique text) (decide_field_word text)

module _ (bound : ℕ) (fits : bound ≤ 2 ^ 64) where
  pub number_spelled : (text : List ℕ) (n : ℕ) → number_of bound text ≡ Some n
      → Spelled text (Number bound n)
  unfolding number_of
  number_spelled text = found_holds (λ a. Spelled text (Number bound a)) (number_unique bound fits text) (decide_number text bound)

  pub number_given : (text : List ℕ) (n : ℕ) → Spelled text (Number bound n)
      → number_of bound text ≡ Some n
  unfolding number_of
  number_given text = holds_found (λ a. Spelled text (Number bound a)) (number_unique bound fits text) (decide_number text bound)

pub digits_spelled : (text c : List ℕ) → digits_of text ≡ Some c → Spelled text (Coefficients c)
unfolding digits_of
digits_spelled text = found_holds (λ a. Spelled text (Coefficients a)) (digits_unique text) (decide_digits text)

pub digits_given : (text c : List ℕ) → Spelled text (Coefficients c) → digits_of text ≡ Some c
unfolding digits_of
digits_given text = holds_found (λ a. Spelled text (Coefficients a)) (digits_unique text) (decide_digits text)

-- an operation, by the tests of its names
abbrev chosen_op : Bool → Bool → Bool → Option Op
chosen_op p q r = cond p (Some First) (cond q (Some Second) (cond r (Some Third) None))

pub op_spelled : (text : List ℕ) (op : Op) → op_of text ≡ Some op → Spelled text (Operation op)
op_spelled text op e = by_first (cases_Bool (bytes_eq text (codes "first"))) where
  by_third : op_of text ≡ chosen_op false false (bytes_eq text (codes "third")) → bytes_eq text (codes "third") ≡ true ⊎ bytes_eq text (codes "third") ≡ false
      → Spelled text (Operation op)
  by_third is (inl t) =
      let same : Some Third ≡ Some op = sym (is ∙ ap (chosen_op false false) t) ∙ e in
      let third : Third ≡ op = cc in
      subst (λ o. Spelled text (Operation o)) third ((bytes_eq-Decides text (codes "third")).0 t, tt)
  by_third is (inr f) = absurd (let none : ◌≡◌ {A = Option Op} None (Some op) = sym (is ∙ ap (chosen_op false false) f) ∙ e in cc)

  by_second : op_of text ≡ chosen_op false (bytes_eq text (codes "second")) (bytes_eq text (codes "third")) → bytes_eq text (codes "second") ≡ true ⊎ bytes_eq text (codes "second") ≡ false
      → Spelled text (Operation op)
  by_second is (inl t) =
      let same : Some Second ≡ Some op = sym (is ∙ ap (λ q. chosen_op false q (bytes_eq text (codes "third"))) t) ∙ e in
      let second : Second ≡ op = cc in
      subst (λ o. Spelled text (Operation o)) second ((bytes_eq-Decides text (codes "second")).0 t, tt)
  by_second is (inr f) = by_third (is ∙ ap (λ q. chosen_op false q (bytes_eq text (codes "third"))) f) (cases_Bool (bytes_eq text (codes "third")))

  by_first : bytes_eq text (codes "first") ≡ true ⊎ bytes_eq text (codes "first") ≡ false
      → Spelled text (Operation op)
  by_first (inl t) =
      let same : Some First ≡ Some op = sym (ap (λ p. chosen_op p (bytes_eq text (codes "second")) (bytes_eq text (codes "third"))) t) ∙ e in
      let first : First ≡ op = cc in
      subst (λ o. Spelled text (Operation o)) first ((bytes_eq-Decides text (codes "first")).0 t, tt)
  by_first (inr f) = by_second (ap (λ p. chosen_op p (bytes_eq text (codes "second")) (bytes_eq text (codes "third"))) f) (cases_Bool (bytes_eq text (codes "second")))

pub op_given : (text : List ℕ) (op : Op) → Spelled text (Operation op) → op_of text ≡ Some op
op_given text First h = ap op_of h.0
op_given text Second h = ap op_of h.0
op_given text Third h = ap op_of h.0

-- ---- what the code reads
pub name_read : (text : List ℕ) (r : Option (List ℕ)) → SomeIff r (IsDeclaredName text) text
    → r ≡ name_of text
unfolding name_of
name_read text None none = sym (none_found (decide_name text) (λ a h. none (subst IsDeclaredName (sym h.0) h.1)))
name_read text (Some name) h = sym (name_given text name (sym h.1, subst IsDeclaredName (sym h.1) h.0))

pub field_none : (text : List ℕ) → ¬ (IsDeclaredName text) → ¬ (IsMadeName text)
    → field_of text ≡ None
unfolding field_of
field_none text no_name no_made = none_found (decide_field_word text) (λ a h. refuted (subst IsFieldName (sym h.0) h.1)) where
  refuted : IsFieldName text → ⊥
  refuted (inl h) = no_name h
  refuted (inr h) = no_made h

pub number_none : (bound : ℕ) (text : List ℕ) → ((n : ℕ) → n < bound → text ≢ decimal n)
    → number_of bound text ≡ None
unfolding number_of
number_none bound text none = none_found (decide_number text bound) (λ a h. none a h.1 h.0)

pub digits_read : (text : List ℕ) (r : Option (List ℕ))
    → MatchOption r ((c : List ℕ) → AreDigits c → text ≢ digits_text c)
    (λ c. AreDigits c × (text ≡ digits_text c))
    → r ≡ digits_of text
unfolding digits_of
digits_read text None none = sym (none_found (decide_digits text) (λ a h. none a h.1 h.0))
digits_read text (Some c) h = sym (digits_given text c (h.1, h.0))

-- a number up to a bound
pub number_read : (bound : ℕ) (text : List ℕ) (r : Option ℕ) → bound + 1 ≤ 2 ^ 64
    → MatchOption r ((n : ℕ) → n ≤ bound → text ≢ decimal n)
    (λ n. (n ≤ bound) × (text ≡ decimal n))
    → r ≡ number_of (bound + 1) text
number_read bound text None fits none = sym (number_none (bound + 1) text (λ n l. none n (omega arith)))
number_read bound text (Some n) fits h =
    let below = h.0 in
    sym (number_given (bound + 1) fits text n (h.1, omega arith))

-- the numbers of a coefficient list as such
pub digits_made : (word items slice : List ℕ) (r : Option (List ℕ)) → slice ≡ items
    → AreDigits items × (word ≡ digits_text items)
    → SomeIff r (IsDigitCount (length slice)) slice
    → MatchOption r ((c : List ℕ) → AreDigits c → word ≢ digits_text c)
    (λ c. AreDigits c × (word ≡ digits_text c))
digits_made word items slice None e whole none = absurd (none (subst (λ c. IsDigitCount (length c)) (sym e) whole.0.count))
digits_made word items slice (Some c) e whole h =
    let same : items ≡ c = sym e ∙ sym h.1 in
    subst (λ c. AreDigits c × (word ≡ digits_text c)) same whole

-- the name of an added field, by what stands behind `_`
pub field_made : (text : List ℕ) (r : Option (List ℕ)) → ¬ (IsDeclaredName text)
    → MatchOption r (¬ (IsMadeName text)) (λ name. (text ≡ name) × IsMadeName name)
    → r ≡ field_of text
field_made text None no_name none = sym (field_none text no_name none)
field_made text (Some name) no_name h = sym (field_given text name (h.0, inr h.1))

pub field_declared : (text name : List ℕ) → IsDeclaredName text → name ≡ text
    → Some name ≡ field_of text
field_declared text name h e = sym (field_given text name (sym e, inl (subst IsDeclaredName (sym e) h)))

-- `_` and a number
pub made_read : (b : ℕ) (digits : List ℕ) (r : Option (List ℕ)) → b ≡ 95
    → MatchOption r ((n : ℕ) → n < MAX_FIELDS → digits ≢ decimal n)
    (λ name. (n : ℕ) × (n < MAX_FIELDS) × (digits ≡ decimal n) × (name ≡ made_name n))
    → MatchOption r (¬ (IsMadeName (b ∷ digits))) (λ name. ((b ∷ digits) ≡ name) × IsMadeName name)
made_read b digits None e none = λ h. none h.0 h.1 (let same : b ∷ digits ≡ 95 ∷ decimal h.0 = h.2 in cc)
made_read b digits (Some name) e h =
    let ds = h.2 in
    let is = h.3 in
    let whole : b ∷ digits ≡ made_name h.0 = cc in
    (whole ∙ sym is, (h.0, h.1, is))

pub not_made : (b : ℕ) (digits : List ℕ) → b ≢ 95 → ¬ (IsMadeName (b ∷ digits))
not_made b digits other h = other (let same : b ∷ digits ≡ 95 ∷ decimal h.0 = h.2 in cc)
