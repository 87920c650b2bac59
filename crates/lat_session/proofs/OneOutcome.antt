-- A command has at most one outcome.
use Rattle.std.proofs.Common.{◌≡◌, ℕ, ◌<◌, List, length, refl, sym, ap, ap₂, ◌∙◌, subst, Option, Some, None, ⊎_elim, arith}
use Rattle.std.specs.Prelude.{Ok, Err}
use Rattle.std.specs.List.{AllByRecursion}
use Rattle.std.specs.FinMap.{get, insert}
use Rattle.std.proofs.lemmas.Bool.{cases_order}
use Rattle.alg_model.specs.Coefficients.{Ops, Carrier, power}
use Rattle.alg_model.specs.Fields.{IsRing, IsField}
use Rattle.alg_model.specs.Maps.{field_values}
use Rattle.alg_model.specs.Conjugates.{trace, norm}
use Rattle.alg_model.specs.Lattices.{Lattice, field_at, Stored, IsCompatible}
use Rattle.alg_galois.proofs.Fields.{modulus_of, field_is}
use Rattle.alg_galois.proofs.Embeddings.{embedding_injective}
use Rattle.alg_compatible.proofs.Transfer.{field_finite, stored_one, one_prime}
use Rattle.ff_field.specs.SmallFields.{IsFirstTooLarge}
use Rattle.natural_ops.proofs.ProgramValues.{zero_times}
use Rattle.lat_core.specs.declared.tagged.Tagged.{Tagged}
use Rattle.lat_core.specs.declared.questions.Question.{Question}
use Rattle.lat_core.specs.declared.questions.Question.TheVariants as questions
use Rattle.lat_core.specs.declared.questions.Answer.{Answer}
use Rattle.lat_core.specs.declared.questions.Answer.TheVariants as answers
use Rattle.lat_core.specs.declared.outcomes.Outcome.{Outcome}
use Rattle.lat_core.specs.declared.outcomes.Outcome.TheVariants as outcomes
use Rattle.lat_core.specs.declared.outcomes.SessionRefusal.{SessionRefusal}
use Rattle.lat_core.specs.declared.outcomes.SessionRefusal.TheVariants.{CoefficientTooLarge, UnknownField, UnknownVariable}
use Rattle.lat_core.specs.Answers.{IsTaggedValue, IsSentTo, HasCommon, LiftsTo, Answers}
use Rattle.lat_core.specs.Answers.Answers.{common as answers_common, lift as answers_lift}
use Rattle.lat_core.proofs.StepDetermined.{named_one}
use Rattle.lat_core.proofs.Decisions.{first_of_all_below}
use Rattle.lat_coerce.proofs.AnswersDetermined.{question_has_one_answer}
use Rattle.lat_language.specs.declared.commands.Command.{Command}
use Rattle.lat_language.specs.declared.commands.Command.TheVariants.{Show}
use Rattle.lat_session.specs.Variables.{Variables, Holds, IsVariable, IsFullFor, AreVariables}
use Rattle.lat_session.specs.Commands.{operands, field_words, result_name}
use Rattle.lat_session.specs.Outcomes.{IsFirstUnknown, IsFieldWord, Asks, refusal_of, name_at, Shows, tagged, Computed, Reads, Combines, Inverts, IsInPrimeField, Lifts, Operations, Computes, HasOutcome}
use Rattle.lat_session.specs.Outcomes.IsFirstUnknown.{here, later}
use Rattle.lat_session.specs.Outcomes.Asks.{map, meet, common, minimal_polynomial, minimal_over, subfields, count}
use Rattle.lat_session.specs.Outcomes.Shows.{image, named, numbers, polynomial, over_field, counted, refused as fault_shown}
use Rattle.lat_session.specs.Outcomes.Reads.{too_many, too_large, value as digits_value}
use Rattle.lat_session.specs.Outcomes.Combines.{no_common_field, value as combined}
use Rattle.lat_session.specs.Outcomes.Inverts.{zero as no_inverse, value as inverted}
use Rattle.lat_session.specs.Outcomes.Lifts.{not_lifted, value as lifted}
use Rattle.lat_session.specs.Outcomes.Computes.{of_let, of_add, of_mul, of_inv, of_pow, of_frob, of_trace, of_norm, of_lift, of_apply}
use Rattle.lat_session.specs.Outcomes.HasOutcome.{unknown_variable, unknown_field, asked, shown, refused, full, stored}
use Rattle.lat_session.specs.PrivatePlaying.Questions.{asked as questioned}
use Rattle.lat_session.specs.Theorems.{CommandHasOneOutcome}
use Rattle.lat_session.proofs.AskedLines.{question_fits}
use Rattle.lat_session.proofs.FittingValues.{lift_value}

-- ---- names
-- the first that isn't known is one
first_one : {P : List ℕ → Type 0} {names : List (List ℕ)} {a b : List ℕ}
    → IsFirstUnknown P names a → IsFirstUnknown P names b → a ≡ b
first_one (here h) (here k) = refl
first_one (here h) (later k r) = absurd (h k)
first_one (later k r) (here h) = absurd (h k)
first_one (later k r) (later h s) = first_one r s

-- where all are known there is none
first_of_known : {P : List ℕ → Type 0} {names : List (List ℕ)} {a : List ℕ}
    → IsFirstUnknown P names a → AllByRecursion P names → ⊥
first_of_known (here h) k = h k.0
first_of_known (later h r) k = first_of_known r k.1

holds_one : {variables : Variables} {name : List ℕ} {t u : Tagged} → Holds variables name t
    → Holds variables name u → t ≡ u
holds_one {variables} {name} {t} {u} h k =
    let e : get variables name ≡ Some t = h.found in
    let f : get variables name ≡ Some u = k.found in
    cc

-- ---- what kind of command it is
abbrev IsShow : Command → Type 0
IsShow (Show value) = Unit {0}
IsShow _ = ⊥

show_is : {command : Command} {value : List ℕ} → command ≡ Show value → IsShow command
show_is e = subst IsShow (sym e) tt

asks_no_show : {L : Lattice} {variables : Variables} {command : Command} {q : Question}
    → Asks L variables command q → IsShow command → ⊥
asks_no_show (map h k) s = s
asks_no_show (meet h k l) s = s
asks_no_show (common h k) s = s
asks_no_show (minimal_polynomial h) s = s
asks_no_show (minimal_over h k) s = s
asks_no_show (subfields h) s = s
asks_no_show count s = s

asks_no_result : {L : Lattice} {variables : Variables} {command : Command} {q : Question}
    → Asks L variables command q → result_name command ≡ None
asks_no_result (map h k) = refl
asks_no_result (meet h k l) = refl
asks_no_result (common h k) = refl
asks_no_result (minimal_polynomial h) = refl
asks_no_result (minimal_over h k) = refl
asks_no_result (subfields h) = refl
asks_no_result count = refl

computes_result : {operations : Operations} {L : Lattice} {variables : Variables}
    {command : Command} {x : Computed} → Computes operations L variables command x
    → result_name command ≡ None → ⊥
computes_result (of_let n r) e = cc
computes_result (of_add h k c) e = cc
computes_result (of_mul h k c) e = cc
computes_result (of_inv h i) e = cc
computes_result (of_pow h) e = cc
computes_result (of_frob h) e = cc
computes_result (of_trace h p) e = cc
computes_result (of_norm h p) e = cc
computes_result (of_lift h n l) e = cc
computes_result (of_apply h) e = cc

some_same : {A : Type 0} {o : Option A} {m n : A} → o ≡ Some m → o ≡ Some n → m ≡ n
some_same {m = m} {n = n} e f = let both : Some m ≡ Some n = sym e ∙ f in cc

asks_no_value : {operations : Operations} {L : Lattice} {variables : Variables} {command : Command}
    {q : Question} {x : Computed} → Asks L variables command q
    → Computes operations L variables command x → ⊥
asks_no_value a c = computes_result c (asks_no_result a)

show_no_value : {operations : Operations} {L : Lattice} {variables : Variables} {command : Command}
    {value : List ℕ} {x : Computed} → command ≡ Show value
    → Computes operations L variables command x → ⊥
show_no_value e c = computes_result c (ap result_name e)

-- ---- the names that it knows
-- all variables and fields that it names are there
abbrev Knows : Lattice → Variables → Command → Type 0
Knows L variables command = AllByRecursion (IsVariable variables) (operands command)
    × AllByRecursion (IsFieldWord L) (field_words command)

asks_knows : {L : Lattice} {variables : Variables} {command : Command} {q : Question}
    → Asks L variables command q → Knows L variables command
asks_knows (map {i = i} {j = j} h k) = (tt, ((i, h), ((j, k), tt)))
asks_knows (meet {i = i} {j = j} {k = k} h g l) = (tt, ((i, h), ((j, g), ((k, l), tt))))
asks_knows (common {a = a} {b = b} h k) = (tt, ((a, h), ((b, k), tt)))
asks_knows (minimal_polynomial {t = t} h) = (((t, h), tt), tt)
asks_knows (minimal_over {t = t} {n = n} h k) = (((t, h), tt), ((n, k), tt))
asks_knows (subfields {k = k} h) = (tt, ((k, h), tt))
asks_knows count = (tt, tt)

show_knows : (L : Lattice) {variables : Variables} {command : Command} {value : List ℕ}
    {t : Tagged} → command ≡ Show value → Holds variables value t → Knows L variables command
show_knows L {variables} {t = t} e h =
    subst (Knows L variables) (sym e) (((t, h), tt), tt)

computes_knows : {operations : Operations} {L : Lattice} {variables : Variables}
    {command : Command} {x : Computed} → Computes operations L variables command x
    → Knows L variables command
computes_knows (of_let {i = i} n r) = (tt, ((i, n), tt))
computes_knows (of_add {a = a} {b = b} h k c) = (((a, h), ((b, k), tt)), tt)
computes_knows (of_mul {a = a} {b = b} h k c) = (((a, h), ((b, k), tt)), tt)
computes_knows (of_inv {t = t} h i) = (((t, h), tt), tt)
computes_knows (of_pow {t = t} h) = (((t, h), tt), tt)
computes_knows (of_frob {t = t} h) = (((t, h), tt), tt)
computes_knows (of_trace {t = t} h p) = (((t, h), tt), tt)
computes_knows (of_norm {t = t} h p) = (((t, h), tt), tt)
computes_knows (of_lift {t = t} {j = j} h n l) = (((t, h), tt), ((j, n), tt))
computes_knows (of_apply {t = t} h) = (((t, h), tt), tt)

-- ---- fields
ring_inverse_one : {A : Type 0} {c : Carrier A} → IsRing c → (a b d : A) → c.Valid a → c.Valid b
    → c.Valid d → c.ops.mul a b ≡ c.ops.one → c.ops.mul a d ≡ c.ops.one → b ≡ d
ring_inverse_one {c = c} R a b d va vb vd eb ed =
    sym (R.one_mul b vb) ∙ ap (λ w. c.ops.mul w b) (sym ed ∙ R.mul_comm a d va vd)
    ∙ R.mul_assoc d a b vd va vb ∙ ap (c.ops.mul d) eb ∙ R.mul_comm d c.ops.one vd R.one_valid
    ∙ R.one_mul d vd

module _ {L : Lattice} (C : IsCompatible L) where
  field_of_number : (i : ℕ) → i < length L.rows → IsField (field_values (field_at L.rows i))
  field_of_number i h = let W = field_finite L C.rows i h in
      field_is (field_at L.rows i).characteristic W.characteristic (field_at L.rows i).polynomial
      (modulus_of (field_at L.rows i) W)

  -- ---- questions
  asks_one : {variables : Variables} {command : Command} {q r : Question}
      → Asks L variables command q → Asks L variables command r → q ≡ r
  asks_one (map h k) (map g l) =
      ap₂ questions.Map (named_one C.rows h g) (named_one C.rows k l)
  asks_one (meet {k = k} h g l) (meet {i = i} {j = j} m n o) =
      ap₂ (λ a b. questions.Meet a b k) (named_one C.rows h m) (named_one C.rows g n)
      ∙ ap (questions.Meet i j) (named_one C.rows l o)
  asks_one (common h k) (common g l) =
      ap₂ questions.Common (named_one C.rows h g) (named_one C.rows k l)
  asks_one (minimal_polynomial h) (minimal_polynomial k) = ap questions.MinPoly (holds_one h k)
  asks_one (minimal_over h k) (minimal_over g l) =
      ap₂ questions.MinPolyOver (holds_one h g) (named_one C.rows k l)
  asks_one (subfields h) (subfields k) = ap questions.Subfields (named_one C.rows h k)
  asks_one count count = refl

  shows_one : {a : Answer} {x y : Outcome} → Shows L a x → Shows L a y → x ≡ y
  shows_one image image = refl
  shows_one named named = refl
  shows_one numbers numbers = refl
  shows_one polynomial polynomial = refl
  shows_one over_field over_field = refl
  shows_one counted counted = refl
  shows_one fault_shown fault_shown = refl

  -- ---- what is computed
  first_place_one : (p : ℕ) (f : List ℕ) (m n : ℕ) → IsFirstTooLarge p f m
      → IsFirstTooLarge p f n → m ≡ n
  first_place_one p f m n h k = ⊎_elim
      (λ e. e)
      (λ apart. ⊎_elim
      (λ l. absurd (let a = k.first m l in let b = h.too_large in omega (arith, a, b)))
      (λ l. absurd (let a = h.first n l in let b = k.too_large in omega (arith, a, b)))
      apart)
      (cases_order m n)

  reads_one : {i : ℕ} {digits : List ℕ} {x y : Computed} → Reads L i digits x → Reads L i digits y
      → x ≡ y
  reads_one (too_many h) (too_many k) = refl
  reads_one (too_many h) (too_large k p) = absurd (omega (arith, h, k))
  reads_one (too_many h) (digits_value k s) = absurd (omega (arith, h, k))
  reads_one (too_large h p) (too_many k) = absurd (omega (arith, h, k))
  reads_one (too_large {place = m} h p) (too_large {place = n} k q) =
      ap (λ n. Err (CoefficientTooLarge n)) (first_place_one _ _ m n p q)
  reads_one (too_large {place = m} h p) (digits_value k s) = absurd (first_of_all_below _ _ m p s)
  reads_one (digits_value h s) (too_many k) = absurd (omega (arith, h, k))
  reads_one (digits_value h s) (too_large {place = m} k q) = absurd (first_of_all_below _ _ m q s)
  reads_one (digits_value h s) (digits_value k t) = refl

  common_one : {a b : Tagged} {x y : Answer} → IsTaggedValue L a → IsTaggedValue L b
      → HasCommon L a.field b.field x → HasCommon L a.field b.field y → x ≡ y
  common_one {a} {b} {x} {y} A B h k = question_has_one_answer L
      (questions.Common a.field b.field) x y C (A.tag, B.tag) (answers_common h) (answers_common k)

  lift_one : {t : Tagged} {j : ℕ} {x y : Answer} → IsTaggedValue L t → j < length L.rows
      → LiftsTo L t j x → LiftsTo L t j y → x ≡ y
  lift_one {t} {j} {x} {y} T J h k = question_has_one_answer L (questions.Lift t j) x y C (T, J)
      (answers_lift h) (answers_lift k)

  -- in one field the value is one
  lifted_one : {t : Tagged} {g f : ℕ} {v w : List ℕ} → IsTaggedValue L t → g ≡ f
      → LiftsTo L t g (answers.Lifted (tagged g v)) → LiftsTo L t f (answers.Lifted (tagged f w))
      → v ≡ w
  lifted_one {t} {g} {f} {v} {w} T e h k =
      let there : LiftsTo L t g (answers.Lifted (tagged g w)) =
      subst (λ n. LiftsTo L t n (answers.Lifted (tagged n w))) (sym e) k in
      let same : answers.Lifted (tagged g v) ≡ answers.Lifted (tagged g w) =
      lift_one T (lift_value C T h).tag h there in
      let both : tagged g v ≡ tagged g w = cc in
      ap (λ u. u.value) both

  combines_one : {operation : Ops (List ℕ) → List ℕ → List ℕ → List ℕ} {a b : Tagged}
      {x y : Computed} → IsTaggedValue L a → IsTaggedValue L b → Combines L operation a b x
      → Combines L operation a b y → x ≡ y
  combines_one A B (no_common_field {fault = e} h) (no_common_field {fault = f} k) =
      let same : answers.Refused e ≡ answers.Refused f = common_one A B h k in
      let fault : e ≡ f = cc in
      ap (λ z. Err (refusal_of z)) fault
  combines_one A B (no_common_field {fault = e} h) (combined {g = g} k l r) =
      absurd (let same : answers.Refused e ≡ answers.Is g = common_one A B h k in cc)
  combines_one A B (combined {g = g} h l r) (no_common_field {fault = e} k) =
      absurd (let same : answers.Is g ≡ answers.Refused e = common_one A B h k in cc)
  combines_one {operation} A B (combined {g = g} {v = v} {w = w} h l r)
      (combined {g = f} {v = x} {w = y} k m s) =
      let same : answers.Is g ≡ answers.Is f = common_one A B h k in
      let e : g ≡ f = cc in
      ap (λ n. Ok (tagged n (operation (field_values (field_at L.rows n)).ops v w))) e
      ∙ ap₂ (λ p q. Ok (tagged f (operation (field_values (field_at L.rows f)).ops p q)))
      (lifted_one A e l m) (lifted_one B e r s)

  no_unit : {t : Tagged} (b : List ℕ) → IsTaggedValue L t
      → t.value ≡ (field_values (field_at L.rows t.field)).ops.zero
      → (field_values (field_at L.rows t.field)).Valid b
      → (field_values (field_at L.rows t.field)).ops.mul t.value b
      ≡ (field_values (field_at L.rows t.field)).ops.one → ⊥
  no_unit {t} b T z vb e = let F = field_of_number t.field T.tag in
      F.one_not_zero (sym e ∙ ap (λ w. (field_values (field_at L.rows t.field)).ops.mul w b) z
      ∙ zero_times F.ring b vb)

  inverts_one : {t : Tagged} {x y : Computed} → IsTaggedValue L t → Inverts L t x → Inverts L t y
      → x ≡ y
  inverts_one T (no_inverse h) (no_inverse k) = refl
  inverts_one {t} T (no_inverse h) (inverted {b = b} vb k) = absurd (no_unit b T h vb k)
  inverts_one {t} T (inverted {b = b} vb h) (no_inverse k) = absurd (no_unit b T k vb h)
  inverts_one {t} T (inverted {b = b} vb h) (inverted {b = d} vd k) =
      ap (λ v. Ok (tagged t.field v)) (ring_inverse_one (field_of_number t.field T.tag).ring t.value b d
      T.value vb vd h k)

  prime_one : {i : ℕ} {v : List ℕ} {c d : Tagged} → IsInPrimeField L i v c → IsInPrimeField L i v d
      → c ≡ d
  prime_one {i} {v} {c} {d} P Q =
      let D = C.compatible.embedding P.stored in
      let E = C.compatible.embedding Q.stored in
      let e : c.field ≡ d.field = one_prime L C.rows P.prime Q.prime
      (D.same_characteristic ∙ sym E.same_characteristic) in
      let stored : Stored L c.field i Q.map = subst (λ n. Stored L n i Q.map) (sym e) Q.stored in
      let sent : IsSentTo L c.field i Q.map d.value v =
      subst (λ n. IsSentTo L n i Q.map d.value v) (sym e) Q.image in
      let there : IsSentTo L c.field i P.map d.value v =
      subst (λ m. IsSentTo L c.field i m d.value v) (stored_one stored P.stored) sent in
      let w = C.compatible.within P.stored in
      ap₂ tagged e (embedding_injective (field_at L.rows c.field) (field_at L.rows i)
      (field_finite L C.rows c.field w.0) (field_finite L C.rows i w.1) P.map D c.value d.value
      P.image.value there.value (P.image.image ∙ sym there.image))

  lifts_one : {t : Tagged} {j : ℕ} {x y : Computed} → IsTaggedValue L t → j < length L.rows
      → Lifts L t j x → Lifts L t j y → x ≡ y
  lifts_one T J (not_lifted {fault = e} h) (not_lifted {fault = f} k) =
      let same : answers.Refused e ≡ answers.Refused f = lift_one T J h k in
      let fault : e ≡ f = cc in
      ap (λ z. Err (refusal_of z)) fault
  lifts_one T J (not_lifted {fault = e} h) (lifted {u = u} k) =
      absurd (let same : answers.Refused e ≡ answers.Lifted u = lift_one T J h k in cc)
  lifts_one T J (lifted {u = u} h) (not_lifted {fault = e} k) =
      absurd (let same : answers.Lifted u ≡ answers.Refused e = lift_one T J h k in cc)
  lifts_one T J (lifted {u = u} h) (lifted {u = w} k) =
      let same : answers.Lifted u ≡ answers.Lifted w = lift_one T J h k in
      let both : u ≡ w = cc in
      ap Ok both

  -- **what is computed is one**
  computes_one : {operations : Operations} {variables : Variables} {command : Command}
      {x y : Computed} → AreVariables L variables → Computes operations L variables command x
      → Computes operations L variables command y → x ≡ y
  computes_one {y = y} V (of_let {digits = digits} n r) (of_let m s) = reads_one r
      (subst (λ i. Reads L i digits y) (named_one C.rows m n) s)
  computes_one {y = y} V (of_add {a = a} {b = b} h k c) (of_add {a = d} {b = e} g l m) =
      combines_one (V.values h) (V.values k) c (subst (λ t. Combines L (λ o. o.add) t b y) (holds_one g h)
      (subst (λ t. Combines L (λ o. o.add) d t y) (holds_one l k) m))
  computes_one {y = y} V (of_mul {a = a} {b = b} h k c) (of_mul {a = d} {b = e} g l m) =
      combines_one (V.values h) (V.values k) c (subst (λ t. Combines L (λ o. o.mul) t b y) (holds_one g h)
      (subst (λ t. Combines L (λ o. o.mul) d t y) (holds_one l k) m))
  computes_one {y = y} V (of_inv h i) (of_inv k j) = inverts_one (V.values h) i
      (subst (λ t. Inverts L t y) (holds_one k h) j)
  computes_one V (of_pow {exponent = n} h) (of_pow k) =
      ap (λ t. Ok (tagged t.field (power (field_values (field_at L.rows t.field)).ops t.value n)))
      (holds_one h k)
  computes_one V (of_frob h) (of_frob k) =
      ap (λ t. Ok (tagged t.field (power (field_values (field_at L.rows t.field)).ops t.value
      (field_at L.rows t.field).characteristic))) (holds_one h k)
  computes_one V (of_trace h p) (of_trace {c = d} k q) = ap Ok (prime_one p
      (subst (λ t. IsInPrimeField L t.field (trace (field_at L.rows t.field) t.value) d)
      (holds_one k h) q))
  computes_one V (of_norm h p) (of_norm {c = d} k q) = ap Ok (prime_one p
      (subst (λ t. IsInPrimeField L t.field (norm (field_at L.rows t.field) t.value) d)
      (holds_one k h) q))
  computes_one {y = y} V (of_lift {t = t} {j = j} h n l) (of_lift {t = u} {j = k} g m s) =
      lifts_one (V.values h) n.within l (subst (λ z. Lifts L z j y) (holds_one g h)
      (subst (λ z. Lifts L u z y) (named_one C.rows m n) s))
  computes_one {operations} V (of_apply {op = op} h) (of_apply k) =
      ap (λ t. Ok (tagged t.field (operations op (field_at L.rows t.field) t.value)))
      (holds_one h k)

  -- ---- outcomes
  asked_same : {variables : Variables} {command : Command} {q r : Question} {x y : Answer}
      {o p : Outcome} → AreVariables L variables → Asks L variables command q
      → Answers L q x → Shows L x o → Asks L variables command r → Answers L r y → Shows L y p
      → o ≡ p
  asked_same {q = q} {y = y} {p = p} V a h s b k z =
      let there : Answers L q y = subst (λ w. Answers L w y) (sym (asks_one a b)) k in
      let same = question_has_one_answer L q _ y C (question_fits (Ok q) V (questioned a)).0 h there in
      shows_one s (subst (λ w. Shows L w p) (sym same) z)

  shown_same : {variables : Variables} {command : Command} {v w : List ℕ} {t u : Tagged}
      → command ≡ Show v → Holds variables v t → command ≡ Show w → Holds variables w u
      → outcomes.Val (name_at L t.field) t.value ≡ outcomes.Val (name_at L u.field) u.value
  shown_same {variables} {v = v} {w = w} {u = u} e h f k =
      let both : Show v ≡ Show w = sym e ∙ f in
      let same : v ≡ w = cc in
      ap (λ z. outcomes.Val (name_at L z.field) z.value)
      (holds_one h (subst (λ n. Holds variables n u) (sym same) k))

  module _ {operations : Operations} {variables : Variables} {command : Command}
      (V : AreVariables L variables) where
    no_value : {t : Tagged} {refusal : SessionRefusal} → Computes operations L variables command (Ok t)
        → Computes operations L variables command (Err refusal) → ⊥
    no_value {t} {refusal} c d =
        let same : Ok t ≡ Err refusal = computes_one V c d in cc

    refusal_same : {r s : SessionRefusal} → Computes operations L variables command (Err r)
        → Computes operations L variables command (Err s) → r ≡ s
    refusal_same {r} {s} c d = let both : Err r ≡ Err s = computes_one V c d in cc

    value_same : {t u : Tagged} → Computes operations L variables command (Ok t)
        → Computes operations L variables command (Ok u) → t ≡ u
    value_same {t} {u} c d = let both : Ok t ≡ Ok u = computes_one V c d in cc

    -- **an outcome is one**
    outcome_one : {o p : Outcome} {after also : Variables}
        → HasOutcome operations L variables command o after
        → HasOutcome operations L variables command p also → (o ≡ p) × (after ≡ also)
    outcome_one (unknown_variable h) (unknown_variable h2) =
        (ap (λ n. outcomes.Refused (UnknownVariable n)) (first_one h h2), refl)
    outcome_one (unknown_variable h) (unknown_field known2 h2) = absurd (first_of_known h known2)
    outcome_one (unknown_variable h) (asked a2 h2 s2) = absurd (first_of_known h (asks_knows a2).0)
    outcome_one (unknown_variable h) (shown e2 h2) = absurd (first_of_known h (show_knows L e2 h2).0)
    outcome_one (unknown_variable h) (refused c2) = absurd (first_of_known h (computes_knows c2).0)
    outcome_one (unknown_variable h) (full c2 m2 f2) = absurd (first_of_known h (computes_knows c2).0)
    outcome_one (unknown_variable h) (stored c2 m2 f2) = absurd (first_of_known h (computes_knows c2).0)
    outcome_one (unknown_field known h) (unknown_variable h2) = absurd (first_of_known h2 known)
    outcome_one (unknown_field known h) (unknown_field known2 h2) =
        (ap (λ n. outcomes.Refused (UnknownField n)) (first_one h h2), refl)
    outcome_one (unknown_field known h) (asked a2 h2 s2) =
        absurd (first_of_known h (asks_knows a2).1)
    outcome_one (unknown_field known h) (shown e2 h2) =
        absurd (first_of_known h (show_knows L e2 h2).1)
    outcome_one (unknown_field known h) (refused c2) =
        absurd (first_of_known h (computes_knows c2).1)
    outcome_one (unknown_field known h) (full c2 m2 f2) =
        absurd (first_of_known h (computes_knows c2).1)
    outcome_one (unknown_field known h) (stored c2 m2 f2) =
        absurd (first_of_known h (computes_knows c2).1)
    outcome_one (asked a h s) (unknown_variable h2) = absurd (first_of_known h2 (asks_knows a).0)
    outcome_one (asked a h s) (unknown_field known2 h2) = absurd (first_of_known h2 (asks_knows a).1)
    outcome_one (asked a h s) (asked a2 h2 s2) = (asked_same V a h s a2 h2 s2, refl)
    outcome_one (asked a h s) (shown e2 h2) = absurd (asks_no_show a (show_is e2))
    outcome_one (asked a h s) (refused c2) = absurd (asks_no_value a c2)
    outcome_one (asked a h s) (full c2 m2 f2) = absurd (asks_no_value a c2)
    outcome_one (asked a h s) (stored c2 m2 f2) = absurd (asks_no_value a c2)
    outcome_one (shown e h) (unknown_variable h2) = absurd (first_of_known h2 (show_knows L e h).0)
    outcome_one (shown e h) (unknown_field known2 h2) = absurd (first_of_known h2 (show_knows L e h).1)
    outcome_one (shown e h) (asked a2 h2 s2) = absurd (asks_no_show a2 (show_is e))
    outcome_one (shown e h) (shown e2 h2) = (shown_same e h e2 h2, refl)
    outcome_one (shown e h) (refused c2) = absurd (show_no_value e c2)
    outcome_one (shown e h) (full c2 m2 f2) = absurd (show_no_value e c2)
    outcome_one (shown e h) (stored c2 m2 f2) = absurd (show_no_value e c2)
    outcome_one (refused c) (unknown_variable h2) = absurd (first_of_known h2 (computes_knows c).0)
    outcome_one (refused c) (unknown_field known2 h2) =
        absurd (first_of_known h2 (computes_knows c).1)
    outcome_one (refused c) (asked a2 h2 s2) = absurd (asks_no_value a2 c)
    outcome_one (refused c) (shown e2 h2) = absurd (show_no_value e2 c)
    outcome_one (refused c) (refused c2) = (ap outcomes.Refused (refusal_same c c2), refl)
    outcome_one (refused c) (full c2 m2 f2) = absurd (no_value c2 c)
    outcome_one (refused c) (stored c2 m2 f2) = absurd (no_value c2 c)
    outcome_one (full c m f) (unknown_variable h2) = absurd (first_of_known h2 (computes_knows c).0)
    outcome_one (full c m f) (unknown_field known2 h2) =
        absurd (first_of_known h2 (computes_knows c).1)
    outcome_one (full c m f) (asked a2 h2 s2) = absurd (asks_no_value a2 c)
    outcome_one (full c m f) (shown e2 h2) = absurd (show_no_value e2 c)
    outcome_one (full c m f) (refused c2) = absurd (no_value c c2)
    outcome_one (full c m f) (full c2 m2 f2) = (refl, refl)
    outcome_one (full c m f) (stored c2 m2 f2) =
        absurd (f2 (subst (IsFullFor variables) (some_same m m2) f))
    outcome_one (stored c m f) (unknown_variable h2) = absurd (first_of_known h2 (computes_knows c).0)
    outcome_one (stored c m f) (unknown_field known2 h2) =
        absurd (first_of_known h2 (computes_knows c).1)
    outcome_one (stored c m f) (asked a2 h2 s2) = absurd (asks_no_value a2 c)
    outcome_one (stored c m f) (shown e2 h2) = absurd (show_no_value e2 c)
    outcome_one (stored c m f) (refused c2) = absurd (no_value c c2)
    outcome_one (stored c m f) (full c2 m2 f2) =
        absurd (f (subst (IsFullFor variables) (some_same m2 m) f2))
    outcome_one (stored c m f) (stored c2 m2 f2) = (
      ap (λ u. outcomes.Val (name_at L u.field) u.value) (value_same c c2),
      ap₂ (insert variables) (some_same m m2) (value_same c c2),
    )

-- **a command has only one outcome**
pub command_has_one_outcome : CommandHasOneOutcome
command_has_one_outcome operations L variables command outcome other after also C V h k =
    outcome_one C V h k
