-- Values in other fields, and what is computed there.
use Rattle.std.proofs.Common.{◌≡◌, ℕ, zero, suc, ◌<◌, List, [], ◌∷◌, length, slice_index_or, refl, sym, ap, ◌∙◌, subst, arith}
use Rattle.std.specs.Prelude.{Ok, Err, slice_index}
use Rattle.alg_model.specs.Coefficients.{Ops}
use Rattle.alg_model.specs.Maps.{Field, IsFiniteField, field_values, apply, constant, IsEmbedding}
use Rattle.alg_model.specs.Conjugates.{trace, norm}
use Rattle.alg_model.specs.Lattices.{Lattice, field_at, IsCompatible}
use Rattle.alg_galois.proofs.Fields.{modulus_of, of_residue}
use Rattle.alg_galois.proofs.FieldEmbeddings.{function_homomorphism, keeps_constants}
use Rattle.alg_galois.proofs.Embeddings.{of_two_fields}
use Rattle.lat_core.specs.declared.tagged.Tagged.{Tagged}
use Rattle.lat_core.specs.declared.questions.Answer.TheVariants.{Is, Lifted}
use Rattle.lat_core.specs.declared.outcomes.SessionRefusal.{SessionRefusal}
use Rattle.lat_core.specs.declared.outcomes.SessionRefusal.TheVariants.{UnknownField, UnknownVariable}
use Rattle.lat_core.specs.Histories.{Knowledge}
use Rattle.lat_core.specs.Step.{IsNamed}
use Rattle.lat_core.specs.Answers.{IsTaggedValue, IsStoredPair, IsCommon, LiftsTo, HasCommon, IsSubfields}
use Rattle.lat_core.specs.Answers.LiftsTo.{up, down, not_in_image, not_embedded}
use Rattle.lat_core.specs.Answers.HasCommon.{first, second, other}
use Rattle.lat_session.specs.declared.pairs.Pair.{Pair}
use Rattle.lat_language.specs.declared.commands.Command.TheVariants.{Add, Mul, Lift, Trace, Norm}
use Rattle.lat_session.specs.Variables.{Variables, Holds, IsVariable, AreVariables}
use Rattle.lat_session.specs.Outcomes.{IsFieldWord, tagged, Computed, Combines, IsInPrimeField, Lifts, Operations}
use Rattle.lat_session.specs.Outcomes.IsFirstUnknown.{here, later}
use Rattle.lat_session.specs.Outcomes.Combines.{no_common_field, value as combined}
use Rattle.lat_session.specs.Outcomes.Lifts.{not_lifted, value as lifted}
use Rattle.lat_session.specs.Outcomes.Computes.{of_add, of_mul, of_trace, of_norm, of_lift}
use Rattle.lat_session.specs.PrivatePlaying.{OverSeen, Results, ComesTo}
use Rattle.lat_session.specs.PrivatePlaying.IsUnknown.{variable, field as unknown_word}
use Rattle.lat_session.specs.PrivatePlaying.Results.{unknown as unknown_name, computed}
use Rattle.lat_session.specs.PrivateCombining.{IsCommonField, LiftsBoth, IsPrimeFieldOf}
use Rattle.lat_session.specs.PrivateCombining.IsCommonField.{field, none}
use Rattle.lat_session.specs.PrivateCombining.LiftsBoth.{unknown, apart, both}
use Rattle.lat_session.proofs.FittingValues.{lift_value}

-- ---- what is known of a common field and of a lift
pub common_pairs : {L : Lattice} {a b g : ℕ} → HasCommon L a b (Is g) → IsCommon L a b g
common_pairs (first h) = h.common
common_pairs (second absent h) = h.common
common_pairs (other absent nor h least) = h.common

pub common_is : {L : Lattice} {a b g : ℕ} → IsCommonField L a b (Ok g) → HasCommon L a b (Is g)
common_is (field h) = h

lifts_is : {L : Lattice} {t u : Tagged} {j : ℕ} → Lifts L t j (Ok u) → LiftsTo L t j (Lifted u)
lifts_is (lifted l) = l

-- a lift up is never refused
pub not_refused : {L : Lattice} {t : Tagged} {j : ℕ} {refusal : SessionRefusal}
    → IsStoredPair L t.field j → Lifts L t j (Err refusal) → ⊥
not_refused p (not_lifted (not_in_image absent s h)) = absent p
not_refused p (not_lifted (not_embedded absent nor)) = absent p

-- what is lifted is tagged with the field
lifted_field : {L : Lattice} {t u : Tagged} {j : ℕ} → LiftsTo L t j (Lifted u) → u.field ≡ j
lifted_field (up s) = refl
lifted_field (down absent s h) = refl

-- ---- two values in their common field
pub first_unlifted : (L : Lattice) (variables : Variables) (left right : List ℕ)
    (refusal : SessionRefusal) → (refusal ≡ UnknownVariable left) × (¬ IsVariable variables left)
    → LiftsBoth L variables left right (Err refusal)
first_unlifted L variables left right refusal (e, n) =
    subst (λ r. LiftsBoth L variables left right (Err r)) (sym e) (unknown (here n))

pub second_unlifted : (L : Lattice) (variables : Variables) (left right : List ℕ)
    (refusal : SessionRefusal) (a : Tagged) → Holds variables left a
    → (refusal ≡ UnknownVariable right) × (¬ IsVariable variables right)
    → LiftsBoth L variables left right (Err refusal)
second_unlifted L variables left right refusal a h (e, n) =
    subst (λ r. LiftsBoth L variables left right (Err r)) (sym e) (unknown (later (a, h) (here n)))

pub lifts_apart : {L : Lattice} {variables : Variables} {left right : List ℕ} {a b : Tagged}
    {refusal : SessionRefusal} → Holds variables left a → Holds variables right b
    → IsCommonField L a.field b.field (Err refusal) → LiftsBoth L variables left right (Err refusal)
lifts_apart h k (none c) = apart h k c

pub lifts_both : {L : Lattice} {variables : Variables} {left right : List ℕ} {a b u w : Tagged}
    {g : ℕ} → Holds variables left a → Holds variables right b
    → IsCommonField L a.field b.field (Ok g) → Lifts L a g (Ok u) → Lifts L b g (Ok w)
    → LiftsBoth L variables left right (Ok (record { first = u; second = w }))
lifts_both {L} {a = a} {b = b} {u = u} {w = w} {g = g} h k (field c) (lifted l) (lifted r) =
    let e : g ≡ u.field = sym (lifted_field l) in
    both h k (subst (λ f. HasCommon L a.field b.field (Is f)) e c)
    (subst (λ f. LiftsTo L a f (Lifted u)) e l) (subst (λ f. LiftsTo L b f (Lifted w)) e r)

-- they are values of one field
pub both_values : {L : Lattice} {variables : Variables} {left right : List ℕ} {pair : Pair}
    → IsCompatible L → AreVariables L variables → LiftsBoth L variables left right (Ok pair)
    → IsTaggedValue L pair.first
    × (field_values (field_at L.rows pair.first.field)).Valid pair.second.value
both_values {L} {pair = pair} C V (both h k c l r) = (
  lift_value C (V.values h) l,
  subst (λ f. (field_values (field_at L.rows f)).Valid pair.second.value) (lifted_field r) (lift_value C (V.values k) r).value,
)

-- why there is no sum and no product
pub no_sum : {operations : Operations} {L : Lattice} {variables : Variables}
    {name left right : List ℕ} {refusal : SessionRefusal}
    → LiftsBoth L variables left right (Err refusal)
    → Results operations L variables (Add name left right) (Err refusal)
no_sum (unknown h) = unknown_name (variable h)
no_sum (apart h k c) = computed (of_add h k (no_common_field c))

pub no_product : {operations : Operations} {L : Lattice} {variables : Variables}
    {name left right : List ℕ} {refusal : SessionRefusal}
    → LiftsBoth L variables left right (Err refusal)
    → Results operations L variables (Mul name left right) (Err refusal)
no_product (unknown h) = unknown_name (variable h)
no_product (apart h k c) = computed (of_mul h k (no_common_field c))

-- the operation on both
combines : {L : Lattice} {a b : Tagged} (operation : Ops (List ℕ) → List ℕ → List ℕ → List ℕ)
    (pair : Pair) (K : Field) (v : List ℕ) → HasCommon L a.field b.field (Is pair.first.field)
    → LiftsTo L a pair.first.field (Lifted pair.first)
    → LiftsTo L b pair.first.field (Lifted pair.second) → K ≡ field_at L.rows pair.first.field
    → v ≡ operation (field_values K).ops pair.first.value pair.second.value
    → Combines L operation a b (Ok (tagged pair.first.field v))
combines {L} {a} {b} operation pair K v c l r is made =
    let second_is : LiftsTo L b pair.first.field (Lifted (tagged pair.first.field pair.second.value))
    = subst (λ u. LiftsTo L b pair.first.field (Lifted u)) (λ i. tagged (lifted_field r i) pair.second.value) r in
    subst (λ w. Combines L operation a b (Ok (tagged pair.first.field w)))
    (sym (made ∙ ap (λ G. operation (field_values G).ops pair.first.value pair.second.value) is))
    (combined c l second_is)

pub is_sum : {operations : Operations} {L : Lattice} {variables : Variables}
    {name left right : List ℕ} (pair : Pair) (K : Field) (v : List ℕ)
    → LiftsBoth L variables left right (Ok pair) → K ≡ field_at L.rows pair.first.field
    → v ≡ (field_values K).ops.add pair.first.value pair.second.value
    → Results operations L variables (Add name left right) (Ok (tagged pair.first.field v))
is_sum pair K v (both h k c l r) is made = computed (of_add h k (combines (λ o. o.add) pair K v c l r is made))

pub is_product : {operations : Operations} {L : Lattice} {variables : Variables}
    {name left right : List ℕ} (pair : Pair) (K : Field) (v : List ℕ)
    → LiftsBoth L variables left right (Ok pair) → K ≡ field_at L.rows pair.first.field
    → v ≡ (field_values K).ops.mul pair.first.value pair.second.value
    → Results operations L variables (Mul name left right) (Ok (tagged pair.first.field v))
is_product pair K v (both h k c l r) is made = computed (of_mul h k (combines (λ o. o.mul) pair K v c l r is made))

-- ---- a lift
pub lifts_nowhere : (k : Knowledge) (variables : Variables) (value to : List ℕ)
    (refusal : SessionRefusal) (t : Tagged) → Holds variables value t
    → OverSeen k (λ L. (refusal ≡ UnknownField to) × (¬ IsFieldWord L to))
    → ComesTo k variables (λ name. Lift name value to) (Err refusal)
lifts_nowhere k variables value to refusal t held h = λ operations name L s.
    let (e, n) = h L s in
    subst (λ r. Results operations L variables (Lift name value to) (Err r)) (sym e)
    (unknown_name (unknown_word ((t, held), tt) (here n)))

pub lifts_somewhere : (k : Knowledge) (variables : Variables) (value to : List ℕ) (t : Tagged)
    (n : ℕ) (result : Computed) → Holds variables value t → OverSeen k (λ L. IsNamed L n to)
    → OverSeen k (λ L. Lifts L t n result)
    → ComesTo k variables (λ name. Lift name value to) result
lifts_somewhere k variables value to t n result held named h = λ operations name L s.
    computed (of_lift held (named L s) (h L s))

-- ---- the prime field
-- the first of the stored subfields
pub first_subfield : {L : Lattice} → IsCompatible L → (i : ℕ) → i < length L.rows → (ns : List ℕ)
    → IsSubfields L i ns → (0 < length ns) × IsPrimeFieldOf L i (slice_index ns 0)
first_subfield {L} C i h [] S =
    let (q, m, small, s) = C.compatible.prime_subfield i h in
    let (k, within, at) = (S.exactly q).1 (m, s) in
    absurd (omega (arith, within))
first_subfield {L} C i h (x ∷ xs) S =
    let (q, m, small, s) = C.compatible.prime_subfield i h in
    let (k, within, at) = (S.exactly q).1 (m, s) in
    let (n, there) = (S.exactly x).0 (0, omega arith, refl) in
    (omega arith, record { prime = not_after k q within at small; map = n; stored = there })
  where
    not_after : (k q : ℕ) → k < length (x ∷ xs) → slice_index_or (x ∷ xs) k q ≡ q
        → q < length L.edition.primes → x < length L.edition.primes
    not_after zero q within at small = omega (arith, at, small)
    not_after (suc k) q within at small =
        let below : x < slice_index_or (x ∷ xs) (suc k) q = S.rising 0 (suc k) q (omega arith) within in
        omega (arith, below, at, small)

-- an embedding keeps constants
constant_kept : (E F : Field) → IsFiniteField E → IsFiniteField F → (m : List (List ℕ))
    → IsEmbedding E F m → (c : ℕ) → c < E.characteristic → apply F m (constant E c) ≡ constant F c
constant_kept E F V W m D = of_two_fields
    (λ E F. IsEmbedding E F m → (c : ℕ) → c < E.characteristic
    → apply F m (constant E c) ≡ constant F c)
    (λ p h f M g N D c l. ap (λ y. y.0) (keeps_constants p h f M g N (function_homomorphism p h f M g N m D) (c, l)))
    E F V W D.same_characteristic D

-- a residue as a value of the prime field
pub residue_in_prime : {L : Lattice} {i q : ℕ} {v : List ℕ} → IsCompatible L → IsPrimeFieldOf L i q
    → (c : ℕ) → c < (field_at L.rows i).characteristic → constant (field_at L.rows i) c ≡ v
    → IsInPrimeField L i v (tagged q (constant (field_at L.rows q) c))
residue_in_prime {L} {i} {q} C P c small e =
    let D = C.compatible.embedding P.stored in
    let there = C.compatible.within P.stored in
    let V = (C.rows.row q there.0).field in
    let below : c < (field_at L.rows q).characteristic = subst (λ p. c < p) (sym D.same_characteristic) small in
    record {
      prime = P.prime;
      map = P.map;
      stored = P.stored;
      image = record {
        value = (of_residue (field_at L.rows q).characteristic V.characteristic (field_at L.rows q).polynomial
            (modulus_of (field_at L.rows q) V) (c, below)).1;
        image = constant_kept (field_at L.rows q) (field_at L.rows i) V (C.rows.row i there.1).field P.map D c below ∙ e;
      };
    }

-- the residue is below the characteristic of the prime field
pub residue_fits : {L : Lattice} {i q : ℕ} (K E : Field) → IsCompatible L → IsPrimeFieldOf L i q
    → K ≡ field_at L.rows i → E ≡ field_at L.rows q → (c : ℕ) → c < K.characteristic
    → c < E.characteristic
residue_fits K E C P is was c small = subst (λ p. c < p)
    (ap (λ G. G.characteristic) is ∙ sym (C.compatible.embedding P.stored).same_characteristic
    ∙ sym (ap (λ G. G.characteristic) was)) small

pub in_prime_field : {L : Lattice} {i q : ℕ} (K E : Field) (image : Field → List ℕ) (c : ℕ)
    (w : List ℕ) → IsCompatible L → IsPrimeFieldOf L i q → K ≡ field_at L.rows i
    → E ≡ field_at L.rows q → c < K.characteristic → constant K c ≡ image K → w ≡ constant E c
    → IsInPrimeField L i (image (field_at L.rows i)) (tagged q w)
in_prime_field {L} {i} {q} K E image c w C P is was small e made =
    subst (λ u. IsInPrimeField L i (image (field_at L.rows i)) (tagged q u)) (sym (made ∙ ap (λ G. constant G c) was))
    (residue_in_prime C P c (subst (λ G. c < G.characteristic) is small)
    (subst (λ G. constant G c ≡ image G) is e))

pub comes_trace : (k : Knowledge) (variables : Variables) (value : List ℕ) (t : Tagged)
    (c : Tagged) → Holds variables value t
    → OverSeen k (λ L. IsInPrimeField L t.field (trace (field_at L.rows t.field) t.value) c)
    → ComesTo k variables (λ name. Trace name value) (Ok c)
comes_trace k variables value t c h p = λ operations name L s. computed (of_trace h (p L s))

pub comes_norm : (k : Knowledge) (variables : Variables) (value : List ℕ) (t : Tagged)
    (c : Tagged) → Holds variables value t
    → OverSeen k (λ L. IsInPrimeField L t.field (norm (field_at L.rows t.field) t.value) c)
    → ComesTo k variables (λ name. Norm name value) (Ok c)
comes_norm k variables value t c h p = λ operations name L s. computed (of_norm h (p L s))
