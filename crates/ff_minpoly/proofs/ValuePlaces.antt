-- Places of values: of the value of a polynomial, and of a product with a combination of values.
use Rattle.std.proofs.Common.{◌≡◌, ℕ, suc, ◌+◌, ◌*◌, ◌%◌, ◌<◌, List, [], ◌∷◌, length, slice_index, slice_index_or, All, ap, ap₂, sym, ◌∙◌, subst, arith}
use Rattle.std.proofs.lemmas.List.Elements.{All-head, All-tail}
use native.Mathlib.Nat.{mod-mod, add-zero, add-mod-mod, zero-mod}
use Rattle.alg_model.specs.Coefficients.{Ops, mod_ops, power}
use Rattle.alg_model.specs.Polynomials.{evaluate, scale}
use Rattle.alg_model.specs.Matrices.{combination}
use Rattle.alg_model.specs.Fields.{IsRing}
use Rattle.alg_model.specs.Maps.{Field, IsFiniteField, field_values, degree_of, constant}
use Rattle.alg_rings.specs.Laws.{IsPropositional}
use Rattle.alg_rings.proofs.Rings
use Rattle.alg_rings.proofs.Elements.{element_laws}
use Rattle.alg_rings.proofs.ResidueFields.{prime_residues_field, residues_propositional}
use Rattle.alg_rings.proofs.Validity.{power_valid, value_at_valid}
use Rattle.alg_fields.proofs.ListRemainders.{zeros_at}
use Rattle.alg_fields.proofs.OverResidues.{field_at_values}
use Rattle.alg_fields.proofs.ValueFields.{values_propositional}
use Rattle.alg_finite.proofs.Values
use Rattle.alg_galois.proofs.Fields.{modulus_of, modulus, of_residue}
use Rattle.ff_residues.specs.SumRows.{sum_below}
use Rattle.ff_residues.proofs.SumsBelow.{add_agree, sum_same, sum_first}
use Rattle.ff_field.proofs.RemainderRows.{sum_at_both, scale_at}

module _ (F : Field) (W : IsFiniteField F) where
  abbrev o : Ops (List ℕ)
  o = (field_values F).ops

  abbrev p : ℕ
  p = F.characteristic

  -- values are equal in one way, and a ring
  pub propositional : IsPropositional (field_values F)
  propositional = values_propositional (residues_propositional F.characteristic) F.polynomial

  pub ring : IsRing (field_values F)
  ring = (field_at_values F.characteristic W.characteristic F.polynomial W.monic W.irreducible).ring

  zero_times : (v : List ℕ) → (field_values F).Valid v
      → (field_values F).ops.mul (field_values F).ops.zero v ≡ (field_values F).ops.zero
  zero_times v vv = ap (λ y. y.0) (Rings.zero_mul (element_laws propositional ring) (v, vv))

  -- a constant is a value
  pub constant_valid : (x : ℕ) → x < F.characteristic → (field_values F).Valid (constant F x)
  constant_valid x l =
      (of_residue F.characteristic W.characteristic F.polynomial (modulus_of F W) (x, l)).1

  -- and takes multiples
  pub scaled : (x : ℕ) → x < F.characteristic → (v : List ℕ) → (field_values F).Valid v
      → (field_values F).ops.mul (constant F x) v ≡ scale (mod_ops F.characteristic) x v
  scaled x l v vv =
      Values.constant_times (residues_propositional p) (prime_residues_field p W.characteristic)
      (modulus p W.characteristic F.polynomial (modulus_of F W)) W.irreducible.not_constant W.monic
      (x, l) (v, vv)

  scale_valid : (x : ℕ) → x < F.characteristic → (v : List ℕ) → (field_values F).Valid v
      → (field_values F).Valid (scale (mod_ops F.characteristic) x v)
  scale_valid x l v vv = subst (field_values F).Valid (scaled x l v vv)
      (ring.mul_valid (constant F x) v (constant_valid x l) vv)

  scaled_product : (x : ℕ) → x < F.characteristic → (v w : List ℕ)
      → (field_values F).Valid v → (field_values F).Valid w
      → (field_values F).ops.mul (scale (mod_ops F.characteristic) x v) w
      ≡ scale (mod_ops F.characteristic) x ((field_values F).ops.mul v w)
  scaled_product x l v w vv vw =
      ap (λ u. o.mul u w) (sym (scaled x l v vv))
      ∙ ring.mul_assoc (constant F x) v w (constant_valid x l) vv vw
      ∙ scaled x l (o.mul v w) (ring.mul_valid v w vv vw)

  -- a sum, place by place
  pub sum_place : (v w : List ℕ) → (field_values F).Valid v → (field_values F).Valid w → (k : ℕ)
      → k < degree_of F → slice_index ((field_values F).ops.add v w) k
      ≡ (slice_index v k + slice_index w k) % F.characteristic
  sum_place v w vv vw k l = sum_at_both p v w k (omega (arith, vv.1)) (omega (arith, vw.1))

  -- a product with a sum
  add_times : (u v w : List ℕ) → (field_values F).Valid u → (field_values F).Valid v
      → (field_values F).Valid w → (field_values F).ops.mul ((field_values F).ops.add u v) w
      ≡ (field_values F).ops.add ((field_values F).ops.mul u w) ((field_values F).ops.mul v w)
  add_times u v w vu vv vw =
      ring.mul_comm (o.add u v) w (ring.add_valid u v vu vv) vw ∙ ring.mul_add w u v vw vu vv
      ∙ ap₂ o.add (ring.mul_comm w u vw vu) (ring.mul_comm w v vw vv)

  -- ---- the value of a polynomial
  module _ (a : List ℕ) (va : (field_values F).Valid a) where
    pow_valid : (j : ℕ) → (field_values F).Valid (power (field_values F).ops a j)
    pow_valid j = power_valid ring a j va

    -- times a power of a
    value_from : (ws : List (List ℕ)) → All (field_values F).Valid ws → (s k : ℕ)
        → k < degree_of F
        → slice_index ((field_values F).ops.mul (evaluate (field_values F).ops ws a)
        (power (field_values F).ops a s)) k
        ≡ sum_below (length ws) (λ j. slice_index ((field_values F).ops.mul (slice_index_or ws j [])
        (power (field_values F).ops a (s + j))) k) % F.characteristic
    value_from [] vs s k l = ap (λ v. slice_index v k) (zero_times (power o a s) (pow_valid s))
        ∙ zeros_at 0 (degree_of F) k ∙ sym (zero-mod p)
    value_from (w ∷ ws) vs s k l =
        let vw = All-head (field_values F).Valid w ws vs in
        let vt = All-tail (field_values F).Valid w ws vs in
        let e = evaluate o ws a in
        let ve = value_at_valid ring ws a vt va in
        let pw = power o a s in
        let f : ℕ → ℕ = λ j. slice_index (o.mul (slice_index_or (w ∷ ws) j []) (power o a (s + j))) k in
        let rest : ℕ → ℕ = λ j. slice_index (o.mul (slice_index_or ws j []) (power o a (suc s + j))) k in
        let first : s + 0 ≡ s = add-zero s in
        ap (λ v. slice_index v k)
        (add_times w (o.mul a e) pw vw (ring.mul_valid a e va ve) (pow_valid s)
        ∙ ap (o.add (o.mul w pw))
        (ap (λ u. o.mul u pw) (ring.mul_comm a e va ve) ∙ ring.mul_assoc e a pw ve va (pow_valid s)
        ∙ ap (o.mul e) (ring.mul_comm a pw va (pow_valid s))))
        ∙ sum_place (o.mul w pw) (o.mul e (power o a (suc s))) (ring.mul_valid w pw vw (pow_valid s))
        (ring.mul_valid e (power o a (suc s)) ve (pow_valid (suc s))) k l
        ∙ ap (λ y. (slice_index (o.mul w pw) k + y) % p) (value_from ws vt (suc s) k l)
        ∙ add-mod-mod (slice_index (o.mul w pw) k) (sum_below (length ws) rest) p
        ∙ ap (λ y. y % p) (ap₂ ◌+◌ (ap (λ q. slice_index (o.mul w (power o a q)) k) (sym first))
        (sum_same (length ws) rest (λ j. f (suc j))
        (λ j lj. let e : suc s + j ≡ s + suc j = omega arith in
        ap (λ q. slice_index (o.mul (slice_index_or ws j []) (power o a q)) k) e))
        ∙ sym (sum_first (length ws) f))

    -- **place k of the value at a**
    pub value_place : (ws : List (List ℕ)) → All (field_values F).Valid ws → (k : ℕ)
        → k < degree_of F → slice_index (evaluate (field_values F).ops ws a) k
        ≡ sum_below (length ws) (λ j. slice_index ((field_values F).ops.mul (slice_index_or ws j [])
        (power (field_values F).ops a j)) k) % F.characteristic
    value_place ws vs k l =
        let e = evaluate o ws a in
        let ve = value_at_valid ring ws a vs va in
        ap (λ v. slice_index v k)
        (sym (ring.mul_comm e o.one ve ring.one_valid ∙ ring.one_mul e ve))
        ∙ value_from ws vs 0 k l
        ∙ ap (λ y. y % p) (sum_same (length ws)
        (λ j. slice_index (o.mul (slice_index_or ws j []) (power o a (0 + j))) k)
        (λ j. slice_index (o.mul (slice_index_or ws j []) (power o a j)) k)
        (λ j lj. let e : 0 + j ≡ j = omega arith in
        ap (λ q. slice_index (o.mul (slice_index_or ws j []) (power o a q)) k) e))

  -- ---- a combination of values
  pub combination_valid : (cs : List (List ℕ)) (xs : List ℕ) → All (field_values F).Valid cs
      → All (λ x. x < F.characteristic) xs
      → (field_values F).Valid (combination (mod_ops F.characteristic) (degree_of F) cs xs)
  combination_valid [] xs vs vx = ring.zero_valid
  combination_valid (c ∷ cs) [] vs vx = ring.zero_valid
  combination_valid (c ∷ cs) (x ∷ xs) vs vx =
      ring.add_valid (scale (mod_ops p) x c) (combination (mod_ops p) (degree_of F) cs xs)
      (scale_valid x (All-head (λ x. x < p) x xs vx) c (All-head (field_values F).Valid c cs vs))
      (combination_valid cs xs (All-tail (field_values F).Valid c cs vs) (All-tail (λ x. x < p) x xs vx))

  -- **place k of its product with a value**
  pub combination_times : (cs : List (List ℕ)) (xs : List ℕ) → All (field_values F).Valid cs
      → All (λ x. x < F.characteristic) xs → length xs ≡ length cs → (w : List ℕ)
      → (field_values F).Valid w → (k : ℕ) → k < degree_of F
      → slice_index ((field_values F).ops.mul
      (combination (mod_ops F.characteristic) (degree_of F) cs xs) w) k % F.characteristic
      ≡ sum_below (length cs) (λ i. slice_index xs i
      * slice_index ((field_values F).ops.mul (slice_index_or cs i []) w) k) % F.characteristic
  combination_times [] xs vs vx e w vw k l =
      ap (λ v. slice_index v k % p) (zero_times w vw)
      ∙ ap (λ y. y % p) (zeros_at 0 (degree_of F) k)
  combination_times (c ∷ cs) [] vs vx e w vw k l = absurd (omega arith)
  combination_times (c ∷ cs) (x ∷ xs) vs vx e w vw k l =
      let vc = All-head (field_values F).Valid c cs vs in
      let vt = All-tail (field_values F).Valid c cs vs in
      let lx = All-head (λ x. x < p) x xs vx in
      let lt = All-tail (λ x. x < p) x xs vx in
      let rest = combination (mod_ops p) (degree_of F) cs xs in
      let vr = combination_valid cs xs vt lt in
      let vm = scale_valid x lx c vc in
      let f : ℕ → ℕ = λ i. slice_index (x ∷ xs) i * slice_index (o.mul (slice_index_or (c ∷ cs) i []) w) k in
      let s = scale (mod_ops p) x (o.mul c w) in
      ap (λ v. slice_index v k % p) (add_times (scale (mod_ops p) x c) rest w vm vr vw
      ∙ ap (λ v. o.add v (o.mul rest w)) (scaled_product x lx c w vc vw))
      ∙ ap (λ y. y % p) (sum_place s (o.mul rest w) (scale_valid x lx (o.mul c w) (ring.mul_valid c w vc vw))
      (ring.mul_valid rest w vr vw) k l)
      ∙ mod-mod (slice_index s k + slice_index (o.mul rest w) k) p
      ∙ add_agree p (slice_index s k) (slice_index (o.mul rest w) k) (x * slice_index (o.mul c w) k)
      (sum_below (length cs) (λ i. f (suc i)))
      (ap (λ y. y % p) (scale_at p x (o.mul c w) k) ∙ mod-mod (x * slice_index (o.mul c w) k) p)
      (combination_times cs xs vt lt (omega arith) w vw k l)
      ∙ ap (λ y. y % p) (sym (sum_first (length cs) f))
