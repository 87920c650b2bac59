use Rattle.std.proofs.Common.{◌≡◌, ℕ, ◌+◌, ◌%◌, ◌<◌, slice_index, All, ap, ap₂, sym, ◌∙◌, subst, arith}
use native.Mathlib.Nat.{zero-add, one-mul, mod-mod}
use Rattle.alg_model.specs.Coefficients.{mod_ops, residues, IsCharacteristic}
use Rattle.alg_model.specs.Polynomials.{sum, poly_sum}
use Rattle.alg_model.specs.Factors.{IsPolynomial}
use Rattle.alg_rings.proofs.Residues.{residues_ring}
use Rattle.alg_rings.proofs.ResidueFields.{residues_propositional}
use Rattle.alg_rings.proofs.CarrierPolynomials.{sum_at}
use Rattle.ff_poly.proofs.ListPlaces.{cut_at, residue_sum_past}
use Rattle.ff_residues.proofs.Characteristics.{characteristic_small}
use Rattle.ff_poly.proofs.polynomials.Poly.add.Goals as goal

pub add_multiple-requires-clause-places : goal.add_multiple-requires-clause-places
add_multiple-requires-clause-places c =
    let p = c.args.self.now.prime in
    let whole = c.prime-p.ensures.whole in
    let above : 0 < p = let h = characteristic_small p whole.characteristic in omega (arith, h.0) in
    subst (λ n. All (λ x. x < n) c.places_of-places.result) (sym c.prime-p.ensures.value)
    (c.places_of-places.ensures.residues p above (subst (λ xs. All (λ x. x < p) xs) (sym c.coefficients-first.ensures.value) whole.polynomial.0))

pub returns-clause-sum : goal.returns-clause-sum
returns-clause-sum c =
    let p = c.args.self.now.prime in
    let n = c.prime-p.result in
    let f = c.coefficients-first.result.now in
    let g = c.coefficients-second.result.now in
    let same : p ≡ n = sym c.prime-p.ensures.value in
    let above : 1 < n = (characteristic_small n (subst (λ m. IsCharacteristic m) same c.prime-p.ensures.whole.characteristic)).0 in
    let first : IsPolynomial (residues n) f =
    subst (λ m. IsPolynomial (residues m) f) same (subst (IsPolynomial (residues p)) (sym c.coefficients-first.ensures.value) c.prime-p.ensures.whole.polynomial) in
    let second : IsPolynomial (residues n) g =
    subst (λ m. IsPolynomial (residues m) g) (sym c.requires ∙ same)
    (subst (IsPolynomial (residues c.args.b.now.prime)) (sym c.coefficients-second.ensures.value) c.coefficients-second.ensures.whole.polynomial) in
    let places : (k : ℕ) → slice_index c.add_multiple.new.places k ≡ (slice_index f k + slice_index g k) % n = λ k.
    ap (slice_index c.add_multiple.new.places) (sym (zero-add k)) ∙ c.add_multiple.ensures.above k
    ∙ ap₂ (λ v w. (v + w) % n) (ap (slice_index c.places_of-places.result) (zero-add k) ∙ c.places_of-places.ensures.places k) (one-mul (slice_index g k)) in
    c.poly_of_places.ensures.coefficients (sum (mod_ops n) f g)
    (cut_at n c.max-len.result (sum (mod_ops n) f g) c.add_multiple.new.places
    (λ k. ap (λ w. w % n) (places k) ∙ mod-mod (slice_index f k + slice_index g k) n ∙ sym (sum_at (residues_propositional n) (residues_ring n above) f g k first.0 second.0))
    (λ k h. residue_sum_past n f g k (omega arith) (omega arith)))
    ∙ ap₂ (poly_sum (mod_ops n)) c.coefficients-first.ensures.value c.coefficients-second.ensures.value
    ∙ ap (λ m. poly_sum (mod_ops m) c.args.self.now.coefficients c.args.b.now.coefficients) c.prime-p.ensures.value
