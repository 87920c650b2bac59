use Rattle.std.proofs.Common.{◌≡◌, ℕ, ◌+◌, ◌-◌, ◌*◌, ◌%◌, ◌<◌, slice_index, All, ap, ap₂, sym, ◌∙◌, subst, arith}
use Rattle.std.proofs.lemmas.List.{length-map}
use native.Mathlib.Nat.{zero-add, add-mod-mod, mod-mod}
use Rattle.alg_model.specs.Coefficients.{mod_ops, residues, IsCharacteristic}
use Rattle.alg_model.specs.Polynomials.{sum, poly_negative, poly_difference}
use Rattle.alg_model.specs.Factors.{IsPolynomial}
use Rattle.alg_model.specs.Fields.{IsRing}
use Rattle.alg_rings.proofs.Residues.{residues_ring}
use Rattle.alg_rings.proofs.ResidueFields.{residues_propositional}
use Rattle.alg_rings.proofs.Validity.{negatives_valid, place_valid}
use Rattle.alg_rings.proofs.CarrierPolynomials.{sum_at, negatives_at}
use Rattle.ff_poly.proofs.ListPlaces.{cut_at, residue_sum_past, taken_from}
use Rattle.ff_residues.proofs.Characteristics.{characteristic_small}
use Rattle.ff_poly.proofs.polynomials.Poly.sub.Goals as goal

pub add_multiple-requires-clause-places : goal.add_multiple-requires-clause-places
add_multiple-requires-clause-places c =
    let p = c.args.self.now.prime in
    let whole = c.prime-p.ensures.whole in
    let above : 0 < p = let h = characteristic_small p whole.characteristic in omega (arith, h.0) in
    subst (λ n. All (λ x. x < n) c.places_of-places.result) (sym c.prime-p.ensures.value)
    (c.places_of-places.ensures.residues p above (subst (λ xs. All (λ x. x < p) xs) (sym c.coefficients-first.ensures.value) whole.polynomial.0))

pub returns-clause-difference : goal.returns-clause-difference
returns-clause-difference c =
    let p = c.args.self.now.prime in
    let n = c.prime-p.result in
    let f = c.coefficients-first.result.now in
    let g = c.coefficients-second.result.now in
    let same : p ≡ n = sym c.prime-p.ensures.value in
    let P = residues_propositional n in
    let above : 1 < n = (characteristic_small n (subst (λ m. IsCharacteristic m) same c.prime-p.ensures.whole.characteristic)).0 in
    let R : IsRing (residues n) = residues_ring n above in
    let first : IsPolynomial (residues n) f =
    subst (λ m. IsPolynomial (residues m) f) same (subst (IsPolynomial (residues p)) (sym c.coefficients-first.ensures.value) c.prime-p.ensures.whole.polynomial) in
    let second : IsPolynomial (residues n) g =
    subst (λ m. IsPolynomial (residues m) g) (sym c.requires ∙ same)
    (subst (IsPolynomial (residues c.args.b.now.prime)) (sym c.coefficients-second.ensures.value) c.coefficients-second.ensures.whole.polynomial) in
    let places : (k : ℕ) → slice_index c.add_multiple.new.places k ≡ (slice_index f k + (n - 1) * slice_index g k) % n = λ k.
    ap (slice_index c.add_multiple.new.places) (sym (zero-add k)) ∙ c.add_multiple.ensures.above k
    ∙ ap₂ (λ v m. (v + (m - 1) * slice_index g k) % n) (ap (slice_index c.places_of-places.result) (zero-add k) ∙ c.places_of-places.ensures.places k) c.number.ensures.value in
    c.poly_of_places.ensures.coefficients (sum (mod_ops n) f (poly_negative (mod_ops n) g))
    (cut_at n c.max-longest.result (sum (mod_ops n) f (poly_negative (mod_ops n) g)) c.add_multiple.new.places
    (λ k. ap (λ w. w % n) (places k) ∙ mod-mod (slice_index f k + (n - 1) * slice_index g k) n
    ∙ taken_from n (slice_index f k) (slice_index g k) (omega arith) (place_valid R g k second.0)
    ∙ sym (add-mod-mod (slice_index f k) (n - slice_index g k) n)
    ∙ ap (λ w. (slice_index f k + w) % n) (sym (negatives_at P R g k second.0))
    ∙ sym (sum_at P R f (poly_negative (mod_ops n) g) k first.0 (negatives_valid R g second.0)))
    (λ k h. residue_sum_past n f (poly_negative (mod_ops n) g) k (omega arith) (omega (arith, length-map g (mod_ops n).neg))))
    ∙ ap₂ (poly_difference (mod_ops n)) c.coefficients-first.ensures.value c.coefficients-second.ensures.value
    ∙ ap (λ m. poly_difference (mod_ops m) c.args.self.now.coefficients c.args.b.now.coefficients) c.prime-p.ensures.value
