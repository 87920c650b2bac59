use Rattle.std.proofs.Common.{◌≡◌, ℕ, ◌*◌, ◌<◌, All, slice_index, ap, ap₂, sym, ◌∙◌, subst}
use Rattle.alg_model.specs.Coefficients.{mod_ops, residues}
use Rattle.alg_model.specs.Polynomials.{trim}
use Rattle.alg_model.specs.Factors.{IsProperFactor}
use Rattle.alg_rings.proofs.ResidueFields.{residues_field, residues_propositional}
use Rattle.alg_rings.proofs.CarrierPolynomials.{trim_at, trim_polynomial}
use Rattle.ff_factor.proofs.CriterionOverResidues.{all_from_places, root_is_factor}
use Rattle.ff_factor.proofs.splitting.power_root.Goals as goal
use Rattle.ff_factor.proofs.splitting.power_root.Goals.{After-as_slice}

places : (c : After-as_slice) (i : ℕ) → slice_index c.as_slice.result.now i ≡ slice_index c.args.f.now.coefficients (i * c.args.f.now.prime)
places c i =
    ap (λ xs. slice_index xs i) c.as_slice.ensures.value ∙ c.every-numbers.ensures.places i
    ∙ ap₂ (λ xs p. slice_index xs (i * p)) c.coefficients.ensures.value (c.number.ensures.value ∙ c.prime-p.ensures.value)

valid : (c : After-as_slice) → All (λ x. x < c.args.f.now.prime) c.as_slice.result.now
valid c =
    let whole = c.prime-p.ensures.whole in
    all_from_places c.args.f.now.prime whole.characteristic c.args.f.now.coefficients c.as_slice.result.now c.args.f.now.prime whole.polynomial.0 (places c)

pub trimmed-requires-clause-residues : goal.trimmed-requires-clause-residues
trimmed-requires-clause-residues c = subst (λ p. All (λ x. x < p) c.as_slice.result.now) (sym c.prime-p.ensures.value) (valid c)

pub returns-clause-factor : goal.returns-clause-factor
returns-clause-factor c =
    let p = c.args.f.now.prime in
    let f = c.args.f.now.coefficients in
    let xs = c.as_slice.result.now in
    let whole = c.prime-p.ensures.whole in
    let R = (residues_field p whole.characteristic).ring in
    let v = trim_polynomial (residues_propositional p) R xs (valid c.before) in
    let same : trim (mod_ops p) xs ≡ c.trimmed.result.coefficients =
    sym (c.trimmed.ensures.coefficients ∙ ap (λ q. trim (mod_ops q) xs) c.prime-p.ensures.value) in
    subst (IsProperFactor (residues p) f) same
    (root_is_factor p whole.characteristic f (trim (mod_ops p) xs) whole.polynomial v c.requires.monic c.requires.not_constant c.requires.derivative
    (λ i. trim_at (residues_propositional p) R xs i (valid c.before) ∙ places c.before i))
