use Rattle.std.proofs.Common.{◌≡◌, ℕ, ◌%◌, slice_index, ap, sym, ◌∙◌, arith, mod-eq_of_lt}
use Rattle.alg_model.specs.Coefficients.{mod_ops}
use Rattle.alg_rings.proofs.Residues.{zero_test}
use Rattle.alg_rings.proofs.Trims.{trim_at, trim_same}
use Rattle.ff_residues.proofs.ResidueLists.{below_at}
use Rattle.ff_poly.proofs.places.poly_of_places.Goals as goal
use Rattle.ff_poly.proofs.places.poly_of_places.Goals.{After-trimmed}

reduced : (c : After-trimmed) (k : ℕ) → slice_index c.args.places.now k ≡ slice_index c.args.places.now k % c.args.p
reduced c k = sym (mod-eq_of_lt (below_at c.args.p c.args.places.now k (omega (arith, c.number-number.ensures.small, c.number-number.ensures.value)) c.requires.residues))

pub returns-clause-residues : goal.returns-clause-residues
returns-clause-residues c k =
    ap (λ xs. slice_index xs k) c.trimmed.ensures.coefficients
    ∙ trim_at (mod_ops c.args.p) (zero_test c.args.p) c.args.places.now k ∙ reduced c k

pub returns-clause-coefficients : goal.returns-clause-coefficients
returns-clause-coefficients c f h =
    c.trimmed.ensures.coefficients
    ∙ trim_same (mod_ops c.args.p) (zero_test c.args.p) c.args.places.now f (λ k. reduced c k ∙ h k)
