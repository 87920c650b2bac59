use Rattle.std.proofs.Common.{◌≢◌, ℕ, ◌<◌, slice_index_or}
use Rattle.std.specs.Ordering.{nat_cmp}
use Rattle.std.specs.declared.cmp.Ordering.TheVariants.{Less}
use Rattle.alg_model.specs.Factors.{order_by}
use Rattle.ff_poly.specs.Polynomial.{Polynomial}
use Rattle.ff_factor.proofs.factorization.place_of.Given as goal

-- none of the first i comes after g
abbrev pub invariant-loop-i : goal.invariant-loop-i
invariant-loop-i l = (k : ℕ) (d : Polynomial) → k < l.i
    → order_by nat_cmp l.g.coefficients (slice_index_or l.polynomials k d).coefficients ≢ Less
