use Rattle.std.proofs.Common.{ℕ, ◌<◌, ◌≤◌, List, length}
use Rattle.alg_model.specs.Coefficients.{mod_ops, residues}
use Rattle.alg_model.specs.Factors.{IsGreatestCommonDivisor}
use Rattle.alg_fields.specs.Fixed.{less_constant}
use Rattle.ff_factor.proofs.splitting.split_by_fixed.Given as goal

-- none of the first constants gives a factor
abbrev pub invariant-loop-c : goal.invariant-loop-c
invariant-loop-c l = (a : ℕ) → a < l.c → (g : List ℕ)
    → IsGreatestCommonDivisor (residues l.f.prime) l.f.coefficients (less_constant (mod_ops l.f.prime) l.v.coefficients a) g → length g ≤ 1
