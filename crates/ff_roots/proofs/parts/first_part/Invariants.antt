use Rattle.std.proofs.Common.{◌≢◌, ℕ, ◌<◌, List}
use Rattle.alg_model.specs.Polynomials.{evaluate}
use Rattle.alg_model.specs.Maps.{field_values, constant}
use Rattle.alg_model.specs.Roots.{IsRoot}
use Rattle.ff_roots.proofs.parts.first_part.Given as goal

-- no root has a value below c
abbrev pub invariant-loop-c : goal.invariant-loop-c
invariant-loop-c l = (v : List ℕ) → IsRoot l.field l.part v → (t : ℕ) → t < l.c
    → evaluate (field_values l.field).ops l.trace v ≢ constant l.field t
