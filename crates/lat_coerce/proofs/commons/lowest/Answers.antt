use Rattle.std.proofs.Common.{◌≡◌, length, subst, arith}
use Rattle.lat_coerce.specs.PrivateSearches.{IsBestBelow}
use Rattle.lat_coerce.proofs.commons.lowest.Goals as goal

pub returns : goal.returns
returns c =
    let all : c.loop-field.field ≡ length c.args.lattice.now.rows = omega arith in
    record {
      best = subst (λ n. IsBestBelow c.args.lattice.now c.args.a c.args.b n c.loop-field.best) all c.loop-field.invariant;
    }
