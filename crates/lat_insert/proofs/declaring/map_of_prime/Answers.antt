-- Zero is a root of the polynomial of the prime field.
use Rattle.std.proofs.Common.{◌≡◌, ap, sym, subst, is_some, false}
use Rattle.alg_model.specs.Maps.{constants}
use Rattle.alg_model.specs.Roots.{IsRoot}
use Rattle.lat_insert.proofs.PrimeMaps.{zero_root}
use Rattle.lat_insert.proofs.declaring.map_of_prime.Goals as goal

pub unreachable-requires : goal.unreachable-requires
unreachable-requires c =
    let root = subst (IsRoot c.args.field.now (constants c.args.field.now c.args.prime.now.polynomial)) (sym c.zero.ensures.value)
    (zero_root c.args.prime.now c.args.field.now c.prime.ensures.whole.finite c.prime-2.ensures.whole.finite c.requires.polynomial
    c.requires.characteristic) in
    let some = c.of_root.ensures.some.1 root in
    let none : is_some c.of_root.result ≡ false = ap is_some c.in-None.is in
    cc
