use Rattle.std.proofs.Common.{◌≡◌, true, false}
use Rattle.lat_fill.proofs.MadeFields.{first_root}
use Rattle.lat_fill.proofs.made.made_map.Goals as goal

pub bounds-items-0 : goal.bounds-items-0
bounds-items-0 c = (first_root c.conjugate_roots-roots.result c.items.result.now c.poly.result.now.coefficients
    c.poly.ensures.whole.finite c.prime-prime.ensures.whole.finite c.requires.characteristic c.requires.divides
    c.poly.ensures.coefficients c.conjugate_roots-roots.ensures c.items.ensures.value).0

pub of_root-requires-clause-valid : goal.of_root-requires-clause-valid
of_root-requires-clause-valid c = ((first_root c.conjugate_roots-roots.result c.items.result.now c.poly.result.now.coefficients
    c.poly.ensures.whole.finite c.prime-prime.ensures.whole.finite c.requires.characteristic c.requires.divides
    c.poly.ensures.coefficients c.conjugate_roots-roots.ensures c.items.ensures.value).1 c.index-items-0.result c.index-items-0.is).root.0

pub unreachable-requires : goal.unreachable-requires
unreachable-requires c =
    let least = (first_root c.conjugate_roots-roots.result c.items.result.now c.poly.result.now.coefficients
    c.poly.ensures.whole.finite c.prime-prime.ensures.whole.finite c.requires.characteristic c.requires.divides
    c.poly.ensures.coefficients c.conjugate_roots-roots.ensures c.items.ensures.value).1 c.index-items-0.result c.index-items-0.is in
    let e : false ≡ true = c.in-None.ensures.some.1 least.root in
    cc

pub returns : goal.returns
returns c = record {
  source = c.in-Some.ensures.source;
  target = c.in-Some.ensures.target;
  root = c.index-items-0.result;
  least = (first_root c.conjugate_roots-roots.result c.items.result.now c.poly.result.now.coefficients
      c.poly.ensures.whole.finite c.prime-prime.ensures.whole.finite c.requires.characteristic c.requires.divides
      c.poly.ensures.coefficients c.conjugate_roots-roots.ensures c.items.ensures.value).1 c.index-items-0.result c.index-items-0.is;
  images = c.in-Some.ensures.images;
}
