use Rattle.std.proofs.Common.{List, ℕ, [], take, All, sym, subst}
use Rattle.std.proofs.lemmas.List.Elements.{All-take}
use Rattle.std.specs.Fn.{FnReturnsAt}
use Rattle.alg_model.specs.Maps.{field_values}
use Rattle.ff_polyx.proofs.ImageLists.{images_all}
use Rattle.ff_polyx.proofs.polynomials.PolyX.map_by.Goals as goal

pub of_values-requires-clause-values : goal.of_values-requires-clause-values
of_values-requires-clause-values g c =
    let V = (field_values c.args.into.now).Valid in
    let n = c.loop-x.x-index in
    let answers = λ (x : List ℕ). (y : List ℕ) → FnReturnsAt g.M.Fn c.args.m x y → V y in
    subst (All V) (sym c.as_slice.ensures.value)
    (images_all g.M.Fn c.args.m V [] (take n c.args.a.now) c.loop-x.images.items c.loop-x.invariant
    (All-take answers n c.args.a.now c.requires.values))
