use Rattle.std.proofs.Common.{◌≡◌, ap₂, sym, ◌∙◌, subst}
use Rattle.std.specs.List.{insert}
use Rattle.ff_factor.specs.FactorLists.{AreOver}
use Rattle.ff_factor.specs.PrivateSplitting.{Collects}
use Rattle.ff_factor.proofs.Collecting.{collects_irreducible}
use Rattle.ff_factor.proofs.factorization.add.Goals as goal

pub returns : goal.returns
returns c =
    let f = c.args.f.now in
    let old = c.items.result.now in
    let place = c.place_of-place.result in
    let at = c.place_of-place.ensures in
    let value : old ≡ c.args.list.now = c.items.ensures.value in
    let new : insert old place f ≡ c.insert.new.self =
    ap₂ (λ xs y. insert xs place y) value (sym c.copy.ensures.same) ∙ sym c.insert.ensures in
    subst (λ xs. Collects f xs c.insert.new.self) value
    (subst (λ ys. Collects f old ys) new
    (collects_irreducible f old place at.within at.before at.after c.copy.ensures.whole.characteristic
    c.requires.monic c.requires.irreducible (subst (λ xs. AreOver f.prime xs) (sym value) c.requires.primes)))
