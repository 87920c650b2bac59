use Rattle.std.proofs.Common.{◌≡◌, ◌+◌, ◌-◌, ◌*◌, ◌<◌, ◌≤◌, All, slice_index, ap, subst, arith, ⊎_elim, sym}
use Rattle.std.proofs.lemmas.Bool.{cases_lt}
use Rattle.std.proofs.lemmas.List.{get_or_past}
use Rattle.ff_residues.proofs.ResidueLists.{below_at}
use Rattle.ff_residues.proofs.SumRows.{product_added, sum_fits, less_room}
use Rattle.ff_residues.proofs.sums.Sums.add_in_room.Goals as goal

pub add_products-requires : goal.add_products-requires
add_products-requires g c =
    let p = c.self.inside.prime in
    let e : c.args.self.now.prime ≡ p = sym (ap (λ s. s.prime) c.self.view_is) in
    let r : c.args.self.now.room ≡ c.self.inside.room = sym (ap (λ s. s.room) c.self.view_is) in
    let factor : c.args.factor < p = subst (λ q. c.args.factor < q) e c.requires.factor in
    let residues : All (λ x. x < p) c.args.list.now = subst (λ q. All (λ x. x < q) c.args.list.now) e c.requires.residues in
    let width : g.row.W ≤ 128 = c.requires.width in (
      omega arith,
      (
        c.requires.width,
        (
          c.requires.within,
          λ k l.
              sum_fits _ (c.self.inside.room - 1) ((p - 1) * (p - 1)) (product_added p c.self.inside.room (slice_index c.self.inside.sums k) c.args.factor (slice_index c.args.list.now (c.args.start + k))
              (let h : 0 < c.args.self.now.room = c.requires.room in omega arith) factor (below_at p c.args.list.now (c.args.start + k) (omega arith) residues) (c.self.invariant.fits k)),
        ),
      ),
    )

pub invariant_of-self : goal.invariant_of-self
invariant_of-self g c =
    let p = c.self.inside.prime in
    let e : c.args.self.now.prime ≡ p = sym (ap (λ s. s.prime) c.self.view_is) in
    let r : c.args.self.now.room ≡ c.self.inside.room = sym (ap (λ s. s.room) c.self.view_is) in
    let factor : c.args.factor < p = subst (λ q. c.args.factor < q) e c.requires.factor in
    let residues : All (λ x. x < p) c.args.list.now = subst (λ q. All (λ x. x < q) c.args.list.now) e c.requires.residues in
    record {
      characteristic = c.self.invariant.characteristic;
      count = c.add_products.ensures.len;
      fits = λ k. ⊎_elim
          (λ l. subst (λ w. w + (c.self.inside.room - 1) * ((p - 1) * (p - 1)) < 32768) (sym (c.add_products.ensures.sums k l))
          (product_added p c.self.inside.room (slice_index c.self.inside.sums k) c.args.factor (slice_index c.args.list.now (c.args.start + k))
          (let h : 0 < c.args.self.now.room = c.requires.room in omega arith) factor (below_at p c.args.list.now (c.args.start + k) (omega arith) residues) (c.self.invariant.fits k)))
          (λ l. less_room p c.self.inside.room (slice_index c.add_products.new.sums k) (slice_index c.self.inside.sums k)
          (get_or_past c.add_products.new.sums k 0 (omega (arith, c.add_products.ensures.len))) (c.self.invariant.fits k))
          (cases_lt k g.row.W);
    }
