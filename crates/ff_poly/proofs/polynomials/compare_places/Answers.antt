use Rattle.std.proofs.Common.{◌≢◌, ℕ, ◌-◌, Equal, sym, ◌∙◌}
use Rattle.std.specs.Ordering.{nat_cmp}
use Rattle.std.proofs.lemmas.Cmp.{ranked}
use Rattle.alg_rings.proofs.PolynomialOrder.{order_by_more, order_by_decided}
use Rattle.ff_poly.proofs.polynomials.compare_places.Goals as goal

unequal : (x y : ℕ) → x ≢ y → nat_cmp x y ≢ Equal
unequal x y h e = h (ranked x y Equal (sym e))

pub returns-then-a-n : goal.returns-then-a-n
returns-then-a-n c =
    let a = c.args.a.now in
    let b = c.args.b.now in
    let n = c.loop-n.n in
    let h = c.loop-n.invariant in
    let decided : c.cmp.result ≢ Equal = λ e. unequal _ _ c.if-a-n.true (sym c.cmp.ensures ∙ e) in
    sym (order_by_decided nat_cmp (n - 1) a b c.cmp.result decided c.requires
    (order_by_more nat_cmp n a b 0 c.loop-n-test.true h.within c.requires h.equal ∙ sym c.cmp.ensures))
