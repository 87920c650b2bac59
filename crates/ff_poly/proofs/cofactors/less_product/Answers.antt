use Rattle.std.proofs.Common.{[], ◌+◌, ◌*◌, ◌%◌, ◌<◌, slice_index, refl, ap, ap₂, sym, ◌∙◌, ⊎_elim, arith}
use Rattle.std.proofs.lemmas.Bool.{cases_lt}
use Rattle.std.proofs.lemmas.List.{take_all, get_or_past}
use native.Mathlib.Nat.{zero-add, mod-add-mod}
use Rattle.alg_model.specs.Polynomials.{convolution}
use Rattle.alg_rings.proofs.Residues.{nat_ops, product_mod}
use Rattle.ff_residues.specs.SumRows.{residue_at}
use Rattle.ff_residues.proofs.ResidueLists.{below_at}
use Rattle.ff_poly.proofs.Convolutions.{convolution_nil}
use Rattle.ff_poly.proofs.CofactorRows.{product_off}
use Rattle.ff_poly.proofs.cofactors.less_product.Goals as goal

pub loop-i-init : goal.loop-i-init
loop-i-init g c = record {
  prime = c.of-sums.ensures.prime;
  rows = λ k l. ap₂ (λ x y. (x + y) % c.args.p) (convolution_nil [] c.args.c.now k (λ i. refl)) (c.of-sums.ensures.residues k)
      ∙ ap (λ x. x % c.args.p) (zero-add (slice_index c.args.row.now k));
}

pub loop-i-preserved : goal.loop-i-preserved
loop-i-preserved g c =
    let p = c.args.p in
    let w = g.row.W in
    let f = c.args.factors.now in
    let i = c.loop-i.i in
    let old = c.loop-i.sums in
    let positive : 0 < p = omega (arith, c.number-number.ensures.small, c.number-number.ensures.value) in
    let small : slice_index f i < p = below_at p f i positive c.requires.factors in
    record {
      prime = c.add_shifted.ensures.prime;
      rows = product_off w p i f c.args.c.now c.padded-padded.result c.args.row.now old c.add_shifted.new.sums
          c.padded-padded.ensures.padded (omega arith) c.add_shifted.ensures.below
          (λ k l. c.add_shifted.ensures.above k l
          ∙ ap (λ u. (residue_at old (i + k) + u * slice_index c.padded-padded.result (w + k)) % p) c.neg.ensures.negative)
          c.loop-i.invariant.rows;
    }

pub returns-clause-places : goal.returns-clause-places
returns-clause-places g c k =
    let p = c.args.p in
    let f = c.args.factors.now in
    let d = c.args.c.now in
    let n = c.row.result in
    ⊎_elim
    (λ l. ap₂ (λ x y. (x + y) % p) (product_mod p f d k) (c.row.ensures.row k)
    ∙ mod-add-mod (convolution nat_ops f d k) p (residue_at c.loop-i.sums k)
    ∙ ap (λ xs. (convolution nat_ops xs d k + residue_at c.loop-i.sums k) % p) (sym (take_all c.loop-i.i f (omega (arith, c.loop-i-test.false))))
    ∙ c.loop-i.invariant.rows k l)
    (λ l. ap₂ (λ x y. (x + y) % p) (c.requires.past k l) (get_or_past n k 0 (omega (arith, c.row.ensures.len)))
    ∙ ap (λ x. x % p) (sym (get_or_past c.args.row.now k 0 (omega arith))))
    (cases_lt k g.row.W)
