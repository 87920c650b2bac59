use Rattle.std.proofs.Common.{[], ◌%◌, refl, ap, sym, ◌∙◌, arith}
use Rattle.std.proofs.lemmas.List.{take_all}
use native.Mathlib.Nat.{zero-mod}
use Rattle.alg_model.specs.Polynomials.{convolution}
use Rattle.alg_rings.proofs.Residues.{nat_ops, product_mod}
use Rattle.ff_poly.proofs.Convolutions.{convolution_nil}
use Rattle.ff_poly.proofs.SumPlaces.{product_row, product_whole}
use Rattle.ff_poly.proofs.products.product_places.Goals as goal

pub loop-i-init : goal.loop-i-init
loop-i-init g c = record {
  prime = c.of-sums.ensures.prime;
  rows = λ k l. c.of-sums.ensures.residues k ∙ c.blank_row.ensures.blank k
      ∙ sym (ap (λ w. w % c.args.p) (convolution_nil [] c.args.b.now k (λ i. refl)) ∙ zero-mod c.args.p);
}

pub loop-i-preserved : goal.loop-i-preserved
loop-i-preserved g c = record {
  prime = c.add_shifted.ensures.prime;
  rows = product_row g.row.W c.args.p c.loop-i.i c.args.a.now c.args.b.now c.padded-padded.result c.loop-i.sums c.add_shifted.new.sums
      c.padded-padded.ensures.padded c.add_shifted.ensures.below c.add_shifted.ensures.above c.loop-i.invariant.rows;
}

pub returns-clause-places : goal.returns-clause-places
returns-clause-places g c k =
    let p = c.args.p in
    let f = c.args.a.now in
    let g' = c.args.b.now in
    product_whole g.row.W p f g' c.row.result c.loop-i.sums c.row.ensures.len c.requires.room c.row.ensures.row
    (λ j l. c.loop-i.invariant.rows j l ∙ ap (λ xs. convolution nat_ops xs g' j % p) (take_all c.loop-i.i f (omega (arith, c.loop-i-test.false)))) k
    ∙ sym (product_mod p f g' k)
