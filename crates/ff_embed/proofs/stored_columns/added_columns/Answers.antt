use Rattle.std.proofs.Common.{◌+◌, ◌*◌, ◌%◌, ◌<◌, All, slice_index, subst, ap, sym, ◌∙◌, arith}
use Rattle.std.proofs.Math.Nat.{mul-le-mul_right}
use native.Mathlib.Nat.{zero-add, zero-mod}
use Rattle.ff_residues.specs.SumRows.{residue_at, sum_below}
use Rattle.ff_residues.proofs.SumRows.{one_added}
use Rattle.ff_embed.proofs.DigitColumns.{mul_more}
use Rattle.ff_embed.proofs.stored_columns.added_columns.Goals as goal

pub loop-i-init : goal.loop-i-init
loop-i-init g c = record {
  prime = c.zeros-sums.ensures.prime;
  sums = λ k l. c.zeros-sums.ensures.residues k ∙ sym (zero-mod c.args.p);
}

pub loop-i-preserved : goal.loop-i-preserved
loop-i-preserved g c =
    let p = c.args.p in
    let x = c.args.x.now in
    let digits = c.args.digits.now in
    let i = c.loop-i.i in record {
      prime = c.add.ensures.prime ∙ c.loop-i.invariant.prime;
      sums = λ k l. one_added p 0 i
          (λ j. slice_index x j * slice_index digits (j * c.args.n + k)) _ _
          (c.loop-i.invariant.sums k l)
          (c.add.ensures.sums k l
          ∙ ap (λ q. (residue_at c.loop-i.sums k + slice_index x i * slice_index digits (i * c.args.n + k)) % q)
          c.loop-i.invariant.prime);
    }

pub add-requires : goal.add-requires
add-requires g c =
    let i = c.loop-i.i in
    let p = sym c.loop-i.invariant.prime in (
      omega arith,
      (
        omega (arith, c.requires.width),
        (
          subst (λ q. slice_index c.args.x.now i < q) p (c.requires.factors i 0 c.loop-i-test.true),
          (
            omega (arith, mul-le-mul_right c.args.n c.loop-i-test.true, mul_more i c.args.n, c.requires.within),
            subst (λ q. All (λ y. y < q) c.args.digits.now) p c.requires.residues,
          ),
        ),
      ),
    )

pub returns-clause-sums : goal.returns-clause-sums
returns-clause-sums g c = λ k l.
    c.loop-i.invariant.sums k l
    ∙ ap (λ s. s % c.args.p) (zero-add (sum_below c.loop-i.i
    (λ j. slice_index c.args.x.now j * slice_index c.args.digits.now (j * c.args.n + k))))
    ∙ ap (λ i. sum_below i
    (λ j. slice_index c.args.x.now j * slice_index c.args.digits.now (j * c.args.n + k)) % c.args.p)
    (omega arith)
