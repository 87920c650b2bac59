use Rattle.std.proofs.Common.{◌%◌, ◌<◌, ap, ◌∙◌, arith, mod-eq_of_lt}
use Rattle.ff_residues.proofs.ResidueLists.{below_at}
use Rattle.ff_residues.proofs.sums.Sums.of.Goals as goal

pub returns-clause-residues : goal.returns-clause-residues
returns-clause-residues g c k =
    let positive : 0 < c.args.p = omega (arith, c.number-number.ensures.small, c.number-number.ensures.value) in
    ap (λ w. w % c.args.p) (c.widened.ensures.same k)
    ∙ mod-eq_of_lt (below_at c.args.p c.args.row.now k positive c.requires.residues)
