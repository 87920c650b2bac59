use Rattle.std.proofs.Common.{◌+◌, ◌*◌, ◌%◌, ap, ◌∙◌, arith}
use Rattle.ff_residues.specs.SumRows.{residue_at}
use Rattle.ff_matrix.proofs.ResidueRows.{cleared_residues}
use Rattle.ff_matrix.proofs.matrices.add_column.Goals as goal

pub returns-clause-added : goal.returns-clause-added
returns-clause-added g c =
    cleared_residues c.args.rows c.args.p c.args.factor c.args.sums.now c.add.new.self c.args.column.now c.requires.column.0 c.requires.prime
    (λ k l. c.add.ensures.sums k (omega (arith, c.requires.rows))
    ∙ ap (λ y. (residue_at c.args.sums.now k + c.args.factor * y) % c.args.sums.now.prime) (c.row_of.ensures.places (0 + k)))
