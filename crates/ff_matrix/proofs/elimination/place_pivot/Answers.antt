use Rattle.std.proofs.Common.{◌≡◌, [], get_or, ap, sym, ◌∙◌, subst, arith}
use Rattle.std.proofs.lemmas.List.Elements.{All-set}
use Rattle.ff_matrix.specs.PrivateRows.{AreSums, residue_rows}
use Rattle.ff_matrix.proofs.ResidueRows.{row_of_sums, residue_rows_swapped, residue_rows_length, swapped_to, sums_swapped, placed}
use Rattle.ff_matrix.proofs.elimination.place_pivot.Goals as goal

pub inv-inverse-requires-clause-not_zero : goal.inv-inverse-requires-clause-not_zero
inv-inverse-requires-clause-not_zero g c = λ zero.
    let (lr, ls) = c.requires.rows in
    let count = residue_rows_length g.row.W c.args.rows.now in
    let is = row_of_sums g.row.W c.args.r c.swap.new.self c.index-rows-r.result c.row-row.result (omega (arith, c.swap.ensures.len)) c.row-row.ensures.len c.row-row.ensures.row
    ∙ ap (λ zs. get_or (residue_rows g.row.W zs) c.args.r []) c.swap.ensures.after
    ∙ ap (λ zs. get_or zs c.args.r []) (residue_rows_swapped g.row.W c.args.r c.args.s c.args.rows.now)
    ∙ swapped_to c.args.r c.args.s (residue_rows g.row.W c.args.rows.now) (omega (arith, count)) (omega (arith, count)) in
    c.requires.not_zero (ap (λ xs. get_or xs c.args.column 0) (sym is) ∙ zero)

pub returns-clause-placed : goal.returns-clause-placed
returns-clause-placed g c =
    placed g.row.W c.args.p c.args.column c.args.r c.args.s c.inv-inverse.result c.args.rows.now c.swap.new.self c.index-rows-r.result c.of.result
    c.row-row.result c.scale_places.new.row c.requires.rows.0 c.swap.ensures.after c.row-row.ensures.len c.row-row.ensures.row
    c.inv-inverse.ensures.inverse c.inv-inverse.ensures.residue c.scale_places.ensures.scaled c.of.ensures.residues

pub returns-clause-sums : goal.returns-clause-sums
returns-clause-sums g c =
    All-set (λ s. s.prime ≡ c.args.p) c.swap.new.self c.args.r c.of.result c.of.ensures.prime
    (subst (AreSums c.args.p) (sym c.swap.ensures.after) (sums_swapped c.args.p c.args.r c.args.s c.args.rows.now c.requires.rows.0 c.requires.rows.1 c.requires.sums))
