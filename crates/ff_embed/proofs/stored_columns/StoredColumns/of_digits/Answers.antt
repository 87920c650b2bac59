use Rattle.std.proofs.Common.{◌+◌, ◌<◌, All, length, replicate, length-append, ap, sym, ◌∙◌, subst, arith}
use Rattle.std.proofs.lemmas.List.Elements.{All-append, All-replicate}
use Rattle.alg_rings.proofs.ResidueFields.{two_le_characteristic}
use Rattle.ff_embed.specs.PrivateColumns.{columns_at}
use Rattle.ff_embed.proofs.DigitColumns.{columns_before}
use Rattle.ff_embed.proofs.stored_columns.StoredColumns.of_digits.Goals as goal

pub invariant_of-result : goal.invariant_of-result
invariant_of-result c =
    let e = c.in_ok-extend_from_slice.ensures.items in
    let digits = c.args.digits.items in record {
      characteristic = c.number-number.ensures.whole;
      long = ap length e ∙ length-append digits (replicate 48 0) ∙ ap (λ n. n + 48) c.requires.long;
      residues = subst (All (λ x. x < c.args.prime)) (sym e)
          (All-append (λ x. x < c.args.prime) digits (replicate 48 0) c.requires.residues
          (All-replicate (λ x. x < c.args.prime) 48 0
          (omega (arith, two_le_characteristic c.args.prime c.number-number.ensures.whole))));
      rows_fit = c.requires.rows;
      columns_fit = c.requires.columns;
    }

pub returns-clause-columns : goal.returns-clause-columns
returns-clause-columns c =
    ap (columns_at c.args.rows c.args.count) c.in_ok-extend_from_slice.ensures.items
    ∙ columns_before c.args.rows c.args.count c.args.digits.items (replicate 48 0)
    (omega (arith, c.requires.long))
