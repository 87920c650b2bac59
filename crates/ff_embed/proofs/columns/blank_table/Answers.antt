use Rattle.std.proofs.Common.{ℕ, ◌<◌, replicate, arith}
use Rattle.std.proofs.lemmas.List.{length-replicate}
use Rattle.std.proofs.lemmas.List.Elements.{All-replicate}
use Rattle.ff_poly.specs.declared.TheConstants.{MAX_DEGREE}
use Rattle.ff_residues.specs.SumRows.{IsRowOf}
use Rattle.ff_embed.proofs.columns.blank_table.Goals as goal

pub returns-clause-rows : goal.returns-clause-rows
returns-clause-rows c p l = All-replicate (IsRowOf p MAX_DEGREE) MAX_DEGREE (replicate MAX_DEGREE 0)
    (record {
      wide = omega (arith, length-replicate {A = ℕ} MAX_DEGREE 0);
      residues = All-replicate (λ x. x < p) MAX_DEGREE 0 l;
    })
