-- The pieces are the line.
use Rattle.std.proofs.Common.{◌++◌, ap}
use Rattle.std.proofs.lemmas.Result.{IfOk-equal}
use Rattle.lat_language.proofs.AppendedTexts.{summary_pieces}
use Rattle.lat_language.proofs.texts.add_summary.Goals as goal

pub returns-clause-ok : goal.returns-clause-ok
returns-clause-ok c =
    IfOk-equal c.append.result _ _ _ c.append.ensures.ok (ap (λ t. c.args.out.now.items ++ t) (summary_pieces c.args.fields c.args.maps c.args.changes))
