-- The pieces are the answer.
use Rattle.std.proofs.Common.{◌++◌, ap}
use Rattle.std.proofs.lemmas.Result.{IfOk-equal}
use Rattle.lat_language.proofs.AppendedTexts.{embedded_pieces}
use Rattle.lat_language.proofs.texts.add_embedded.Goals as goal

pub returns-clause-ok : goal.returns-clause-ok
returns-clause-ok c =
    IfOk-equal c.append.result _ _ _ c.append.ensures.ok (ap (λ t. c.args.out.now.items ++ t) (embedded_pieces c.args.image.now c.args.made c.args.linked))
