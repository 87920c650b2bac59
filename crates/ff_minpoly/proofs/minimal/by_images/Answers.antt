use Rattle.std.proofs.Common.{subst}
use Rattle.ff_minpoly.specs.PrivateRelations.{IsMonicOf}
use Rattle.ff_minpoly.proofs.DigitValues.{first_image}
use Rattle.ff_minpoly.proofs.SubfieldRelations.{subfield_relation_exists, subfield_relation_is_minimal}
use Rattle.ff_minpoly.proofs.minimal.by_images.Goals as goal

pub relation-digits-requires-clause-one : goal.relation-digits-requires-clause-one
relation-digits-requires-clause-one c =
    first_image c.args.source.now c.args.target.now c.prime-source.ensures.whole.finite c.prime-target.ensures.whole.finite
    c.args.images.now c.requires.embedding

pub relation-digits-requires-clause-dependent : goal.relation-digits-requires-clause-dependent
relation-digits-requires-clause-dependent c =
    subfield_relation_exists c.args.source.now c.args.target.now c.prime-source.ensures.whole.finite
    c.prime-target.ensures.whole.finite c.args.images.now c.requires.embedding c.args.a.now c.requires.value

pub returns : goal.returns
returns c =
    subfield_relation_is_minimal c.args.source.now c.args.target.now c.prime-source.ensures.whole.finite
    c.prime-target.ensures.whole.finite c.args.images.now c.requires.embedding c.args.a.now c.requires.value
    c.relation-digits.result.items c.relation-digits.ensures c.of_digits.result
    (subst (λ l. IsMonicOf c.args.source.now l c.of_digits.result) c.as_slice.ensures.value c.of_digits.ensures)
