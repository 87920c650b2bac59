-- The first of the pair that is no value of its field.
use Rattle.std.proofs.Common.{◌≡◌, true}
use Rattle.lat_core.specs.Step.IsWrongTag.{of_value, of_image}
use Rattle.lat_insert.proofs.embedding.wrong_tag.Goals as goal

pub returns-then-not-is_value_of-clause-wrong : goal.returns-then-not-is_value_of-clause-wrong
returns-then-not-is_value_of-clause-wrong c =
    of_value (λ h. let yes : c.is_value_of.result ≡ true = c.is_value_of.ensures.1 h in cc)

pub returns-then-not-is_value_of-2-clause-wrong : goal.returns-then-not-is_value_of-2-clause-wrong
returns-then-not-is_value_of-2-clause-wrong c =
    of_image (c.is_value_of.ensures.0 c.if-not-is_value_of.false) (λ h. let yes : c.is_value_of-2.result ≡ true = c.is_value_of-2.ensures.1 h in cc)
