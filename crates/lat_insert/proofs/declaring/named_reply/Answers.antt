-- The field that has the name is the one that is declared, or another one.
use Rattle.std.proofs.Common.{◌∙◌}
use Rattle.lat_insert.proofs.Declarations.{same_declares, other_declares}
use Rattle.lat_insert.proofs.declaring.named_reply.Goals as goal

pub returns-then-are_same : goal.returns-then-are_same
returns-then-are_same c = same_declares c.requires.well_formed c.requires.named (record { name = c.behind-lattice.inside.name; field = c.behind-lattice.inside.field })
    (c.behind-lattice.view_is ∙ c.field.ensures.value) (c.number.ensures.value ∙ c.prime.ensures.value) (c.coefficients.ensures.value ∙ c.poly.ensures.coefficients)
    (c.number-2.ensures.value ∙ c.prime-2.ensures.value) c.coefficients-2.ensures.value c.are_same.result c.are_same.ensures c.if-are_same.true

pub returns-else-are_same : goal.returns-else-are_same
returns-else-are_same c = other_declares c.requires.well_formed c.requires.named (record { name = c.behind-lattice.inside.name; field = c.behind-lattice.inside.field })
    (c.behind-lattice.view_is ∙ c.field.ensures.value) (c.number.ensures.value ∙ c.prime.ensures.value) (c.coefficients.ensures.value ∙ c.poly.ensures.coefficients)
    (c.number-2.ensures.value ∙ c.prime-2.ensures.value) c.coefficients-2.ensures.value c.are_same.result c.are_same.ensures c.if-are_same.false
