use Rattle.lat_insert.proofs.DeclarableFields.{declarable_declared, only_declarable, declared_new, declarable_digits}
use Rattle.lat_insert.proofs.laws.irreducible_polynomials_are_declared.Goals as goal

pub returns-clause-declared : goal.returns-clause-declared
returns-clause-declared c = declarable_declared

pub returns-clause-only : goal.returns-clause-only
returns-clause-only c = only_declarable

pub returns-clause-new_field : goal.returns-clause-new_field
returns-clause-new_field c = declared_new

pub returns-clause-digits : goal.returns-clause-digits
returns-clause-digits c = declarable_digits
