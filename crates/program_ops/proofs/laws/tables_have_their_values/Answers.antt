use Rattle.program_ops.proofs.TableValues.{square_value, artin_schreier_value, successor_value}
use Rattle.program_ops.proofs.laws.tables_have_their_values.Goals as goal

pub returns-clause-square : goal.returns-clause-square
returns-clause-square c = square_value

pub returns-clause-artin_schreier : goal.returns-clause-artin_schreier
returns-clause-artin_schreier c = artin_schreier_value

pub returns-clause-successor : goal.returns-clause-successor
returns-clause-successor c = successor_value
