use Rattle.alg_choices.proofs.Laws.{fit_law, zeros_law, all_law, uncovered_law, prescription_law, divisor_law}
use Rattle.alg_choices.proofs.candidates_are_common_zeros.Goals as goal

pub returns-clause-fit : goal.returns-clause-fit
returns-clause-fit c = fit_law

pub returns-clause-zeros : goal.returns-clause-zeros
returns-clause-zeros c = zeros_law

pub returns-clause-all : goal.returns-clause-all
returns-clause-all c = all_law

pub returns-clause-uncovered : goal.returns-clause-uncovered
returns-clause-uncovered c = uncovered_law

pub returns-clause-prescription : goal.returns-clause-prescription
returns-clause-prescription c = prescription_law

pub returns-clause-divisor : goal.returns-clause-divisor
returns-clause-divisor c = divisor_law
