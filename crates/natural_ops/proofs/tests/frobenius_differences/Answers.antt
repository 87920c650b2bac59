use Rattle.std.proofs.Common.{refl, arith}
use Rattle.natural_ops.proofs.tests.frobenius_differences.Goals as goal

pub frobenius_less-requires-3 : goal.frobenius_less-requires-3
frobenius_less-requires-3 c = (2, omega arith, refl)

pub frobenius_less-requires-4 : goal.frobenius_less-requires-4
frobenius_less-requires-4 c = (3, omega arith, refl)

pub frobenius_less-requires-5 : goal.frobenius_less-requires-5
frobenius_less-requires-5 c = (4, omega arith, refl)

pub frobenius_less-requires-6 : goal.frobenius_less-requires-6
frobenius_less-requires-6 c = (5, omega arith, refl)

pub frobenius_less-requires-7 : goal.frobenius_less-requires-7
frobenius_less-requires-7 c = (6, omega arith, refl)

pub frobenius_less-requires-8 : goal.frobenius_less-requires-8
frobenius_less-requires-8 c = (7, omega arith, refl)

pub frobenius_less-requires-9 : goal.frobenius_less-requires-9
frobenius_less-requires-9 c = (8, omega arith, refl)

pub frobenius_less-requires-10 : goal.frobenius_less-requires-10
frobenius_less-requires-10 c = (9, omega arith, refl)

pub frobenius_less-requires-11 : goal.frobenius_less-requires-11
frobenius_less-requires-11 c = (10, omega arith, refl)

pub frobenius_less-requires-12 : goal.frobenius_less-requires-12
frobenius_less-requires-12 c = (11, omega arith, refl)

pub frobenius_less-requires-13 : goal.frobenius_less-requires-13
frobenius_less-requires-13 c = (12, omega arith, refl)

pub frobenius_less-requires-14 : goal.frobenius_less-requires-14
frobenius_less-requires-14 c = (13, omega arith, refl)

pub frobenius_less-requires-15 : goal.frobenius_less-requires-15
frobenius_less-requires-15 c = (14, omega arith, refl)

pub frobenius_less-requires-16 : goal.frobenius_less-requires-16
frobenius_less-requires-16 c = (15, omega arith, refl)

pub frobenius_less-requires-17 : goal.frobenius_less-requires-17
frobenius_less-requires-17 c = (16, omega arith, refl)

pub frobenius_less-requires-18 : goal.frobenius_less-requires-18
frobenius_less-requires-18 c = (17, omega arith, refl)
