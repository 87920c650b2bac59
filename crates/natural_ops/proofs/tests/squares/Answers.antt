use Rattle.std.proofs.Common.{refl, arith}
use Rattle.natural_ops.proofs.tests.squares.Goals as goal

pub square-requires-3 : goal.square-requires-3
square-requires-3 c = (2, omega arith, refl)

pub square-requires-4 : goal.square-requires-4
square-requires-4 c = (3, omega arith, refl)

pub square-requires-5 : goal.square-requires-5
square-requires-5 c = (4, omega arith, refl)

pub square-requires-6 : goal.square-requires-6
square-requires-6 c = (5, omega arith, refl)

pub square-requires-7 : goal.square-requires-7
square-requires-7 c = (6, omega arith, refl)

pub square-requires-8 : goal.square-requires-8
square-requires-8 c = (7, omega arith, refl)

pub square-requires-9 : goal.square-requires-9
square-requires-9 c = (8, omega arith, refl)

pub square-requires-10 : goal.square-requires-10
square-requires-10 c = (9, omega arith, refl)

pub square-requires-11 : goal.square-requires-11
square-requires-11 c = (10, omega arith, refl)

pub square-requires-12 : goal.square-requires-12
square-requires-12 c = (11, omega arith, refl)

pub square-requires-13 : goal.square-requires-13
square-requires-13 c = (12, omega arith, refl)

pub square-requires-14 : goal.square-requires-14
square-requires-14 c = (13, omega arith, refl)

pub square-requires-15 : goal.square-requires-15
square-requires-15 c = (14, omega arith, refl)

pub square-requires-16 : goal.square-requires-16
square-requires-16 c = (15, omega arith, refl)

pub square-requires-17 : goal.square-requires-17
square-requires-17 c = (16, omega arith, refl)

pub square-requires-18 : goal.square-requires-18
square-requires-18 c = (17, omega arith, refl)
