use Rattle.std.proofs.Common.{refl, arith}
use Rattle.natural_ops.proofs.tests.successors.Goals as goal

pub successor-requires-3 : goal.successor-requires-3
successor-requires-3 c = (2, omega arith, refl)

pub successor-requires-4 : goal.successor-requires-4
successor-requires-4 c = (3, omega arith, refl)

pub successor-requires-5 : goal.successor-requires-5
successor-requires-5 c = (4, omega arith, refl)

pub successor-requires-6 : goal.successor-requires-6
successor-requires-6 c = (5, omega arith, refl)

pub successor-requires-7 : goal.successor-requires-7
successor-requires-7 c = (6, omega arith, refl)

pub successor-requires-8 : goal.successor-requires-8
successor-requires-8 c = (7, omega arith, refl)

pub successor-requires-9 : goal.successor-requires-9
successor-requires-9 c = (8, omega arith, refl)

pub successor-requires-10 : goal.successor-requires-10
successor-requires-10 c = (9, omega arith, refl)

pub successor-requires-11 : goal.successor-requires-11
successor-requires-11 c = (10, omega arith, refl)

pub successor-requires-12 : goal.successor-requires-12
successor-requires-12 c = (11, omega arith, refl)

pub successor-requires-13 : goal.successor-requires-13
successor-requires-13 c = (12, omega arith, refl)

pub successor-requires-14 : goal.successor-requires-14
successor-requires-14 c = (13, omega arith, refl)

pub successor-requires-15 : goal.successor-requires-15
successor-requires-15 c = (14, omega arith, refl)

pub successor-requires-16 : goal.successor-requires-16
successor-requires-16 c = (15, omega arith, refl)

pub successor-requires-17 : goal.successor-requires-17
successor-requires-17 c = (16, omega arith, refl)

pub successor-requires-18 : goal.successor-requires-18
successor-requires-18 c = (17, omega arith, refl)
