use Rattle.std.proofs.Common.{rules}
use Rattle.program_ops.proofs.Realized.{square_realized, artin_schreier_realized, successor_realized}
use Rattle.program_ops.proofs.tests.operations_of_a_program.Goals as goal

pub gives-requires-clause-first : goal.gives-requires-clause-first
gives-requires-clause-first g c = square_realized _ _ _ _ c.square_table.ensures
    (λ x y S v. search rules) (λ x y b S v p. search rules)

pub gives-requires-clause-second : goal.gives-requires-clause-second
gives-requires-clause-second g c = artin_schreier_realized _ _ _ _ c.artin_schreier_table.ensures
    (λ x y S v. search rules) (λ x y b S v p. search rules)

pub gives-requires-clause-third : goal.gives-requires-clause-third
gives-requires-clause-third g c = successor_realized _ _ _ _ c.successor_table.ensures
    (λ x y S v. search rules) (λ x y b S v p. search rules)
