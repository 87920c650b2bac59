-- Each closure gives the values of its table.
use Rattle.std.proofs.Common.{rules}
use Rattle.program_ops.proofs.Realized.{square_realized, artin_schreier_realized, successor_realized}
use Rattle.lattice_run.proofs.tests.shares.expect_met.Goals as goal

pub run_tool_with-status-requires-clause-first : goal.run_tool_with-status-requires-clause-first
run_tool_with-status-requires-clause-first g c κs within = square_realized _ _ _ _ c.square_table.ensures
    (λ x y S v. search rules) (λ x y b S v p. search rules)

pub run_tool_with-status-requires-clause-second : goal.run_tool_with-status-requires-clause-second
run_tool_with-status-requires-clause-second g c κs within = artin_schreier_realized _ _ _ _ c.artin_schreier_table.ensures
    (λ x y S v. search rules) (λ x y b S v p. search rules)

pub run_tool_with-status-requires-clause-third : goal.run_tool_with-status-requires-clause-third
run_tool_with-status-requires-clause-third g c κs within = successor_realized _ _ _ _ c.successor_table.ensures
    (λ x y S v. search rules) (λ x y b S v p. search rules)
