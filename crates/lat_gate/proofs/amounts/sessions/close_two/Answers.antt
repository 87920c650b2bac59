use Rattle.std.proofs.Common.{ap, ◌∙◌}
use Rattle.lat_gate.proofs.TwoPasses.{in_first, in_second, every_of_two}
use Rattle.lat_gate.proofs.amounts.sessions.close_two.Goals as goal

pub close-requires-clause-every : goal.close-requires-clause-every
close-requires-clause-every c = let t = c.requires.numbers in let pass = c.join.ensures.pass in
    λ n dealt. every_of_two _ _ _ (ap (λ k. k.own) pass) t.0.0 t.1.0 t.0.1 t.1.1 _ n (ap (λ k. k.passes) pass ∙ c.requires.two) dealt

pub returns-clause-first : goal.returns-clause-first
returns-clause-first c = λ mine is. c.close.ensures.own 1 mine (in_first _ _ _ (ap (λ k. k.own) c.join.ensures.pass) 1 mine is)

pub returns-clause-second : goal.returns-clause-second
returns-clause-second c = let t = c.requires.numbers.0 in
    λ mine is. c.close.ensures.own 2 mine (in_second _ _ _ (ap (λ k. k.own) c.join.ensures.pass) 1 2 t.0 mine t.1 is)
