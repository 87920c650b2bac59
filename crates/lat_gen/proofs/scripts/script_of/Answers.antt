-- The parts are those of the generated script.
use Rattle.std.proofs.Common.{◌*◌, length, ap, ◌∙◌, arith, lit<}
use Rattle.lat_gen.proofs.DrawnNumbers.{draws_count, all_below}
use Rattle.lat_gen.proofs.GeneratedCommands.{script_scheduled, script_drawn}
use Rattle.lat_gen.proofs.scripts.script_of.Goals as goal

pub prologue-requires-clause-few : goal.prologue-requires-clause-few
prologue-requires-clause-few c =
    omega (arith, ap length c.deref.ensures.value, ap length c.in_ok-polynomials.ensures.numbers, draws_count c.args.seed 8 c.args.fields, c.requires.fields)

pub prologue-requires-clause-numbers : goal.prologue-requires-clause-numbers
prologue-requires-clause-numbers c =
    all_below c.args.seed 8 c.args.fields (lit< tt) c.deref.result.now (c.deref.ensures.value ∙ c.in_ok-polynomials.ensures.numbers)

pub sessions-requires : goal.sessions-requires
sessions-requires c =
    omega (arith, ap length c.deref-2.ensures.value, ap length c.in_ok-embedded.ensures.numbers, draws_count c.draw_below.new.self.state c.args.fields (2 * c.args.embeds), c.requires.embeds)

pub returns : goal.returns
returns c =
    ap (λ schedule. script_scheduled c.in_ok-prologue.field-0 c.in_ok-sessions.field-0 schedule) c.new.ensures
    ∙ script_drawn c.args.seed c.args.fields c.args.embeds c.draw_below.new.self.state c.deref.result.now c.deref-2.result.now _ _
    (c.deref.ensures.value ∙ c.in_ok-polynomials.ensures.numbers) c.in_ok-polynomials.ensures.state
    (c.deref-2.ensures.value ∙ c.in_ok-embedded.ensures.numbers) c.in_ok-prologue.ensures c.in_ok-sessions.ensures
