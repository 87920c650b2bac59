-- The pass is the one that the port has had.
use Rattle.std.proofs.Common.{◌≡◌, ◌∙◌, subst, ap, rules}
use Rattle.std.specs.Prelude.{IfOk}
use Rattle.lat_session.specs.Outcomes.{operations_of}
use Rattle.lat_shared.specs.Sharing.{SharedPass, IsPassOf, knowledge_of}
use Rattle.lat_shared.proofs.JoinLemmas.{port_sharing}
use Rattle.lat_sharing.specs.PrivateSharings.{HasPlayed}
use Rattle.lat_sharing.proofs.PlayedCommands.{held_after}
use Rattle.lat_sharing.proofs.sessions.play_session.Goals as goal

pub returns-clause-of_shared : goal.returns-clause-of_shared
returns-clause-of_shared g c =
    let heads : c.play_commands.new.port.pass.ghost_name ≡ c.new-port.result.pass.ghost_name = let b = c.play_commands.ensures.borrowed in cc in
    held_after (IsPassOf c.args.shared.now) c.play_commands.new.port.pass.now c.pass-1.given.0 (search rules)
    (port_sharing _ _ c.new-port.result.pass.now c.play_commands.new.port.pass.now c.play_commands.ensures.borrowed c.play_commands.ensures.same
    ∙ ap (λ (pass : SharedPass). pass.sharing) c.new-port.ensures.pass ∙ c.requires.of_shared)

pub returns-clause-number : goal.returns-clause-number
returns-clause-number g c =
    let heads : c.play_commands.new.port.pass.ghost_name ≡ c.new-port.result.pass.ghost_name = let b = c.play_commands.ensures.borrowed in cc in
    held_after (λ pass. pass.number ≡ c.args.pass.now.number) c.play_commands.new.port.pass.now c.pass-1.given.0 (search rules)
    (c.play_commands.ensures.same.number ∙ ap (λ (pass : SharedPass). pass.number) c.new-port.ensures.pass)

pub returns-clause-played : goal.returns-clause-played
returns-clause-played g c =
    let operations = operations_of c.args.ops.now.first c.args.ops.now.second c.args.ops.now.third in
    let heads : c.play_commands.new.port.pass.ghost_name ≡ c.new-port.result.pass.ghost_name = let b = c.play_commands.ensures.borrowed in cc in
    held_after (λ pass. IfOk c.play_commands.result (λ text. HasPlayed operations (knowledge_of c.args.pass.now) c.args.commands.now (knowledge_of pass) text.items))
    c.play_commands.new.port.pass.now c.pass-1.given.0 (search rules)
    (subst (λ old. IfOk c.play_commands.result (λ text. HasPlayed operations (knowledge_of old) c.args.commands.now (knowledge_of c.play_commands.new.port.pass.now) text.items))
    c.new-port.ensures.pass c.play_commands.ensures.played)
