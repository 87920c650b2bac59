-- The last session has one command more.
use Rattle.std.proofs.Common.{◌≡◌, ◌+◌, ◌-◌, List, length, set, ap, subst, arith}
use Rattle.std.specs.Prelude.{OnOk}
use Rattle.lat_language.specs.declared.scripts.SessionScript.{SessionScript}
use Rattle.lat_language.specs.Grammar.{add_to_last}
use Rattle.lat_language.proofs.SessionPlaces.{push_last}
use Rattle.lat_language.proofs.sequences.Sequence+SessionScript.push_command.Goals as goal

pub returns-clause-ok : goal.returns-clause-ok
returns-clause-ok c =
    let items = c.self.inside.items.items in
    let session = c.index_mut-session.result.now in
    let last : c.len-last.result - 1 + 1 ≡ length items = omega (arith, c.len-last.ensures, c.self.inside.items.ok.0, ap length c.self.view_is, c.requires) in
    subst (λ (old : List SessionScript). OnOk c.push.result (set items (c.len-last.result - 1) (record { name = session.name; commands = c.push.new.self }) ≡ add_to_last old c.args.command)) c.self.view_is
    (push_last items (c.len-last.result - 1) session c.push.new.self c.args.command c.push.result last c.index_mut-session.ensures.value c.push.ensures.ok)
