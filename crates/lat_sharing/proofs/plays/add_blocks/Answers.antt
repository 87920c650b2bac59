-- One session more.
use Rattle.std.proofs.Common.{arith, ◌∙◌, ap, ◌++◌}
use Rattle.lat_sharing.proofs.SessionBlocks.{blocks_more}
use Rattle.lat_sharing.proofs.plays.add_blocks.Goals as goal

pub loop-i-preserved : goal.loop-i-preserved
loop-i-preserved c = record {
  blocks = blocks_more (λ text. text.items) c.args.sessions.now c.args.texts.now c.loop-i.i c.index-sessions-i.result c.index-texts-i.result
      c.args.out.now.items c.loop-i.out.items c.add_session.new.out.items c.extend_from_slice.new.self.items
      (omega arith) c.requires c.index-sessions-i.is c.index-texts-i.is c.loop-i.invariant.blocks c.in_ok-add_session.ensures.ok
      (c.in_ok-extend_from_slice.ensures.items ∙ ap (λ t. c.add_session.new.out.items ++ t) c.deref.ensures.value);
}
