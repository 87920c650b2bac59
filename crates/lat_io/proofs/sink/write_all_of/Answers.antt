use Rattle.std.proofs.Common.{rules, subst}
use Rattle.std.specs.Io.KnownBytes.{Appends}
use Rattle.std.proofs.KnownBytes.{Appends-trans}
use Rattle.lat_io.proofs.Pieces.{take-append-rest}
use Rattle.lat_io.proofs.sink.write_all_of.Goals as goal

pub loop-written-preserved : goal.loop-written-preserved
loop-written-preserved g c = record {
  within = search rules;
  appended = subst (Appends _ _) (take-append-rest _ _ _) (Appends-trans _ _ _ _ _ c.loop-written.invariant.appended c.in_ok-written.ensures.appended);
  unfailed = search rules;
}
