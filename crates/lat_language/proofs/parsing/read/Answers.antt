-- A fault of a line, and one line more.
use Rattle.std.proofs.Common.{rules, subst}
use Rattle.lat_language.specs.PrivateParsing.{TakesLine}
use Rattle.lat_language.proofs.ParsedLines.{read_more, fault_reads}
use Rattle.lat_language.proofs.parsing.read.Goals as goal

pub returns-in-Err : goal.returns-in-Err
returns-in-Err c =
    rw c.at.ensures (fault_reads c.loop-line.reader c.loop-line.number c.loop-line.rest.now c.args.bytes.now c.loop-line.invariant.read
    c.in-Some.line.now c.in-Some.after.now c.in-Some.ensures.0 c.take.new.self c.in-Err.fault
    (subst (TakesLine c.loop-line.reader c.in-Some.line.now c.take.new.self) c.in-Err.is c.take.ensures))

pub loop-line-preserved : goal.loop-line-preserved
loop-line-preserved c = record {
  read = read_more c.loop-line.reader c.loop-line.number c.loop-line.rest.now c.args.bytes.now c.loop-line.invariant.read
      c.in-Some.line.now c.in-Some.after.now c.in-Some.ensures.0 c.take.new.self
      (subst (TakesLine c.loop-line.reader c.in-Some.line.now c.take.new.self) c.in_default-take.is c.take.ensures);
  counted = search rules;
}
