use Rattle.std.proofs.Common.{subst}
use Rattle.lat_core.specs.Histories.{IsRefusedBy}
use Rattle.lat_session.proofs.Plays.{entered, no_room}
use Rattle.lat_session.proofs.changes.change.Goals as goal

pub returns-in-Ok-clause-line : goal.returns-in-Ok-clause-line
returns-in-Ok-clause-line g c = entered c.in-Ok.ensures.placed

pub returns-in-Ok-clause-known : goal.returns-in-Ok-clause-known
returns-in-Ok-clause-known g c = c.change.ensures.known

pub returns-in-Ok-clause-borrowed : goal.returns-in-Ok-clause-borrowed
returns-in-Ok-clause-borrowed g c = c.change.ensures.borrowed

pub returns-in-Err-HistoryFull-clause-line : goal.returns-in-Err-HistoryFull-clause-line
returns-in-Err-HistoryFull-clause-line g c = no_room c.in-Err-HistoryFull.ensures.unplaced
    (subst (IsRefusedBy (g.P.Port.knowledge c.change.new.self)) c.in-Err-HistoryFull.field-0-is c.in-Err-HistoryFull.ensures.fault)
    c.front.ensures.count

pub returns-in-Err-HistoryFull-clause-known : goal.returns-in-Err-HistoryFull-clause-known
returns-in-Err-HistoryFull-clause-known g c = c.change.ensures.known

pub returns-in-Err-HistoryFull-clause-borrowed : goal.returns-in-Err-HistoryFull-clause-borrowed
returns-in-Err-HistoryFull-clause-borrowed g c = c.change.ensures.borrowed

pub returns-in-Err-NoMemory-clause-unplaced : goal.returns-in-Err-NoMemory-clause-unplaced
returns-in-Err-NoMemory-clause-unplaced g c = c.in-Err-NoMemory.ensures.unplaced

pub returns-in-Err-NoMemory-clause-known : goal.returns-in-Err-NoMemory-clause-known
returns-in-Err-NoMemory-clause-known g c = c.change.ensures.known

pub returns-in-Err-NoMemory-clause-borrowed : goal.returns-in-Err-NoMemory-clause-borrowed
returns-in-Err-NoMemory-clause-borrowed g c = c.change.ensures.borrowed
