-- What is done to the places is done to what the lines have said.
use Rattle.std.proofs.Common.{List, subst}
use Rattle.lat_language.specs.Grammar.{State, words_of, after, OfSchedule}
use Rattle.lat_language.specs.PrivateParsing.{schedule_faults, AddsPlaces, Adds}
use Rattle.lat_language.specs.declared.scripts.SessionScript.{SessionScript}
use Rattle.lat_language.proofs.ParsedLines.{adds_schedule}
use Rattle.lat_language.proofs.parsing.Reader.add_schedule.Goals as goal

pub returns : goal.returns
returns c =
    let i = c.self.inside in
    let words = words_of c.args.names.now in
    let made = c.push_places.new.schedule in
    subst (λ (s : State). Adds (schedule_faults s.sessions words) (after s (OfSchedule words)) (record { begun = i.begun; prologue = i.prologue; sessions = i.sessions; schedule = made }) c.push_places.result) c.self.view_is
    (adds_schedule (record { begun = i.begun; prologue = i.prologue; sessions = i.sessions; schedule = i.schedule }) words made c.push_places.result
    (subst (λ (sessions : List SessionScript). AddsPlaces sessions words i.schedule made c.push_places.result) c.items.ensures c.push_places.ensures))
