use Rattle.std.proofs.Common.{length}
use Rattle.lat_language.specs.Grammar.{words_of}
use Rattle.lat_language.proofs.SessionPlaces.{PlacedSoFar}
use Rattle.lat_language.proofs.places.push_places.Given as goal

-- the places of the names so far are added
abbrev pub invariant-loop-name : goal.invariant-loop-name
invariant-loop-name l = PlacedSoFar l.sessions (words_of l.names) (words_of l.rest) l.fn.schedule l.schedule

abbrev pub decreases-loop-name : goal.decreases-loop-name
decreases-loop-name l = length l.rest
