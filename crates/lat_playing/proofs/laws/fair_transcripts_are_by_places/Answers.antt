use Rattle.lat_playing.proofs.TurnedWorlds.{fair_by_places, places_fair}
use Rattle.lat_playing.proofs.OrderedChanges.{order_by_marks}
use Rattle.lat_playing.proofs.laws.fair_transcripts_are_by_places.Goals as goal

pub returns-clause-by_places : goal.returns-clause-by_places
returns-clause-by_places c = fair_by_places

pub returns-clause-fair : goal.returns-clause-fair
returns-clause-fair c = places_fair

pub returns-clause-order : goal.returns-clause-order
returns-clause-order c = order_by_marks
