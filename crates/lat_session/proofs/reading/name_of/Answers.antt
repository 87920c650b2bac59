use Rattle.lat_session.proofs.Questioned.{at_number, name_is}
use Rattle.lat_session.proofs.reading.name_of.Goals as goal

pub read-requires : goal.read-requires
read-requires g c = record { fits = (c.requires.0, c.requires.1.after, c.requires.2) }

pub unreachable-requires : goal.unreachable-requires
unreachable-requires g c = c.in_default.not-Known _ _ _ (at_number (c.read.ensures.answer c.requires.0 c.requires.1.after))

pub returns : goal.returns
returns g c = λ L s. name_is (c.read.ensures.answer L s.after) c.in-Known.is
