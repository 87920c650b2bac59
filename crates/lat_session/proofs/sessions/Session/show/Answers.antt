use Rattle.lat_session.proofs.Plays.{shows_value, shows_nothing}
use Rattle.lat_session.proofs.sessions.Session.show.Goals as goal

pub shown-requires : goal.shown-requires
shown-requires g c = (c.requires.lattice, c.requires.seen, (c.requires.fit.values c.in-Ok.ensures).tag)

pub returns-in-Ok : goal.returns-in-Ok
returns-in-Ok g c = shows_value c.requires.lattice c.requires.seen c.in-Ok.ensures
    (c.shown.ensures c.requires.lattice c.requires.seen) c.marked.ensures

pub returns-in-Err : goal.returns-in-Err
returns-in-Err g c = shows_nothing c.requires.lattice c.requires.seen c.in-Err.ensures c.refused.ensures
