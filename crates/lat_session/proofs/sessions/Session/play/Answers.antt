use Rattle.lat_session.specs.Outcomes.{operations_of}
use Rattle.lat_session.proofs.PlayedLines.{line_played, nothing_played, variables_kept, fit_played}
use Rattle.lat_session.proofs.sessions.Session.play.Goals as goal

pub played-requires : goal.played-requires
played-requires g c = record { proper = c.requires.proper; fit = c.requires.fit; known = c.front-front.ensures.known; kept = c.values_kept.ensures }

pub returns-clause-line : goal.returns-clause-line
returns-clause-line g c = line_played (operations_of c.args.ops.now.first c.args.ops.now.second c.args.ops.now.third) (g.P.Port.knowledge c.args.port.now) (g.P.Port.knowledge c.played.new.port) c.args.self.now c.played.new.self c.args.command.now c.played.result c.played.ensures.answered

pub returns-clause-unplaced : goal.returns-clause-unplaced
returns-clause-unplaced g c = nothing_played (operations_of c.args.ops.now.first c.args.ops.now.second c.args.ops.now.third) (g.P.Port.knowledge c.args.port.now) (g.P.Port.knowledge c.played.new.port) c.args.self.now c.played.new.self c.args.command.now c.played.result c.played.ensures.answered

pub returns-clause-kept : goal.returns-clause-kept
returns-clause-kept g c = variables_kept (operations_of c.args.ops.now.first c.args.ops.now.second c.args.ops.now.third) (g.P.Port.knowledge c.args.port.now) (g.P.Port.knowledge c.played.new.port) c.args.self.now c.played.new.self c.args.command.now c.played.result c.played.ensures.answered

pub returns-clause-fit : goal.returns-clause-fit
returns-clause-fit g c = fit_played (operations_of c.args.ops.now.first c.args.ops.now.second c.args.ops.now.third) (g.P.Port.knowledge c.args.port.now) (g.P.Port.knowledge c.played.new.port) c.args.self.now c.played.new.self c.args.command.now c.played.result c.values_kept.ensures c.requires.fit c.front-front.ensures.known c.played.ensures.known c.played.ensures.answered

pub returns-clause-known : goal.returns-clause-known
returns-clause-known g c = c.played.ensures.known

pub returns-clause-borrowed : goal.returns-clause-borrowed
returns-clause-borrowed g c = c.played.ensures.borrowed
