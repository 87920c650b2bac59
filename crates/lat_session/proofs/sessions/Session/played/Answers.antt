use Rattle.std.proofs.Common.{[], refl, subst, sym}
use Rattle.std.specs.Prelude.{Ok, IfOk}
use Rattle.lat_core.specs.declared.requests.Request.{Request}
use Rattle.lat_core.specs.declared.questions.Question.TheVariants as questions
use Rattle.lat_core.specs.Step.{IsProperRequest}
use Rattle.lat_language.specs.declared.commands.Command.{Command}
use Rattle.lat_language.specs.declared.commands.Command.TheVariants as commands
use Rattle.lat_session.specs.Commands.{IsProperCommand}
use Rattle.lat_session.specs.Outcomes.{operations_of}
use Rattle.lat_session.specs.Outcomes.Asks.{count}
use Rattle.lat_session.specs.PrivatePlaying.{OverSeen, Questions, ChangesTo, IsPlayed}
use Rattle.lat_session.specs.PrivatePlaying.Questions.{asked}
use Rattle.lat_session.proofs.AskedLines.{question_fits}
use Rattle.lat_session.proofs.FittingPlays.{seen_compatible}
use Rattle.lat_session.proofs.PlayedLines.{played_change, played_embedding, played_result, results_number, played_question, played_value}
use Rattle.lat_session.proofs.sessions.Session.played.Goals as goal

pub change-requires : goal.change-requires
change-requires g c = record { proper = subst IsProperRequest (sym c.declare.ensures) (subst IsProperCommand c.in-Field.is c.requires.proper) }

pub returns-in-Field : goal.returns-in-Field
returns-in-Field g c = subst (λ (k : Command). IsPlayed (operations_of c.args.ops.now.first c.args.ops.now.second c.args.ops.now.third) (g.P.Port.knowledge c.args.port.now) c.args.self.now k (g.P.Port.knowledge c.change.new.port) c.args.self.now (g.P.Port.borrows c.args.port.now) (g.P.Port.borrows c.change.new.port) c.change.result) (sym c.in-Field.is)
    (played_change c.change.result refl (subst (λ (r : Request). IfOk c.change.result (ChangesTo (g.P.Port.knowledge c.args.port.now) r (g.P.Port.knowledge c.change.new.port))) c.declare.ensures c.change.ensures.line) c.change.ensures.unplaced c.change.ensures.known c.change.ensures.borrowed)

pub change-requires-in-Embed : goal.change-requires-in-Embed
change-requires-in-Embed g c = record { proper = subst IsProperRequest (sym c.embed.ensures) tt }

pub returns-in-Embed : goal.returns-in-Embed
returns-in-Embed g c = subst (λ (k : Command). IsPlayed (operations_of c.args.ops.now.first c.args.ops.now.second c.args.ops.now.third) (g.P.Port.knowledge c.args.port.now) c.args.self.now k (g.P.Port.knowledge c.change-in-Embed.new.port) c.args.self.now (g.P.Port.borrows c.args.port.now) (g.P.Port.borrows c.change-in-Embed.new.port) c.change-in-Embed.result) (sym c.in-Embed.is)
    (played_change c.change-in-Embed.result refl (subst (λ (r : Request). IfOk c.change-in-Embed.result (ChangesTo (g.P.Port.knowledge c.args.port.now) r (g.P.Port.knowledge c.change-in-Embed.new.port))) c.embed.ensures c.change-in-Embed.ensures.line) c.change-in-Embed.ensures.unplaced c.change-in-Embed.ensures.known c.change-in-Embed.ensures.borrowed)

pub embed_sending-requires : goal.embed_sending-requires
embed_sending-requires g c = (c.requires.fit.lattice, c.requires.fit.seen)

pub returns-in-EmbedSending : goal.returns-in-EmbedSending
returns-in-EmbedSending g c = subst (λ (k : Command). IsPlayed (operations_of c.args.ops.now.first c.args.ops.now.second c.args.ops.now.third) (g.P.Port.knowledge c.args.port.now) c.args.self.now k (g.P.Port.knowledge c.embed_sending.new.port) c.args.self.now (g.P.Port.borrows c.args.port.now) (g.P.Port.borrows c.embed_sending.new.port) c.embed_sending.result) (sym c.in-EmbedSending.is)
    (played_embedding c.embed_sending.result c.embed_sending.ensures.line c.embed_sending.ensures.unplaced c.embed_sending.ensures.known c.embed_sending.ensures.borrowed)

pub change-requires-in-Sync : goal.change-requires-in-Sync
change-requires-in-Sync g c = record { proper = tt }

pub returns-in-Sync : goal.returns-in-Sync
returns-in-Sync g c = subst (λ (k : Command). IsPlayed (operations_of c.args.ops.now.first c.args.ops.now.second c.args.ops.now.third) (g.P.Port.knowledge c.args.port.now) c.args.self.now k (g.P.Port.knowledge c.change-in-Sync.new.port) c.args.self.now (g.P.Port.borrows c.args.port.now) (g.P.Port.borrows c.change-in-Sync.new.port) c.change-in-Sync.result) (sym c.in-Sync.is)
    (played_change c.change-in-Sync.result refl (c.change-in-Sync.ensures.line) c.change-in-Sync.ensures.unplaced c.change-in-Sync.ensures.known c.change-in-Sync.ensures.borrowed)

pub digits_in-computed-requires : goal.digits_in-computed-requires
digits_in-computed-requires g c = (c.requires.fit.lattice, c.requires.fit.seen)

pub keep-requires : goal.keep-requires
keep-requires g c = (c.requires.fit.lattice, c.requires.fit.seen, results_number c.digits_in-computed.result (λ op K a W v. v) (seen_compatible c.requires.fit.seen) c.requires.fit.fit (c.digits_in-computed.ensures (λ operation field value. value) [] c.requires.fit.lattice c.requires.fit.seen))

pub returns-in-Let : goal.returns-in-Let
returns-in-Let g c = subst (λ (k : Command). IsPlayed (operations_of c.args.ops.now.first c.args.ops.now.second c.args.ops.now.third) (g.P.Port.knowledge c.args.port.now) c.args.self.now k (g.P.Port.knowledge c.args.port.now) c.keep.new.self (g.P.Port.borrows c.args.port.now) (g.P.Port.borrows c.args.port.now) c.keep.result) (sym c.in-Let.is)
    (played_result _ (g.P.Port.borrows c.args.port.now) c.keep.result c.requires.known refl refl (c.digits_in-computed.ensures (operations_of c.args.ops.now.first c.args.ops.now.second c.args.ops.now.third) c.in-Let.result) c.keep.ensures.line c.keep.ensures.err)

pub sum-computed-requires : goal.sum-computed-requires
sum-computed-requires g c = c.requires.fit

pub keep-requires-in-Add : goal.keep-requires-in-Add
keep-requires-in-Add g c = (c.requires.fit.lattice, c.requires.fit.seen, results_number c.sum-computed.result (λ op K a W v. v) (seen_compatible c.requires.fit.seen) c.requires.fit.fit (c.sum-computed.ensures (λ operation field value. value) [] c.requires.fit.lattice c.requires.fit.seen))

pub returns-in-Add : goal.returns-in-Add
returns-in-Add g c = subst (λ (k : Command). IsPlayed (operations_of c.args.ops.now.first c.args.ops.now.second c.args.ops.now.third) (g.P.Port.knowledge c.args.port.now) c.args.self.now k (g.P.Port.knowledge c.args.port.now) c.keep-in-Add.new.self (g.P.Port.borrows c.args.port.now) (g.P.Port.borrows c.args.port.now) c.keep-in-Add.result) (sym c.in-Add.is)
    (played_result _ (g.P.Port.borrows c.args.port.now) c.keep-in-Add.result c.requires.known refl refl (c.sum-computed.ensures (operations_of c.args.ops.now.first c.args.ops.now.second c.args.ops.now.third) c.in-Add.result) c.keep-in-Add.ensures.line c.keep-in-Add.ensures.err)

pub product-computed-requires : goal.product-computed-requires
product-computed-requires g c = c.requires.fit

pub keep-requires-in-Mul : goal.keep-requires-in-Mul
keep-requires-in-Mul g c = (c.requires.fit.lattice, c.requires.fit.seen, results_number c.product-computed.result (λ op K a W v. v) (seen_compatible c.requires.fit.seen) c.requires.fit.fit (c.product-computed.ensures (λ operation field value. value) [] c.requires.fit.lattice c.requires.fit.seen))

pub returns-in-Mul : goal.returns-in-Mul
returns-in-Mul g c = subst (λ (k : Command). IsPlayed (operations_of c.args.ops.now.first c.args.ops.now.second c.args.ops.now.third) (g.P.Port.knowledge c.args.port.now) c.args.self.now k (g.P.Port.knowledge c.args.port.now) c.keep-in-Mul.new.self (g.P.Port.borrows c.args.port.now) (g.P.Port.borrows c.args.port.now) c.keep-in-Mul.result) (sym c.in-Mul.is)
    (played_result _ (g.P.Port.borrows c.args.port.now) c.keep-in-Mul.result c.requires.known refl refl (c.product-computed.ensures (operations_of c.args.ops.now.first c.args.ops.now.second c.args.ops.now.third) c.in-Mul.result) c.keep-in-Mul.ensures.line c.keep-in-Mul.ensures.err)

pub inverse-computed-requires : goal.inverse-computed-requires
inverse-computed-requires g c = c.requires.fit

pub keep-requires-in-Inv : goal.keep-requires-in-Inv
keep-requires-in-Inv g c = (c.requires.fit.lattice, c.requires.fit.seen, results_number c.inverse-computed.result (λ op K a W v. v) (seen_compatible c.requires.fit.seen) c.requires.fit.fit (c.inverse-computed.ensures (λ operation field value. value) [] c.requires.fit.lattice c.requires.fit.seen))

pub returns-in-Inv : goal.returns-in-Inv
returns-in-Inv g c = subst (λ (k : Command). IsPlayed (operations_of c.args.ops.now.first c.args.ops.now.second c.args.ops.now.third) (g.P.Port.knowledge c.args.port.now) c.args.self.now k (g.P.Port.knowledge c.args.port.now) c.keep-in-Inv.new.self (g.P.Port.borrows c.args.port.now) (g.P.Port.borrows c.args.port.now) c.keep-in-Inv.result) (sym c.in-Inv.is)
    (played_result _ (g.P.Port.borrows c.args.port.now) c.keep-in-Inv.result c.requires.known refl refl (c.inverse-computed.ensures (operations_of c.args.ops.now.first c.args.ops.now.second c.args.ops.now.third) c.in-Inv.result) c.keep-in-Inv.ensures.line c.keep-in-Inv.ensures.err)

pub power-computed-requires : goal.power-computed-requires
power-computed-requires g c = c.requires.fit

pub keep-requires-in-Pow : goal.keep-requires-in-Pow
keep-requires-in-Pow g c = (c.requires.fit.lattice, c.requires.fit.seen, results_number c.power-computed.result (λ op K a W v. v) (seen_compatible c.requires.fit.seen) c.requires.fit.fit (c.power-computed.ensures (λ operation field value. value) [] c.requires.fit.lattice c.requires.fit.seen))

pub returns-in-Pow : goal.returns-in-Pow
returns-in-Pow g c = subst (λ (k : Command). IsPlayed (operations_of c.args.ops.now.first c.args.ops.now.second c.args.ops.now.third) (g.P.Port.knowledge c.args.port.now) c.args.self.now k (g.P.Port.knowledge c.args.port.now) c.keep-in-Pow.new.self (g.P.Port.borrows c.args.port.now) (g.P.Port.borrows c.args.port.now) c.keep-in-Pow.result) (sym c.in-Pow.is)
    (played_result _ (g.P.Port.borrows c.args.port.now) c.keep-in-Pow.result c.requires.known refl refl (c.power-computed.ensures (operations_of c.args.ops.now.first c.args.ops.now.second c.args.ops.now.third) c.in-Pow.result) c.keep-in-Pow.ensures.line c.keep-in-Pow.ensures.err)

pub frobenius-computed-requires : goal.frobenius-computed-requires
frobenius-computed-requires g c = c.requires.fit

pub keep-requires-in-Frob : goal.keep-requires-in-Frob
keep-requires-in-Frob g c = (c.requires.fit.lattice, c.requires.fit.seen, results_number c.frobenius-computed.result (λ op K a W v. v) (seen_compatible c.requires.fit.seen) c.requires.fit.fit (c.frobenius-computed.ensures (λ operation field value. value) [] c.requires.fit.lattice c.requires.fit.seen))

pub returns-in-Frob : goal.returns-in-Frob
returns-in-Frob g c = subst (λ (k : Command). IsPlayed (operations_of c.args.ops.now.first c.args.ops.now.second c.args.ops.now.third) (g.P.Port.knowledge c.args.port.now) c.args.self.now k (g.P.Port.knowledge c.args.port.now) c.keep-in-Frob.new.self (g.P.Port.borrows c.args.port.now) (g.P.Port.borrows c.args.port.now) c.keep-in-Frob.result) (sym c.in-Frob.is)
    (played_result _ (g.P.Port.borrows c.args.port.now) c.keep-in-Frob.result c.requires.known refl refl (c.frobenius-computed.ensures (operations_of c.args.ops.now.first c.args.ops.now.second c.args.ops.now.third) c.in-Frob.result) c.keep-in-Frob.ensures.line c.keep-in-Frob.ensures.err)

pub trace-computed-requires : goal.trace-computed-requires
trace-computed-requires g c = c.requires.fit

pub keep-requires-in-Trace : goal.keep-requires-in-Trace
keep-requires-in-Trace g c = (c.requires.fit.lattice, c.requires.fit.seen, results_number c.trace-computed.result (λ op K a W v. v) (seen_compatible c.requires.fit.seen) c.requires.fit.fit (c.trace-computed.ensures (λ operation field value. value) [] c.requires.fit.lattice c.requires.fit.seen))

pub returns-in-Trace : goal.returns-in-Trace
returns-in-Trace g c = subst (λ (k : Command). IsPlayed (operations_of c.args.ops.now.first c.args.ops.now.second c.args.ops.now.third) (g.P.Port.knowledge c.args.port.now) c.args.self.now k (g.P.Port.knowledge c.args.port.now) c.keep-in-Trace.new.self (g.P.Port.borrows c.args.port.now) (g.P.Port.borrows c.args.port.now) c.keep-in-Trace.result) (sym c.in-Trace.is)
    (played_result _ (g.P.Port.borrows c.args.port.now) c.keep-in-Trace.result c.requires.known refl refl (c.trace-computed.ensures (operations_of c.args.ops.now.first c.args.ops.now.second c.args.ops.now.third) c.in-Trace.result) c.keep-in-Trace.ensures.line c.keep-in-Trace.ensures.err)

pub norm-computed-requires : goal.norm-computed-requires
norm-computed-requires g c = c.requires.fit

pub keep-requires-in-Norm : goal.keep-requires-in-Norm
keep-requires-in-Norm g c = (c.requires.fit.lattice, c.requires.fit.seen, results_number c.norm-computed.result (λ op K a W v. v) (seen_compatible c.requires.fit.seen) c.requires.fit.fit (c.norm-computed.ensures (λ operation field value. value) [] c.requires.fit.lattice c.requires.fit.seen))

pub returns-in-Norm : goal.returns-in-Norm
returns-in-Norm g c = subst (λ (k : Command). IsPlayed (operations_of c.args.ops.now.first c.args.ops.now.second c.args.ops.now.third) (g.P.Port.knowledge c.args.port.now) c.args.self.now k (g.P.Port.knowledge c.args.port.now) c.keep-in-Norm.new.self (g.P.Port.borrows c.args.port.now) (g.P.Port.borrows c.args.port.now) c.keep-in-Norm.result) (sym c.in-Norm.is)
    (played_result _ (g.P.Port.borrows c.args.port.now) c.keep-in-Norm.result c.requires.known refl refl (c.norm-computed.ensures (operations_of c.args.ops.now.first c.args.ops.now.second c.args.ops.now.third) c.in-Norm.result) c.keep-in-Norm.ensures.line c.keep-in-Norm.ensures.err)

pub lift-computed-requires : goal.lift-computed-requires
lift-computed-requires g c = c.requires.fit

pub keep-requires-in-Lift : goal.keep-requires-in-Lift
keep-requires-in-Lift g c = (c.requires.fit.lattice, c.requires.fit.seen, results_number c.lift-computed.result (λ op K a W v. v) (seen_compatible c.requires.fit.seen) c.requires.fit.fit (c.lift-computed.ensures (λ operation field value. value) [] c.requires.fit.lattice c.requires.fit.seen))

pub returns-in-Lift : goal.returns-in-Lift
returns-in-Lift g c = subst (λ (k : Command). IsPlayed (operations_of c.args.ops.now.first c.args.ops.now.second c.args.ops.now.third) (g.P.Port.knowledge c.args.port.now) c.args.self.now k (g.P.Port.knowledge c.args.port.now) c.keep-in-Lift.new.self (g.P.Port.borrows c.args.port.now) (g.P.Port.borrows c.args.port.now) c.keep-in-Lift.result) (sym c.in-Lift.is)
    (played_result _ (g.P.Port.borrows c.args.port.now) c.keep-in-Lift.result c.requires.known refl refl (c.lift-computed.ensures (operations_of c.args.ops.now.first c.args.ops.now.second c.args.ops.now.third) c.in-Lift.result) c.keep-in-Lift.ensures.line c.keep-in-Lift.ensures.err)

pub applied-computed-requires : goal.applied-computed-requires
applied-computed-requires g c = c.requires.fit

pub keep-requires-in-Apply : goal.keep-requires-in-Apply
keep-requires-in-Apply g c = (c.requires.fit.lattice, c.requires.fit.seen, results_number c.applied-computed.result c.requires.kept (seen_compatible c.requires.fit.seen) c.requires.fit.fit (c.applied-computed.ensures [] c.requires.fit.lattice c.requires.fit.seen))

pub returns-in-Apply : goal.returns-in-Apply
returns-in-Apply g c = subst (λ (k : Command). IsPlayed (operations_of c.args.ops.now.first c.args.ops.now.second c.args.ops.now.third) (g.P.Port.knowledge c.args.port.now) c.args.self.now k (g.P.Port.knowledge c.args.port.now) c.keep-in-Apply.new.self (g.P.Port.borrows c.args.port.now) (g.P.Port.borrows c.args.port.now) c.keep-in-Apply.result) (sym c.in-Apply.is)
    (played_result _ (g.P.Port.borrows c.args.port.now) c.keep-in-Apply.result c.requires.known refl refl (c.applied-computed.ensures c.in-Apply.result) c.keep-in-Apply.ensures.line c.keep-in-Apply.ensures.err)

pub show-requires : goal.show-requires
show-requires g c = c.requires.fit

pub returns-in-Show : goal.returns-in-Show
returns-in-Show g c = subst (λ (k : Command). IsPlayed (operations_of c.args.ops.now.first c.args.ops.now.second c.args.ops.now.third) (g.P.Port.knowledge c.args.port.now) c.args.self.now k (g.P.Port.knowledge c.args.port.now) c.args.self.now (g.P.Port.borrows c.args.port.now) (g.P.Port.borrows c.args.port.now) (Ok c.show.result)) (sym c.in-Show.is)
    (played_value _ (g.P.Port.borrows c.args.port.now) c.requires.known c.show.ensures)

pub image_question-requires : goal.image_question-requires
image_question-requires g c = (c.requires.fit.lattice, c.requires.fit.seen)

pub asked-requires : goal.asked-requires
asked-requires g c = let fits : OverSeen (g.P.Port.knowledge c.args.port.now) (λ M. Questions M c.args.self.now (commands.Map c.in-Map.from c.in-Map.into) c.image_question.result) = (λ L s. c.image_question.ensures c.args.self.now L s) in
    (c.requires.fit.lattice, c.requires.fit.seen, question_fits c.image_question.result c.requires.fit.fit (fits c.requires.fit.lattice c.requires.fit.seen))

pub returns-in-Map : goal.returns-in-Map
returns-in-Map g c = let fits : OverSeen (g.P.Port.knowledge c.args.port.now) (λ M. Questions M c.args.self.now (commands.Map c.in-Map.from c.in-Map.into) c.image_question.result) = (λ L s. c.image_question.ensures c.args.self.now L s) in
    subst (λ (k : Command). IsPlayed (operations_of c.args.ops.now.first c.args.ops.now.second c.args.ops.now.third) (g.P.Port.knowledge c.args.port.now) c.args.self.now k (g.P.Port.knowledge c.args.port.now) c.args.self.now (g.P.Port.borrows c.args.port.now) (g.P.Port.borrows c.args.port.now) (Ok c.asked.result)) (sym c.in-Map.is)
    (played_question (commands.Map c.in-Map.from c.in-Map.into) (g.P.Port.borrows c.args.port.now) c.requires.known refl fits c.asked.ensures)

pub meet_question-requires : goal.meet_question-requires
meet_question-requires g c = (c.requires.fit.lattice, c.requires.fit.seen)

pub asked-requires-in-Meet : goal.asked-requires-in-Meet
asked-requires-in-Meet g c = let fits : OverSeen (g.P.Port.knowledge c.args.port.now) (λ M. Questions M c.args.self.now (commands.Meet c.in-Meet.first c.in-Meet.second c.in-Meet.within) c.meet_question.result) = (λ L s. c.meet_question.ensures c.args.self.now L s) in
    (c.requires.fit.lattice, c.requires.fit.seen, question_fits c.meet_question.result c.requires.fit.fit (fits c.requires.fit.lattice c.requires.fit.seen))

pub returns-in-Meet : goal.returns-in-Meet
returns-in-Meet g c = let fits : OverSeen (g.P.Port.knowledge c.args.port.now) (λ M. Questions M c.args.self.now (commands.Meet c.in-Meet.first c.in-Meet.second c.in-Meet.within) c.meet_question.result) = (λ L s. c.meet_question.ensures c.args.self.now L s) in
    subst (λ (k : Command). IsPlayed (operations_of c.args.ops.now.first c.args.ops.now.second c.args.ops.now.third) (g.P.Port.knowledge c.args.port.now) c.args.self.now k (g.P.Port.knowledge c.args.port.now) c.args.self.now (g.P.Port.borrows c.args.port.now) (g.P.Port.borrows c.args.port.now) (Ok c.asked-in-Meet.result)) (sym c.in-Meet.is)
    (played_question (commands.Meet c.in-Meet.first c.in-Meet.second c.in-Meet.within) (g.P.Port.borrows c.args.port.now) c.requires.known refl fits c.asked-in-Meet.ensures)

pub common_question-requires : goal.common_question-requires
common_question-requires g c = (c.requires.fit.lattice, c.requires.fit.seen)

pub asked-requires-in-Common : goal.asked-requires-in-Common
asked-requires-in-Common g c = let fits : OverSeen (g.P.Port.knowledge c.args.port.now) (λ M. Questions M c.args.self.now (commands.Common c.in-Common.first c.in-Common.second) c.common_question.result) = (λ L s. c.common_question.ensures c.args.self.now L s) in
    (c.requires.fit.lattice, c.requires.fit.seen, question_fits c.common_question.result c.requires.fit.fit (fits c.requires.fit.lattice c.requires.fit.seen))

pub returns-in-Common : goal.returns-in-Common
returns-in-Common g c = let fits : OverSeen (g.P.Port.knowledge c.args.port.now) (λ M. Questions M c.args.self.now (commands.Common c.in-Common.first c.in-Common.second) c.common_question.result) = (λ L s. c.common_question.ensures c.args.self.now L s) in
    subst (λ (k : Command). IsPlayed (operations_of c.args.ops.now.first c.args.ops.now.second c.args.ops.now.third) (g.P.Port.knowledge c.args.port.now) c.args.self.now k (g.P.Port.knowledge c.args.port.now) c.args.self.now (g.P.Port.borrows c.args.port.now) (g.P.Port.borrows c.args.port.now) (Ok c.asked-in-Common.result)) (sym c.in-Common.is)
    (played_question (commands.Common c.in-Common.first c.in-Common.second) (g.P.Port.borrows c.args.port.now) c.requires.known refl fits c.asked-in-Common.ensures)

pub asked-requires-in-MinPoly : goal.asked-requires-in-MinPoly
asked-requires-in-MinPoly g c = let fits : OverSeen (g.P.Port.knowledge c.args.port.now) (λ M. Questions M c.args.self.now (commands.MinPoly c.in-MinPoly.value) c.minimal_question.result) = (λ L s. c.minimal_question.ensures L) in
    (c.requires.fit.lattice, c.requires.fit.seen, question_fits c.minimal_question.result c.requires.fit.fit (fits c.requires.fit.lattice c.requires.fit.seen))

pub returns-in-MinPoly : goal.returns-in-MinPoly
returns-in-MinPoly g c = let fits : OverSeen (g.P.Port.knowledge c.args.port.now) (λ M. Questions M c.args.self.now (commands.MinPoly c.in-MinPoly.value) c.minimal_question.result) = (λ L s. c.minimal_question.ensures L) in
    subst (λ (k : Command). IsPlayed (operations_of c.args.ops.now.first c.args.ops.now.second c.args.ops.now.third) (g.P.Port.knowledge c.args.port.now) c.args.self.now k (g.P.Port.knowledge c.args.port.now) c.args.self.now (g.P.Port.borrows c.args.port.now) (g.P.Port.borrows c.args.port.now) (Ok c.asked-in-MinPoly.result)) (sym c.in-MinPoly.is)
    (played_question (commands.MinPoly c.in-MinPoly.value) (g.P.Port.borrows c.args.port.now) c.requires.known refl fits c.asked-in-MinPoly.ensures)

pub minimal_over_question-requires : goal.minimal_over_question-requires
minimal_over_question-requires g c = (c.requires.fit.lattice, c.requires.fit.seen)

pub asked-requires-in-MinPolyOver : goal.asked-requires-in-MinPolyOver
asked-requires-in-MinPolyOver g c = let fits : OverSeen (g.P.Port.knowledge c.args.port.now) (λ M. Questions M c.args.self.now (commands.MinPolyOver c.in-MinPolyOver.value c.in-MinPolyOver.over) c.minimal_over_question.result) = c.minimal_over_question.ensures in
    (c.requires.fit.lattice, c.requires.fit.seen, question_fits c.minimal_over_question.result c.requires.fit.fit (fits c.requires.fit.lattice c.requires.fit.seen))

pub returns-in-MinPolyOver : goal.returns-in-MinPolyOver
returns-in-MinPolyOver g c = let fits : OverSeen (g.P.Port.knowledge c.args.port.now) (λ M. Questions M c.args.self.now (commands.MinPolyOver c.in-MinPolyOver.value c.in-MinPolyOver.over) c.minimal_over_question.result) = c.minimal_over_question.ensures in
    subst (λ (k : Command). IsPlayed (operations_of c.args.ops.now.first c.args.ops.now.second c.args.ops.now.third) (g.P.Port.knowledge c.args.port.now) c.args.self.now k (g.P.Port.knowledge c.args.port.now) c.args.self.now (g.P.Port.borrows c.args.port.now) (g.P.Port.borrows c.args.port.now) (Ok c.asked-in-MinPolyOver.result)) (sym c.in-MinPolyOver.is)
    (played_question (commands.MinPolyOver c.in-MinPolyOver.value c.in-MinPolyOver.over) (g.P.Port.borrows c.args.port.now) c.requires.known refl fits c.asked-in-MinPolyOver.ensures)

pub subfields_question-requires : goal.subfields_question-requires
subfields_question-requires g c = (c.requires.fit.lattice, c.requires.fit.seen)

pub asked-requires-in-List : goal.asked-requires-in-List
asked-requires-in-List g c = let fits : OverSeen (g.P.Port.knowledge c.args.port.now) (λ M. Questions M c.args.self.now (commands.List c.in-List.field) c.subfields_question.result) = (λ L s. c.subfields_question.ensures c.args.self.now L s) in
    (c.requires.fit.lattice, c.requires.fit.seen, question_fits c.subfields_question.result c.requires.fit.fit (fits c.requires.fit.lattice c.requires.fit.seen))

pub returns-in-List : goal.returns-in-List
returns-in-List g c = let fits : OverSeen (g.P.Port.knowledge c.args.port.now) (λ M. Questions M c.args.self.now (commands.List c.in-List.field) c.subfields_question.result) = (λ L s. c.subfields_question.ensures c.args.self.now L s) in
    subst (λ (k : Command). IsPlayed (operations_of c.args.ops.now.first c.args.ops.now.second c.args.ops.now.third) (g.P.Port.knowledge c.args.port.now) c.args.self.now k (g.P.Port.knowledge c.args.port.now) c.args.self.now (g.P.Port.borrows c.args.port.now) (g.P.Port.borrows c.args.port.now) (Ok c.asked-in-List.result)) (sym c.in-List.is)
    (played_question (commands.List c.in-List.field) (g.P.Port.borrows c.args.port.now) c.requires.known refl fits c.asked-in-List.ensures)

pub asked-requires-in-Count : goal.asked-requires-in-Count
asked-requires-in-Count g c = let fits : OverSeen (g.P.Port.knowledge c.args.port.now) (λ M. Questions M c.args.self.now commands.Count (Ok questions.Count)) = (λ L s. asked count) in
    (c.requires.fit.lattice, c.requires.fit.seen, question_fits (Ok questions.Count) c.requires.fit.fit (fits c.requires.fit.lattice c.requires.fit.seen))

pub returns-in-Count : goal.returns-in-Count
returns-in-Count g c = let fits : OverSeen (g.P.Port.knowledge c.args.port.now) (λ M. Questions M c.args.self.now commands.Count (Ok questions.Count)) = (λ L s. asked count) in
    subst (λ (k : Command). IsPlayed (operations_of c.args.ops.now.first c.args.ops.now.second c.args.ops.now.third) (g.P.Port.knowledge c.args.port.now) c.args.self.now k (g.P.Port.knowledge c.args.port.now) c.args.self.now (g.P.Port.borrows c.args.port.now) (g.P.Port.borrows c.args.port.now) (Ok c.asked-in-Count.result)) (sym c.in-Count.is)
    (played_question commands.Count (g.P.Port.borrows c.args.port.now) c.requires.known refl fits c.asked-in-Count.ensures)
