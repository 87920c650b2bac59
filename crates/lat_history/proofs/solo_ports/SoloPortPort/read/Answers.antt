use Rattle.std.proofs.Common.{sym, ◌∙◌, subst}
use Rattle.alg_model.specs.Lattices.{Lattice}
use Rattle.lat_core.specs.Answers.{Fits, Answers}
use Rattle.lat_history.proofs.solo_ports.SoloPortPort.read.Goals as goal

pub answer-requires : goal.answer-requires
answer-requires c = let (L, after, fits) = c.requires.fits in record {
  fits = subst (λ (K : Lattice). Fits K c.args.question.now) (c.args.self.now.view L after ∙ sym c.view-view.ensures.value) fits;
}

pub returns : goal.returns
returns c = record {
  answer = λ L after. subst (λ (K : Lattice). Answers K c.args.question.now c.answer.result)
      (c.view-view.ensures.value ∙ sym (c.args.self.now.view L after)) c.answer.ensures.answer;
}
