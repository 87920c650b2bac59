use Rattle.std.proofs.Common.{sym, subst}
use Rattle.alg_model.specs.Lattices.{Lattice}
use Rattle.lat_core.specs.Answers.{Fits, Answers}
use Rattle.lat_shared.proofs.TurnLemmas.{is_view}
use Rattle.lat_shared.proofs.session_passes.SessionPass.read.Goals as goal

pub answer-requires : goal.answer-requires
answer-requires c = let (L, after, fits) = c.requires.fits in record {
  fits = subst (λ (K : Lattice). Fits K c.args.question.now)
      (is_view _ _ _ _ _ c.self.invariant.keeps c.self.view_is L after) fits;
}

pub returns : goal.returns
returns c = record {
  answer = λ L after. subst (λ (K : Lattice). Answers K c.args.question.now c.answer.result)
      (sym (is_view _ _ _ _ _ c.self.invariant.keeps c.self.view_is L after)) c.answer.ensures.answer;
}
