use Rattle.std.proofs.Common.{sym, subst}
use Rattle.alg_model.specs.Lattices.{Lattice}
use Rattle.lat_core.specs.Histories.{IsAfter}
use Rattle.lat_history.proofs.PassLemmas.{pass_of_all}
use Rattle.lat_history.proofs.solo_passes.SoloPass.open.Goals as goal

pub returns-clause-pass : goal.returns-clause-pass
returns-clause-pass c = pass_of_all _ _ c.length.ensures.whole c.length.ensures.value
    (subst (λ (L : Lattice). IsAfter c.args.book.now.edition c.args.book.now.entries L) (sym c.in_ok-copy.ensures) c.lattice.ensures.value)
