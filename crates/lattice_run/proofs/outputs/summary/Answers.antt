-- A generated script is played, and its summary stands alone.
use Rattle.std.proofs.Common.{subst, sym}
use Rattle.alg_model.specs.Lattices.{first_edition}
use Rattle.lat_session.specs.Outcomes.{operations_of}
use Rattle.lat_playing.specs.Plays.{IsPlayable}
use Rattle.lattice_run.specs.Answers.{IsSummary}
use Rattle.lattice_run.specs.PrivateRuns.{AddsSummary}
use Rattle.lattice_run.proofs.PlayableScripts.{generated_playable}
use Rattle.lattice_run.proofs.Transcribed.{summary_is}
use Rattle.lattice_run.proofs.outputs.summary.Goals as goal

pub play_solo-requires : goal.play_solo-requires
play_solo-requires g c =
    subst IsPlayable (sym c.in_ok-script.ensures) (generated_playable c.args.seed c.args.fields c.args.embeds c.requires)

pub returns : goal.returns
returns g c =
    let operations = operations_of c.args.ops.now.first c.args.ops.now.second c.args.ops.now.third in
    subst (λ script. IsSummary first_edition operations script c.add_book_summary.new.out.items) c.in_ok-script.ensures
    (summary_is operations c.in_ok-script.script c.in_ok-book.field-0 _ c.in_ok-book.ensures
    (subst (λ old. AddsSummary c.in_ok-book.field-0.book old c.add_book_summary.new.out.items) c.new-text.ensures.items c.in_ok-add_book_summary.ensures))
