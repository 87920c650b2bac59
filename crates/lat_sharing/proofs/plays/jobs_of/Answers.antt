-- The job of one pass more.
use Rattle.std.proofs.Common.{◌≡◌, ◌<◌, [], ◌∷◌, ◌++◌, length, sym, ap, ◌∙◌, arith, append_assoc, length-append, refl}
use Rattle.std.specs.Prelude.{slice_index_or}
use Rattle.std.proofs.lemmas.List.{length-map}
use Rattle.std.specs.Vec.Iter.{into_iter_items}
use Rattle.lat_language.specs.declared.scripts.SessionScript.{SessionScript}
use Rattle.lat_sharing.proofs.JobLists.{one_more_field, one_more_commands, one_more_all}
use Rattle.lat_sharing.proofs.plays.jobs_of.Goals as goal

pub loop-pass-preserved : goal.loop-pass-preserved
loop-pass-preserved g c =
    let at = c.loop-pass in
    let x = c.in-Some.pass in
    let steps : into_iter_items at.pass-iterator ≡ x ∷ into_iter_items c.next.new.self = c.in-Some.ensures.steps.0 in
    let counted : c.len.result ≡ length at.yielded
    = omega (arith, c.len.ensures, length-map at.jobs.items (λ job. job.pass), ap length at.invariant.2) in
    let whole : at.yielded ++ x ∷ into_iter_items c.next.new.self ≡ c.args.passes.items
    = sym (ap (λ l. at.yielded ++ l) steps) ∙ at.invariant.0 ∙ c.into_iter-pass-iterator.ensures.into_iter_gives.0 in
    let within : length at.yielded < length c.args.sessions.now
    = omega (arith, ap length whole, length-append at.yielded (x ∷ into_iter_items c.next.new.self), c.requires) in (
      append_assoc at.yielded (x ∷ []) _ ∙ rw (← steps) at.invariant.0,
      let was = at.invariant.1 in let gone = c.in-Some.ensures.steps.1 in let short = ap length steps in omega arith,
      one_more_field (λ job. job.pass) at.jobs.items _ at.yielded c.push.new.self.items at.invariant.2 c.in_ok-push.ensures.items,
      one_more_commands (λ job. job.commands.now) at.jobs.items _ c.push.new.self.items c.args.sessions.now c.index-sessions-len.result
          (length at.yielded) (length (at.yielded ++ x ∷ [])) at.invariant.3 c.in_ok-push.ensures.items within
          (c.index-sessions-len.is ∙ ap (λ n. slice_index_or c.args.sessions.now n c.index-sessions-len.result) counted)
          (c.items-commands.ensures ∙ ap (λ (s : SessionScript). s.commands) (sym c.index-sessions-len.is)) (length-append at.yielded (x ∷ [])),
      one_more_all (λ job. job.shared.now ≡ c.args.shared.now) at.jobs.items _ c.push.new.self.items at.invariant.4 refl c.in_ok-push.ensures.items,
      one_more_all (λ job. job.ops.now ≡ c.args.ops.now) at.jobs.items _ c.push.new.self.items at.invariant.5 refl c.in_ok-push.ensures.items,
    )
