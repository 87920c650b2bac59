use Rattle.std.proofs.Common.{ℕ, take, sym, subst, ◌≡◌}
use Rattle.std.specs.Prelude.{All}
use Rattle.lat_core.specs.Histories.{entries_of}
use Rattle.lat_history.specs.Books.{History}
use Rattle.lat_gate.specs.Passes.{known}
use Rattle.lat_shared.specs.Sharing.{SharedPass, IsSession, EndsAs}
use Rattle.lat_shared.proofs.JoinLemmas.{every_number, all_end, others_end}
use Rattle.lat_shared.proofs.shared.Shared.close.Goals as goal

pub close-book-requires-clause-every : goal.close-book-requires-clause-every
close-book-requires-clause-every c = every_number (known c.join_all-kept.result) c.args.self c.args.passes.items
    c.join_all-kept.ensures.sharing c.join_all-kept.ensures.has c.requires.every

pub returns-clause-sessions : goal.returns-clause-sessions
returns-clause-sessions c = let done = c.close-book.ensures in
    subst (λ (h : History). All (λ (pass : SharedPass). EndsAs pass h) c.args.passes.items) (sym c.into_book.ensures.same)
    (all_end (known c.join_all-kept.result) c.close-book.result c.args.self c.join_all-kept.ensures.sharing
    done.setting done.begins done.own c.args.passes.items c.join_all-kept.ensures.has)

pub returns-clause-others : goal.returns-clause-others
returns-clause-others c = let done = c.close-book.ensures in
    subst (λ (h : History). (n : ℕ) → ¬ IsSession c.args.self.sessions n → entries_of n h.entries ≡ entries_of n (take c.args.self.opened h.entries))
    (sym c.into_book.ensures.same)
    (others_end (known c.join_all-kept.result) c.close-book.result c.args.self c.join_all-kept.ensures.sharing
    done.setting done.begins done.others c.join_all-kept.ensures.joined)
