-- A fault leaves the fields as they were; else the entry, its reply and the lattices are those of the step.
use Rattle.std.proofs.Common.{◌<◌, length, sym, subst, rules}
use Rattle.lat_history.specs.Books.{History, IsHistory}
use Rattle.lat_history.proofs.BookLemmas.{kept_history, kept_entries, entered, played_of}
use Rattle.lat_history.proofs.books.Book.enter.Goals as goal

pub returns-in_err-next-clause-whole : goal.returns-in_err-next-clause-whole
returns-in_err-next-clause-whole c = subst IsHistory c.self.view_is (kept_history c.self.invariant)

pub returns-in_err-reply-clause-whole : goal.returns-in_err-reply-clause-whole
returns-in_err-reply-clause-whole c = subst IsHistory c.self.view_is (kept_history c.self.invariant)

pub returns-in_err-view-clause-whole : goal.returns-in_err-view-clause-whole
returns-in_err-view-clause-whole c = subst IsHistory c.self.view_is (kept_history c.self.invariant)

pub returns-in_err-push-clause-whole : goal.returns-in_err-push-clause-whole
returns-in_err-push-clause-whole c = kept_entries c.push.new.self.items c.in_err-push.ensures.items c.self.invariant

pub invariant_of-self-2 : goal.invariant_of-self-2
invariant_of-self-2 c = (entered c.in_ok-next.next c.step.new.lattice c.in_ok-view.view c.args.session c.len-place.result
    c.args.request.now c.copy-3.result c.in_ok-reply.reply c.copy-4.result c.push.new.self.items c.self.invariant
    (subst (λ (h : History). length h.entries < h.room) (sym c.self.view_is) c.requires.room)
    c.requires.proper c.in_ok-next.ensures c.in_ok-reply.ensures.step c.copy-3.ensures c.copy-4.ensures
    c.in_ok-push.ensures.items (search rules) c.in_ok-view.ensures).0

pub returns-clause-played : goal.returns-clause-played
returns-clause-played c = played_of c.self.view_is (entered c.in_ok-next.next c.step.new.lattice c.in_ok-view.view c.args.session c.len-place.result
    c.args.request.now c.copy-3.result c.in_ok-reply.reply c.copy-4.result c.push.new.self.items c.self.invariant
    (subst (λ (h : History). length h.entries < h.room) (sym c.self.view_is) c.requires.room)
    c.requires.proper c.in_ok-next.ensures c.in_ok-reply.ensures.step c.copy-3.ensures c.copy-4.ensures
    c.in_ok-push.ensures.items (search rules) c.in_ok-view.ensures).1

pub returns-clause-whole : goal.returns-clause-whole
returns-clause-whole c = kept_history (entered c.in_ok-next.next c.step.new.lattice c.in_ok-view.view c.args.session c.len-place.result
    c.args.request.now c.copy-3.result c.in_ok-reply.reply c.copy-4.result c.push.new.self.items c.self.invariant
    (subst (λ (h : History). length h.entries < h.room) (sym c.self.view_is) c.requires.room)
    c.requires.proper c.in_ok-next.ensures c.in_ok-reply.ensures.step c.copy-3.ensures c.copy-4.ensures
    c.in_ok-push.ensures.items (search rules) c.in_ok-view.ensures).0
