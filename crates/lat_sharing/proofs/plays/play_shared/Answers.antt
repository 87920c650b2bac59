use Rattle.std.proofs.Common.{rules, ◌≡◌, ◌++◌, length, map, List, ℕ, ◌<◌, ◌≤◌, ap, ◌∙◌, sym, subst}
use Rattle.std.specs.Prelude.{Contains}
use Rattle.std.proofs.lemmas.List.{length-map}
use Rattle.lat_core.specs.Editions.{edition_of}
use Rattle.lat_core.specs.Histories.{entries_of}
use Rattle.lat_session.specs.Outcomes.{operations_of}
use Rattle.lat_shared.specs.Sharing.{IsSession, sharing_of}
use Rattle.lat_sharing.specs.PrivateSharings.{HavePlayed, session_blocks}
use Rattle.lat_sharing.proofs.FairWorlds.{prologue_unused}
use Rattle.lat_sharing.proofs.SharedPerformances.{performs_alone, performs_fairly, every_pass, all_dealt, texts_counted}
use Rattle.lat_sharing.proofs.plays.play_shared.Goals as goal

pub returns-then-is_empty : goal.returns-then-is_empty
returns-then-is_empty g c =
    let none : length c.args.script.now.sessions ≡ 0 = search rules in
    performs_alone (edition_of c.args.edition) (operations_of c.args.ops.now.first c.args.ops.now.second c.args.ops.now.third) c.args.script.now
    c.in_ok-book.field-0 c.in_ok-book.ensures none

pub open-requires-clause-unused : goal.open-requires-clause-unused
open-requires-clause-unused g c = λ n is.
    ap (entries_of n) c.in_ok-book.ensures.history
    ∙ prologue_unused (edition_of c.args.edition) (operations_of c.args.ops.now.first c.args.ops.now.second c.args.ops.now.third) c.args.script.now
    c.in_ok-book.ensures.prologue c.in_ok-book.ensures.played n is.0

pub play_sessions-requires-clause-of_shared : goal.play_sessions-requires-clause-of_shared
play_sessions-requires-clause-of_shared g c κs within =
    all_dealt c.in_ok-shared.shared c.in_ok-book.field-0.book.entries (length c.items-sessions.result.now) c.in_ok-shared.passes.items
    (search rules) c.in_ok-shared.ensures.passes

pub close-book-requires-clause-every : goal.close-book-requires-clause-every
close-book-requires-clause-every g c = λ n is.
    let sessions : c.in_ok-shared.shared.sessions ≡ length c.items-sessions.result.now
    = search rules in
    subst (λ (ns : List ℕ). Contains ns n) (sym c.in_ok-passes.ensures.numbers)
    (every_pass c.in_ok-shared.shared c.in_ok-book.field-0.book.entries (length c.items-sessions.result.now) n c.in_ok-shared.passes.items
    c.in_ok-shared.ensures.passes (subst (λ count. IsSession count n) sessions is))

pub add_blocks-requires : goal.add_blocks-requires
add_blocks-requires g c =
    ap length c.deref.ensures.value ∙ sym (length-map c.in_ok-passes.texts.items (λ text. text.items))
    ∙ texts_counted _ _ _ _ _ c.in_ok-passes.ensures.played

pub returns : goal.returns
returns g c =
    let edition = edition_of c.args.edition in
    let operations = operations_of c.args.ops.now.first c.args.ops.now.second c.args.ops.now.third in
    let script = c.args.script.now in
    let is : c.items-sessions.result.now ≡ script.sessions = search rules in
    let texts = map (λ text. text.items) c.in_ok-passes.texts.items in
    let some : 1 ≤ length script.sessions = search rules in
    performs_fairly edition operations script c.in_ok-book.field-0 c.in_ok-book.ensures
    (record { book = c.close-book.result; lines = c.add_blocks.new.out }) c.in_ok-shared.shared
    c.in_ok-shared.passes.items c.in_ok-passes.passes.items texts some
    (subst (λ ss. c.in_ok-shared.shared ≡ sharing_of c.in_ok-shared.shared.gate c.in_ok-book.field-0.book (length ss)) is c.in_ok-shared.ensures.shared)
    (λ i l. c.in_ok-shared.ensures.passes i (subst (λ ss. i < length ss) (sym is) l))
    (subst (λ ss. HavePlayed operations ss c.in_ok-shared.passes.items c.in_ok-passes.passes.items texts) is c.in_ok-passes.ensures.played)
    c.close-book.ensures.edition c.close-book.ensures.room c.close-book.ensures.whole c.close-book.ensures.sessions c.close-book.ensures.others
    (subst (λ ss. c.add_blocks.new.out.items ≡ c.in_ok-book.field-0.lines.items ++ session_blocks ss texts) is
    (subst (λ ts. c.add_blocks.new.out.items ≡ c.in_ok-book.field-0.lines.items ++ session_blocks c.items-sessions.result.now (map (λ text. text.items) ts)) c.deref.ensures.value
    c.in_ok-add_blocks.ensures))
