use Rattle.std.proofs.Common.{◌≡◌, ℕ, ◌+◌, ◌<◌, ◌≤◌, List, Some, slice_get, length, sym, ap, ◌∙◌, subst, arith}
use Rattle.alg_model.specs.Lattices.{Lattice}
use Rattle.lat_core.specs.Histories.{IsAfter, entries_of}
use Rattle.lat_core.specs.Editions.{edition_of}
use Rattle.lat_history.specs.Books.{History, IsHistory}
use Rattle.lat_gate.specs.Passes.{gate_id}
use Rattle.lat_shared.specs.Sharing.{SharedPass, first_pass}
use Rattle.lat_shared.specs.PrivateSettings.{setting_of}
use Rattle.lat_shared.proofs.JoinLemmas.{keep_dealt, passes_dealt, passes_length, first_keeps, first_shown}
use Rattle.lat_shared.proofs.shared.Shared.open.Goals as goal

pub open-requires-clause-unused : goal.open-requires-clause-unused
open-requires-clause-unused c = λ n is. ap (λ (h : History). entries_of n h.entries) c.new.ensures.same ∙ c.requires.unused n is

pub with_views-requires-clause-keep : goal.with_views-requires-clause-keep
with_views-requires-clause-keep c =
    let h = c.new.result in
    let same = sym c.new.ensures.same in
    let front = ap (λ (h : History). length h.entries) same in
    let whole = subst IsHistory same c.length-opened.ensures.whole in
    let after = subst (λ (h : History). IsAfter h.edition h.entries c.in_ok-view.view) same
    (subst (λ (L : Lattice). IsAfter c.args.book.edition c.args.book.entries L) (sym c.in_ok-view.ensures) c.lattice.ensures.value) in
    let count = c.in-Ok.ensures.count in
    keep_dealt (gate_id c.in-Ok.gate) (setting_of h) h.entries c.args.sessions c.length-opened.result c.in_ok-view.view 1 c.in-Ok.dealt.items
    (λ i less. c.in-Ok.ensures.dealt i (omega arith))
    (λ m low high. let small : m ≤ c.args.sessions = omega arith in
    first_keeps h (gate_id c.in-Ok.gate) c.args.sessions c.length-opened.result m c.in_ok-view.view whole (low, small)
    (ap (λ (h : History). entries_of m h.entries) c.new.ensures.same ∙ c.requires.unused m (low, small))
    (c.length-opened.ensures.value ∙ front) after)

pub returns-clause-count : goal.returns-clause-count
returns-clause-count c = omega (
  arith,
  ap length c.in_ok-passes.ensures.passes,
  passes_length 1 c.length-opened.result c.in-Ok.dealt.items,
  c.in-Ok.ensures.count,
)

pub returns-clause-passes : goal.returns-clause-passes
returns-clause-passes c = λ i less.
    let h = c.new.result in
    let id = gate_id c.in-Ok.gate in
    let same = sym c.new.ensures.same in
    let count = c.in-Ok.ensures.count in
    let front = c.length-opened.ensures.value ∙ ap (λ (h : History). length h.entries) same in
    let shown = first_shown h id c.args.sessions c.length-opened.result c.room-room.result (i + 1) (edition_of c.edition-edition.result)
    (c.edition-edition.ensures.value ∙ ap (λ (h : History). h.edition) same)
    (c.room-room.ensures.value ∙ ap (λ (h : History). h.room) same) front in
    ap (λ (l : List SharedPass). slice_get l i) c.in_ok-passes.ensures.passes
    ∙ passes_dealt id (setting_of h) h.entries c.args.sessions c.length-opened.result c.in_ok-view.view 1 c.in-Ok.dealt.items
    (λ i less. c.in-Ok.ensures.dealt i (omega arith)) i (omega arith)
    ∙ ap Some shown
    ∙ ap (λ (g : History). Some (first_pass (record {
      edition = edition_of c.edition-edition.result;
      room = c.room-room.result;
      sessions = c.args.sessions;
      opened = c.length-opened.result;
      gate = id;
    }) (i + 1) g.entries)) c.new.ensures.same
