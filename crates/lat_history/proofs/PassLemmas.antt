-- What a session knows through its pass, before and after a change.
use Rattle.std.proofs.Common.{◌≡◌, ℕ, ◌+◌, List, [], ◌∷◌, ◌++◌, length, take, drop, refl, sym, ap, ◌∙◌, subst, arith, length-append, take-append-drop, take_all, append-nil, append_assoc, Result, Ok, Err}
use Rattle.std.specs.Prelude.{IfOk, IfErr, OnErr}
use Rattle.std.proofs.lemmas.List.{take-append-le}
use Rattle.alg_model.specs.Lattices.{Lattice}
use Rattle.lat_core.specs.declared.requests.Request.{Request}
use Rattle.lat_core.specs.declared.replies.Entry.{Entry}
use Rattle.lat_core.specs.declared.replies.ChangeFault.{ChangeFault}
use Rattle.lat_core.specs.declared.replies.Placed.{Placed}
use Rattle.lat_core.specs.Histories.{IsAfter, Knowledge, IsKnowledge, IsSameSession, IsPlaced, IsUnplaced}
use Rattle.lat_core.proofs.HistoryLaws.{history_one}
use Rattle.lat_history.specs.Books.{History, IsHistory, with_entry}
use Rattle.lat_history.specs.declared.played.Played.{Played}
use Rattle.lat_history.specs.declared.solo_ports.SoloPort.{SoloPort}
use Rattle.lat_history.specs.Plays.{IsPlayed}
use Rattle.lat_history.specs.Passes.{Pass, IsPassOf, seen_of, known_of}
use Rattle.lat_history.proofs.BookLemmas.{legal_take, entry_of}

-- what a pass shows is a session's knowledge
pub pass_knowledge : (h : History) (pass : Pass) → IsHistory h → IsKnowledge (known_of h pass)
pass_knowledge h pass k = record {
  later = drop pass.front h.entries;
  seen_first = sym (take-append-drop pass.front h.entries);
  legal = k.legal;
  seen_legal = legal_take h.edition h.entries pass.front k.legal;
}

-- **a pass of a history is one of each longer history**
pub pass_of_longer : (h g : History) (pass : Pass) (more : List Entry) → g.edition ≡ h.edition
    → g.entries ≡ h.entries ++ more → IsPassOf h pass → IsPassOf g pass
pass_of_longer h g pass more same longer p = record {
  within = omega (arith, ap length longer, length-append h.entries more, p.within);
  view = λ L a. p.view L
      (subst (λ e. IsAfter e (seen_of h pass) L) same
      (subst (λ es. IsAfter g.edition es L) (ap (take pass.front) longer ∙ take-append-le pass.front h.entries more p.within) a));
}

-- the pass that has seen all entries, and has the lattice after them
pub pass_of_all : (h : History) (pass : Pass) → IsHistory h → pass.front ≡ length h.entries
    → IsAfter h.edition h.entries pass.view → IsPassOf h pass
pass_of_all h pass k front after = record {
  within = omega (arith, front);
  view = λ L a. history_one h.edition h.entries L pass.view k.of_edition
      (subst (λ es. IsAfter h.edition es L) (take_all pass.front h.entries (omega (arith, front))) a) after;
}

-- whether a change was entered or not
pub pass_stays : (session : ℕ) (request : Request) (old new : History) (pass : Pass)
    (result : Result Played ChangeFault) → IfOk result (IsPlayed old new session request)
    → OnErr result (new ≡ old) → IsPassOf old pass → IsPassOf new pass
pass_stays session request old new pass (Ok played) done kept p =
    subst (λ (h : History). IsPassOf h pass) (sym done.entered)
    (pass_of_longer old
    (with_entry old (entry_of session request played.placed.reply)) pass
    (entry_of session request played.placed.reply ∷ []) refl refl p)
pass_stays session request old new pass (Err fault) done kept p =
    subst (λ (h : History). IsPassOf h pass) (sym kept) p

same_session : (h : History) (pass later : Pass) (entry : Entry) → later.number ≡ pass.number
    → IsSameSession (known_of h pass) (known_of (with_entry h entry) later)
same_session h pass later entry number =
    record { number = number; edition = refl; room = refl; alone = refl }

-- **the session's own entry is the only one that is new**
pub entry_placed : {old new : History} {session : ℕ} {request : Request} (pass later : Pass)
    (played : Played) → IsPlayed old new session request played → session ≡ pass.number
    → later.number ≡ pass.number → later.front ≡ played.placed.place + 1
    → IsPlaced (known_of old pass) (known_of new later) request played.placed.reply
    played.placed.place
entry_placed {old} {new} {session} {request} pass later played P own number front =
    let made : new ≡ with_entry old (entry_of pass.number request played.placed.reply) =
    P.entered ∙ ap (λ (n : ℕ). with_entry old (entry_of n request played.placed.reply)) own in
    subst (λ (n : History). IsPlaced (known_of old pass) (known_of n later) request played.placed.reply played.placed.place)
    (sym made)
    (record {
      same = same_session old pass later (entry_of pass.number request played.placed.reply) number;
      others = [];
      are_others = record { none_own = refl; none_alone = λ _. refl };
      told = ap (λ es. es ++ entry_of pass.number request played.placed.reply ∷ []) (sym (append-nil old.entries));
      seen = take_all later.front (old.entries ++ entry_of pass.number request played.placed.reply ∷ [])
          (omega (arith, length-append old.entries (entry_of pass.number request played.placed.reply ∷ []), front, P.at_end));
      at_end = omega (arith, P.at_end);
      below_room = P.below_room;
    })

-- **the pass that moves on to the new entry**
pub pass_moves : {old new : History} {session : ℕ} {request : Request} (pass : Pass)
    (played : Played) → IsHistory new → IsPlayed old new session request played
    → pass.front ≡ played.placed.place + 1 → pass.view ≡ played.view → IsPassOf new pass
pass_moves {old} {new} {session} {request} pass played k P front view =
    pass_of_all new pass k
    (omega (
      arith,
      front,
      P.at_end,
      ap (λ (h : History). length h.entries) P.entered,
      length-append old.entries (entry_of session request played.placed.reply ∷ []),
    ))
    (subst (λ (L : Lattice). IsAfter new.edition new.entries L) (sym view) P.view)

-- nothing is new
pub nothing_placed : (h : History) (pass : Pass) → IsUnplaced (known_of h pass) (known_of h pass)
nothing_placed h pass = record {
  same = record { number = refl; edition = refl; room = refl; alone = refl };
  others = [];
  are_others = record { none_own = refl; none_alone = λ _. refl };
  told = sym (append-nil h.entries);
  seen = refl;
}

-- what a port leaves of its book and its pass
pub port_leaves : (port : SoloPort) (h : History) (pass : Pass) → h ≡ port.book.now
    → pass ≡ port.pass.now → IsPassOf h pass
port_leaves port h pass e d =
    subst (λ (p : Pass). IsPassOf h p) (sym d)
    (subst (λ (g : History). IsPassOf g port.pass.now) (sym e)
    (record { within = port.within; view = port.view }))

-- what is told after a change begins with what was told before
pub told_more : (old new : Knowledge) (request : Request) (result : Result Placed ChangeFault)
    → IfOk result (λ done. IsPlaced old new request done.reply done.place)
    → IfErr result (λ _. IsUnplaced old new)
    → (more : List Entry) × (new.told ≡ old.told ++ more) × (new.edition ≡ old.edition)
told_more old new request (Ok done) placed unplaced = (
  placed.others ++ entry_of old.number request done.reply ∷ [],
  placed.told ∙ append_assoc old.told placed.others (entry_of old.number request done.reply ∷ []),
  placed.same.edition,
)
told_more old new request (Err fault) placed unplaced =
    (unplaced.others, unplaced.told, unplaced.same.edition)

-- **the passes of other sessions stay passes of the book**
pub port_others : (old new : SoloPort) (request : Request) (result : Result Placed ChangeFault)
    → IfOk result (λ done. IsPlaced (known_of old.book.now old.pass.now)
    (known_of new.book.now new.pass.now) request done.reply done.place)
    → IfErr result (λ _. IsUnplaced (known_of old.book.now old.pass.now)
    (known_of new.book.now new.pass.now))
    → (h g : History) → old.book.now ≡ h → g ≡ new.book.now
    → (other : Pass) → IsPassOf h other → IsPassOf g other
port_others old new request result placed unplaced h g e d other p =
    let (more, told, edition) = told_more (known_of old.book.now old.pass.now)
    (known_of new.book.now new.pass.now) request result placed unplaced in
    subst (λ (k : History). IsPassOf k other) (sym d)
    (pass_of_longer old.book.now new.book.now other more edition told
    (subst (λ (k : History). IsPassOf k other) (sym e) p))
