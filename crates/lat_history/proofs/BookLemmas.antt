-- A history that a change was entered in is legal again, and so is each beginning of a history.
use Rattle.std.proofs.Common.{◌≡◌, ℕ, ◌<◌, ◌≤◌, List, [], ◌∷◌, ◌++◌, length, take, drop, refl, sym, ap, ap₂, ◌∙◌, subst, arith, length-append, take-append-drop}
use Rattle.alg_model.specs.Lattices as lattices
use Rattle.alg_model.specs.Lattices.{Lattice, IsEdition}
use Rattle.alg_model.specs.Declaring.{IsOpening}
use Rattle.lat_core.specs.declared.requests.Request.{Request}
use Rattle.lat_core.specs.declared.replies.Reply.{Reply}
use Rattle.lat_core.specs.declared.replies.Entry.{Entry}
use Rattle.lat_core.specs.Step.{IsProperRequest, Steps}
use Rattle.lat_core.specs.Histories.{Leads, IsAfter, IsLegal}
use Rattle.lat_core.proofs.HistoryLaws.{history_one, leads_append, leads_split}
use Rattle.lat_history.specs.declared.TheConstants.{MAX_ROOM}
use Rattle.lat_history.specs.declared.played.Played.{Played}
use Rattle.lat_history.specs.Books.{History, IsHistory, with_entry}
use Rattle.lat_history.specs.Plays.{IsPlayed}
use Rattle.lat_history.specs.PrivateBooks.{IsKept}

-- the opening lattice is the one after no entries
pub after_none : {edition : lattices.Edition} {L : Lattice} → L.edition ≡ edition → IsOpening L
    → IsAfter edition [] L
after_none {edition} {L} e o =
    record { opening = L; of_edition = e; is_opening = o; leads = refl }

-- **one entry more**
pub after_entry : {edition : lattices.Edition} {entries : List Entry} {L M : Lattice}
    (entry : Entry) → IsAfter edition entries L → IsProperRequest entry.request
    → Steps L entry.request entry.reply M → IsAfter edition (entries ++ entry ∷ []) M
after_entry {edition} {entries} {L} {M} entry a proper s = record {
  opening = a.opening;
  of_edition = a.of_edition;
  is_opening = a.is_opening;
  leads = leads_append entries (entry ∷ []) a.opening L M a.leads (M, proper, s, refl);
}

-- **the first entries of a legal history are legal**
pub legal_take : (edition : lattices.Edition) (entries : List Entry) (n : ℕ)
    → IsLegal edition entries → IsLegal edition (take n entries)
legal_take edition entries n (M, a) =
    let parts = subst (λ es. Leads a.opening es M) (sym (take-append-drop n entries)) a.leads in
    let (K, first, rest) = leads_split (take n entries) (drop n entries) a.opening M parts in (
      K,
      record {
        opening = a.opening;
        of_edition = a.of_edition;
        is_opening = a.is_opening;
        leads = first;
      },
    )

-- what a book keeps is a history
pub kept_history : {h : History} {L : Lattice} → IsKept h L → IsHistory h
kept_history {h} {L} k = record {
  of_edition = k.of_edition;
  legal = (L, k.after);
  within = k.within;
  room = k.room;
}

-- **a book keeps a change that is entered**
pub kept_entry : {h : History} {L M : Lattice} (entry : Entry) → IsKept h L
    → length h.entries < h.room → IsProperRequest entry.request
    → Steps L entry.request entry.reply M → IsKept (with_entry h entry) M
kept_entry {h} {L} {M} entry k room proper s = record {
  of_edition = k.of_edition;
  after = after_entry entry k.after proper s;
  within = omega (arith, length-append h.entries (entry ∷ []), room);
  room = k.room;
}

-- a book that is opened
pub kept_none : (edition : lattices.Edition) (room : ℕ) (entries : List Entry) (L : Lattice)
    → IsEdition edition → room ≤ MAX_ROOM → entries ≡ [] → L.edition ≡ edition → IsOpening L
    → IsKept (record { edition = edition; room = room; entries = entries }) L
kept_none edition room entries L E small none e o = record {
  of_edition = E;
  after = subst (λ es. IsAfter edition es L) (sym none) (after_none e o);
  within = omega (arith, ap length none);
  room = small;
}

-- entries that stayed as they were
pub kept_entries : {h : History} {L : Lattice} (entries : List Entry) → entries ≡ h.entries
    → IsKept h L → IsHistory (record { edition = h.edition; room = h.room; entries = entries })
kept_entries {h} {L} entries e k =
    subst (λ es. IsHistory (record { edition = h.edition; room = h.room; entries = es })) (sym e)
    (kept_history k)

-- the step from K is that from the one lattice after the entries
step_from : {h : History} {L : Lattice} (M : Lattice) (request : Request) (reply : Reply)
    → IsKept h L → Steps L request reply M
    → (K : Lattice) → IsAfter h.edition h.entries K → Steps K request reply M
step_from {h} {L} M request reply k s K a =
    subst (λ (J : Lattice). Steps J request reply M)
    (history_one h.edition h.entries L K k.of_edition k.after a) s

-- an entry, a history with these entries, and what is told of a change
abbrev pub entry_of : ℕ → Request → Reply → Entry
entry_of session request reply = record { session = session; request = request; reply = reply }

abbrev with_entries : History → List Entry → History
with_entries h entries = record { edition = h.edition; room = h.room; entries = entries }

abbrev played_with : Reply → ℕ → Lattice → Played
played_with reply place view = record { placed = record { reply = reply; place = place }; view = view }

-- a change with the step's own reply and lattice
module _ {h : History} {L : Lattice} (M : Lattice) (session : ℕ) (request : Request)
    (reply : Reply) (k : IsKept h L) (room : length h.entries < h.room)
    (proper : IsProperRequest request) (s : Steps L request reply M) where
  entered_kept : IsKept (with_entry h (entry_of session request reply)) M
  entered_kept = kept_entry (entry_of session request reply) k room proper s

  entered_played : (place : ℕ) → place ≡ length h.entries
      → IsPlayed h (with_entry h (entry_of session request reply)) session request
      (played_with reply place M)
  entered_played place e = record {
    entered = refl;
    at_end = e;
    below_room = omega (arith, e, room);
    step = step_from M request reply k s;
    view = after_entry (entry_of session request reply) k.after proper s;
  }

-- **a change that is entered**: q and r are copies of the request and the reply, K of the lattice
-- before, `view` of the lattice afterwards
pub entered : {h : History} {L : Lattice} (K M view : Lattice) (session place : ℕ)
    (request q : Request) (reply r : Reply) (entries : List Entry)
    → IsKept h L → length h.entries < h.room → IsProperRequest request
    → K ≡ L → Steps K request reply M → q ≡ request → r ≡ reply
    → entries ≡ h.entries ++ record { session = session; request = q; reply = r } ∷ []
    → place ≡ length h.entries → view ≡ M
    → IsKept (record { edition = h.edition; room = h.room; entries = entries }) M
    × IsPlayed h (record { edition = h.edition; room = h.room; entries = entries }) session request
    (record { placed = record { reply = reply; place = place }; view = view })
entered {h} {L} K M view session place request q reply r entries k room proper same s e d added at copied =
    let step : Steps L request reply M = subst (λ (J : Lattice). Steps J request reply M) same s in
    let all : entries ≡ h.entries ++ entry_of session request reply ∷ [] =
    added ∙ ap₂ (λ (x : Request) (y : Reply). h.entries ++ entry_of session x y ∷ []) e d in (
      subst (λ es. IsKept (with_entries h es) M) (sym all) (entered_kept M session request reply k room proper step),
      subst (λ es. IsPlayed h (with_entries h es) session request (played_with reply place view)) (sym all)
          (subst (λ (v : Lattice). IsPlayed h (with_entry h (entry_of session request reply)) session request (played_with reply place v))
          (sym copied) (entered_played M session request reply k room proper step place at)),
    )

-- what is told of a history is told of an equal one
pub played_of : {h old new : History} {session : ℕ} {request : Request} {played : Played}
    → h ≡ old → IsPlayed h new session request played → IsPlayed old new session request played
played_of {h} {old} {new} {session} {request} {played} e p =
    subst (λ (g : History). IsPlayed g new session request played) e p
