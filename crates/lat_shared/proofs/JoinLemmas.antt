-- The gate's passes of sessions, as they are dealt and as they are joined.
use Rattle.std.proofs.Common.{◌≡◌, ◌⊎◌, ℕ, zero, suc, ◌+◌, ◌<◌, ◌≤◌, List, [], ◌∷◌, ◌++◌, length, map, take, refl, sym, ap, ◌∙◌, subst, arith, append_assoc, append-nil, take_all, Option, Some, None, slice_get, IfSome, ⊎_elim, inl, inr}
use Rattle.std.specs.Prelude.{Contains, All, IsSome}
use Rattle.std.proofs.lemmas.List.Elements.{All-nil, All-cons, All-head, All-tail, Contains-append_left, Contains-append_right, Contains-append_cases}
use Rattle.std.proofs.Math.Seq.{take-append_seam}
use Rattle.atomic_table.specs.Seated.{TableId}
use Rattle.alg_model.specs.Lattices as lattices
use Rattle.alg_model.specs.Lattices.{Lattice}
use Rattle.lat_core.specs.declared.replies.Entry.{Entry}
use Rattle.lat_core.specs.Histories.{IsAfter, IsSameSession, entries_of}
use Rattle.lat_history.specs.Books.{History, IsHistory}
use Rattle.lat_gate.specs.History.{BeginsWith, of_number}
use Rattle.lat_gate.specs.Rule.{Own, IsDealt, Has as HasOwn}
use Rattle.lat_gate.specs.Seats.{Known, joined, dealt}
use Rattle.lat_gate.specs.Passes.{known}
use Rattle.lat_gate.specs.declared.machine.Machine.{Ghosts}
use Rattle.lat_gate.specs.declared.pass.Pass.{Pass}
use Rattle.lat_gate.proofs.Histories.{begins_still}
use Rattle.lat_gate.proofs.Holders.{contains_cases, contains_none, contains_head, contains_only}
use Rattle.lat_shared.specs.Sharing.{Sharing, SharedPass, IsSession, EndsAs, marks, first_pass, knowledge_of}
use Rattle.lat_shared.specs.PrivateSettings.{setting_of, edition_in, room_in}
use Rattle.lat_shared.specs.PrivatePasses.{Keeps, IsKept, KeepFrom, Has, Covers, IsJoined, known_in, shared_pass, sharing_in, passes_from}
use Rattle.lat_shared.proofs.TurnLemmas.{none_behind}

-- ---- lists
-- what holds of all elements of two lists holds of those of the first
pub all_front : {X : Type 0} (P : X → Type 0) (xs ys : List X) → All P (xs ++ ys) → All P xs
all_front P [] ys all = All-nil P
all_front P (x ∷ xs) ys all = All-cons P x xs (All-head P x (xs ++ ys) all)
    (all_front P xs ys (All-tail P x (xs ++ ys) all))

-- and of the last element
pub all_last : {X : Type 0} (P : X → Type 0) (xs : List X) (x : X) → All P (xs ++ x ∷ []) → P x
all_last P [] x all = All-head P x [] all
all_last P (y ∷ ys) x all = all_last P ys x (All-tail P y (ys ++ x ∷ []) all)

-- a list of no elements
pub none_left : {X : Type 0} (xs : List X) → length xs ≡ 0 → xs ≡ []
none_left [] e = refl
none_left (x ∷ xs) e = absurd (omega arith)

-- ---- passes
-- a history that begins with one that begins with a third
pub begins_twice : {E : Type 0} (log front first : List E) → BeginsWith log front
    → BeginsWith front first → BeginsWith log first
begins_twice log front first (more, e) b =
    subst (λ l. BeginsWith l first) (sym e) (begins_still front first more b)

-- a number of a pass that has one alone
pub its_number : (own : Own Entry) (n m : ℕ) (mine : List Entry) → own ≡ (n, mine) ∷ []
    → HasOwn own m → m ≡ n
its_number own n m mine is (theirs, c) =
    let o : ℕ × List Entry = (m, theirs) in
    let p : ℕ × List Entry = (n, mine) in
    sym (ap (λ (q : ℕ × List Entry). q.0)
    (contains_only o p (subst (λ (l : Own Entry). Contains l o) is c)))

-- **a shared history is known by its marks, its edition and its room**
pub same_sharing : (s t : Sharing) → marks s ≡ marks t → s.edition ≡ t.edition → s.room ≡ t.room
    → s ≡ t
same_sharing s t e edition room =
    let sessions : s.sessions ≡ t.sessions = cc in
    let opened : s.opened ≡ t.opened = cc in
    let words : s.gate.words ≡ t.gate.words = cc in
    let slots : s.gate.slots ≡ t.gate.slots = cc in
    let views : s.gate.views_name ≡ t.gate.views_name = cc in
    let atom : s.gate.atom ≡ t.gate.atom = cc in
    let block : s.gate.block ≡ t.gate.block = cc in
    let offset : s.gate.offset ≡ t.gate.offset = cc in
    let names : s.gate.slot_names ≡ t.gate.slot_names = cc in
    λ i. record {
      edition = edition i;
      room = room i;
      sessions = sessions i;
      opened = opened i;
      gate = record {
        words = words i;
        slots = slots i;
        views_name = views i;
        atom = atom i;
        block = block i;
        offset = offset i;
        slot_names = names i;
      };
    }

-- **so it stays the same through a port**
pub port_sharing : (name other : ℕ) (old new : SharedPass)
    → other ∷ marks new.sharing ≡ name ∷ marks old.sharing
    → IsSameSession (knowledge_of old) (knowledge_of new) → new.sharing ≡ old.sharing
port_sharing name other old new e same =
    let marked : marks new.sharing ≡ marks old.sharing = cc in
    same_sharing new.sharing old.sharing marked same.edition same.room

-- what a pass keeps
module _ {M : Type 0} {g : Ghosts M Entry} where
  pub kept_some : (pass : Pass M Entry g) (n front : ℕ) (view : Lattice)
      → Keeps (known pass) n front view → IsKept (Some pass) n front view
  kept_some pass n front view keeps = record { present = refl; keeps = keeps }

-- the gate's pass of a session has its number alone
pub keeps_joined : (k : Known Entry) (n front : ℕ) (view : Lattice) → Keeps k n front view
    → IsJoined k
keeps_joined k n front view keeps = record {
  sessions = λ m h. subst (IsSession k.passes) (sym (its_number k.own n m (entries_of n k.seen) keeps.own h))
      keeps.session;
  begins = keeps.begins;
}

-- ---- joins
pub covers_itself : (k : Known Entry) → Covers k k
covers_itself k = record { own = λ o c. c; seen = ([], sym (append-nil k.seen)) }

pub covers_joined : (k a b k' : Known Entry) → k' ≡ joined a b → BeginsWith k'.seen a.seen
    → Covers a k → Covers k' k
covers_joined k a b k' e seen c = record {
  own = λ o has. subst (λ (j : Known Entry). Contains j.own o) (sym e)
      (Contains-append_left a.own b.own o (c.own o has));
  seen = begins_twice k'.seen a.seen k.seen seen c.seen;
}

-- a pass that has what the gate's pass of a session has
pub has_covered : (k' k : Known Entry) (pass : SharedPass) → Covers k' k
    → k.own ≡ (pass.number, entries_of pass.number pass.told) ∷ [] → k.seen ≡ pass.told
    → Has k' pass
has_covered k' k pass c own told =
    let o : ℕ × List Entry = (pass.number, entries_of pass.number pass.told) in
    record {
      own = c.own o (subst (λ (l : Own Entry). Contains l o) (sym own) (contains_head o []));
      told = subst (BeginsWith k'.seen) told c.seen;
    }

pub has_still : (k' k : Known Entry) (pass : SharedPass) → Covers k' k → Has k pass → Has k' pass
has_still k' k pass c h = record {
  own = c.own (pass.number, entries_of pass.number pass.told) h.own;
  told = begins_twice k'.seen k.seen pass.told c.seen h.told;
}

pub all_have_still : (k' k : Known Entry) (passes : List SharedPass) → Covers k' k
    → All (Has k) passes → All (Has k') passes
all_have_still k' k passes c all = λ i d less. has_still k' k _ c (all i d less)

-- the pass that was joined is covered too
pub covers_other : (a b k' : Known Entry) → k' ≡ joined a b → BeginsWith k'.seen b.seen
    → Covers k' b
covers_other a b k' e seen = record {
  own = λ o has. subst (λ (j : Known Entry). Contains j.own o) (sym e)
      (Contains-append_right a.own b.own o has);
  seen = seen;
}

has_of_both : (a b : Own Entry) (n : ℕ) → HasOwn (a ++ b) n → HasOwn a n ⊎ HasOwn b n
has_of_both a b n (mine, c) =
    let o : ℕ × List Entry = (n, mine) in
    ⊎_elim (λ (l : Contains a o). inl (mine, l)) (λ (r : Contains b o). inr (mine, r))
    (Contains-append_cases a b o c)

pub both_joined : (a b k' : Known Entry) (sharing : Sharing) → k' ≡ joined a b
    → BeginsWith k'.seen a.seen → sharing_in a ≡ sharing → sharing_in b ≡ sharing
    → IsJoined a → IsJoined b → IsJoined k'
both_joined a b k' sharing e seen sa sb ja jb =
    let own : k'.own ≡ a.own ++ b.own = ap (λ (j : Known Entry). j.own) e in
    let of_a : k'.passes ≡ a.passes = ap (λ (j : Known Entry). j.passes) e in
    let same : b.passes ≡ a.passes = ap (λ (s : Sharing). s.sessions) (sb ∙ sym sa) in
    record {
      sessions = λ n h. subst (λ (p : ℕ). IsSession p n) (sym of_a)
          (⊎_elim (λ (l : HasOwn a.own n). ja.sessions n l)
          (λ (r : HasOwn b.own n). subst (λ (p : ℕ). IsSession p n) same (jb.sessions n r))
          (has_of_both a.own b.own n (subst (λ (l : Own Entry). HasOwn l n) own h)));
      begins = subst (λ (l : List Entry). BeginsWith k'.seen l)
          (sym (ap (λ (j : Known Entry). j.opening) e))
          (begins_twice k'.seen a.seen a.opening seen ja.begins);
    }

pub joined_sharing : (a b k' : Known Entry) (sharing : Sharing) → k' ≡ joined a b
    → sharing_in a ≡ sharing → sharing_in k' ≡ sharing
joined_sharing a b k' sharing e s = ap sharing_in e ∙ s

-- ---- the end
-- an element with a number that stands among the numbers
pub some_with : {X : Type 0} (P : X → Type 0) (f : X → ℕ) (xs : List X) (n : ℕ) → All P xs
    → Contains (map f xs) n → (x : X) × P x × (f x ≡ n)
some_with P f [] n all c = absurd (contains_none n c)
some_with P f (x ∷ xs) n all c = ⊎_elim
    (λ (e : f x ≡ n). (x, All-head P x xs all, e))
    (λ (later : Contains (map f xs) n). some_with P f xs n (All-tail P x xs all) later)
    (contains_cases n (f x) (map f xs) c)

pub every_number : (k : Known Entry) (sharing : Sharing) (passes : List SharedPass)
    → sharing_in k ≡ sharing → All (Has k) passes
    → ((n : ℕ) → IsSession sharing.sessions n
    → Contains (map (λ (pass : SharedPass). pass.number) passes) n)
    → (n : ℕ) → IsDealt k.passes n → HasOwn k.own n
every_number k sharing passes s all every n is =
    let has = some_with (Has k) (λ (pass : SharedPass). pass.number) passes n all
    (every n (subst (λ (p : ℕ). IsSession p n) (ap (λ (j : Sharing). j.sessions) s) is)) in
    let pass = has.0 in
    subst (HasOwn k.own) has.2 (entries_of pass.number pass.told, has.1.own)

-- where some number stands among those of passes there are passes
pub some_pass : (passes : List SharedPass) (sessions : ℕ) → 1 ≤ sessions
    → ((n : ℕ) → IsSession sessions n
    → Contains (map (λ (pass : SharedPass). pass.number) passes) n) → 0 < length passes
some_pass [] sessions some every =
    let first : IsSession sessions 1 = (omega arith, some) in absurd (contains_none 1 (every 1 first))
some_pass (pass ∷ passes) sessions some every = omega arith

-- the history of a gate that was closed
module _ (k : Known Entry) (h : History) (sharing : Sharing) (s : sharing_in k ≡ sharing)
    (setting : setting_of h ≡ k.setting) (begins : BeginsWith h.entries k.seen) where
  pub closed_edition : h.edition ≡ sharing.edition
  closed_edition = ap edition_in setting ∙ ap (λ (j : Sharing). j.edition) s

  pub closed_room : h.room ≡ sharing.room
  closed_room = ap room_in setting ∙ ap (λ (j : Sharing). j.room) s

  module _ (own : (n : ℕ) (mine : List Entry) → Contains k.own (n, mine)
      → of_number (λ (e : Entry). e.session) n h.entries ≡ mine) where
    pub ends_as : (pass : SharedPass) → Has k pass → EndsAs pass h
    ends_as pass has = let told = begins_twice h.entries k.seen pass.told begins has.told in record {
      later = told.0;
      told_first = told.1;
      none_own = none_behind pass.number h.entries pass.told told.0 told.1
          (own pass.number (entries_of pass.number pass.told) has.own);
    }

    pub all_end : (passes : List SharedPass) → All (Has k) passes
        → All (λ (pass : SharedPass). EndsAs pass h) passes
    all_end passes all = λ i d less. ends_as _ (all i d less)

  module _ (others : (n : ℕ) → ¬ HasOwn k.own n
      → of_number (λ (e : Entry). e.session) n h.entries
      ≡ of_number (λ (e : Entry). e.session) n k.opening) (j : IsJoined k) where
    opened : take sharing.opened h.entries ≡ k.opening
    opened =
        let first = begins_twice h.entries k.seen k.opening begins j.begins in
        ap (λ (n : ℕ). take n h.entries) (sym (ap (λ (j : Sharing). j.opened) s))
        ∙ ap (take (length k.opening)) first.1 ∙ take-append_seam k.opening first.0

    pub others_end : (n : ℕ) → ¬ IsSession sharing.sessions n
        → entries_of n h.entries ≡ entries_of n (take sharing.opened h.entries)
    others_end n lacks =
        others n (λ has. lacks (subst (λ (p : ℕ). IsSession p n)
        (ap (λ (j : Sharing). j.sessions) s) (j.sessions n has)))
        ∙ ap (entries_of n) (sym opened)

-- ---- the passes as they are dealt
-- a session's pass at the opening
pub first_keeps : (h : History) (id : TableId) (sessions front n : ℕ) (view : Lattice)
    → IsHistory h → IsSession sessions n → entries_of n h.entries ≡ [] → front ≡ length h.entries
    → IsAfter h.edition h.entries view
    → Keeps (dealt id (setting_of h) h.entries sessions n) n front view
first_keeps h id sessions front n view k session unused f after = record {
  own = ap (λ (l : List Entry). (n, l) ∷ []) (sym unused);
  legal = k;
  session = session;
  begins = ([], sym (append-nil h.entries));
  within = omega (arith, f);
  view = subst (λ (es : List Entry). IsAfter h.edition es view)
      (sym (take_all front h.entries (omega (arith, f)))) after;
}

-- and what contracts see of it
pub first_shown : (h : History) (id : TableId) (sessions front room n : ℕ)
    (edition : lattices.Edition) → edition ≡ h.edition → room ≡ h.room → front ≡ length h.entries
    → shared_pass (dealt id (setting_of h) h.entries sessions n) n front
    ≡ first_pass (record {
      edition = edition;
      room = room;
      sessions = sessions;
      opened = front;
      gate = id;
    }) n h.entries
first_shown h id sessions front room n edition e r f =
    let all : take front h.entries ≡ h.entries = take_all front h.entries (omega (arith, f)) in
    λ i. record {
      sharing = record {
        edition = sym e i;
        room = sym r i;
        sessions = sessions;
        opened = sym f i;
        gate = id;
      };
      number = n;
      seen = all i;
      told = h.entries;
    }

module _ {M : Type 0} {g : Ghosts M Entry} where
  pub passes_append : (n front : ℕ) (xs : List (Pass M Entry g)) (x : Pass M Entry g)
      → passes_from n front (xs ++ x ∷ [])
      ≡ passes_from n front xs ++ shared_pass (known x) (n + length xs) front ∷ []
  passes_append n front [] x =
      let same : n ≡ n + 0 = omega arith in ap (λ (m : ℕ). shared_pass (known x) m front ∷ []) same
  passes_append n front (y ∷ ys) x =
      let same : suc n + length ys ≡ n + length (y ∷ ys) = omega arith in
      ap (λ (l : List SharedPass). shared_pass (known y) n front ∷ l)
      (passes_append (suc n) front ys x
      ∙ ap (λ (m : ℕ). passes_from (suc n) front ys ++ shared_pass (known x) m front ∷ []) same)

  pub passes_length : (n front : ℕ) (xs : List (Pass M Entry g))
      → length (passes_from n front xs) ≡ length xs
  passes_length n front [] = refl
  passes_length n front (x ∷ xs) = ap suc (passes_length (suc n) front xs)

  pub keep_at : (n front : ℕ) (view : Lattice) (xs : List (Pass M Entry g)) (x : Pass M Entry g)
      (ys : List (Pass M Entry g)) → KeepFrom n front view (xs ++ x ∷ ys)
      → Keeps (known x) (n + length xs) front view
  keep_at n front view [] x ys all =
      let same : n ≡ n + 0 = omega arith in
      subst (λ (m : ℕ). Keeps (known x) m front view) same all.0
  keep_at n front view (y ∷ xs) x ys all =
      let same : suc n + length xs ≡ n + length (y ∷ xs) = omega arith in
      subst (λ (m : ℕ). Keeps (known x) m front view) same
      (keep_at (suc n) front view xs x ys all.1)

  module _ (id : TableId) (setting : List ℕ) (opening : List Entry) (passes front : ℕ)
      (view : Lattice) where
    -- each pass knows what it was dealt with its number
    abbrev AreDealt : ℕ → List (Pass M Entry g) → Type 0
    AreDealt n xs = (i : ℕ) → i < length xs → IfSome (slice_get xs i)
        (λ (x : Pass M Entry g). known x ≡ dealt id setting opening passes (i + n))

    dealt_head : (n : ℕ) (x : Pass M Entry g) (xs : List (Pass M Entry g)) → AreDealt n (x ∷ xs)
        → known x ≡ dealt id setting opening passes n
    dealt_head n x xs all =
        let same : 0 + n ≡ n = omega arith in
        subst (λ (m : ℕ). known x ≡ dealt id setting opening passes m) same (all 0 (omega arith))

    dealt_tail : (n : ℕ) (x : Pass M Entry g) (xs : List (Pass M Entry g)) → AreDealt n (x ∷ xs)
        → AreDealt (suc n) xs
    dealt_tail n x xs all = λ i less.
        let same : suc i + n ≡ i + suc n = omega arith in
        subst (λ (m : ℕ). IfSome (slice_get xs i)
        (λ (x : Pass M Entry g). known x ≡ dealt id setting opening passes m)) same
        (all (suc i) (omega arith))

    pub keep_dealt : (n : ℕ) (xs : List (Pass M Entry g)) → AreDealt n xs
        → ((m : ℕ) → n ≤ m → m < n + length xs
        → Keeps (dealt id setting opening passes m) m front view)
        → KeepFrom n front view xs
    keep_dealt n [] all keep = tt
    keep_dealt n (x ∷ xs) all keep = (
      subst (λ (k : Known Entry). Keeps k n front view) (sym (dealt_head n x xs all))
          (keep n (omega arith) (omega arith)),
      keep_dealt (suc n) xs (dealt_tail n x xs all) (λ m low high. keep m (omega arith) (omega arith)),
    )

    pub passes_dealt : (n : ℕ) (xs : List (Pass M Entry g)) → AreDealt n xs
        → (i : ℕ) → i < length xs → slice_get (passes_from n front xs) i
        ≡ Some (shared_pass (dealt id setting opening passes (i + n)) (i + n) front)
    passes_dealt n [] all i less = absurd (omega arith)
    passes_dealt n (x ∷ xs) all zero less =
        let same : n ≡ 0 + n = omega arith in
        ap (λ (k : Known Entry). Some (shared_pass k n front)) (dealt_head n x xs all)
        ∙ ap (λ (m : ℕ). Some (shared_pass (dealt id setting opening passes m) m front)) same
    passes_dealt n (x ∷ xs) all (suc i) less =
        let same : i + suc n ≡ suc i + n = omega arith in
        passes_dealt (suc n) xs (dealt_tail n x xs all) i (omega arith)
        ∙ ap (λ (m : ℕ). Some (shared_pass (dealt id setting opening passes m) m front)) same
