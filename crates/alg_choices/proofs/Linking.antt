-- A program that stores links between the fields that it lists, and maps out of them, has filled
-- the lattice.
use Rattle.std.proofs.Common.{◌≡◌, ℕ, ◌+◌, ◌<◌, ◌≤◌, List, length, refl, sym, ap, ◌∙◌, arith, subst, ⊎_elim, Option}
use Rattle.std.proofs.lemmas.Bool.{cases_eq}
use Prim.Native.Nat.{◌∣◌}
use Rattle.std.proofs.lemmas.Nat.Gcd.{dvd_trans}
use Rattle.alg_model.specs.Maps.{degree_of}
use Rattle.alg_model.specs.Lattices.{Lattice, Row, field_at, Stored, Grows, IsCompatible}
use Rattle.alg_model.specs.Candidates.{embedding_by, IsMember, IsCandidate}
use Rattle.alg_model.specs.Candidates.IsMember.{of_source, of_target}
use Rattle.alg_model.specs.Filling.{IsMapInto, IsForced, IsStoredAfter, AreRowsAfter, IsFilled}
use Rattle.alg_model.specs.Filling as Model
use Rattle.alg_rings.proofs.Decisions.{Least, search_below}
use Rattle.alg_galois.proofs.EmbeddingRoots.{embedding_degree_divides}
use Rattle.alg_compatible.specs.Theorems.{AreFields}
use Rattle.alg_compatible.proofs.Candidates.{to_candidate}
use Rattle.alg_compatible.proofs.Filling.{Inserted, old_row, filling_compatible, filling_grows}
use Rattle.alg_compatible.proofs.Laws.{filling_rows_law}
use Rattle.alg_compatible.proofs.Transfer.{field_finite}
use Rattle.alg_compatible.proofs.Storing.{Shows, filled_by_showing}
use Rattle.alg_choices.specs.Linking.{IsListed, IsListedBelow, IsLink, MayStore, Links}
use Rattle.alg_choices.specs.Linking.MayStore.{before, link, beyond}

-- an insertion by a candidate
pub inserted : {L : Lattice} {rows : List Row} {E F : ℕ} {sending : Option (List ℕ × List ℕ)}
    {v : List ℕ}
    → IsCompatible L → AreFields L E F → IsCandidate L E F sending v → AreRowsAfter L E F rows
    → Inserted L E F (embedding_by L E F v) rows
inserted C A c R = record {
  before = C.rows;
  compatible = C.compatible;
  source = A.source;
  target = A.target;
  candidate = to_candidate C.rows A.source A.target c;
  after = R;
}

module _ {L : Lattice} {E F : ℕ} {phi : List (List ℕ)} {M : Lattice} {count : ℕ} {number : ℕ → ℕ}
    {into : ℕ → List (List ℕ)}
    (H : Inserted L E F phi M.rows) (P : IsListed count number into L E F phi M.rows)
    (K : Links count number into L F M) where
  -- a link is the forced map
  forced : {a b i k : ℕ} {m : List (List ℕ)} → number a ≡ i → number b ≡ k
      → IsLink count number into F M.rows a b m → IsForced L E F phi M.rows i k m
  forced {a} {b} {i} {k} {m} e f l = subst (λ j. IsForced L E F phi M.rows j k m) e
      (subst (λ j. IsForced L E F phi M.rows (number a) j m) f (record {
        first = into a;
        second = into b;
        first_into = P.is_into a l.source;
        second_into = P.is_into b l.target;
        embedding = l.embedding;
        followed = l.followed;
      }))

  stored : {i k : ℕ} {m : List (List ℕ)} → MayStore count number into L F M.rows i k m
      → IsStoredAfter L E F phi M.rows i k m
  stored (before h) = Model.IsStoredAfter.before h
  stored (link e f l) = Model.IsStoredAfter.forced (forced e f l)
  stored (beyond {b} e l h) = Model.IsStoredAfter.beyond (forced e refl l) h

  -- each field with a map into F has a place
  place : {i : ℕ} {m : List (List ℕ)} → IsMapInto L E F phi M.rows i m
      → (a : ℕ) × (a < count) × (number a ≡ i)
  place {i} (Model.IsMapInto.stored h) = P.members i (of_target h)
  place {i} (Model.IsMapInto.through h) = P.members i (of_source h)
  place {i} (Model.IsMapInto.made n b r) = P.made i n b

  members : {i j : ℕ} {a b : List (List ℕ)} → IsMapInto L E F phi M.rows i a
      → IsMapInto L E F phi M.rows j b
      → degree_of (field_at M.rows i) ∣ degree_of (field_at M.rows j)
      → (n : List (List ℕ)) × Stored M i j n
  members {i} {j} h k d =
      let (a, la, ea) = place h in
      let (b, lb, eb) = place k in
      subst (λ x. (n : List (List ℕ)) × Stored M x j n) ea
      (subst (λ x. (n : List (List ℕ)) × Stored M (number a) x n) eb
      (K.among a b la lb (rw (ea, eb) d)))

  -- the degree of a field divides that of a field that it goes into
  divides : {j k : ℕ} {m : List (List ℕ)} → Stored L j k m
      → degree_of (field_at M.rows j) ∣ degree_of (field_at M.rows k)
  divides {j} {k} {m} h =
      let (a, b) = H.compatible.within h in
      rw (old_row H j a, old_row H k b)
      (embedding_degree_divides (field_at L.rows j) (field_at L.rows k) (field_finite L H.before j a) (field_finite L H.before k b) m
      (H.compatible.embedding h))

  overfields : {i j k : ℕ} {a b m : List (List ℕ)} → IsMapInto L E F phi M.rows i a
      → IsMapInto L E F phi M.rows j b
      → degree_of (field_at M.rows i) ∣ degree_of (field_at M.rows j) → Stored L j k m
      → (n : List (List ℕ)) × Stored M i k n
  overfields {i} {j} {k} {m = m} h x d s = ⊎_elim
      (λ (c : Least (λ c. number c ≡ k) count).
      subst (λ y. (n : List (List ℕ)) × Stored M i y n) c.holds
      (members h (P.is_into c.number c.below)
      (rw c.holds (dvd_trans (degree_of (field_at M.rows i)) d (divides s)))))
      (λ none.
      let (a, la, ea) = place h in
      let (b, lb, eb) = place x in
      subst (λ y. (n : List (List ℕ)) × Stored M y k n) ea
      (K.leaving a b la lb (rw (ea, eb) d) {m = m} (subst (λ y. Stored L y k m) (sym eb) s) none))
      (search_below (λ c. number c ≡ k) count (λ c l. cases_eq (number c) k))

  shows : Shows L E F phi M
  shows = record {
    only = λ h. stored (K.only h);
    old = λ h. K.old h;
    members = members;
    overfields = overfields;
  }

-- **a lattice with the rows afterwards that links the fields so is filled**
pub filled_by_linking : {L M : Lattice} {E F : ℕ} {sending : Option (List ℕ × List ℕ)} {v : List ℕ}
    {count : ℕ} {number : ℕ → ℕ} {into : ℕ → List (List ℕ)}
    → IsCompatible L → AreFields L E F → IsCandidate L E F sending v
    → M.edition ≡ L.edition → AreRowsAfter L E F M.rows
    → IsListed count number into L E F (embedding_by L E F v) M.rows → Links count number into L F M
    → IsFilled L E F (embedding_by L E F v) M
filled_by_linking C A c e R P K = filled_by_showing (inserted C A c R) e (shows (inserted C A c R) P K)

-- **so it is compatible, with rows of the edition where there is room, and has grown**
pub filled_is_compatible : {L M : Lattice} {E F : ℕ} {sending : Option (List ℕ × List ℕ)}
    {v : List ℕ}
    → IsCompatible L → AreFields L E F → IsCandidate L E F sending v
    → IsFilled L E F (embedding_by L E F v) M → length M.rows ≤ M.edition.room
    → IsCompatible M × Grows L M
filled_is_compatible {L} {M} {E} {F} {sending} {v} C A c D room = (
  record {
    rows = filling_rows_law L M E F sending v C A c D room;
    compatible = filling_compatible (inserted C A c D.rows) D;
  },
  filling_grows (inserted C A c D.rows) D,
)

-- ---- the list of the fields with a map into F, made in steps
module _ {L : Lattice} {E F : ℕ} {phi : List (List ℕ)} {rows : List Row} where
  -- at first it is empty
  pub listed_none : {number : ℕ → ℕ} {into : ℕ → List (List ℕ)}
      → IsListedBelow 0 number into L E F phi rows 0
  listed_none = record {
    is_into = λ a l. absurd (omega arith);
    below = λ a l. absurd (omega arith);
    rising = λ a b l k. absurd (omega arith);
    members = λ i l m. absurd (omega arith);
    made = λ i l k. absurd (omega arith);
  }

  module _ {n count : ℕ} {number : ℕ → ℕ} {into : ℕ → List (List ℕ)}
      (H : IsListedBelow count number into L E F phi rows n) where
    -- field n goes into F by m, and the longer list has it last
    pub listed_push : {longer : ℕ → ℕ} {maps : ℕ → List (List ℕ)} {m : List (List ℕ)}
        → ((a : ℕ) → a < count → (longer a ≡ number a) × (maps a ≡ into a))
        → longer count ≡ n → maps count ≡ m → IsMapInto L E F phi rows n m
        → IsListedBelow (count + 1) longer maps L E F phi rows (n + 1)
    listed_push {longer} {maps} {m} same e f h = record {
      is_into = λ a l. at a (λ x y. IsMapInto L E F phi rows x y) (λ k. H.is_into a k) h l;
      below = λ a l. at a (λ x y. x < n + 1) (λ k. let b = H.below a k in omega arith) (omega arith) l;
      rising = λ a b l k. ⊎_elim
          (λ (e' : b ≡ count). let x = H.below a (omega arith) in let y = (same a (omega arith)).0 in
          let z : longer b ≡ n = ap longer e' ∙ e in omega arith)
          (λ apart. let x = H.rising a b l (omega arith) in let y = (same a (omega arith)).0 in let z = (same b (omega arith)).0 in omega arith)
          (cases_eq b count);
      members = λ i l x. ⊎_elim
          (λ (e' : i ≡ n). (count, omega arith, e ∙ sym e'))
          (λ apart. let (a, k, g) = H.members i (omega arith) x in (a, omega arith, (same a k).0 ∙ g))
          (cases_eq i n);
      made = λ i b l. ⊎_elim
          (λ (e' : i ≡ n). (count, omega arith, e ∙ sym e'))
          (λ apart. let (a, k, g) = H.made i b (omega arith) in (a, omega arith, (same a k).0 ∙ g))
          (cases_eq i n);
    }
      where
        at : (a : ℕ) (T : ℕ → List (List ℕ) → Type 0) → (a < count → T (number a) (into a)) → T n m
            → a < count + 1 → T (longer a) (maps a)
        at a T old new l = ⊎_elim
            (λ (e' : a ≡ count). subst (λ x. T (longer x) (maps x)) (sym e') (rw (e, f) new))
            (λ apart. let k : a < count = omega arith in let (x, y) = same a k in rw (x, y) (old k))
            (cases_eq a count)

    -- field n is no member and isn't added
    pub listed_skip : n < length L.rows → ¬ IsMember L E F n
        → IsListedBelow count number into L E F phi rows (n + 1)
    listed_skip small none = record {
      is_into = H.is_into;
      below = λ a l. let b = H.below a l in omega arith;
      rising = H.rising;
      members = λ i l x. H.members i (⊎_elim (λ (e : i ≡ n). absurd (none (subst (IsMember L E F) e x))) (λ apart. omega arith) (cases_eq i n)) x;
      made = λ i b l. H.made i b (omega arith);
    }

  -- **after the last field it has all of them**
  pub listed_all : IsCompatible L → length L.rows ≤ length rows
      → {count : ℕ} {number : ℕ → ℕ} {into : ℕ → List (List ℕ)}
      → IsListedBelow count number into L E F phi rows (length rows)
      → IsListed count number into L E F phi rows
  listed_all C more {count} {number} H = record { is_into = H.is_into; members = λ i x. H.members i (below x) x; made = H.made }
    where
      below : {i : ℕ} → IsMember L E F i → i < length rows
      below (of_source h) = let a = (C.compatible.within h).0 in omega arith
      below (of_target h) = let a = (C.compatible.within h).0 in omega arith
