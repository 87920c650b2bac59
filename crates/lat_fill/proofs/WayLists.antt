-- The list of the maps that are added, made in steps.
use Prim.Native.Nat.{◌∣◌}
use Rattle.std.proofs.Common.{◌≡◌, ◌↔◌, ◌%◌, ℕ, ◌+◌, ◌<◌, List, [], ◌∷◌, ◌++◌, length, slice_index_or, refl, sym, ap, ◌∙◌, subst, inl, inr, arith, length-append, Option, Some, None, is_some, true}
use Rattle.std.specs.Prelude.{MatchOption}
use Rattle.std.specs.FinMap.{get}
use Rattle.std.proofs.lemmas.List.{get_or_append_left, get_or_default}
use Rattle.std.proofs.lemmas.List.Elements.{All-push}
use Rattle.std.proofs.Math.Seq.{get_or-append_seam}
use Rattle.std.proofs.Math.Nat.{dvd_iff_mod-eq-zero}
use borrow.Author.Count.{below_more}
use Rattle.alg_model.specs.Maps.{comp, degree_of}
use Rattle.alg_model.specs.Lattices.{Lattice, Stored, field_at}
use Rattle.ff_embed.specs.SmallEmbeddings.{FieldMap}
use Rattle.lat_core.specs.declared.rows.MapRow.{MapRow}
use Rattle.lat_core.specs.SharedRows.{IsBetween}
use Rattle.lat_world.specs.declared.members.Member.{Member}
use Rattle.lat_world.specs.Worlds.{no_member, map_at, IsForcedBetween}
use Rattle.lat_fill.specs.PrivateListing.{number_at}
use Rattle.lat_fill.specs.PrivateWays.{IsWay, AreWays, IsListedPair, IsHad, Keeps, IsReached, AreAtHome, HasPlace, IsWayFor, Provides, Goes}
use Rattle.lat_fill.specs.PrivateWays as Ways

-- ---- pairs of a list
pub pair_left : {old : List MapRow} (more : List MapRow) {i k : ℕ} → IsListedPair old i k
    → IsListedPair (old ++ more) i k
pair_left {old} more p = record {
  place = p.place;
  within = let h = p.within in omega (arith, h, length-append old more);
  from = λ d. ap (λ m. m.from) (get_or_append_left old more d p.place p.within) ∙ p.from d;
  into = λ d. ap (λ m. m.into) (get_or_append_left old more d p.place p.within) ∙ p.into d;
}

pub pair_last : (old : List MapRow) (m : MapRow) {i k : ℕ} → m.from ≡ i → m.into ≡ k
    → IsListedPair (old ++ m ∷ []) i k
pair_last old m e f = record {
  place = length old;
  within = omega (arith, length-append old (m ∷ []));
  from = λ d. ap (λ x. x.from) (get_or-append_seam old m [] d) ∙ e;
  into = λ d. ap (λ x. x.into) (get_or-append_seam old m [] d) ∙ f;
}

pub kept_same : {maps : List MapRow} → Keeps maps maps
kept_same = record { kept = λ i k p. p }

pub kept_then : {first second third : List MapRow} → Keeps first second → Keeps second third
    → Keeps first third
kept_then h g = record { kept = λ i k p. g.kept i k (h.kept i k p) }

pub had_kept : {L : Lattice} {old new : List MapRow} {i k : ℕ} → Keeps old new → IsHad L old i k
    → IsHad L new i k
had_kept K (inl s) = inl s
had_kept K (inr p) = inr (K.kept _ _ p)

pub had_by_lattice : {L : Lattice} (maps : List MapRow) {i k : ℕ} → IsHad L [] i k → IsHad L maps i k
had_by_lattice maps (inl s) = inl s
had_by_lattice maps (inr p) = absurd (let h = p.within in omega (arith, h))

-- ---- one map more
-- a map for the pair was added, or the lattice has one
pub provides : {L : Lattice} {ms : List Member} {Needed : Type 0} {i k : ℕ} {old new : List MapRow}
    (m : MapRow) → AreWays L ms old → IsWayFor L ms i k m → new ≡ old ++ m ∷ []
    → Provides L ms Needed i k old new
provides {L} {ms} {Needed} {i} {k} {old} m W h e = subst (Provides L ms Needed i k old) (sym e) (record {
  ways = record { each = All-push (IsWay L ms) old m W.each h.way };
  kept = record { kept = λ i k p. pair_left (m ∷ []) p };
  had = λ n. inr (pair_last old m h.from h.into);
})

pub provides_stored : {L : Lattice} {ms : List Member} {Needed : Type 0} {i k : ℕ} {old new : List MapRow}
    → AreWays L ms old → (Needed → (m : List (List ℕ)) × Stored L i k m) → new ≡ old
    → Provides L ms Needed i k old new
provides_stored {L} {ms} {Needed} {i} {k} {old} W h e = subst (Provides L ms Needed i k old) (sym e)
    (record { ways = W; kept = kept_same; had = λ n. inl (h n) })

pub no_ways : {L : Lattice} {ms : List Member} {maps : List MapRow} → maps ≡ [] → AreWays L ms maps
no_ways {L} {ms} e = subst (AreWays L ms) (sym e) (record { each = λ x d h. absurd (omega arith) })

-- ---- look-ups
-- one that finds a map
pub found_stored : {A : Type 0} {L : Lattice} {i k : ℕ} (found : Option A) (images : A → List (List ℕ)) (N : Type 0) (B : A → Type 0)
    → MatchOption found N (λ e. Stored L i k (images e) × B e) → is_some found ≡ true
    → (m : List (List ℕ)) × Stored L i k m
found_stored None images N B h e = cc
found_stored (Some x) images N B h e = (images x, h.0)

-- one that finds none
pub stored_none : {L : Lattice} {i k : ℕ} {m : List (List ℕ)} → get L.maps (i, k) ≡ None → Stored L i k m → ⊥
stored_none {L} {i} {k} {m} e s = let f : get L.maps (i, k) ≡ Some m = s.found in cc

-- what is known of a stored map is known of an equal one
pub same_stored : {L : Lattice} {i k : ℕ} {e f : FieldMap} → f ≡ e
    → Stored L i k e.images × IsBetween L.rows i k e
    → Stored L i k f.images × IsBetween L.rows i k f
same_stored {L} {i} {k} same s =
    subst (λ (x : FieldMap). Stored L i k x.images × IsBetween L.rows i k x) (sym same) s

-- ---- ways
same_member : (ms : List Member) (a : ℕ) (d : Member) → a < length ms
    → slice_index_or ms a d ≡ slice_index_or ms a no_member
same_member ms a d h = get_or_default ms a d no_member h

pub number_is : (ms : List Member) (b : ℕ) (d : Member) → b < length ms
    → (slice_index_or ms b d).number ≡ number_at ms b
number_is ms b d h = ap (λ r. r.number) (same_member ms b d h)

-- the remainder of the degrees tells whether one divides the other
pub goes_iff : (ms : List Member) (a b x y : ℕ) (d e : Member) → a < length ms → b < length ms
    → x ≡ degree_of (slice_index_or ms a d).map.source → y ≡ degree_of (slice_index_or ms b e).map.source
    → (y % x ≡ 0) ↔ Goes ms a b
goes_iff ms a b x y d e la lb p q =
    let u : x ≡ degree_of (map_at ms a).source = p ∙ ap (λ r. degree_of r.map.source) (same_member ms a d la) in
    let v : y ≡ degree_of (map_at ms b).source = q ∙ ap (λ r. degree_of r.map.source) (same_member ms b e lb) in
    let i : (x ∣ y) ↔ (y % x ≡ 0) = dvd_iff_mod-eq-zero x in (
      λ h. subst (λ n. n ∣ degree_of (map_at ms b).source) u (subst (λ n. x ∣ n) v (i.1 h)),
      λ g. i.0 (subst (λ n. x ∣ n) (sym v) (subst (λ n. n ∣ degree_of (map_at ms b).source) (sym u) g)),
    )

module _ {L : Lattice} {ms : List Member} where
  pub link_way : (a b : ℕ) (d e : Member) (m : FieldMap) → a < length ms → b < length ms
      → IsForcedBetween ms a b m
      → IsWayFor L ms (number_at ms a) (number_at ms b)
      (record { from = (slice_index_or ms a d).number; into = (slice_index_or ms b e).number; map = m })
  link_way a b d e m la lb f =
      let x = ap (λ r. r.number) (same_member ms a d la) in
      let y = ap (λ r. r.number) (same_member ms b e lb) in
      record { way = Ways.IsWay.link la lb (sym x) (sym y) f; from = x; into = y }

  pub exit_way : (a b k i : ℕ) (d : Member) (link stored made : FieldMap) → a < length ms → b < length ms
      → i ≡ number_at ms b
      → IsForcedBetween ms a b link → Stored L i k stored.images × IsBetween L.rows i k stored
      → made.source ≡ link.source → made.target ≡ stored.target
      → made.images ≡ comp stored.target link.images stored.images
      → IsWayFor L ms (number_at ms a) k
      (record { from = (slice_index_or ms a d).number; into = k; map = made })
  exit_way a b k i d link stored made la lb e f (s, t) p q r =
      let x = ap (λ r. r.number) (same_member ms a d la) in
      record {
        way = Ways.IsWay.beyond {e = link} {f = stored} la lb (sym x) f (subst (λ j. Stored L j k stored.images) e s)
            (subst (λ j. IsBetween L.rows j k stored) e t)
            (λ j. record { source = p j; target = q j; images = r j });
        from = x;
        into = refl;
      }

  -- a link ends where the stored map begins
  pub meets : (a b k i : ℕ) (link stored : FieldMap) → AreAtHome L ms → b < length ms → i ≡ number_at ms b
      → IsForcedBetween ms a b link → Stored L i k stored.images × IsBetween L.rows i k stored
      → stored.source ≡ link.target
  meets a b k i link stored H lb e f (s, t) = t.source ∙ ap (field_at L.rows) e
      ∙ sym (H.source b k stored.images lb (subst (λ j. Stored L j k stored.images) e s)) ∙ sym f.target

-- ---- the maps out of the members, made in steps
pub record AreOutletsBelow (L : Lattice) (ms : List Member) (old : List MapRow) (n : ℕ) (new : List MapRow)
    : Type 0 where
  pub ways : AreWays L ms new
  pub kept : Keeps old new
  pub linked : (a k : ℕ) → a < length ms → k < n → (HasPlace ms k → ⊥) → IsReached L ms a k
      → IsHad L new (number_at ms a) k

pub outlets_none : {L : Lattice} {ms : List Member} {old : List MapRow} → AreWays L ms old
    → AreOutletsBelow L ms old 0 old
outlets_none W = record { ways = W; kept = kept_same; linked = λ a k la h. absurd (omega (arith, h)) }

module _ {L : Lattice} {ms : List Member} {old : List MapRow} {n : ℕ} {new : List MapRow}
    (H : AreOutletsBelow L ms old n new) where
  pub outlets_more : (newer last : List MapRow) → AreWays L ms newer → Keeps new newer
      → ((a : ℕ) → a < length ms → IsReached L ms a n → IsHad L newer (number_at ms a) n)
      → last ≡ newer → AreOutletsBelow L ms old (n + 1) last
  outlets_more newer last W K f e = subst (AreOutletsBelow L ms old (n + 1)) (sym e) (record {
    ways = W;
    kept = kept_then H.kept K;
    linked = λ a k la h none r. below_more (λ x. (HasPlace ms x → ⊥) → IsReached L ms a x → IsHad L newer (number_at ms a) x) n
        (λ x l none r. had_kept K (H.linked a x la l none r)) (λ none r. f a la r) k h none r;
  })

  pub outlets_past : (last : List MapRow) → HasPlace ms n → last ≡ new → AreOutletsBelow L ms old (n + 1) last
  outlets_past last p e = subst (AreOutletsBelow L ms old (n + 1)) (sym e) (record {
    ways = H.ways;
    kept = H.kept;
    linked = λ a k la h none r. below_more (λ x. (HasPlace ms x → ⊥) → IsReached L ms a x → IsHad L new (number_at ms a) x) n
        (λ x l none r. H.linked a x la l none r) (λ none r. absurd (none p)) k h none r;
  })
