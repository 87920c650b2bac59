-- What an insertion adds is forced: a compatible lattice that has grown and stores the new map has
-- a field of each missing degree
-- below the target; if it has the fields of the insertion and their maps into the target, it has
-- all maps that are stored after it.
use Rattle.std.proofs.Common.{◌≡◌, ℕ, ◌<◌, refl, sym, ap, ◌∙◌, subst, ⊎_elim, arith}
use Rattle.std.proofs.lemmas.Nat.Gcd.{same_from_IsGcd, dvd_antisymm, dvd_refl}
use Rattle.std.proofs.lemmas.Bool.{cases_lt}
use Rattle.std.specs.Int.{IsGcd}
use Rattle.alg_lattices.specs.Embeddings.{Embeddings, EmbeddingLaws}
use Rattle.alg_lattices.specs.Lattices.{Lattice, Compatible, Grows}
use Rattle.alg_lattices.specs.Filling.{IsClosureDegree, Insertion, IsInsertion, IsMapInto, IsForced, IsStoredAfter, filled}
use Rattle.alg_lattices.specs.Filling.IsMember.{of_source, of_target}
use Rattle.alg_lattices.specs.Filling.IsClosureDegree.{of_member, of_gcd}
use Rattle.alg_lattices.specs.Filling.IsMapInto.{stored, through, made}
use Rattle.alg_lattices.specs.Filling.IsStoredAfter.{before, forced, beyond}
use Rattle.alg_lattices.proofs.AddedFields.{added_missing, count_grows}
use Rattle.alg_lattices.proofs.Meets.{CommonSubfield, common_subfield}
use Rattle.alg_lattices.proofs.Rows.{SameLattice, compatible_same}

-- a stored subfield of F of degree d
pub record Subfield {Field Map : Type 0} (o : Embeddings Field Map) (M : Lattice Field Map)
    (F d : ℕ) : Type 0 where
  pub field : ℕ
  pub map : Map
  pub is_stored : M.Has field F map
  pub degree : o.degree (M.row field) ≡ d

module _ {Field Map : Type 0} {o : Embeddings Field Map} {primes : ℕ} {L M : Lattice Field Map}
    {E F : ℕ} {phi : Map} (law : EmbeddingLaws o)
    (C : Compatible o primes L) (K : Compatible o primes M) (G : Grows L M) (chosen : M.Has E F phi) where
  of_two : {a b d : ℕ} → Subfield o M F a → Subfield o M F b → IsGcd a b d → Subfield o M F d
  of_two {a} {b} {d} x y g = record {
    field = c.field;
    map = o.comp (M.row F) c.first x.map;
    is_stored = K.transitive c.first_stored x.is_stored;
    degree = same_from_IsGcd a b (o.degree (M.row c.field)) d (rw (x.degree, y.degree) at c.gcd) g;
  }
    where
      c : CommonSubfield o M x.field y.field F x.map y.map
      c = common_subfield law K x.is_stored y.is_stored

  -- **the fields that an insertion adds are forced**
  pub fields_forced : {d : ℕ} → IsClosureDegree o L E F d → Subfield o M F d
  fields_forced (of_member {i} (of_source {m} h)) = record {
    field = i;
    map = o.comp (M.row F) m phi;
    is_stored = K.transitive (G.maps h) chosen;
    degree = ap o.degree (G.rows i (C.within h).0);
  }
  fields_forced (of_member {i} (of_target {m} h)) = record {
    field = i;
    map = m;
    is_stored = G.maps h;
    degree = ap o.degree (G.rows i (C.within h).0);
  }
  fields_forced (of_gcd p q g) = of_two (fields_forced p) (fields_forced q) g

-- M has the fields of the insertion, its map, and those of the added fields
pub record HasFields {Field Map : Type 0} (W : Insertion Field Map) (M : Lattice Field Map) : Type 0
  where
    pub count : M.count ≡ W.count
    pub rows : (i : ℕ) → i < W.count → M.row i ≡ W.row i
    pub chosen : M.Has W.source W.target W.chosen
    pub made : {i : ℕ} {m : Map} → W.Made i m → M.Has i W.target m

-- the same, where the fields are those of the insertion by their numbers
module _ {Field Map : Type 0} {o : Embeddings Field Map} {primes : ℕ} {W : Insertion Field Map}
    {M : Lattice Field Map} (law : EmbeddingLaws o)
    (K : Compatible o primes (record M { row = W.row })) (G : Grows W.old M) (H : HasFields W M) where
  into_stored : {i : ℕ} {m : Map} → IsMapInto o W i m → M.Has i W.target m
  into_stored (stored h) = G.maps h
  into_stored (through h) = K.transitive (G.maps h) H.chosen
  into_stored (made h) = H.made h

  forced_stored : {i j : ℕ} {m : Map} → IsForced o W i j m → M.Has i j m
  forced_stored {i} {j} {m} f = subst (λ x. M.Has i j x) (sym same) whole
    where
      first : M.Has i W.target f.first
      first = into_stored f.first_into

      second : M.Has j W.target f.second
      second = into_stored f.second_into

      c : CommonSubfield o (record M { row = W.row }) i j W.target f.first f.second
      c = common_subfield law K first second

      -- the intersection is isomorphic to i
      degree : o.degree (W.row c.field) ≡ o.degree (W.row i)
      degree = dvd_antisymm c.gcd.0 (c.gcd.2 (o.degree (W.row i)) (dvd_refl (o.degree (W.row i))) (law.degree_divides f.embedding))

      back : (n : Map) × M.Has i c.field n ×
          (o.comp (W.row c.field) c.first n ≡ o.identity (W.row c.field))
          × (o.comp (W.row i) n c.first ≡ o.identity (W.row i))
      back = K.inverse c.first_stored degree

      whole : M.Has i j (o.comp (W.row j) back.0 c.second)
      whole = K.transitive back.1 c.second_stored

      same : m ≡ o.comp (W.row j) back.0 c.second
      same = law.cancel f.embedding (K.embedding whole) (K.embedding second) (f.followed ∙ sym (K.one (K.transitive whole second) first))

  stored_forced : {i k : ℕ} {m : Map} → IsStoredAfter o W i k m → M.Has i k m
  stored_forced (before h) = G.maps h
  stored_forced (forced f) = forced_stored f
  stored_forced (beyond f h) = K.transitive (forced_stored f) (G.maps h)

-- **the maps that an insertion adds are forced**
pub maps_forced : {Field Map : Type 0} {o : Embeddings Field Map} {primes : ℕ}
    {W : Insertion Field Map} {M : Lattice Field Map}
    → EmbeddingLaws o
    → Compatible o primes M → Grows W.old M → HasFields W M → Grows (filled o W) M
maps_forced {o = o} {primes = primes} {W = W} {M = M} law K G H = record {
  count = let e : M.count ≡ W.count = H.count in omega arith;
  rows = H.rows;
  maps = λ h. stored_forced law by_numbers G H h;
}
  where
    by_numbers : Compatible o primes (record M { row = W.row })
    by_numbers = compatible_same
        (record { count = refl; rows = λ i h. let e : M.count ≡ W.count = H.count in H.rows i (omega arith); maps = (λ h. h, λ h. h) })
        K

module _ {Field Map : Type 0} {o : Embeddings Field Map} {primes : ℕ} {W : Insertion Field Map}
    {m : Map} (law : EmbeddingLaws o)
    (C : Compatible o primes W.old) (I : IsInsertion o W) (already : W.old.Has W.source W.target m) where
  itself : Grows W.old W.old
  itself = record { count = omega arith; rows = λ i h. refl; maps = λ h. h }

  -- the only candidate is the map that is stored
  chosen_stored : W.chosen ≡ m
  chosen_stored = sym (law.identity_comp I.candidate.embedding) ∙ I.candidate.agrees (C.identity W.source I.source) already

  chosen : W.old.Has W.source W.target W.chosen
  chosen = subst (λ x. W.old.Has W.source W.target x) (sym chosen_stored) already

  none_added : W.count ≡ W.old.count
  none_added = ⊎_elim
      (λ l.
      let d = added_missing I W.old.count (omega arith) l in
      let s = fields_forced law C C itself chosen d.in_closure in
      absurd (d.no_member (of_target s.is_stored) s.degree))
      (λ l. let a = count_grows I in omega arith)
      (cases_lt W.old.count W.count)

  -- **where the pair is stored already, the insertion changes nothing**
  pub stored_pair_changes_nothing : SameLattice W.old (filled o W)
  stored_pair_changes_nothing = record {
    count = sym none_added;
    rows = λ i h. sym (I.rows i h);
    maps = (λ h. before h, λ h. (maps_forced law C itself fields).maps h);
  }
    where
      fields : HasFields W W.old
      fields = record {
        count = sym none_added;
        rows = λ i h. let e : W.count ≡ W.old.count = none_added in sym (I.rows i (omega arith));
        chosen = chosen;
        made = λ h. let a = (I.made_within h).0 in let b = (I.made_within h).1 in let e : W.count ≡ W.old.count = none_added in absurd (omega arith);
      }
