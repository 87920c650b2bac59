-- The list of the members, made in steps, and what a world needs of it.
use Rattle.std.proofs.Common.{◌≡◌, ℕ, zero, suc, ◌+◌, ◌<◌, ◌≤◌, List, [], ◌∷◌, ◌++◌, length, slice_index_or, sym, ap, ◌∙◌, subst, ⊎_elim, arith, length-append}
use Rattle.std.proofs.lemmas.Bool.{cases_eq}
use Rattle.std.proofs.lemmas.List.{get_or_append_left, get_or_default}
use Rattle.std.proofs.Math.Seq.{get_or-append_seam}
use Rattle.alg_model.specs.Maps.{comp}
use Rattle.alg_model.specs.Lattices.{Lattice, Row, no_row, field_at, Stored, IsCompatible}
use Rattle.alg_model.specs.Candidates.{IsMember}
use Rattle.alg_model.specs.Filling.{IsMapInto}
use Rattle.alg_model.specs.Filling.IsMapInto.{stored, through, made}
use Rattle.alg_choices.specs.Linking.{IsListedBelow}
use Rattle.alg_choices.proofs.Linking.{listed_none, listed_push, listed_skip}
use Rattle.ff_embed.specs.SmallEmbeddings.{FieldMap}
use Rattle.lat_core.specs.SharedRows.{IsBetween}
use Rattle.lat_world.specs.declared.members.Member.{Member}
use Rattle.lat_world.specs.Worlds.{no_member, AreMembers}
use Rattle.lat_fill.specs.PrivateListing.{number_at, images_at, AreListed}
use Rattle.lat_fill.specs.PrivateWays.{AreAtHome}

-- ---- the list in steps
pub list_none : {L : Lattice} {E F : ℕ} {phi : List (List ℕ)} {rows : List Row} {ms : List Member}
    → ms ≡ [] → AreListed L E F phi rows 0 ms
list_none {L} {E} {F} {phi} {rows} {ms} e = subst (AreListed L E F phi rows 0) (sym e) (record {
  listed = listed_none;
  source = λ a l. absurd (omega arith);
  target = λ a l. absurd (omega arith);
})

module _ {L : Lattice} {E F : ℕ} {phi : List (List ℕ)} {rows : List Row} {n : ℕ} {ms : List Member}
    (H : AreListed L E F phi rows n ms) where
  -- field n has its map, and is the last
  pub list_more : (m : Member) → m.number ≡ n → IsMapInto L E F phi rows n m.map.images
      → IsBetween rows n F m.map → AreListed L E F phi rows (n + 1) (ms ++ m ∷ [])
  list_more m e h b = record {
    listed = subst (λ c. IsListedBelow c (number_at (ms ++ m ∷ [])) (images_at (ms ++ m ∷ [])) L E F phi rows (n + 1)) (sym count)
        (listed_push H.listed (λ a l. (ap (λ x. x.number) (old a l), ap (λ x. x.map.images) (old a l)))
        (ap (λ x. x.number) last ∙ e) (ap (λ x. x.map.images) last) h);
    source = λ a l. at a (λ x. x.map.source ≡ field_at rows x.number) (H.source a) (b.source ∙ ap (field_at rows) (sym e)) l;
    target = λ a l. at a (λ x. x.map.target ≡ field_at rows F) (H.target a) b.target l;
  }
    where
      count : length (ms ++ m ∷ []) ≡ length ms + 1
      count = length-append ms (m ∷ [])

      old : (a : ℕ) → a < length ms
          → slice_index_or (ms ++ m ∷ []) a no_member ≡ slice_index_or ms a no_member
      old a l = get_or_append_left ms (m ∷ []) no_member a l

      last : slice_index_or (ms ++ m ∷ []) (length ms) no_member ≡ m
      last = get_or-append_seam ms m [] no_member

      at : (a : ℕ) (P : Member → Type 0) → (a < length ms → P (slice_index_or ms a no_member)) → P m
          → a < length (ms ++ m ∷ []) → P (slice_index_or (ms ++ m ∷ []) a no_member)
      at a P before new l = ⊎_elim
          (λ (e' : a ≡ length ms). subst (λ x. P (slice_index_or (ms ++ m ∷ []) x no_member)) (sym e') (subst P (sym last) new))
          (λ apart. let k : a < length ms = omega (arith, l, count, apart) in subst P (sym (old a k)) (before k))
          (cases_eq a (length ms))

  -- field n is no member
  pub list_past : n < length L.rows → (IsMember L E F n → ⊥) → AreListed L E F phi rows (n + 1) ms
  list_past small none = record {
    listed = listed_skip H.listed small none;
    source = H.source;
    target = H.target;
  }

-- ---- more rows
same_field : (olds fields : List Row) (i : ℕ) → i < length olds
    → field_at (olds ++ fields) i ≡ field_at olds i
same_field olds fields i h = ap (λ r. r.field) (get_or_append_left olds fields no_row i h)

module _ (L : Lattice) (E F : ℕ) (phi : List (List ℕ)) (fields : List Row)
    (within : F < length L.rows) where
  same_into : {i : ℕ} {m : List (List ℕ)} → i < length L.rows → IsMapInto L E F phi L.rows i m
      → IsMapInto L E F phi (L.rows ++ fields) i m
  same_into h (stored s) = stored s
  same_into {i} h (through {m} s) =
      subst (λ K. IsMapInto L E F phi (L.rows ++ fields) i (comp K m phi)) (same_field L.rows fields F within) (through s)
  same_into h (made above below r) = absurd (omega arith)

  -- rows behind those of the lattice change nothing
  pub list_longer : {ms : List Member} → AreListed L E F phi L.rows (length L.rows) ms
      → AreListed L E F phi (L.rows ++ fields) (length L.rows) ms
  list_longer {ms} H = record {
    listed = record {
      is_into = λ a l. same_into (H.listed.below a l) (H.listed.is_into a l);
      below = H.listed.below;
      rising = H.listed.rising;
      members = H.listed.members;
      made = λ i above below. absurd (omega arith);
    };
    source = λ a l. H.source a l ∙ sym (same_field L.rows fields (number_at ms a) (H.listed.below a l));
    target = λ a l. H.target a l ∙ sym (same_field L.rows fields F within);
  }

-- ---- a world of members
-- numbers that rise are not below their places
rising_above : (number : ℕ → ℕ) (count : ℕ)
    → ((a b : ℕ) → a < b → b < count → number a < number b) → (a : ℕ) → a < count → a ≤ number a
rising_above number count rising zero h = omega arith
rising_above number count rising (suc a) h =
    let r : number a < number (suc a) = rising a (suc a) (omega arith) h in
    let k : a ≤ number a = rising_above number count rising a (omega (arith, h)) in
    omega (arith, r, k)

pub are_members : {L : Lattice} {E F : ℕ} {phi : List (List ℕ)} {rows : List Row} {n : ℕ}
    {ms : List Member}
    → AreListed L E F phi rows n ms → n ≤ 200 → F < n → IsMember L E F F → AreMembers ms
are_members {F = F} {n = n} {ms = ms} H room below member =
    let (a, l, e) = H.listed.members F below member in
    let b : length ms ≤ n = few (length ms) H.listed.below H.listed.rising in
    record {
      some = omega (arith, l);
      room = omega (arith, b, room);
      one_target = λ i j d l h.
          ap (λ x. x.map.target) (get_or_default ms i d no_member (omega arith)) ∙ H.target i (omega arith)
          ∙ sym (ap (λ x. x.map.target) (get_or_default ms j d no_member h) ∙ H.target j h);
      numbers_differ = λ i j d l h same.
          let r : number_at ms i < number_at ms j = H.listed.rising i j l h in
          let e : number_at ms i ≡ number_at ms j = sym (ap (λ x. x.number) (get_or_default ms i d no_member (omega (arith, l, h))))
          ∙ same ∙ ap (λ x. x.number) (get_or_default ms j d no_member h) in
          omega (arith, r, e);
    }
  where
    few : (count : ℕ) → ((a : ℕ) → a < count → number_at ms a < n)
        → ((a b : ℕ) → a < b → b < count → number_at ms a < number_at ms b) → count ≤ n
    few zero b r = omega arith
    few (suc c) b r =
        let x : c ≤ number_at ms c = rising_above (number_at ms) (suc c) r c (omega arith) in
        let y : number_at ms c < n = b c (omega arith) in
        omega (arith, x, y)

-- members with stored maps begin in their fields of the lattice
pub at_home : {L : Lattice} {E F : ℕ} {phi : List (List ℕ)} (fields : List Row) {n : ℕ}
    {ms : List Member}
    → IsCompatible L → AreListed L E F phi (L.rows ++ fields) n ms → AreAtHome L ms
at_home {L} fields {ms = ms} C H = record {
  source = λ b k m l s. H.source b l ∙ same_field L.rows fields (number_at ms b) (C.compatible.within s).0;
}

-- ---- the maps of one member
pub into_stored : {L : Lattice} {E F i : ℕ} {phi : List (List ℕ)} (e f : FieldMap) → f ≡ e
    → Stored L i F e.images × IsBetween L.rows i F e
    → IsMapInto L E F phi L.rows i f.images × IsBetween L.rows i F f
into_stored {L} {E} {F} {i} {phi} e f same (s, b) =
    subst (λ x. IsMapInto L E F phi L.rows i x.images × IsBetween L.rows i F x) (sym same) (stored s, b)

pub into_through : {L : Lattice} {E F i : ℕ} (e f phi : FieldMap) → phi.target ≡ field_at L.rows F
    → Stored L i E e.images × IsBetween L.rows i E e → f.source ≡ e.source → f.target ≡ phi.target
    → f.images ≡ comp phi.target e.images phi.images
    → IsMapInto L E F phi.images L.rows i f.images × IsBetween L.rows i F f
into_through {L} {E} {F} {i} e f phi t (s, b) x y z = (
  subst (IsMapInto L E F phi.images L.rows i) (sym (z ∙ ap (λ K. comp K e.images phi.images) t)) (through s),
  record { source = x ∙ b.source; target = y ∙ t },
)
