-- A lattice with the added fields and enough maps of the right kinds is filled.
use Rattle.std.proofs.Common.{◌≡◌, ◌⊎◌, ℕ, ◌+◌, ◌<◌, ◌≤◌, List, ◌++◌, length, slice_index_or, refl, sym, ap, ◌∙◌, subst, inl, inr, ⊎_elim, arith, length-append, Option, Some, None, is_some, true}
use Rattle.std.specs.FinMap.{get}
use Rattle.std.proofs.lemmas.List.{get_or_append_left}
use Prim.Native.Nat.{◌∣◌}
use Rattle.alg_model.specs.Maps.{degree_of, comp}
use Rattle.alg_model.specs.Lattices.{Lattice, Row, no_row, field_at, Stored, Grows, IsCompatible}
use Rattle.alg_model.specs.Candidates.{embedding_by, IsMember, IsCandidate, AreMissing}
use Rattle.alg_model.specs.Candidates as Model
use Rattle.alg_model.specs.Filling.{IsFilled}
use Rattle.alg_compatible.specs.Theorems.{AreFields}
use Rattle.alg_compatible.proofs.Laws.{missing_one_law}
use Rattle.alg_compatible.proofs.Tables.{pair_total}
use Rattle.alg_choices.specs.Linking.{IsListed, MayStore, Links}
use Rattle.alg_choices.proofs.Linking.{listed_all, filled_by_linking, filled_is_compatible}
use Rattle.lat_core.specs.declared.rows.MapRow.{MapRow}
use Rattle.lat_core.specs.SharedRows.{IsBetween, map_count, with_rows, AreBetween}
use Rattle.lat_core.proofs.AddedMaps.{IsAdded, IsPairOf, stored_added_or_old, stored_some}
use Rattle.lat_core.proofs.MapCounts.{not_smaller}
use Rattle.lat_world.specs.declared.members.Member.{Member}
use Rattle.lat_world.specs.Worlds.{map_at, no_member}
use Rattle.lat_world.proofs.Links.{AreOfLattice, forced_is_link}
use Rattle.lat_fill.specs.PrivateListing.{number_at, images_at, AreListed, AreMade}
use Rattle.lat_fill.specs.PrivateWays.{IsWay, AreAllWays, IsHad, Goes}
use Rattle.lat_fill.specs.PrivateWays.IsWay.{link, beyond}
use Rattle.lat_core.specs.declared.editions.Edition as declared
use Rattle.lat_core.specs.Editions.{edition_of}
use Rattle.lat_world.specs.Worlds.{AreMembers}
use Rattle.lat_fill.specs.PrivateListing.{GoInto}
use Rattle.lat_fill.specs.PrivateWays.{AreAtHome}
use Rattle.lat_fill.proofs.DegreeLists.{room_is}
use Rattle.lat_fill.proofs.MemberLists.{list_longer, are_members, at_home}
use Rattle.lat_fill.proofs.MadeFields.{rows_after, added_go_into}

-- some map
abbrev no_map : MapRow
no_map = record { from = 0; into = 0; map = no_member.map }

module _ (L : Lattice) (E F : ℕ) (phi : List (List ℕ)) (fields : List Row) (ms : List Member)
    (maps : List MapRow)
    (C : IsCompatible L)
    (H : AreListed L E F phi (L.rows ++ fields) (length (L.rows ++ fields)) ms)
    (W : AreAllWays L ms maps) where
  abbrev M : Lattice
  M = with_rows L fields maps

  same_field : (i : ℕ) → i < length L.rows → field_at M.rows i ≡ field_at L.rows i
  same_field i h = ap (λ r. r.field) (get_or_append_left L.rows fields no_row i h)

  of_lattice : AreOfLattice M.rows F ms
  of_lattice = record { source = H.source; target = H.target }

  listed : IsListed (length ms) (number_at ms) (images_at ms) L E F phi M.rows
  listed = listed_all C (omega (arith, length-append L.rows fields)) H.listed

  -- ---- each map is of the right kind
  may_store : {m : MapRow} → IsWay L ms m
      → MayStore (length ms) (number_at ms) (images_at ms) L F M.rows m.from m.into m.map.images
  may_store (link la lb ea eb f) = MayStore.link ea eb (forced_is_link of_lattice la lb f)
  may_store {m} (beyond {a} {b} {e} {f} la lb ea g s t same) =
      subst (MayStore (length ms) (number_at ms) (images_at ms) L F M.rows m.from m.into)
      (sym (ap (λ x. x.images) same ∙ ap (λ K. comp K e.images f.images) (t.target ∙ sym (same_field m.into (C.compatible.within s).1))))
      (MayStore.beyond ea (forced_is_link of_lattice la lb g) s)

  is_between : {m : MapRow} → IsWay L ms m → IsBetween M.rows m.from m.into m.map
  is_between (link {a} {b} la lb ea eb f) = record {
    source = f.source ∙ H.source a la ∙ ap (field_at M.rows) ea;
    target = f.target ∙ H.source b lb ∙ ap (field_at M.rows) eb;
  }
  is_between {m} (beyond {a} {b} {e} {f} la lb ea g s t same) = record {
    source = ap (λ x. x.source) same ∙ g.source ∙ H.source a la ∙ ap (field_at M.rows) ea;
    target = ap (λ x. x.target) same ∙ t.target ∙ sym (same_field m.into (C.compatible.within s).1);
  }

  -- **they go between the fields of their numbers**
  pub are_between : AreBetween (L.rows ++ fields) maps
  are_between x d h = is_between (W.ways.each x d h)

  -- ---- what is stored
  some_map : (o : Option (List (List ℕ))) → is_some o ≡ true → (m : List (List ℕ)) × (o ≡ Some m)
  some_map (Some m) e = (m, refl)
  some_map None e = cc

  had_is_stored : {i k : ℕ} → IsHad L maps i k → (m : List (List ℕ)) × Stored M i k m
  had_is_stored {i} {k} h =
      let (m, e) = some_map (get M.maps (i, k)) (stored_some maps L.maps (i, k) (either h)) in
      (m, record { found = e })
    where
      either : IsHad L maps i k
          → (is_some (get L.maps (i, k)) ≡ true)
          ⊎ ((x : ℕ) × (x < length maps) × ((d : MapRow) → IsPairOf (slice_index_or maps x d) (i, k)))
      either (inl (m, s)) = inl (ap is_some s.found)
      either (inr p) = inr (p.place, p.within, λ d. (λ j. (p.from d j, p.into d j)))

  stored_is_way : {i k : ℕ} {m : List (List ℕ)} → Stored M i k m
      → MayStore (length ms) (number_at ms) (images_at ms) L F M.rows i k m
  stored_is_way {i} {k} {m} s = ⊎_elim
      (λ (a : IsAdded maps (i, k) m).
      subst (MayStore (length ms) (number_at ms) (images_at ms) L F M.rows i k) (a.images_are no_map)
      (subst (λ (q : ℕ × ℕ). MayStore (length ms) (number_at ms) (images_at ms) L F M.rows q.0 q.1 (slice_index_or maps a.place no_map).map.images) (a.pair no_map)
      (may_store (W.ways.each a.place no_map a.within))))
      (λ e. MayStore.before (record { found = e }))
      (stored_added_or_old maps L.maps (i, k) m s.found)

  links : Links (length ms) (number_at ms) (images_at ms) L F M
  links = record {
    only = stored_is_way;
    old = λ {i} {k} {m} s. had_is_stored {i = i} {k = k} (inl (m, s));
    among = λ a b la lb d. had_is_stored (W.among a b la lb (goes a b la lb d));
    leaving = λ a b la lb d {k} {m} s none. had_is_stored (W.leaving a k la (C.compatible.within s).1
        (λ p. none p.place p.within p.number)
        (record { through = b; within = lb; exit = record { divides = goes a b la lb d; is_stored = (m, s) } }));
  }
    where
      goes : (a b : ℕ) → a < length ms → b < length ms
          → degree_of (field_at M.rows (number_at ms a)) ∣ degree_of (field_at M.rows (number_at ms b)) → Goes ms a b
      goes a b la lb d = subst (λ K. degree_of K ∣ degree_of (map_at ms b).source) (sym (H.source a la))
          (subst (λ K. degree_of (field_at M.rows (number_at ms a)) ∣ degree_of K) (sym (H.source b lb)) d)

  module _ {sending : Option (List ℕ × List ℕ)} {v : List ℕ} {degrees : List ℕ} (A : AreFields L E F)
      (c : IsCandidate L E F sending v) (same : phi ≡ embedding_by L E F v)
      (missing : AreMissing L E F degrees) (made : AreMade L F degrees fields) where
    -- **it is filled**
    pub is_filled : IsFilled L E F phi M
    is_filled = subst (λ p. IsFilled L E F p M) (sym same)
        (filled_by_linking C A c refl (rows_after missing made)
        (subst (λ p. IsListed (length ms) (number_at ms) (images_at ms) L E F p M.rows) same listed) links)

    -- **so it is compatible and has grown, where there is room**
    pub is_compatible : length (L.rows ++ fields) ≤ L.edition.room → IsCompatible M × Grows L M
    is_compatible room = filled_is_compatible C A c (subst (λ p. IsFilled L E F p M) same is_filled) room

-- a lattice that has grown has no fewer maps
pub not_fewer : {L M : Lattice} → Grows L M → map_count L ≤ map_count M
not_fewer {L} {M} G = not_smaller pair_total L.maps M.maps (λ q h. keeps q (get L.maps q) refl h)
  where
    keeps : (q : ℕ × ℕ) (o : Option (List (List ℕ))) → get L.maps q ≡ o → is_some (get L.maps q) ≡ true
        → is_some (get M.maps q) ≡ true
    keeps (i, k) (Some m) e h = ap is_some (G.maps {i = i} {j = k} {m = m} (record { found = e })).found
    keeps (i, k) None e h = cc

-- ---- a whole call
-- what is known once the fields with maps into the target are listed
pub record IsFillable (L : Lattice) (E F : ℕ) (phi : List (List ℕ)) (fields : List Row)
    (ms : List Member) : Type 0 where
  pub compatible : IsCompatible L
  pub are_fields : AreFields L E F
  pub sending : Option (List ℕ × List ℕ)
  pub value : List ℕ
  pub candidate : IsCandidate L E F sending value
  pub same : phi ≡ embedding_by L E F value
  pub degrees : List ℕ
  pub missing : AreMissing L E F degrees
  pub made : AreMade L F degrees fields
  pub listed : AreListed L E F phi (L.rows ++ fields) (length (L.rows ++ fields)) ms
  pub room : length (L.rows ++ fields) ≤ L.edition.room
  pub few : length (L.rows ++ fields) ≤ 200

-- a candidate and its map
abbrev pub IsCandidateMap : Lattice → ℕ → ℕ → List (List ℕ) → Type 0
IsCandidateMap L E F phi = (sending : Option (List ℕ × List ℕ)) × (v : List ℕ) × IsCandidate L E F sending v
    × (phi ≡ embedding_by L E F v)

pub go_into : {L : Lattice} {E F : ℕ} (phi : List (List ℕ)) (degrees told : List ℕ) (fields shown : List Row)
    → IsCompatible L → AreFields L E F → IsCandidateMap L E F phi → AreMissing L E F degrees
    → told ≡ degrees → AreMade L F told fields → shown ≡ fields → GoInto L F shown
go_into {L} {E} {F} phi degrees told fields shown C A (sending, v, c, same) missing e made f =
    subst (GoInto L F) (sym f) (added_go_into C A c missing (subst (λ ds. AreMade L F ds fields) e made))

pub fillable : {L : Lattice} {E F : ℕ} (e : declared.Edition) (phi : List (List ℕ)) (degrees told : List ℕ) (fields shown : List Row)
    (old new : List Member)
    → edition_of e ≡ L.edition → IsCompatible L → AreFields L E F → IsCandidateMap L E F phi
    → ((ds : List ℕ) → AreMissing L E F ds → length L.rows + length ds ≤ L.edition.room)
    → AreMissing L E F degrees → told ≡ degrees → AreMade L F told fields → shown ≡ fields
    → AreListed L E F phi L.rows (length L.rows) old
    → ((E : ℕ) (phi : List (List ℕ)) → AreListed L E F phi (L.rows ++ shown) (length L.rows) old
    → AreListed L E F phi (L.rows ++ shown) (length (L.rows ++ shown)) new)
    → IsFillable L E F phi fields new
fillable {L} {E} {F} e phi degrees told fields shown old new ed C A (sending, v, c, same) room missing dt made fs H more =
    let M : AreMade L F degrees fields = subst (λ ds. AreMade L F ds fields) dt made in
    let r : length L.rows + length degrees ≤ L.edition.room = room degrees missing in
    let n : length fields ≡ length degrees = M.count in
    let k : length (L.rows ++ fields) ≤ L.edition.room = omega (arith, r, n, length-append L.rows fields) in
    record {
      compatible = C;
      are_fields = A;
      sending = sending;
      value = v;
      candidate = c;
      same = same;
      degrees = degrees;
      missing = missing;
      made = M;
      listed = subst (λ rs. AreListed L E F phi (L.rows ++ rs) (length (L.rows ++ rs)) new) fs (more E phi (list_longer L E F phi shown A.target H));
      room = k;
      few = let x : L.edition.room ≡ 200 = sym (ap (λ y. y.room) ed) ∙ room_is e in omega (arith, k, x);
    }

module _ {L : Lattice} {E F : ℕ} {phi : List (List ℕ)} {fields : List Row} {ms : List Member}
    (I : IsFillable L E F phi fields ms) where
  pub world_members : (told : List Member) → told ≡ ms → AreMembers told
  world_members told e = subst AreMembers (sym e) (are_members I.listed I.few
      (let h : F < length L.rows = I.are_fields.target in omega (arith, h, length-append L.rows fields))
      (Model.IsMember.of_target (I.compatible.compatible.identity F I.are_fields.target)))

  pub world_home : (told : List Member) → told ≡ ms → AreAtHome L told
  world_home told e = subst (AreAtHome L) (sym e) (at_home fields I.compatible I.listed)

  -- what the lattice with these maps is
  pub record Conclusion (shown : List Row) (maps : List MapRow) : Type 0 where
    pub filled : IsFilled L E F phi (with_rows L shown maps)
    pub compatible : IsCompatible (with_rows L shown maps)
    pub grows : Grows L (with_rows L shown maps)
    pub between : AreBetween (L.rows ++ shown) maps

  pub conclude : (told : List Member) (maps listed : List MapRow) (shown : List Row) → told ≡ ms
      → AreAllWays L told maps → shown ≡ fields → listed ≡ maps → Conclusion shown listed
  conclude told maps listed shown e W f g =
      let V : AreAllWays L ms maps = subst (λ xs. AreAllWays L xs maps) e W in
      let both = is_compatible L E F phi fields ms maps I.compatible I.listed V I.are_fields I.candidate I.same I.missing I.made I.room in
      subst (λ rs. Conclusion rs listed) (sym f) (subst (Conclusion fields) (sym g) (record {
        filled = is_filled L E F phi fields ms maps I.compatible I.listed V I.are_fields I.candidate I.same I.missing I.made;
        compatible = both.0;
        grows = both.1;
        between = are_between L E F phi fields ms maps I.compatible I.listed V;
      }))

  -- as many fields are added as degrees are missing
  pub count_made : (degrees : List ℕ) → AreMissing L E F degrees → length fields ≡ length degrees
  count_made degrees m = I.made.count ∙ ap length (missing_one_law L E F I.degrees degrees I.missing m)
