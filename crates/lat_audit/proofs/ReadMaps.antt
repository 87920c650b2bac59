-- The maps that images are.
use Rattle.std.proofs.Common.{◌≡◌, true, false, ℕ, ◌+◌, ◌<◌, Option, Some, None, List, [], ◌∷◌, ◌++◌, length, get_or, take, map, sym, refl, ap, ap₂, ◌∙◌, subst, ⊎_elim, arith, get_or-take}
use Rattle.std.specs.Prelude.{◌↔◌, MatchOption, IsSome, IfSome, slice_index_or}
use Rattle.std.proofs.lemmas.List.{map-append, take_more, get_or_default, length-take-le}
use Rattle.std.proofs.lemmas.List.Elements.{All-get_or, All-push}
use Rattle.std.proofs.lemmas.Bool.{cases_lt, cases_eq}
use Rattle.alg_model.specs.Maps.{Field, degree_of, constants, powers}
use Rattle.alg_model.specs.Roots.{IsRoot}
use Rattle.alg_model.specs.Candidates.{map_sending}
use Rattle.alg_model.specs.Lattices.{Row, field_at, pair_cmp}
use Rattle.ff_embed.specs.SmallEmbeddings.{FieldMap}
use Rattle.lat_core.specs.SharedRows.{IsBetween}
use Rattle.lat_core.specs.declared.rows.MapRow.{MapRow}
use Rattle.lat_audit.specs.Readings.{Image, map_of}
use Rattle.lat_audit.specs.Verdicts.{IsFirst, IsGeneratorImage, IsWrongImage}
use Rattle.lat_audit.specs.PrivateReadings.{IsBefore, IsRising}
use Rattle.lat_audit.specs.PrivateFaults.{entry_of, AreGeneratorImages, AreMapsOf}
use Rattle.lat_audit.proofs.StoredMaps.{pair_before}

-- ---- one map
pub map_read : (rows : List Row) (i j : ℕ) (v : List ℕ) (E F : Field) (r : Option FieldMap)
    → E ≡ field_at rows i → F ≡ field_at rows j → E.characteristic ≡ F.characteristic
    → IsSome r ↔ IsRoot F (constants F E.polynomial) v
    → IfSome r (λ e. e.source ≡ E) → IfSome r (λ e. e.target ≡ F)
    → IfSome r (λ e. e.images ≡ powers F v (degree_of E))
    → MatchOption r (IsGeneratorImage rows i j v → ⊥)
    (λ map. IsGeneratorImage rows i j v × IsBetween rows i j map
    × (map.images ≡ map_sending (field_at rows i) (field_at rows j) v))
map_read rows i j v E F None from into one some source target images =
    λ g. let no : false ≡ true = some.1 (subst (λ (K : Field). IsRoot F (constants F K.polynomial) v) (sym from)
    (subst (λ (K : Field). IsRoot K (constants K (field_at rows i).polynomial) v) (sym into) g.root)) in cc
map_read rows i j v E F (Some map) from into one some source target images = (
  record {
    characteristic = sym (ap (λ (K : Field). K.characteristic) from) ∙ one ∙ ap (λ (K : Field). K.characteristic) into;
    root = subst (λ (K : Field). IsRoot K (constants K (field_at rows i).polynomial) v) into
        (subst (λ (K : Field). IsRoot F (constants F K.polynomial) v) from (some.0 refl));
  },
  record { source = source ∙ from; target = target ∙ into },
  images ∙ ap₂ (λ (K L : Field). map_sending K L v) from into,
)

-- another characteristic
pub no_map : (rows : List Row) (i j : ℕ) (v : List ℕ) (E F : Field)
    → E ≡ field_at rows i → F ≡ field_at rows j → (E.characteristic ≡ F.characteristic → ⊥)
    → IsGeneratorImage rows i j v → ⊥
no_map rows i j v E F from into other g =
    other (ap (λ (K : Field). K.characteristic) from ∙ g.characteristic ∙ sym (ap (λ (K : Field). K.characteristic) into))

-- ---- the images in their order
not_before_itself : (a b : ℕ × ℕ) → a ≡ b → IsBefore a b → ⊥
not_before_itself a b same before =
    let first : a.0 ≡ b.0 = ap (λ (p : ℕ × ℕ). p.0) same in
    let second : a.1 ≡ b.1 = ap (λ (p : ℕ × ℕ). p.1) same in
    ⊎_elim (λ l. omega (arith, first, l)) (λ (e, l). omega (arith, second, l)) (pair_before a b before)

not_both_before : (a b : ℕ × ℕ) → IsBefore a b → IsBefore b a → ⊥
not_both_before a b one other =
    ⊎_elim
    (λ l. ⊎_elim (λ m. omega (arith, l, m)) (λ (e, m). omega (arith, l, e)) (pair_before b a other))
    (λ (e, l). ⊎_elim (λ m. omega (arith, e, m)) (λ (f, m). omega (arith, l, m)) (pair_before b a other))
    (pair_before a b one)

module _ (rows : List Row) (images : List Image) (index : ℕ) (e : Image) (within : index < length images)
    (is : e ≡ slice_index_or images index e) where
  here : (d : Image) → slice_index_or images index d ≡ e
  here d = get_or_default images index d e within ∙ sym is

  -- the first one that is none
  pub first_wrong : IsRising images → AreGeneratorImages rows (take index images)
      → (IsGeneratorImage rows e.0.0 e.0.1 e.1 → ⊥)
      → IsFirst pair_cmp (IsWrongImage (record { rows = rows; images = images })) e.0
  first_wrong rising good wrong = (
    (e.1, (index, within, here e), wrong),
    λ b less w.
        let k = w.1.0 in
        let lk = w.1.1 in
        let at : slice_index_or images k (b, w.0) ≡ (b, w.0) = w.1.2 in
        ⊎_elim
        (λ below.
        let taken : get_or (take index images) k (b, w.0) ≡ (b, w.0) = get_or-take index images k (b, w.0) below ∙ at in
        let shorter : length (take index images) ≡ index = length-take-le index images (omega (arith, within)) in
        w.2 (subst (λ (x : Image). IsGeneratorImage rows x.0.0 x.0.1 x.1) taken
        (All-get_or (λ (x : Image). IsGeneratorImage rows x.0.0 x.0.1 x.1) (take index images) k (b, w.0) (omega (arith, shorter, below)) good)))
        (λ above. ⊎_elim
        (λ (same : k ≡ index).
        let equal : (b, w.0) ≡ e = sym at ∙ ap (λ n. slice_index_or images n (b, w.0)) same ∙ here (b, w.0) in
        not_before_itself b e.0 (ap (λ (x : Image). x.0) equal) less)
        (λ apart.
        let later : IsBefore (slice_index_or images index (b, w.0)).0 (slice_index_or images k (b, w.0)).0 =
        rising index k (b, w.0) (omega (arith, above, apart)) lk in
        let after : IsBefore e.0 b =
        subst (λ (x : Image). IsBefore e.0 x.0) at (subst (λ (x : Image). IsBefore x.0 (slice_index_or images k (b, w.0)).0) (here (b, w.0)) later) in
        not_both_before b e.0 less after)
        (cases_eq k index))
        (cases_lt k index),
  )

  -- one more map
  pub more_maps : (maps new : List MapRow) (m : MapRow) → AreMapsOf rows (take index images) maps
      → new ≡ maps ++ m ∷ [] → m.from ≡ e.0.0 → m.into ≡ e.0.1
      → IsGeneratorImage rows e.0.0 e.0.1 e.1 → IsBetween rows e.0.0 e.0.1 m.map
      → m.map.images ≡ map_sending (field_at rows e.0.0) (field_at rows e.0.1) e.1
      → AreMapsOf rows (take (index + 1) images) new
  more_maps maps new m so_far pushed from into root between are =
      let taken : take (index + 1) images ≡ take index images ++ e ∷ [] =
      take_more images index e within ∙ ap (λ (x : Image). take index images ++ x ∷ []) (here e) in
      let entry : entry_of m ≡ map_of rows e = λ i. ((from i, into i), are i) in
      subst (λ (ms : List MapRow). AreMapsOf rows (take (index + 1) images) ms) (sym pushed)
      (subst (λ (es : List Image). AreMapsOf rows es (maps ++ m ∷ [])) (sym taken)
      (record {
        entries = map-append entry_of maps (m ∷ []) ∙ ap₂ (λ xs x. xs ++ x ∷ []) so_far.entries entry
            ∙ sym (map-append (map_of rows) (take index images) (e ∷ []));
        between = All-push (λ (x : MapRow). IsBetween rows x.from x.into x.map) maps m so_far.between
            (subst (λ (k : ℕ). IsBetween rows k m.into m.map) (sym from) (subst (λ (k : ℕ). IsBetween rows e.0.0 k m.map) (sym into) between));
        roots = All-push (λ (x : Image). IsGeneratorImage rows x.0.0 x.0.1 x.1) (take index images) e so_far.roots root;
      }))
