-- The images that a lattice of the first edition is dumped by: each may stand behind those before
-- it, is that of an embedding, and gives its map back.
--     image_of rows e     the pair of an entry, and the image of the generator
--     IsMapEntry rows e     an embedding between two of the fields
use Rattle.std.proofs.Common.{◌≡◌, ℕ, suc, ◌<◌, ◌≤◌, List, [], ◌∷◌, ◌++◌, length, get_or, map, refl, sym, ap, ap₂, ◌∙◌, subst, arith}
use Rattle.std.specs.Prelude.{All, AllPairs}
use Rattle.std.specs.FinMap.{entries, from_entries}
use Rattle.std.proofs.lemmas.List.{get_or-map, length-map}
use Rattle.std.proofs.lemmas.List.Elements.{All-map}
use Rattle.alg_model.specs.Maps.{IsFiniteField, generator, IsEmbedding}
use Rattle.alg_model.specs.Lattices.{Row, Lattice, Stored, field_at}
use Rattle.alg_compatible.proofs.Tables.{pair_total, pair_antisymmetric}
use Rattle.alg_galois.proofs.Embeddings.{apply_valid, generator_is_value, embedding_is_powers_of_image}
use Rattle.alg_galois.proofs.EmbeddingRoots.{generator_image_root}
use Rattle.lat_audit.specs.Dumps.{Entry, generator_image}
use Rattle.lat_audit.specs.Readings.{Image, IsNextImage, map_of}
use Rattle.lat_audit.specs.Verdicts.{IsGeneratorImage, IsDumped}
use Rattle.lat_audit.specs.PrivateReadings.{IsBefore, IsRising}
use Rattle.lat_audit.specs.PrivateFaults.{IsImage, AreGeneratorImages}
use Rattle.lat_audit.specs.declared.line_forms.TheConstants.{MAX_MAPS}
use Rattle.lat_audit.proofs.EntryPlaces.{entries_rise, entry_found, entries_again, few_pairs}
use Rattle.lat_audit.proofs.DumpedRows.{rows_of_first}
use Rattle.lat_audit.proofs.SplitLists.{split_within, split_at, split_pairs}

abbrev pub image_of : List Row → Entry → Image
image_of rows e = (e.0, generator_image rows e)

-- ---- one entry
pub record IsMapEntry (rows : List Row) (e : Entry) : Type 0 where
  pub source : e.0.0 < length rows
  pub target : e.0.1 < length rows
  pub from : IsFiniteField (field_at rows e.0.0)
  pub into : IsFiniteField (field_at rows e.0.1)
  pub embedding : IsEmbedding (field_at rows e.0.0) (field_at rows e.0.1) e.1

module _ (rows : List Row) (e : Entry) (M : IsMapEntry rows e) where
  is_image : IsImage rows (image_of rows e)
  is_image = record {
    source = M.source;
    target = M.target;
    value = apply_valid (field_at rows e.0.0) (field_at rows e.0.1) M.from M.into e.1 M.embedding
        (generator (field_at rows e.0.0))
        (generator_is_value (field_at rows e.0.0) (field_at rows e.0.1) M.from M.into);
  }

  is_root : IsGeneratorImage rows e.0.0 e.0.1 (generator_image rows e)
  is_root = record {
    characteristic = M.embedding.same_characteristic;
    root = generator_image_root (field_at rows e.0.0) (field_at rows e.0.1) M.from M.into e.1 M.embedding;
  }

  map_back : map_of rows (image_of rows e) ≡ e
  map_back = ap (λ (m : List (List ℕ)). (e.0, m)) (sym
      (embedding_is_powers_of_image (field_at rows e.0.0) (field_at rows e.0.1) M.from M.into e.1 M.embedding))

-- ---- all entries
all_back : {A B : Type 0} (f : A → B) (g : B → A) (xs : List A) → All (λ x. g (f x) ≡ x) xs
    → map g (map f xs) ≡ xs
all_back f g [] h = refl
all_back f g (x ∷ xs) h = ap₂ (λ y ys. y ∷ ys) (h 0 x (omega arith))
    (all_back f g xs (λ k d l. h (suc k) d (omega (arith, l))))

rising_map : {A B : Type 0} (R : B → B → Type 0) (f : A → B) (xs : List A) → A
    → AllPairs (λ a b. R (f a) (f b)) xs → AllPairs R (map f xs)
rising_map R f xs a all i j d l m =
    let count : length (map f xs) ≡ length xs = length-map xs f in
    let inside : j < length xs = omega (arith, m, count) in
    subst (λ y. R y (get_or (map f xs) j d)) (sym (get_or-map f xs i a d (omega (arith, l, inside))))
    (subst (λ y. R (f (get_or xs i a)) y) (sym (get_or-map f xs j a d inside)) (all i j a l inside))

module _ (L : Lattice) (D : IsDumped L) where
  no_entry : Entry
  no_entry = ((0, 0), [])

  -- a stored map
  are_entries : All (IsMapEntry L.rows) (entries L.maps)
  are_entries k d l =
      let e : Entry = get_or (entries L.maps) k d in
      let stored : Stored L e.0.0 e.0.1 e.1 = record { found = entry_found pair_total L.maps k d l } in
      let within = D.compatible.compatible.within stored in
      record {
        source = within.0;
        target = within.1;
        from = (D.compatible.rows.row e.0.0 within.0).field;
        into = (D.compatible.rows.row e.0.1 within.1).field;
        embedding = D.compatible.compatible.embedding stored;
      }

  abbrev pub dumped_images : List Image
  dumped_images = map (image_of L.rows) (entries L.maps)

  -- **they are images, in their order**
  pub are_images : All (IsImage L.rows) dumped_images
  are_images = All-map (IsImage L.rows) (image_of L.rows) (entries L.maps)
      (λ k d l. is_image L.rows (get_or (entries L.maps) k d) (are_entries k d l))

  pub images_rise : IsRising dumped_images
  images_rise = rising_map (λ (a b : Image). IsBefore a.0 b.0) (image_of L.rows) (entries L.maps) no_entry
      (entries_rise pair_total L.maps)

  -- **of embeddings**
  pub are_roots : AreGeneratorImages L.rows dumped_images
  are_roots = All-map (λ (x : Image). IsGeneratorImage L.rows x.0.0 x.0.1 x.1) (image_of L.rows) (entries L.maps)
      (λ k d l. is_root L.rows (get_or (entries L.maps) k d) (are_entries k d l))

  -- **that are the maps of the lattice**
  pub maps_back : from_entries (map (map_of L.rows) dumped_images) ≡ L.maps
  maps_back = ap from_entries (all_back (image_of L.rows) (map_of L.rows) (entries L.maps)
      (λ k d l. map_back L.rows (get_or (entries L.maps) k d) (are_entries k d l)))
      ∙ entries_again pair_total L.maps pair_antisymmetric

  -- **at most as many as a dump may hold**
  pub few_images : length dumped_images ≤ MAX_MAPS
  few_images =
      let room : length L.rows ≤ 200 = (rows_of_first L D).room in
      few_pairs 200 dumped_images images_rise (λ k d l.
      let i : IsImage L.rows (get_or dumped_images k d) = are_images k d l in
      (omega (arith, i.source, room), omega (arith, i.target, room)))

  -- **each may stand behind those before it**
  pub dumped_image : (before behind : List Image) (e : Image) → dumped_images ≡ before ++ e ∷ behind
      → IsNextImage L.rows before e
  dumped_image before behind e is =
      let i : IsImage L.rows e = subst (IsImage L.rows) (split_at dumped_images before behind e is e)
      (are_images (length before) e (split_within dumped_images before behind e is)) in
      record {
        source = i.source;
        target = i.target;
        value = i.value;
        rising = split_pairs dumped_images before behind e is (λ (a b : Image). IsBefore a.0 b.0) images_rise;
      }
