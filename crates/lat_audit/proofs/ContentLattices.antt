-- The lattice of a content: what the maps of its images give to a table, and the dump of the
-- lattice, which is the text of the content.
use Rattle.std.proofs.Common.{◌≡◌, ℕ, ◌*◌, ◌<◌, ◌≤◌, List, [], ◌∷◌, ◌++◌, length, get_or, map, refl, sym, ap, ap₂, ◌∙◌, subst, arith, suc}
use Rattle.std.specs.Prelude.{All, AllPairs}
use Rattle.std.specs.FinMap.{len, entries, from_entries, len-entries}
use Rattle.std.proofs.lemmas.List.{get_or-map, length-map}
use Rattle.std.proofs.lemmas.List.Elements.{All-contains, Contains-get_or}
use Rattle.alg_model.specs.Lattices.{first_edition, IsCompatible}
use Rattle.alg_compatible.proofs.Tables.{pair_total, pair_antisymmetric}
use Rattle.lat_core.specs.declared.rows.MapRow.{MapRow}
use Rattle.lat_core.specs.declared.TheConstants.{MAX_FIELDS}
use Rattle.lat_audit.specs.Dumps.{header_line, fields_line, field_lines, maps_line, map_line, map_lines, end_line, Entry, generator_image, stored_lines, dump_text}
use Rattle.lat_audit.specs.Readings.{Image, Content, map_of, lattice_of}
use Rattle.lat_audit.specs.Verdicts.{None, IsReducible, IsGeneratorImage, IsWrongImage, IsDumped}
use Rattle.lat_audit.specs.PrivateContents.{IsContent, image_lines, content_text}
use Rattle.lat_audit.specs.PrivateFaults.{entry_of, AreMapsOf}
use Rattle.lat_audit.specs.PrivateReadings.{IsBefore}
use Rattle.lat_audit.specs.PrivateRules.{IsOfEdition, HoldsMaps, KeepsRules}
use Rattle.lat_audit.specs.PrivateTables.{pair_of, lattice_with}
use Rattle.lat_audit.proofs.ContentFields.{are_polys, are_within, images_rise}
use Rattle.lat_audit.proofs.FirstRows.{primes_alone, are_names, first_rows}
use Rattle.lat_audit.proofs.HeldMaps.{field_finite, image_embeds, holds_maps}
use Rattle.lat_audit.proofs.KeptRules.{rules_compatible}
use Rattle.lat_audit.proofs.RisingEntries.{entries_kept}
use Rattle.lat_audit.proofs.SomeReading.{poly_at}

-- ---- the maps of the images
module _ (c : Content) (is : IsContent c) (maps : List MapRow) (M : AreMapsOf c.rows c.images maps) where
  no_image : Image
  no_image = ((0, 0), [])

  counted : length maps ≡ length c.images
  counted = sym (length-map maps entry_of) ∙ ap length M.entries ∙ length-map c.images (map_of c.rows)

  -- a map is between the fields of its image
  pair_at : (k : ℕ) (d : MapRow) → k < length maps
      → pair_of (get_or maps k d) ≡ (get_or c.images k no_image).0
  pair_at k d l =
      ap (λ (x : Entry). x.0) (sym (get_or-map entry_of maps k d (entry_of d) l)
      ∙ ap (λ es. get_or es k (entry_of d)) M.entries
      ∙ get_or-map (map_of c.rows) c.images k no_image (entry_of d) (let n = counted in omega (arith, l, n)))

  pub few_maps : length maps ≤ MAX_FIELDS * MAX_FIELDS
  few_maps = let few = is.few_images in let n = counted in omega (arith, few, n)

  pub maps_within : All (λ (m : MapRow). (m.from < length c.rows) × (m.into < length c.rows)) maps
  maps_within k d l =
      subst (λ (q : ℕ × ℕ). (q.0 < length c.rows) × (q.1 < length c.rows)) (sym (pair_at k d l))
      (are_within c is k no_image (let n = counted in omega (arith, l, n)))

  pub maps_rise : AllPairs (λ (a b : MapRow). IsBefore (pair_of a) (pair_of b)) maps
  maps_rise i j d l m =
      let n = counted in
      subst (λ (q : ℕ × ℕ). IsBefore q (pair_of (get_or maps j d))) (sym (pair_at i d (omega (arith, l, m))))
      (subst (λ (q : ℕ × ℕ). IsBefore (get_or c.images i no_image).0 q) (sym (pair_at j d m))
      (images_rise c is i j no_image l (omega (arith, m, n))))

  -- **fields and maps are those of the lattice of the content**
  pub lattice_made : lattice_with c.rows maps ≡ lattice_of c
  lattice_made = ap (λ (es : List Entry). record { edition = first_edition; rows = c.rows; maps = from_entries es })
      M.entries

  pub never_wrong : None (IsWrongImage c)
  never_wrong pair w = w.2 (All-contains (λ (x : Image). IsGeneratorImage c.rows x.0.0 x.0.1 x.1)
      c.images (pair, w.0) M.roots w.1)

-- ---- the lattice
module _ (c : Content) (is : IsContent c) (fields : None (IsReducible c.rows)) (images : None (IsWrongImage c)) where
  pub content_holds_maps : HoldsMaps (lattice_of c)
  content_holds_maps = holds_maps c (are_polys c is) (are_within c is) fields images

  pub content_of_edition : IsOfEdition (lattice_of c)
  content_of_edition = record {
    edition = refl;
    enough = is.enough;
    known = λ j l. (poly_at c.rows (are_polys c is) j l).characteristic;
  }

  -- **it is compatible where it keeps the rules**
  pub content_compatible : KeepsRules (lattice_of c) → IsCompatible (lattice_of c)
  content_compatible keeps = rules_compatible (lattice_of c) content_holds_maps keeps
      (first_rows c is (field_finite c (are_polys c is) (are_within c is) fields images))
      (primes_alone c is)

  pub content_dumped : IsCompatible (lattice_of c) → IsDumped (lattice_of c)
  content_dumped compatible = record { edition = refl; names = are_names c is; compatible = compatible }

  -- ---- its dump
  map_entries : List Entry
  map_entries = map (map_of c.rows) c.images

  entries_rise : AllPairs (λ (a b : Entry). IsBefore a.0 b.0) map_entries
  unfolding map_entries
  entries_rise i j d l m =
      let n : length (map (map_of c.rows) c.images) ≡ length c.images = length-map c.images (map_of c.rows) in
      let inside : j < length c.images = omega (arith, m, n) in
      let e : Image = ((0, 0), []) in
      subst (λ (x : Entry). IsBefore x.0 (get_or (map (map_of c.rows) c.images) j d).0)
      (sym (get_or-map (map_of c.rows) c.images i e d (omega (arith, l, inside))))
      (subst (λ (x : Entry). IsBefore (get_or c.images i e).0 x.0)
      (sym (get_or-map (map_of c.rows) c.images j e d inside))
      (images_rise c is i j e l inside))

  entries_are : entries (lattice_of c).maps ≡ map (map_of c.rows) c.images
  unfolding map_entries
  entries_are = entries_kept pair_total pair_antisymmetric (map (map_of c.rows) c.images) entries_rise

  -- the image of the generator is the image that was given
  image_back : (k : ℕ) (d : Image) → k < length c.images
      → generator_image c.rows (map_of c.rows (get_or c.images k d)) ≡ (get_or c.images k d).1
  image_back k d l =
      let e : Image = get_or c.images k d in
      (image_embeds c (are_polys c is) (are_within c is) fields images e.0.0 e.0.1 e.1
      (Contains-get_or c.images k d l)).1

  lines_back : (xs : List Image)
      → All (λ (x : Image). generator_image c.rows (map_of c.rows x) ≡ x.1) xs
      → stored_lines c.rows (map (map_of c.rows) xs) ≡ image_lines xs
  lines_back [] all = refl
  lines_back (x ∷ xs) all = ap₂ (λ v ls. map_line x.0 v ++ ls) (all 0 x (omega arith))
      (lines_back xs (λ k d l. all (suc k) d (omega (arith, l))))

  lines_are : map_lines (lattice_of c) ≡ image_lines c.images
  lines_are = ap (stored_lines c.rows) entries_are ∙ lines_back c.images image_back

  maps_counted : len (lattice_of c).maps ≡ length c.images
  maps_counted = len-entries (lattice_of c).maps ∙ ap length entries_are ∙ length-map c.images (map_of c.rows)

  -- **the text of the content is the dump of its lattice**
  pub content_is_dump : content_text c ≡ dump_text (lattice_of c)
  content_is_dump = sym (λ i. header_line 1
      ++ (fields_line (length c.rows) ++ field_lines 0 c.rows)
      ++ (maps_line (maps_counted i) ++ lines_are i)
      ++ end_line)
