-- The dump of a lattice of the first edition is a dump, of fields and embeddings.
--     content_of L     what the dump of L holds
use Rattle.std.proofs.Common.{◌≡◌, length, sym, ap, ◌∙◌, subst}
use Rattle.std.specs.Prelude.{◌++◌}
use Rattle.std.specs.FinMap.{len, entries, len-entries}
use Rattle.std.proofs.lemmas.List.{length-map}
use Rattle.std.proofs.lemmas.List.Elements.{All-contains}
use Rattle.std.proofs.lemmas.List.Folds.{flat_map-map}
use Rattle.alg_model.specs.Lattices.{first_edition, Lattice}
use Rattle.lat_audit.specs.Dumps.{edition_number, header_line, fields_line, field_lines, maps_line, map_line, map_lines, end_line, dump_text}
use Rattle.lat_audit.specs.Readings.{Image, Content, IsDump, lattice_of}
use Rattle.lat_audit.specs.Verdicts.{None, IsReducible, IsGeneratorImage, IsWrongImage, IsDumped}
use Rattle.lat_audit.specs.PrivateContents.{IsContent, image_lines, content_text}
use Rattle.lat_audit.proofs.DumpedRows.{rows_of_first, enough_rows, dumped_row}
use Rattle.lat_audit.proofs.DumpedImages.{image_of, dumped_images, are_roots, maps_back, few_images, dumped_image}
use Rattle.lat_audit.proofs.WrittenContents.{content_read}

module _ (L : Lattice) (D : IsDumped L) where
  abbrev pub content_of : Content
  content_of = record { rows = L.rows; images = dumped_images L D }

  -- each row and each image may stand where it stands
  pub is_content : IsContent content_of
  is_content = record {
    enough = enough_rows L D;
    few = (rows_of_first L D).room;
    rows = dumped_row L D;
    few_images = few_images L D;
    images = dumped_image L D;
  }

  -- its text is the dump
  pub content_is_dumped : content_text content_of ≡ dump_text L
  content_is_dumped =
      let number : edition_number first_edition ≡ edition_number L.edition = ap edition_number (sym D.edition) in
      let count : length (dumped_images L D) ≡ len L.maps
      = length-map (entries L.maps) (image_of L.rows) ∙ sym (len-entries L.maps) in
      let lines : image_lines (dumped_images L D) ≡ map_lines L
      = flat_map-map (λ (e : Image). map_line e.0 e.1) (image_of L.rows) (entries L.maps) in
      λ i. header_line (number i)
      ++ (fields_line (length L.rows) ++ field_lines 0 L.rows)
      ++ (maps_line (count i) ++ lines i)
      ++ end_line

  -- it holds the lattice
  pub content_holds : lattice_of content_of ≡ L
  content_holds = λ i. record { edition = sym D.edition i; rows = L.rows; maps = maps_back L D i }

  pub no_reducible : None (IsReducible L.rows)
  no_reducible i r = r.reducible (D.compatible.rows.row i r.within).field.irreducible

  pub no_wrong : None (IsWrongImage content_of)
  no_wrong pair w = w.2 (All-contains (λ (x : Image). IsGeneratorImage L.rows x.0.0 x.0.1 x.1)
      (dumped_images L D) (pair, w.0) (are_roots L D) w.1)

-- **the dump of a lattice is a dump of fields and embeddings, and of that lattice**
pub dumped_content : (L : Lattice) → IsDumped L → (c : Content) × IsDump (dump_text L) c
    × (lattice_of c ≡ L) × None (IsReducible c.rows) × None (IsWrongImage c)
dumped_content L D = (
  content_of L D,
  subst (λ text. IsDump text (content_of L D)) (content_is_dumped L D)
      (content_read (content_of L D) (is_content L D)),
  content_holds L D,
  no_reducible L D,
  no_wrong L D,
)
