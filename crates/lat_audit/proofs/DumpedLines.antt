-- The lines of a dump, one after the other.
use Rattle.std.proofs.Common.{◌≡◌, ℕ, suc, ◌+◌, ◌<◌, List, [], ◌∷◌, ◌++◌, length, take, sym, ap, ap₂, ◌∙◌, arith, append_assoc}
use Rattle.std.specs.Prelude.{slice_index_or}
use Rattle.std.specs.FinMap.{len}
use Rattle.std.proofs.Common.{Option, Some, None}
use Rattle.std.proofs.lemmas.List.{append-nil, length-take-le, take_more}
use Rattle.std.proofs.lemmas.Grind.{flat_map-append}
use Rattle.alg_model.specs.Lattices.{Row, Lattice, no_row}
use Rattle.lat_audit.specs.Dumps.{edition_number, header_line, fields_line, field_line, field_lines, maps_line, map_line, Entry, generator_image, stored_lines, map_lines, end_line, dump_text}
use Rattle.lat_audit.specs.PrivateDumps.{found_at}

-- ---- fields
field_lines_push : (n : ℕ) (rows : List Row) (row : Row)
    → field_lines n (rows ++ row ∷ []) ≡ field_lines n rows ++ field_line (n + length rows) row
field_lines_push n [] row = append-nil (field_line n row) ∙ ap (λ k. field_line k row) (let e : n ≡ n + 0 = omega arith in e)
field_lines_push n (first ∷ rows) row =
    ap (λ t. field_line n first ++ t) (field_lines_push (suc n) rows row)
    ∙ sym (append_assoc (field_line n first) (field_lines (suc n) rows) (field_line (suc n + length rows) row))
    ∙ ap (λ k. (field_line n first ++ field_lines (suc n) rows) ++ field_line k row) (let e : suc n + length rows ≡ n + suc (length rows) = omega arith in e)

-- one field more
pub field_lines_more : (old mid new : List ℕ) (rows : List Row) (i : ℕ) (row : Row)
    → i < length rows → row ≡ slice_index_or rows i no_row
    → mid ≡ old ++ field_lines 0 (take i rows) → new ≡ mid ++ field_line i row
    → new ≡ old ++ field_lines 0 (take (i + 1) rows)
field_lines_more old mid new rows i row l at so_far e =
    let count : i ≡ 0 + length (take i rows) = omega (arith, length-take-le i rows (omega arith)) in
    e ∙ ap (λ t. t ++ field_line i row) so_far
    ∙ append_assoc old (field_lines 0 (take i rows)) (field_line i row)
    ∙ ap (λ t. old ++ t) (
    ap₂ (λ k r. field_lines 0 (take i rows) ++ field_line k r) count at
    ∙ sym (field_lines_push 0 (take i rows) (slice_index_or rows i no_row))
    ∙ ap (field_lines 0) (sym (take_more rows i no_row l))
    )

-- ---- maps
module _ (rows : List Row) where
  stored_append : (xs ys : List Entry)
      → stored_lines rows (xs ++ ys) ≡ stored_lines rows xs ++ stored_lines rows ys
  stored_append xs ys = flat_map-append (λ e. map_line e.0 (generator_image rows e)) xs ys

  -- the lines of some entries, and then those of more
  pub stored_more : (old mid new : List ℕ) (xs ys all : List Entry) → all ≡ xs ++ ys
      → mid ≡ old ++ stored_lines rows xs → new ≡ mid ++ stored_lines rows ys
      → new ≡ old ++ stored_lines rows all
  stored_more old mid new xs ys all both so_far e =
      e ∙ ap (λ t. t ++ stored_lines rows ys) so_far
      ∙ append_assoc old (stored_lines rows xs) (stored_lines rows ys)
      ∙ ap (λ t. old ++ t) (sym (stored_append xs ys) ∙ ap (stored_lines rows) (sym both))

  -- nothing is found
  pub no_line : (old : List ℕ) (pair : ℕ × ℕ) (found : Option (List (List ℕ))) → found ≡ None
      → old ≡ old ++ stored_lines rows (found_at pair found)
  no_line old pair found e =
      sym (append-nil old) ∙ ap (λ o. old ++ stored_lines rows (found_at pair o)) (sym e)

  -- a map is found
  pub one_line : (old new : List ℕ) (pair : ℕ × ℕ) (found : Option (List (List ℕ)))
      (m : List (List ℕ)) (image : List ℕ)
      → found ≡ Some m → image ≡ generator_image rows (pair, m) → new ≡ old ++ map_line pair image
      → new ≡ old ++ stored_lines rows (found_at pair found)
  one_line old new pair found m image f i e =
      e ∙ ap (λ v. old ++ map_line pair v) i
      ∙ ap (λ t. old ++ t) (sym (append-nil (map_line pair (generator_image rows (pair, m)))))
      ∙ ap (λ o. old ++ stored_lines rows (found_at pair o)) (sym f)

-- ---- the whole dump
pub dump_made : (L : Lattice) (header fields rows maps pairs all : List ℕ) (k n m : ℕ)
    → k ≡ edition_number L.edition → n ≡ length L.rows → m ≡ len L.maps
    → header ≡ header_line k → fields ≡ header ++ fields_line n
    → rows ≡ fields ++ field_lines 0 L.rows → maps ≡ rows ++ maps_line m
    → pairs ≡ maps ++ map_lines L → all ≡ pairs ++ end_line
    → all ≡ dump_text L
dump_made L header fields rows maps pairs all k n m ek en em a b c d e f =
    f ∙ ap (λ t. t ++ end_line) (
    e ∙ ap (λ t. t ++ map_lines L) (
    d ∙ ap₂ (λ t k. t ++ maps_line k) (
    c ∙ ap (λ t. t ++ field_lines 0 L.rows) (b ∙ ap₂ (λ t k. t ++ fields_line k) (a ∙ ap header_line ek) en)
    ∙ append_assoc (header_line (edition_number L.edition)) (fields_line (length L.rows)) (field_lines 0 L.rows)
    ) em
    )
    ∙ append_assoc first (maps_line (len L.maps)) (map_lines L)
    )
  where
    first : List ℕ
    first = header_line (edition_number L.edition) ++ (fields_line (length L.rows) ++ field_lines 0 L.rows)
