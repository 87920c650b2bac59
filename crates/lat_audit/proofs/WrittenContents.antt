-- The text of a content is read as that content.
use Rattle.std.proofs.Common.{◌≡◌, ℕ, suc, ◌+◌, ◌<◌, ◌^◌, Ok, List, [], ◌∷◌, ◌++◌, length, sym, refl, ap, ◌∙◌, subst, inl, arith, append_assoc}
use Rattle.std.specs.Prelude.{All}
use Rattle.std.proofs.lemmas.List.{append-nil, length-append, length_push}
use Rattle.alg_model.specs.Lattices.{Row}
use Rattle.lat_audit.specs.Dumps.{header_line, fields_line, field_line, field_lines, maps_line, map_line, end_line}
use Rattle.lat_audit.specs.Readings.{ended_lines, Image, Content, IsNextRow, IsNextImage, Place, Header, FieldCount, Field, MapCount, Map, End, Behind, field_place, map_place, LeadsTo, Reading, IsDump}
use Rattle.lat_audit.specs.PrivateContents.{image_lines, content_text, IsContent}
use Rattle.lat_audit.proofs.ReadLines.{field_asked, fields_done, map_asked, maps_done}
use Rattle.lat_audit.proofs.ContentRows.{pushed, Follow, HasPoly, follow_polys, rows_follow, images_follow}
use Rattle.lat_audit.proofs.LineFeeds.{IsLine, line_begins, header_is, fields_is, maps_is, end_is, field_is, map_is}

-- a line more
more : (place next : Place) (n : ℕ) (text line rest : List ℕ) (c : Content) → IsLine line
    → text ≡ line ++ rest → LeadsTo place line next
    → Reading next (n + 1) (ended_lines rest) (Ok c) → Reading place n (ended_lines text) (Ok c)
more place next n text line rest c is e leads reads =
    subst (λ ls. Reading place n ls (Ok c)) (sym (ap ended_lines e ∙ line_begins line rest is))
    (inl (next, leads, reads))

-- a list with one more is longer
fewer : {X : Type 0} (count : ℕ) (before : List X) (x : X) (xs : List X)
    → length (before ++ x ∷ xs) ≡ count → length before < count
fewer count before x xs e = let l = length-append before (x ∷ xs) in omega (arith, e, l)

-- ---- the lines of fields
module _ (count : ℕ) (small : count < 2 ^ 64) (rest : List ℕ) (c : Content) where
  pub rows_read : (before rows : List Row) → length (before ++ rows) ≡ count
      → Follow IsNextRow before rows
      → ((n : ℕ) → Reading (MapCount (before ++ rows)) n (ended_lines rest) (Ok c)) → (n : ℕ)
      → Reading (field_place count before) n
      (ended_lines (field_lines (length before) rows ++ rest)) (Ok c)
  rows_read before [] counted follow reads n =
      let none : before ++ [] ≡ before = append-nil before in
      let done : field_place count before ≡ MapCount before =
      fields_done count before (ap length (sym none) ∙ counted) in
      subst (λ (p : Place). Reading p n (ended_lines rest) (Ok c)) (ap MapCount none ∙ sym done) (reads n)
  rows_read before (row ∷ rows) counted follow reads n =
      let few : length before < count = fewer count before row rows counted in
      let moved = pushed before row rows in
      let number : suc (length before) ≡ length (before ++ row ∷ []) =
      let l = length_push before row in omega (arith, l) in
      let behind = field_lines (length (before ++ row ∷ [])) rows ++ rest in
      let text : field_lines (length before) (row ∷ rows) ++ rest ≡ field_line (length before) row ++ behind =
      append_assoc (field_line (length before) row) (field_lines (suc (length before)) rows) rest
      ∙ ap (λ k. field_line (length before) row ++ (field_lines k rows ++ rest)) number in
      let after = rows_read (before ++ row ∷ []) rows (ap length moved ∙ counted) follow.1
      (λ m. subst (λ (all : List Row). Reading (MapCount all) m (ended_lines rest) (Ok c)) (sym moved) (reads m))
      (n + 1) in
      subst (λ (p : Place). Reading p n (ended_lines (field_lines (length before) (row ∷ rows) ++ rest)) (Ok c))
      (sym (field_asked count before few))
      (more (Field count before) (field_place count (before ++ row ∷ [])) n
      (field_lines (length before) (row ∷ rows) ++ rest) (field_line (length before) row) behind c
      (field_is before row (omega (arith, few, small)) follow.0) text (row, refl, follow.0, refl) after)

-- ---- the lines of maps
end_read : (c : Content) (n : ℕ) → Reading (End c) n (ended_lines end_line) (Ok c)
end_read c n = more (End c) (Behind c) n end_line end_line [] c end_is (sym (append-nil end_line))
    (refl, refl) (inl (c, refl, refl))

module _ (rows : List Row) (small : length rows < 2 ^ 64) (polys : All HasPoly rows) (count : ℕ) where
  abbrev holding : List Image → Content
  holding images = record { rows = rows; images = images }

  pub images_read : (before images : List Image) → length (before ++ images) ≡ count
      → Follow (IsNextImage rows) before images → (n : ℕ)
      → Reading (map_place rows count before) n (ended_lines (image_lines images ++ end_line))
      (Ok (holding (before ++ images)))
  images_read before [] counted follow n =
      let none : before ++ [] ≡ before = append-nil before in
      let done : map_place rows count before ≡ End (holding before) =
      maps_done rows count before (ap length (sym none) ∙ counted) in
      subst (λ (p : Place). Reading p n (ended_lines end_line) (Ok (holding (before ++ []))))
      (ap (λ (is : List Image). End (holding is)) none ∙ sym done) (end_read (holding (before ++ [])) n)
  images_read before (e ∷ images) counted follow n =
      let few : length before < count = fewer count before e images counted in
      let moved = pushed before e images in
      let behind = image_lines images ++ end_line in
      let next = map_place rows count (before ++ e ∷ []) in
      let lines = ended_lines behind in
      let after = subst (λ (all : List Image). Reading next (n + 1) lines (Ok (holding all)))
      moved (images_read (before ++ e ∷ []) images (ap length moved ∙ counted) follow.1 (n + 1)) in
      let text = image_lines (e ∷ images) ++ end_line in
      subst (λ (p : Place). Reading p n (ended_lines text) (Ok (holding (before ++ e ∷ images))))
      (sym (map_asked rows count before few))
      (more (Map rows count before) next n text (map_line e.0 e.1) behind (holding (before ++ e ∷ images))
      (map_is rows before e small polys follow.0) (append_assoc (map_line e.0 e.1) (image_lines images) end_line)
      (e, refl, follow.0, refl) after)

-- ---- the whole text
module _ (c : Content) (is : IsContent c) where
  abbrev fields : ℕ
  fields = length c.rows

  abbrev maps : ℕ
  maps = length c.images

  small : fields < 2 ^ 64
  small = let few = is.few in omega (arith, few)

  behind_rows : List ℕ
  behind_rows = maps_line maps ++ (image_lines c.images ++ end_line)

  maps_read : (n : ℕ) → Reading (MapCount c.rows) n (ended_lines behind_rows) (Ok c)
  unfolding behind_rows
  maps_read n = more (MapCount c.rows) (map_place c.rows maps []) n behind_rows (maps_line maps)
      (image_lines c.images ++ end_line) c (maps_is maps (let few = is.few_images in omega (arith, few))) refl
      (maps, refl, is.few_images, refl)
      (images_read c.rows small (follow_polys [] c.rows (rows_follow c is)) maps [] c.images refl
      (images_follow c is) (n + 1))

  fields_read : (n : ℕ) → Reading FieldCount n
      (ended_lines (fields_line fields ++ (field_lines 0 c.rows ++ behind_rows))) (Ok c)
  fields_read n = more FieldCount (field_place fields []) n
      (fields_line fields ++ (field_lines 0 c.rows ++ behind_rows))
      (fields_line fields) (field_lines 0 c.rows ++ behind_rows) c (fields_is fields small) refl
      (fields, refl, is.enough, is.few, refl)
      (rows_read fields small behind_rows c [] c.rows refl (rows_follow c is) maps_read (n + 1))

  text_in_order : content_text c ≡ header_line 1 ++ (fields_line fields ++ (field_lines 0 c.rows ++ behind_rows))
  unfolding behind_rows
  text_in_order = simp append_assoc

pub content_read : (c : Content) → IsContent c → IsDump (content_text c) c
content_read c is = more Header FieldCount 1 (content_text c) (header_line 1)
    (fields_line (length c.rows) ++ (field_lines 0 c.rows ++ behind_rows c is)) c header_is (text_in_order c is)
    (refl, refl) (fields_read c is 2)
