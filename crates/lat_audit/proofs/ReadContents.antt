-- What a text that is a dump holds, and that it is the text of that.
use Rattle.std.proofs.Common.{◌≡◌, ℕ, suc, ◌+◌, ◌≤◌, Ok, List, [], ◌∷◌, ◌++◌, length, sym, refl, ap, ap₂, ◌∙◌, subst, inl, inr, arith, append_assoc, eqb, cond, Bool, true, false}
use Rattle.std.specs.Prelude.{◌==◌}
use Rattle.std.specs.List.{concat}
use Rattle.std.proofs.lemmas.List.{append-nil, length_push}
use Rattle.std.proofs.lemmas.Bool.{eqb-true}
use Rattle.alg_model.specs.Lattices.{first_edition, Row}
use Rattle.lat_audit.specs.Dumps.{header_line, fields_line, field_line, field_lines, maps_line, map_line, end_line}
use Rattle.lat_audit.specs.Readings.{ended_lines, Image, Content, IsNextRow, IsNextImage, Place, Header, FieldCount, Field, MapCount, Map, End, Behind, field_place, map_place, LeadsTo, Reading, IsDump}
use Rattle.lat_audit.specs.PrivateContents.{image_lines, content_text, IsContent}
use Rattle.lat_audit.specs.declared.line_forms.TheConstants.{MAX_MAPS}
use Rattle.lat_audit.proofs.ContentRows.{pushed, Follow, follow_content}
use Rattle.lat_audit.proofs.LineFeeds.{joined_text}

-- ---- what the text behind a place tells
-- behind the maps so far
record MapsTold (rows : List Row) (count : ℕ) (so_far : List Image) (text : List ℕ) (c : Content)
    : Type 0 where
  more : List Image
  content : c ≡ record { rows = rows; images = so_far ++ more }
  counted : length (so_far ++ more) ≡ count
  follow : Follow (IsNextImage rows) so_far more
  told : text ≡ image_lines more ++ end_line

-- at the number of maps
record CountTold (rows : List Row) (text : List ℕ) (c : Content) : Type 0 where
  number : ℕ
  rest : List ℕ
  few : number ≤ MAX_MAPS
  told : text ≡ maps_line number ++ rest
  maps : MapsTold rows number [] rest c

-- behind the fields so far
record FieldsTold (count : ℕ) (so_far : List Row) (text : List ℕ) (c : Content) : Type 0 where
  more : List Row
  rest : List ℕ
  counted : length (so_far ++ more) ≡ count
  follow : Follow IsNextRow so_far more
  told : text ≡ field_lines (length so_far) more ++ rest
  maps : CountTold (so_far ++ more) rest c

-- at the number of fields
record AllTold (text : List ℕ) (c : Content) : Type 0 where
  number : ℕ
  rest : List ℕ
  enough : length first_edition.primes ≤ number
  few : number ≤ first_edition.room
  told : text ≡ fields_line number ++ rest
  fields : FieldsTold number [] rest c

abbrev Told : Place → List ℕ → Content → Type 0
Told Header text c = IsContent c × (text ≡ content_text c)
Told FieldCount text c = AllTold text c
Told (Field count rows) text c = FieldsTold count rows text c
Told (MapCount rows) text c = CountTold rows text c
Told (Map rows count images) text c = MapsTold rows count images text c
Told (End d) text c = (c ≡ d) × (text ≡ end_line)
Told (Behind d) text c = (c ≡ d) × (text ≡ [])

-- ---- where all fields or all maps are read
module _ (text : List ℕ) (c : Content) where
  fields_told : (count : ℕ) (rows : List Row) → Told (field_place count rows) text c
      → FieldsTold count rows text c
  fields_told count rows told = by_test (length rows == count) refl told where
    by_test : (t : Bool) → eqb (length rows) count ≡ t
        → Told (cond t (MapCount rows) (Field count rows)) text c → FieldsTold count rows text c
    by_test true is at = record {
      more = [];
      rest = text;
      counted = ap length (append-nil rows) ∙ eqb-true (length rows) count is;
      follow = tt;
      told = refl;
      maps = subst (λ (rs : List Row). CountTold rs text c) (sym (append-nil rows)) at;
    }
    by_test false is at = at

  maps_told : (rows : List Row) (count : ℕ) (images : List Image)
      → Told (map_place rows count images) text c → MapsTold rows count images text c
  maps_told rows count images told = by_test (length images == count) refl told where
    by_test : (t : Bool) → eqb (length images) count ≡ t
        → Told (cond t (End (record { rows = rows; images = images })) (Map rows count images))
        text c
        → MapsTold rows count images text c
    by_test true is at = record {
      more = [];
      content = at.0 ∙ ap (λ (all : List Image). record { rows = rows; images = all }) (sym (append-nil images));
      counted = ap length (append-nil images) ∙ eqb-true (length images) count is;
      follow = tt;
      told = at.1;
    }
    by_test false is at = at

-- ---- the whole text
-- the lines joined
all_joined : (line text one two three : List ℕ) (n m : ℕ) (rows : List Row) (images : List Image)
    → line ≡ header_line 1 → text ≡ fields_line n ++ one → one ≡ field_lines 0 rows ++ two
    → two ≡ maps_line m ++ three → three ≡ image_lines images ++ end_line
    → length rows ≡ n → length images ≡ m
    → line ++ text ≡ content_text (record { rows = rows; images = images })
all_joined line text one two three n m rows images a b d e f counted numbered =
    ap₂ (λ l t. l ++ t) a (b ∙ ap₂ (λ k t. fields_line k ++ t) (sym counted)
    (d ∙ ap (λ t. field_lines 0 rows ++ t) (e ∙ ap₂ (λ k t. maps_line k ++ t) (sym numbered) f)))
    ∙ simp append_assoc

whole : (line text : List ℕ) (c : Content) → line ≡ header_line 1 → AllTold text c
    → IsContent c × (line ++ text ≡ content_text c)
whole line text c is all =
    let rows = all.fields.more in
    let images = all.fields.maps.maps.more in
    let counted : length rows ≡ all.number = all.fields.counted in
    let numbered : length images ≡ all.fields.maps.number = all.fields.maps.maps.counted in
    let enough : length first_edition.primes ≤ length rows = omega (arith, counted, all.enough) in
    let few : length rows ≤ first_edition.room = omega (arith, counted, all.few) in
    let few_images : length images ≤ MAX_MAPS = omega (arith, numbered, all.fields.maps.few) in
    subst (λ (d : Content). IsContent d × (line ++ text ≡ content_text d)) (sym all.fields.maps.maps.content) (
      follow_content (record { rows = rows; images = images }) enough few few_images
          all.fields.follow all.fields.maps.maps.follow,
      all_joined line text all.rest all.fields.rest all.fields.maps.rest all.number all.fields.maps.number rows images
          is all.told all.fields.told all.fields.maps.told all.fields.maps.maps.told counted numbered,
    )

-- ---- a line more
-- a line, and behind it a text of two parts
in_front : (line first text front behind : List ℕ) → line ≡ first → text ≡ front ++ behind
    → line ++ text ≡ (first ++ front) ++ behind
in_front line first text front behind e told =
    ap₂ (λ l t. l ++ t) e told ∙ sym (append_assoc first front behind)

module _ (line text : List ℕ) (c : Content) where
  maps_more : (rows : List Row) (count : ℕ) (images : List Image) (e : Image)
      → line ≡ map_line e.0 e.1 → IsNextImage rows images e
      → MapsTold rows count (images ++ e ∷ []) text c → MapsTold rows count images (line ++ text) c
  maps_more rows count images e is next rest =
      let moved = pushed images e rest.more in
      record {
        more = e ∷ rest.more;
        content = rest.content ∙ ap (λ (all : List Image). record { rows = rows; images = all }) moved;
        counted = ap length (sym moved) ∙ rest.counted;
        follow = (next, rest.follow);
        told = in_front line (map_line e.0 e.1) text (image_lines rest.more) end_line is rest.told;
      }

  fields_more : (count : ℕ) (rows : List Row) (row : Row)
      → line ≡ field_line (length rows) row → IsNextRow rows row
      → FieldsTold count (rows ++ row ∷ []) text c → FieldsTold count rows (line ++ text) c
  fields_more count rows row is next behind =
      let moved = pushed rows row behind.more in
      let number : length (rows ++ row ∷ []) ≡ suc (length rows) =
      let l = length_push rows row in omega (arith, l) in
      record {
        more = row ∷ behind.more;
        rest = behind.rest;
        counted = ap length (sym moved) ∙ behind.counted;
        follow = (next, behind.follow);
        told = in_front line (field_line (length rows) row) text
            (field_lines (suc (length rows)) behind.more) behind.rest is
            (behind.told ∙ ap (λ k. field_lines k behind.more ++ behind.rest) number);
        maps = subst (λ (all : List Row). CountTold all behind.rest c) moved behind.maps;
      }

  -- what is told at the next place, and the line, tell it at this one
  line_told : (place next : Place) → LeadsTo place line next → Told next text c
      → Told place (line ++ text) c
  line_told Header next (is, to) told = whole line text c is (subst (λ (p : Place). Told p text c) to told)
  line_told FieldCount next (n, is, enough, few, to) told = record {
    number = n;
    rest = text;
    enough = enough;
    few = few;
    told = ap (λ l. l ++ text) is;
    fields = fields_told text c n [] (subst (λ (p : Place). Told p text c) to told);
  }
  line_told (Field count rows) next (row, is, follows, to) told =
      fields_more count rows row is follows
      (fields_told text c count (rows ++ row ∷ []) (subst (λ (p : Place). Told p text c) to told))
  line_told (MapCount rows) next (n, is, few, to) told = record {
    number = n;
    rest = text;
    few = few;
    told = ap (λ l. l ++ text) is;
    maps = maps_told text c rows n [] (subst (λ (p : Place). Told p text c) to told);
  }
  line_told (Map rows count images) next (e, is, follows, to) told =
      maps_more rows count images e is follows
      (maps_told text c rows count (images ++ e ∷ []) (subst (λ (p : Place). Told p text c) to told))
  line_told (End d) next (is, to) told =
      let at = subst (λ (p : Place). Told p text c) to told in
      (at.0, ap₂ (λ l t. l ++ t) is at.1 ∙ append-nil end_line)
  line_told (Behind d) next leads told = absurd leads

-- ---- all lines
lines_told : (lines : List (List ℕ)) (place : Place) (n : ℕ) (c : Content)
    → Reading place n lines (Ok c) → Told place (concat lines) c
lines_told [] place n c (inl (d, at, is)) =
    let same : c ≡ d = cc in
    subst (λ (p : Place). Told p [] c) (sym at) (same, refl)
lines_told [] place n c (inr (asks, is)) = cc
lines_told (line ∷ lines) place n c (inl (next, leads, reads)) =
    line_told line (concat lines) c place next leads (lines_told lines next (n + 1) c reads)
lines_told (line ∷ lines) place n c (inr (none, is)) = cc

-- a text that is a dump has a content, and is its text
pub read_content : (text : List ℕ) (c : Content) → IsDump text c
    → IsContent c × (text ≡ content_text c)
read_content text c dump =
    let told = lines_told (ended_lines text) Header 1 c dump in
    (told.0, sym (joined_text text) ∙ told.1)
