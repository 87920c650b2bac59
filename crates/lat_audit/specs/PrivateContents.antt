-- What a dump may hold, and its text. No public clause cites this module.
--     image_lines images     the lines of maps
--     content_text c         the text of a content
--     IsContent c            a content that some dump holds
use Rattle.std.specs.Prelude.{◌≡◌, ℕ, ◌≤◌, List, ◌∷◌, ◌++◌, length, flat_map}
use Rattle.alg_model.specs.Lattices.{first_edition, Row}
use Rattle.lat_audit.specs.Dumps.{header_line, fields_line, field_lines, maps_line, map_line, end_line}
use Rattle.lat_audit.specs.Readings.{Image, Content, IsNextRow, IsNextImage}
use Rattle.lat_audit.specs.declared.line_forms.TheConstants.{MAX_MAPS}

abbrev pub image_lines : List Image → List ℕ
image_lines images = flat_map (λ e. map_line e.0 e.1) images

abbrev pub content_text : Content → List ℕ
content_text c = header_line 1
    ++ (fields_line (length c.rows) ++ field_lines 0 c.rows)
    ++ (maps_line (length c.images) ++ image_lines c.images)
    ++ end_line

-- each row and each image may stand behind those before it
pub record IsContent (c : Content) : Type 0 where
  pub enough : length first_edition.primes ≤ length c.rows
  pub few : length c.rows ≤ first_edition.room
  pub rows : (before behind : List Row) (row : Row) → c.rows ≡ before ++ row ∷ behind
      → IsNextRow before row
  pub few_images : length c.images ≤ MAX_MAPS
  pub images : (before behind : List Image) (e : Image) → c.images ≡ before ++ e ∷ behind
      → IsNextImage c.rows before e
