-- Faults of fields, of maps and of rules. No public clause cites this module.
--     IsImage rows e               the image is a value, for the numbers of two fields
--     FieldFault rows fault        the first field whose polynomial has a factor
--     MapFault rows images fault   the first pair whose image is that of no embedding
--     entry_of m                   a pair of numbers, and its map
--     AreMapsOf rows images maps   the maps that the images give
use Rattle.std.specs.Prelude.{◌≡◌, ◌<◌, List, length, map, All}
use Rattle.std.specs.Ordering.{nat_cmp}
use Rattle.alg_model.specs.Maps.{field_values}
use Rattle.alg_model.specs.Lattices.{Row, field_at, pair_cmp}
use Rattle.lat_core.specs.SharedRows.{AreBetween}
use Rattle.lat_core.specs.declared.rows.MapRow.{MapRow}
use Rattle.lat_audit.specs.Dumps.{Entry}
use Rattle.lat_audit.specs.Readings.{Image, map_of}
use Rattle.lat_audit.specs.Verdicts.{IsFirst, IsReducible, IsGeneratorImage, IsWrongImage}
use Rattle.lat_audit.specs.declared.faults.Fault.{Fault}
use Rattle.lat_audit.specs.declared.faults.Fault.TheVariants as fault

-- two numbers of fields, and a value of the second field
pub record IsImage (rows : List Row) (e : Image) : Type 0 where
  pub source : e.0.0 < length rows
  pub target : e.0.1 < length rows
  pub value : (field_values (field_at rows e.0.1)).Valid e.1

abbrev pub FieldFault : List Row → Fault → Type 0
FieldFault rows (fault.Text line) = ⊥
FieldFault rows (fault.Field i) = IsFirst nat_cmp (IsReducible rows) i
FieldFault rows (fault.Map i j) = ⊥
FieldFault rows (fault.Rule r i j k) = ⊥
FieldFault rows fault.NoMemory = Unit {0}

abbrev pub MapFault : List Row → List Image → Fault → Type 0
MapFault rows images (fault.Text line) = ⊥
MapFault rows images (fault.Field i) = ⊥
MapFault rows images (fault.Map i j) =
    IsFirst pair_cmp (IsWrongImage (record { rows = rows; images = images })) (i, j)
MapFault rows images (fault.Rule r i j k) = ⊥
MapFault rows images fault.NoMemory = Unit {0}

abbrev pub AreGeneratorImages : List Row → List Image → Type 0
AreGeneratorImages rows images =
    All (λ (e : Image). IsGeneratorImage rows e.0.0 e.0.1 e.1) images

abbrev pub entry_of : MapRow → Entry
entry_of m = ((m.from, m.into), m.map.images)

pub record AreMapsOf (rows : List Row) (images : List Image) (maps : List MapRow) : Type 0 where
  pub entries : map entry_of maps ≡ map (map_of rows) images
  pub between : AreBetween rows maps
  pub roots : AreGeneratorImages rows images
