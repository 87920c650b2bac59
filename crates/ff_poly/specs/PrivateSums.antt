-- Rows of sums as lists of residues. No public clause cites this module.
--     residue_row w s         the w residues that a row of sums stands for
--     IsPadded w c padded     w zeros, the numbers c, and zeros after them
use Rattle.std.specs.Prelude.{◌≡◌, ℕ, ◌+◌, ◌<◌, List, length, map, slice_index}
use Rattle.std.specs.List.{range_with_len}
use Rattle.ff_residues.specs.SumRows.{SumRow, residue_at}

abbrev pub residue_row : ℕ → SumRow → List ℕ
residue_row w s = map (residue_at s) (range_with_len 0 w)

pub record IsPadded (w : ℕ) (c padded : List ℕ) : Type 0 where
  pub count : length padded ≡ w + w
  pub before : (k : ℕ) → k < w → slice_index padded k ≡ 0
  pub places : (k : ℕ) → slice_index padded (w + k) ≡ slice_index c k
