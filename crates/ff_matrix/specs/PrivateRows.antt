-- What the clauses of the elimination speak of; no public clause cites these.
--     residue_row w s, residue_rows w rows     the w residues that a row of sums stands for, and
--         those of each row
--     AreSums p rows                   rows of sums modulo p
--     AreRows w p rows                 rows of w numbers below p
--     IsCleared o m r rows new         to each row but r that multiple of row r is added which
--         makes its entry in column m zero
--     IsPlaced p m r s rows new        rows r and s are swapped, and r is then multiplied by the
--         inverse of its entry in column m
--     ArePlaces n places               rising numbers below n
--     IsKernelColumn p form pivots f x     x is one at f, and - form_(i, f) at the pivot of row i
--     IsAugmented w p m rows           the rows of m beside the identity
--     Eliminates w p m start rows pivots     rows come from start by an invertible matrix, and
--         their first m columns are reduced
use Rattle.std.specs.Prelude.{◌≡◌, ◌≢◌, ℕ, ◌+◌, ◌<◌, ◌==◌, if◌then◌else◌, List, [], length, map, All, slice_index, slice_index_or, slice_set}
use Rattle.std.specs.List.{range_with_len, swap}
use Rattle.alg_model.specs.Coefficients.{Ops, residues, mod_ops}
use Rattle.alg_model.specs.Polynomials.{sum, scale}
use Rattle.alg_model.specs.Matrices.{Matrix, entry, IsColumn}
use Rattle.alg_rings.proofs.Residues.{residues_ring}
use Rattle.alg_linear.specs.PrivateElimination.{IsEliminated}
use Rattle.ff_residues.specs.SumRows.{SumRow, residue_at}

abbrev pub residue_row : ℕ → SumRow → List ℕ
residue_row w s = map (residue_at s) (range_with_len 0 w)

abbrev pub residue_rows : ℕ → List SumRow → List (List ℕ)
residue_rows w rows = map (residue_row w) rows

abbrev pub AreSums : ℕ → List SumRow → Type 0
AreSums p rows = All (λ s. s.prime ≡ p) rows

abbrev pub AreRows : ℕ → ℕ → List (List ℕ) → Type 0
AreRows w p rows = All (IsColumn (residues p) w) rows

pub record IsCleared {A : Type 0} (o : Ops A) (m r : ℕ) (rows new : List (List A)) : Type 0 where
  pub pivot_row : slice_index_or new r [] ≡ slice_index_or rows r []
  pub other_rows : (i : ℕ) → i < length rows → i ≢ r
      → slice_index_or new i []
      ≡ sum o (scale o (o.neg (slice_index_or (slice_index_or rows i []) m o.zero))
      (slice_index_or rows r [])) (slice_index_or rows i [])

pub record IsPlaced (p m r s : ℕ) (rows new : List (List ℕ)) : Type 0 where
  pub inverse : ℕ
  pub residue : inverse < p
  pub one : (mod_ops p).mul (slice_index (slice_index_or (swap rows r s) r []) m) inverse ≡ 1
  pub others : new ≡ slice_set (swap rows r s) r
      (scale (mod_ops p) inverse (slice_index_or (swap rows r s) r []))

abbrev pub Eliminates : ℕ → ℕ → ℕ → List (List ℕ) → List (List ℕ) → List ℕ → Type 0
Eliminates w p m start rows pivots = (h : 1 < p)
    → IsEliminated (residues_ring p h) w (length start) m start rows pivots

-- the rows of m, and beside them those of the identity
pub record IsAugmented (w p : ℕ) (m : Matrix ℕ) (rows : List (List ℕ)) : Type 0 where
  pub count : length rows ≡ m.rows
  pub residues : AreRows w p rows
  pub left : (i k : ℕ) → i < m.rows → k < length m.columns
      → slice_index (slice_index_or rows i []) k ≡ entry (mod_ops p) m i k
  pub right : (i k : ℕ) → i < m.rows → k < m.rows
      → slice_index (slice_index_or rows i []) (length m.columns + k) ≡ (if i == k then 1 else 0)

pub record ArePlaces (n : ℕ) (places : List ℕ) : Type 0 where
  pub rising : (i j : ℕ) → i < j → j < length places → slice_index places i < slice_index places j
  pub within : (i : ℕ) → i < length places → slice_index places i < n

pub record IsKernelColumn (p : ℕ) (form : Matrix ℕ) (pivots : List ℕ) (f : ℕ) (x : List ℕ) : Type 0
  where
    pub column : IsColumn (residues p) (length form.columns) x
    pub one : slice_index x f ≡ 1
    pub at_pivot : (i : ℕ) → i < length pivots
        → slice_index x (slice_index pivots i) ≡ (mod_ops p).neg (entry (mod_ops p) form i f)
    pub zero_elsewhere : (k : ℕ) → k ≢ f → ((i : ℕ) → i < length pivots → slice_index pivots i ≢ k)
        → slice_index x k ≡ 0
