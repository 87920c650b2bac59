-- Gauss-Jordan elimination on a list of rows over a carrier. Only contracts of functions that
-- aren't public, and lemmas, speak of it.
--     grid R n cs v              the entries of columns of n places, as elements
--     row_entries R w rows v     the entries of rows of w places, as elements
--     IsEliminated R w n m start rows pivots     n rows of w places, got from start by an
--                                invertible matrix, with their first m columns in reduced row
--                                echelon form
use Rattle.std.specs.Prelude.{◌≡◌, ℕ, List, [], length, All, slice_index_or}
use Rattle.alg_model.specs.Coefficients.{Carrier}
use Rattle.alg_model.specs.Fields.{IsRing}
use Rattle.alg_model.specs.Matrices.{IsColumn}
use Rattle.alg_rings.proofs.Elements.{Element, element_ops}
use Rattle.alg_rings.proofs.ValidEntries.{columns_valid_at}
use Rattle.alg_linear.specs.PrivateGrids.{RowEquivalent, IsReducedTo}

module _ {A : Type 0} {c : Carrier A} (R : IsRing c) where
  -- the entries of columns, as elements
  abbrev pub grid : (n : ℕ) (cs : List (List A)) → All (IsColumn c n) cs → ℕ → ℕ → Element c
  grid n cs w i j =
      (slice_index_or (slice_index_or cs j []) i c.ops.zero, columns_valid_at R n cs w i j)

-- the entries of rows of w places, as elements
abbrev pub row_entries : {A : Type 0} {c : Carrier A} (R : IsRing c) (w : ℕ) (rows : List (List A))
    → All (IsColumn c w) rows → ℕ → ℕ → Element c
row_entries R w rows v i j = grid R w rows v j i

-- rows are n rows of w places, got from start by an invertible matrix, and their first m columns
-- are reduced
pub record IsEliminated {A : Type 0} {c : Carrier A} (R : IsRing c) (w n m : ℕ)
    (start rows : List (List A)) (pivots : List ℕ) : Type 0 where
  pub valid_start : All (IsColumn c w) start
  pub valid : All (IsColumn c w) rows
  pub count : length rows ≡ n
  pub equivalent : RowEquivalent (element_ops R) n (row_entries R w start valid_start)
      (row_entries R w rows valid)
  pub reduced : IsReducedTo (element_ops R) n m pivots (row_entries R w rows valid)
