-- What the clauses of the elimination speak of, in numbers modulo a prime p; no public clause cites
-- this module. Place k of column i is `col i k`, and a column has n places.
--     combined m x col k        place k of x_0 * column 0 + .. + x_(m - 1) * column (m - 1)
--     InSpan p n m col v        v is a combination of the first m columns
--     AreRows w p rows          rows of w numbers below p
--     IsTable w p n m rows pivots    such rows, and at most m places below n
--     IsNoted w p n m col v r   the first n places of r are those of v and of the combination of m
--         columns whose coefficients stand at r's places from n on
--     IsSpan w p n m col rows pivots    the rows, one for each pivot, are combinations of the first
--         m columns, a row is one at its pivot and zero at the pivots before, and no combination of
--         the columns is zero at all pivots but zero itself
--     IsReduced w p n m col pivots v r    r is v and a combination of the columns, zero at the pivots
--     IsNormal w p pivot place row new    new is the multiple of row, with one at that place, that
--         is one at the pivot
use Rattle.std.specs.Prelude.{◌≡◌, ◌≢◌, ℕ, ◌+◌, ◌*◌, ◌%◌, ◌<◌, ◌≤◌, List, [], length, All, slice_index, slice_index_or}
use Rattle.alg_model.specs.Coefficients.{residues}
use Rattle.alg_model.specs.Matrices.{IsColumn}
use Rattle.ff_residues.specs.SumRows.{sum_below}

abbrev pub combined : ℕ → (ℕ → ℕ) → (ℕ → ℕ → ℕ) → ℕ → ℕ
combined m x col k = sum_below m (λ i. x i * col i k)

abbrev pub InSpan : ℕ → ℕ → ℕ → (ℕ → ℕ → ℕ) → (ℕ → ℕ) → Type 0
InSpan p n m col v = (x : ℕ → ℕ) × ((k : ℕ) → k < n → v k % p ≡ combined m x col k % p)

abbrev pub AreRows : ℕ → ℕ → List (List ℕ) → Type 0
AreRows w p rows = All (IsColumn (residues p) w) rows

pub record IsTable (w p n m : ℕ) (rows : List (List ℕ)) (pivots : List ℕ) : Type 0 where
  pub rows_are : AreRows w p rows
  pub within : All (λ x. x < n) pivots
  pub few : length pivots ≤ m

pub record IsNoted (w p n m : ℕ) (col : ℕ → ℕ → ℕ) (v r : ℕ → ℕ) : Type 0 where
  pub combination : (k : ℕ) → k < n
      → r k % p ≡ (v k + combined m (λ i. r (n + i)) col k) % p
  pub rest : (i : ℕ) → m ≤ i → n + i < w → r (n + i) ≡ 0

pub record IsSpan (w p n m : ℕ) (col : ℕ → ℕ → ℕ) (rows : List (List ℕ)) (pivots : List ℕ) : Type 0
  where
    pub fits : n + m ≤ w
    pub within : (i : ℕ) → i < length pivots → slice_index pivots i < n
    pub noted : (i : ℕ) → i < length pivots
        → IsNoted w p n m col (λ k. 0) (slice_index (slice_index_or rows i []))
    pub one : (i : ℕ) → i < length pivots
        → slice_index (slice_index_or rows i []) (slice_index pivots i) ≡ 1
    pub before : (i j : ℕ) → i < j → j < length pivots
        → slice_index (slice_index_or rows j []) (slice_index pivots i) ≡ 0
    pub detects : (x : ℕ → ℕ)
        → ((i : ℕ) → i < length pivots → combined m x col (slice_index pivots i) % p ≡ 0)
        → (k : ℕ) → k < n → combined m x col k % p ≡ 0

pub record IsReduced (w p n m : ℕ) (col : ℕ → ℕ → ℕ) (pivots : List ℕ) (v r : ℕ → ℕ) : Type 0 where
  pub noted : IsNoted w p n m col v r
  pub zero : (i : ℕ) → i < length pivots → r (slice_index pivots i) ≡ 0

pub record IsNormal (w p pivot place : ℕ) (row new : List ℕ) : Type 0 where
  pub factor : ℕ
  pub inverse : (slice_index row pivot * factor) % p ≡ 1
  pub at_place : slice_index new place % p ≡ factor % p
  pub places : (k : ℕ) → k < w → k ≢ place
      → slice_index new k ≡ (factor * slice_index row k) % p
