-- What a contract sees of `Sums`: residues modulo a prime, kept as sums of products that aren't
-- reduced yet.
--     SumRow              a characteristic, the sums, and how many products more each of them has
--         room for
--     residue_at s k      the residue at place k; zero past the end
--     IsSumRow w s        there are w sums, and each has room for so many products below 2^15
--     sum_below n f             f 0 + .. + f (n - 1)
--     row_sum n xs rows k       place k of xs_0 * rows_0 + .. + xs_(n - 1) * rows_(n - 1)
--     shifted_sum n xs ys k     xs_0 * ys_k + xs_1 * ys_(k - 1) + .., n products
--     IsRowOf p w row           at least w places, all of them residues modulo p
use Rattle.std.specs.Prelude.{◌≡◌, ℕ, zero, suc, ◌+◌, ◌-◌, ◌*◌, ◌%◌, ◌<◌, ◌≤◌, List, [], length, slice_index, slice_index_or, All}
use Rattle.alg_model.specs.Coefficients.{IsCharacteristic}

pub record SumRow : Type 0 where
  pub prime : ℕ
  pub room : ℕ
  pub sums : List ℕ

abbrev pub residue_at : SumRow → ℕ → ℕ
residue_at s k = slice_index s.sums k % s.prime

pub record IsSumRow (w : ℕ) (s : SumRow) : Type 0 where
  pub characteristic : IsCharacteristic s.prime
  pub count : length s.sums ≡ w
  pub fits : (k : ℕ) → slice_index s.sums k + s.room * ((s.prime - 1) * (s.prime - 1)) < 32768

abbrev pub sum_below : ℕ → (ℕ → ℕ) → ℕ
sum_below zero f = 0
sum_below (suc n) f = sum_below n f + f n

abbrev pub row_sum : ℕ → List ℕ → List (List ℕ) → ℕ → ℕ
row_sum n xs rows k = sum_below n (λ i. slice_index xs i * slice_index (slice_index_or rows i []) k)

abbrev pub shifted_sum : ℕ → List ℕ → List ℕ → ℕ → ℕ
shifted_sum n xs ys k = sum_below n (λ i. slice_index xs i * slice_index ys (k - i))

pub record IsRowOf (p w : ℕ) (row : List ℕ) : Type 0 where
  pub wide : w ≤ length row
  pub residues : All (λ x. x < p) row
