-- What a closure makes of the coefficients of a polynomial.
--     TakesAt g f x         f may be called at a reference to x
--     AreImages g f xs ys   as many ys as xs, each an answer of f at the x of its place
use Rattle.std.specs.Prelude.{◌≡◌, ℕ, ◌<◌, List, length, slice_index_or}
use Rattle.std.specs.Fn.{Shared, FnReturnsAt}
use denote.Ref.{Bor}

module _ {F X Y : Type 0} (g : Shared F (Bor X × Unit {0}) Y) (f : F) where
  -- f may be called at a reference to x
  abbrev pub TakesAt : X → Type 0
  TakesAt x = (p : Bor X) → p.now ≡ x → g.pre f (p, tt)

  -- each y is an answer of f at the x of its place
  pub record AreImages (xs : List X) (ys : List Y) : Type 0 where
    pub count : length ys ≡ length xs
    pub each : (k : ℕ) (x : X) (y : Y) → k < length xs
        → FnReturnsAt g f (slice_index_or xs k x) (slice_index_or ys k y)
