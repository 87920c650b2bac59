-- Lists of what a closure answers.
use Rattle.std.proofs.Common.{◌<◌, List, length, slice_index_or, All, arith}
use Rattle.std.specs.Fn.{Shared, FnReturnsAt}
use denote.Ref.{Bor}
use Rattle.ff_polyx.specs.Images.{AreImages}

-- where each answer is of a kind, the images are; x may be any
pub images_all : {F X Y : Type 0} (g : Shared F (Bor X × Unit {0}) Y) (f : F) (V : Y → Type 0) (x : X)
    (xs : List X) (ys : List Y) → AreImages g f xs ys
    → All (λ x. (y : Y) → FnReturnsAt g f x y → V y) xs → All V ys
images_all g f V x xs ys A h k d l =
    let within : k < length xs = omega (arith, A.count) in
    h k x within (slice_index_or ys k d) (A.each k x d within)
