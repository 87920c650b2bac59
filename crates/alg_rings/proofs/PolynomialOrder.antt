-- The order of polynomials: total, shorter lists first, then by the highest place that differs, and equal only where the
-- lists are.
use Rattle.std.proofs.Common.{◌≡◌, ◌≢◌, ⊎_elim, ℕ, zero, suc, ◌+◌, ◌-◌, ◌<◌, ◌≤◌, sym, refl, ap, ap₂, ◌∙◌, arith, List, [], ◌∷◌, length, get_or, drop, Ordering, Less, Equal, Greater, nat_cmp}
use Rattle.std.specs.Ordering.{MatchOrdering, ordering_then, ordering_reverse}
use Rattle.std.specs.Cmp.{IsTotalOrder}
use Rattle.std.proofs.lemmas.Cmp.{ranked}
use Rattle.std.proofs.lemmas.Bool.{cases_lt}
use Rattle.std.proofs.lemmas.List.{drop_more, drop_all, ext_get_or}
use Rattle.alg_model.specs.Factors.{order_by}

then_reverse : (a b : Ordering) → ordering_reverse (ordering_then a b) ≡ ordering_then (ordering_reverse a) (ordering_reverse b)
then_reverse Less b = refl
then_reverse Equal b = refl
then_reverse Greater b = refl

then_equal : (a b : Ordering) → ordering_then a b ≡ Equal → (a ≡ Equal) × (b ≡ Equal)
then_equal Less b e = cc
then_equal Equal b e = (refl, e)
then_equal Greater b e = cc

then_decided : (r s : Ordering) → r ≢ Equal → ordering_then r s ≡ r
then_decided Less s h = refl
then_decided Equal s h = absurd (h refl)
then_decided Greater s h = refl

-- an order by a first and then by a second is transitive
then_trans : (a b c s t u : Ordering) → (a ≡ Less → b ≡ Less → c ≡ Less) → (a ≡ Equal → c ≡ b) → (b ≡ Equal → c ≡ a)
    → (s ≡ Less → t ≡ Less → u ≡ Less) → ordering_then a s ≡ Less → ordering_then b t ≡ Less → ordering_then c u ≡ Less
then_trans Less Less c s t u h l r k d e = ap (λ w. ordering_then w u) (h refl refl)
then_trans Less Equal c s t u h l r k d e = ap (λ w. ordering_then w u) (r refl)
then_trans Less Greater c s t u h l r k d e = cc
then_trans Equal Less c s t u h l r k d e = ap (λ w. ordering_then w u) (l refl)
then_trans Equal Equal c s t u h l r k d e = ap (λ w. ordering_then w u) (l refl) ∙ k d e
then_trans Equal Greater c s t u h l r k d e = cc
then_trans Greater b c s t u h l r k d e = cc

module _ {A : Type 0} (cmp : A → A → Ordering) where
  -- a shorter list comes first
  pub order_by_shorter : (f g : List A) → length f < length g → order_by cmp f g ≡ Less
  order_by_shorter [] [] h = absurd (omega arith)
  order_by_shorter [] (y ∷ ys) h = refl
  order_by_shorter (x ∷ xs) [] h = absurd (omega arith)
  order_by_shorter (x ∷ xs) (y ∷ ys) h = ap (λ w. ordering_then w (cmp x y)) (order_by_shorter xs ys (omega arith))

  -- and a longer one after
  pub order_by_longer : (f g : List A) → length g < length f → order_by cmp f g ≡ Greater
  order_by_longer [] g h = absurd (omega arith)
  order_by_longer (x ∷ xs) [] h = refl
  order_by_longer (x ∷ xs) (y ∷ ys) h = ap (λ w. ordering_then w (cmp x y)) (order_by_longer xs ys (omega arith))

  -- so what comes first isn't longer
  pub order_by_not_longer : (f g : List A) → order_by cmp f g ≡ Less → length f ≤ length g
  order_by_not_longer f g e = ⊎_elim
      (λ l. absurd (let d : order_by cmp f g ≡ Greater = order_by_longer f g l in cc))
      (λ l. l) (cases_lt (length g) (length f))

  -- what the places from n on decide
  pub order_by_decided : (n : ℕ) (xs ys : List A) (r : Ordering) → r ≢ Equal → length xs ≡ length ys
      → order_by cmp (drop n xs) (drop n ys) ≡ r → order_by cmp xs ys ≡ r
  order_by_decided zero xs ys r h len e = e
  order_by_decided (suc n) [] [] r h len e = e
  order_by_decided (suc n) [] (y ∷ ys) r h len e = absurd (omega arith)
  order_by_decided (suc n) (x ∷ xs) [] r h len e = absurd (omega arith)
  order_by_decided (suc n) (x ∷ xs) (y ∷ ys) r h len e =
      ap (λ s. ordering_then s (cmp x y)) (order_by_decided n xs ys r h (omega arith) e) ∙ then_decided r (cmp x y) h

  -- one place more
  pub order_by_more : (n : ℕ) (xs ys : List A) (d : A) → 0 < n → n ≤ length xs → length xs ≡ length ys
      → order_by cmp (drop n xs) (drop n ys) ≡ Equal
      → order_by cmp (drop (n - 1) xs) (drop (n - 1) ys) ≡ cmp (get_or xs (n - 1) d) (get_or ys (n - 1) d)
  order_by_more n xs ys d above within len e =
      let same : n - 1 + 1 ≡ n = omega arith in
      ap₂ (order_by cmp) (drop_more xs (n - 1) d (omega arith)) (drop_more ys (n - 1) d (omega arith))
      ∙ ap (λ r. ordering_then r (cmp (get_or xs (n - 1) d) (get_or ys (n - 1) d)))
      (ap (λ k. order_by cmp (drop k xs) (drop k ys)) same ∙ e)

  pub order_by_past : (n : ℕ) (xs ys : List A) → length xs ≤ n → length ys ≤ n → order_by cmp (drop n xs) (drop n ys) ≡ Equal
  order_by_past n xs ys h g = ap₂ (order_by cmp) (drop_all n xs h) (drop_all n ys g)

  -- lists of two lengths
  pub order_by_lengths : (xs ys : List A) (r : Ordering) → r ≡ nat_cmp (length xs) (length ys) → r ≢ Equal → order_by cmp xs ys ≡ r
  order_by_lengths xs ys r e h = by r (ranked (length xs) (length ys) r e) h
    where
      by : (r : Ordering) → MatchOrdering r (length xs < length ys) (length xs ≡ length ys) (length ys < length xs) → r ≢ Equal → order_by cmp xs ys ≡ r
      by Less m h = order_by_shorter xs ys m
      by Equal m h = absurd (h refl)
      by Greater m h = order_by_longer xs ys m

module _ {A : Type 0} {cmp : A → A → Ordering} (same : (x y : A) → cmp x y ≡ Equal → x ≡ y) where
  pub order_by_same : (f g : List A) → order_by cmp f g ≡ Equal → f ≡ g
  order_by_same [] [] e = refl
  order_by_same [] (y ∷ ys) e = cc
  order_by_same (x ∷ xs) [] e = cc
  order_by_same (x ∷ xs) (y ∷ ys) e = let p : (order_by cmp xs ys ≡ Equal) × (cmp x y ≡ Equal) = then_equal (order_by cmp xs ys) (cmp x y) e in
      ap₂ (λ s t. s ∷ t) (same x y p.1) (order_by_same xs ys p.0)

module _ {A : Type 0} (cmp : A → A → Ordering) (reflexive : (x : A) → cmp x x ≡ Equal) where
  pub order_by_itself : (f : List A) → order_by cmp f f ≡ Equal
  order_by_itself [] = refl
  order_by_itself (x ∷ xs) = ap₂ ordering_then (order_by_itself xs) (reflexive x)

  -- of two lists of one length the highest place that differs decides
  pub order_by_place : (f g : List A) (d : A) (k : ℕ) → length f ≡ length g → k < length f
      → ((j : ℕ) → k < j → get_or f j d ≡ get_or g j d) → cmp (get_or f k d) (get_or g k d) ≢ Equal
      → order_by cmp f g ≡ cmp (get_or f k d) (get_or g k d)
  order_by_place [] g d k e l h n = absurd (omega arith)
  order_by_place (x ∷ xs) [] d k e l h n = absurd (omega arith)
  order_by_place (x ∷ xs) (y ∷ ys) d zero e l h n =
      ap (λ r. ordering_then r (cmp x y)) (ap (order_by cmp xs) (sym (ext_get_or d xs ys (omega arith) (λ j l. h (suc j) (omega arith)))) ∙ order_by_itself xs)
  order_by_place (x ∷ xs) (y ∷ ys) d (suc k) e l h n =
      let r : order_by cmp xs ys ≡ cmp (get_or xs k d) (get_or ys k d) = order_by_place xs ys d k (omega arith) (omega arith) (λ j m. h (suc j) (omega arith)) n in
      ap (λ r. ordering_then r (cmp x y)) r ∙ then_decided (cmp (get_or xs k d) (get_or ys k d)) (cmp x y) n

module _ {A : Type 0} {cmp : A → A → Ordering} (T : IsTotalOrder cmp) where
  antisymm : (f g : List A) → order_by cmp f g ≡ ordering_reverse (order_by cmp g f)
  antisymm [] [] = refl
  antisymm [] (y ∷ ys) = refl
  antisymm (x ∷ xs) [] = refl
  antisymm (x ∷ xs) (y ∷ ys) = ap₂ ordering_then (antisymm xs ys) (T.antisymm x y) ∙ sym (then_reverse (order_by cmp ys xs) (cmp y x))

  congr : (f g h : List A) → order_by cmp f g ≡ Equal → order_by cmp f h ≡ order_by cmp g h
  congr [] [] h e = refl
  congr [] (y ∷ ys) h e = cc
  congr (x ∷ xs) [] h e = cc
  congr (x ∷ xs) (y ∷ ys) [] e = refl
  congr (x ∷ xs) (y ∷ ys) (z ∷ zs) e =
      let p : (order_by cmp xs ys ≡ Equal) × (cmp x y ≡ Equal) = then_equal (order_by cmp xs ys) (cmp x y) e in
      ap₂ ordering_then (congr xs ys zs p.0) (T.congr x y z p.1)

  congr_right : (f g h : List A) → order_by cmp g h ≡ Equal → order_by cmp f h ≡ order_by cmp f g
  congr_right f g h e = antisymm f h ∙ ap ordering_reverse (sym (congr g h f e)) ∙ sym (antisymm f g)

  trans : (f g h : List A) → order_by cmp f g ≡ Less → order_by cmp g h ≡ Less → order_by cmp f h ≡ Less
  trans [] [] h d e = e
  trans [] (y ∷ ys) [] d e = cc
  trans [] (y ∷ ys) (z ∷ zs) d e = refl
  trans (x ∷ xs) [] h d e = cc
  trans (x ∷ xs) (y ∷ ys) [] d e = e
  trans (x ∷ xs) (y ∷ ys) (z ∷ zs) d e = then_trans (order_by cmp xs ys) (order_by cmp ys zs) (order_by cmp xs zs) (cmp x y) (cmp y z) (cmp x z)
      (trans xs ys zs) (congr xs ys zs) (congr_right xs ys zs) (T.trans x y z) d e

  pub order_by_total : IsTotalOrder (order_by cmp)
  order_by_total = record { antisymm = antisymm; trans = trans; congr = congr }

pub nat_cmp_same : (x y : ℕ) → nat_cmp x y ≡ Equal → x ≡ y
nat_cmp_same x y e = ranked x y Equal (sym e)
