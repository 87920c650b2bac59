-- What is kept when products are added to sums below 2^15.
use Rattle.std.proofs.Common.{◌≡◌, ℕ, suc, ◌+◌, ◌-◌, ◌*◌, ◌%◌, ◌<◌, ◌≤◌, List, [], length, slice_index_or, All, ap, sym, ◌∙◌, arith}
use Rattle.std.proofs.lemmas.List.Elements.{All-get_or}
use native.Mathlib.Nat.{mod-add-mod, mod-mod, add-zero, add_assoc}
use Rattle.ff_residues.specs.SumRows.{sum_below, IsRowOf}
use Rattle.std.proofs.lemmas.Nat.{mod_below}
use Rattle.std.proofs.Math.Nat.{mul-le-mul_right}
use Rattle.ff_residues.proofs.ResidueLists.{product_below}

one_less : (r q : ℕ) → 0 < r → (r - 1) * q + q ≡ r * q
one_less r q positive = let e : r - 1 + 1 ≡ r = omega arith in let h : (r - 1 + 1) * q ≡ r * q = ap (λ w. w * q) e in let g : (r - 1 + 1) * q ≡ (r - 1) * q + q = grind arith in sym g ∙ h

-- with room for a product more, it may be added, and there is room for one less
pub product_added : (p room s x y : ℕ) → 0 < room → x < p → y < p → s + room * ((p - 1) * (p - 1)) < 32768
    → s + x * y + (room - 1) * ((p - 1) * (p - 1)) < 32768
product_added p room s x y positive lx ly fits =
    let a = product_below p x y lx ly in
    let b = one_less room ((p - 1) * (p - 1)) positive in
    omega (arith, a, b)

-- room for many products is room for the number itself
pub sum_fits : (s r q : ℕ) → s + r * q < 32768 → s < 32768
sum_fits s r q h = omega arith

-- a residue and a run of products fit
pub residue_fits : (p run s : ℕ) → 0 < p → p + run * ((p - 1) * (p - 1)) ≤ 32768 → s % p + run * ((p - 1) * (p - 1)) < 32768
residue_fits p run s positive h = let l : s % p < p = mod_below s p positive in omega (arith, l)

-- less room than before for a place with zero
pub less_room : (p room z s : ℕ) → z ≡ 0 → s + room * ((p - 1) * (p - 1)) < 32768 → z + (room - 1) * ((p - 1) * (p - 1)) < 32768
less_room p room z s zero fits =
    let h : (room - 1) * ((p - 1) * (p - 1)) ≤ room * ((p - 1) * (p - 1)) = mul-le-mul_right ((p - 1) * (p - 1)) (omega arith) in
    omega (arith, h)

-- ---- sums of many products
-- nothing is added yet
pub none_added : (p a : ℕ) → a % p ≡ (a % p + 0) % p
none_added p a = sym (ap (λ w. w % p) (add-zero (a % p)) ∙ mod-mod a p)

-- one product more
pub one_added : (p a i : ℕ) (f : ℕ → ℕ) (r t : ℕ) → r ≡ (a + sum_below i f) % p → t ≡ (r + f i) % p
    → t ≡ (a + sum_below (i + 1) f) % p
one_added p a i f r t e h =
    let next : suc i ≡ i + 1 = omega arith in
    h ∙ ap (λ w. (w + f i) % p) e ∙ mod-add-mod (a + sum_below i f) p (f i)
    ∙ ap (λ w. w % p) (add_assoc a (sum_below i f) (f i) ∙ ap (λ n. a + sum_below n f) next)

-- a row among rows
pub row_at : (p w : ℕ) (rows : List (List ℕ)) (i : ℕ) → i < length rows → All (IsRowOf p w) rows
    → IsRowOf p w (slice_index_or rows i [])
row_at p w rows i l v = All-get_or (IsRowOf p w) rows i [] l v
