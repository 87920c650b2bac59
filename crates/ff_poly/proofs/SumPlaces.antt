-- Rows of sums, read as lists of residues.
use Rattle.std.proofs.Common.{◌≡◌, ℕ, ◌+◌, ◌-◌, ◌*◌, ◌%◌, ◌<◌, ◌≤◌, List, length, slice_index, take, set, ap, ap₂, sym, ◌∙◌, subst, ⊎_elim, arith, mod-eq_of_lt}
use Rattle.std.proofs.lemmas.Bool.{cases_lt}
use Rattle.std.proofs.lemmas.List.{ext_get_or, get_or_past, set-get_or}
use Rattle.std.proofs.lemmas.List.FromFn.{get_or-map-range_with_len, length-map-range_with_len}
use native.Mathlib.Nat.{mul-zero, add-zero, mod-mod, mod-add-mod}
use Rattle.std.proofs.lemmas.Nat.{mod_below}
use Rattle.alg_model.specs.Polynomials.{convolution}
use Rattle.alg_rings.proofs.Residues.{nat_ops}
use Rattle.ff_residues.specs.SumRows.{SumRow, residue_at}
use Rattle.ff_poly.specs.PrivateSums.{residue_row, IsPadded}
use Rattle.ff_poly.proofs.ListPlaces.{place_cases}
use Rattle.ff_poly.proofs.Quotients.{negative_multiple, multiple_gone, Divided, division_round}
use Rattle.ff_poly.proofs.Convolutions.{convolution_below, convolution_from, convolution_past}

pub residue_row_length : (w : ℕ) (s : SumRow) → length (residue_row w s) ≡ w
residue_row_length w s = length-map-range_with_len (residue_at s) 0 w

pub residue_row_at : (w k : ℕ) (s : SumRow) → k < w → slice_index (residue_row w s) k ≡ residue_at s k
residue_row_at w k s l = get_or-map-range_with_len (residue_at s) 0 w k k 0 l (omega arith)

pub residue_row_past : (w k : ℕ) (s : SumRow) → w ≤ k → slice_index (residue_row w s) k ≡ 0
residue_row_past w k s l = get_or_past (residue_row w s) k 0 (omega (arith, residue_row_length w s))

pub residue_row_is : (w : ℕ) (s : SumRow) (xs : List ℕ) → length xs ≡ w → ((k : ℕ) → k < w → slice_index xs k ≡ residue_at s k) → residue_row w s ≡ xs
residue_row_is w s xs long h = ext_get_or 0 (residue_row w s) xs (residue_row_length w s ∙ sym long)
    (λ k l. let lw : k < w = omega (arith, residue_row_length w s) in residue_row_at w k s lw ∙ sym (h k lw))

-- nothing is added where there is zero
pub added_zero : (p x a y : ℕ) → y ≡ 0 → (x % p + a * y) % p ≡ x % p
added_zero p x a y e = ap (λ w. (x % p + w) % p) (ap (λ z. a * z) e ∙ mul-zero a) ∙ ap (λ w. w % p) (add-zero (x % p)) ∙ mod-mod x p

-- one row more of a product, in sums
pub product_row : (w p i : ℕ) (f g padded : List ℕ) (old new : SumRow) → IsPadded w g padded
    → ((k : ℕ) → k < i → residue_at new k ≡ residue_at old k)
    → ((k : ℕ) → i + k < w → residue_at new (i + k) ≡ (residue_at old (i + k) + slice_index f i * slice_index padded (w + k)) % p)
    → ((k : ℕ) → k < w → residue_at old k ≡ convolution nat_ops (take i f) g k % p)
    → (k : ℕ) → k < w → residue_at new k ≡ convolution nat_ops (take (i + 1) f) g k % p
product_row w p i f g padded old new P below above rows k = place_cases
    (λ m. m < w → residue_at new m ≡ convolution nat_ops (take (i + 1) f) g m % p) i k
    (λ l lw. below k l ∙ rows k lw ∙ ap (λ x. x % p) (sym (convolution_below i f g k l)))
    (λ j lw. above j lw ∙ ap (λ y. (residue_at old (i + j) + slice_index f i * y) % p) (P.places j)
    ∙ ap (λ x. (x + slice_index f i * slice_index g j) % p) (rows (i + j) lw)
    ∙ mod-add-mod (convolution nat_ops (take i f) g (i + j)) p (slice_index f i * slice_index g j)
    ∙ ap (λ x. x % p) (sym (convolution_from i f g j)))

-- all places of the product, of which none stands past w
pub product_whole : (w p : ℕ) (f g xs : List ℕ) (s : SumRow) → length xs ≡ w → length f + length g ≤ w + 1
    → ((k : ℕ) → slice_index xs k ≡ residue_at s k) → ((k : ℕ) → k < w → residue_at s k ≡ convolution nat_ops f g k % p)
    → (k : ℕ) → slice_index xs k % p ≡ convolution nat_ops f g k % p
product_whole w p f g xs s long room h rows k = ⊎_elim
    (λ l. ap (λ x. x % p) (h k ∙ rows k l) ∙ mod-mod (convolution nat_ops f g k) p)
    (λ l. ap (λ x. x % p) (get_or_past xs k 0 (omega arith) ∙ sym (convolution_past f g k (omega arith))))
    (cases_lt k w)

-- one place of a quotient more, in sums: t times the shifted divisor is taken off
module _ (w p degree steps at t : ℕ) (q d padded f : List ℕ) (old new : SumRow)
    (known : Divided p degree steps (at + 1) q d (residue_row w old) f)
    (P : IsPadded w d padded)
    (residue : t < p)
    (last : length d ≤ degree + 1)
    (top : (t * slice_index d degree) % p ≡ residue_at old (at + degree) % p)
    (new_prime : new.prime ≡ p)
    (old_prime : old.prime ≡ p)
    (below : (k : ℕ) → k < at → residue_at new k ≡ residue_at old k)
    (above : (k : ℕ) → at + k < w → residue_at new (at + k) ≡ (residue_at old (at + k) + (p - t) % p * slice_index padded (w + k)) % p)
    (quotient_room : at < length q)
    (room : at + degree < w)
  where
    positive : 0 < p
    positive = omega arith

    old_at : (k : ℕ) → k < w → slice_index (residue_row w old) k ≡ residue_at old k
    old_at k l = residue_row_at w k old l

    new_at : (k : ℕ) → k < w → slice_index (residue_row w new) k ≡ residue_at new k
    new_at k l = residue_row_at w k new l

    added_above : (k : ℕ) → slice_index (residue_row w new) (at + k) % p ≡ (slice_index (residue_row w old) (at + k) + (p - t) * slice_index d k) % p
    added_above k = ⊎_elim
        (λ l. ap (λ x. x % p) (new_at (at + k) l ∙ above k l)
        ∙ mod-mod (residue_at old (at + k) + (p - t) % p * slice_index padded (w + k)) p
        ∙ negative_multiple p (p - t) (residue_at old (at + k)) (slice_index padded (w + k))
        ∙ ap₂ (λ x y. (x + (p - t) * y) % p) (sym (old_at (at + k) l)) (P.places k))
        (λ l. let past : slice_index d k ≡ 0 = get_or_past d k 0 (omega arith) in
        ap (λ x. x % p) (residue_row_past w (at + k) new l ∙ sym (residue_row_past w (at + k) old l) ∙ sym (add-zero (slice_index (residue_row w old) (at + k))))
        ∙ ap (λ y. (slice_index (residue_row w old) (at + k) + y) % p) (sym (mul-zero (p - t)) ∙ ap (λ y. (p - t) * y) (sym past)))
        (cases_lt (at + k) w)

    new_residues : (k : ℕ) → slice_index (residue_row w new) k < p
    new_residues k = ⊎_elim
        (λ l. subst (λ x. x < p) (sym (new_at k l ∙ ap (λ q. slice_index new.sums k % q) new_prime)) (mod_below (slice_index new.sums k) p positive))
        (λ l. let e = residue_row_past w k new l in omega arith)
        (cases_lt k w)

    top_gone : slice_index (residue_row w new) (at + degree) ≡ 0
    top_gone =
        sym (mod-eq_of_lt (new_residues (at + degree))) ∙ added_above degree
        ∙ multiple_gone p t (slice_index (residue_row w old) (at + degree)) (slice_index d degree) (omega arith)
        (top ∙ ap (λ x. x % p) (sym (old_at (at + degree) room)))

    pub sums_round : Divided p degree steps at (set q at t) d (residue_row w new) f
    sums_round =
        let same : set (residue_row w new) (at + degree) 0 ≡ residue_row w new =
        ap (λ x. set (residue_row w new) (at + degree) x) (sym top_gone) ∙ set-get_or (residue_row w new) (at + degree) 0 in
        subst (λ xs. Divided p degree steps at (set q at t) d xs f) same
        (division_round p degree steps at t q d (residue_row w old) (residue_row w new) f known residue last
        (top ∙ ap (λ x. x % p) (sym (old_at (at + degree) room)))
        (λ k l. new_at k (omega arith) ∙ below k l ∙ sym (old_at k (omega arith)))
        added_above new_residues quotient_room (omega (arith, residue_row_length w new)))
