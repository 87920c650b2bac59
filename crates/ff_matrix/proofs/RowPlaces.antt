-- Loops that change one place after another.
use Rattle.std.proofs.Common.{◌≡◌, ◌≢◌, ℕ, ◌+◌, ◌*◌, ◌%◌, ◌<◌, ◌≤◌, List, [], ◌∷◌, ◌++◌, length, replicate, get_or, set, All, refl, ap, ap₂, sym, ◌∙◌, subst, ⊎_elim, arith}
use Rattle.std.specs.List.{swap}
use Rattle.std.proofs.lemmas.List.{get_or_past, get_or-replicate, length-replicate, length-set, get_or-set_same, get_or-set_other}
use Rattle.std.proofs.lemmas.Bool.{cases_eq, cases_lt}
use Rattle.std.proofs.lemmas.List.Elements.{All-from_get_or, All-set}
use Rattle.std.proofs.lemmas.List.Edits.{length-swap}
use native.Mathlib.Nat.{mul_comm}
use Rattle.std.proofs.Math.Nat.{mod-eq_of_lt, zero-mul, zero-mod, zero-add}
use Rattle.alg_model.specs.Coefficients.{mod_ops, residues}
use Rattle.alg_model.specs.Polynomials.{sum, scale}
use Rattle.alg_model.specs.Matrices.{IsColumn}
use Rattle.alg_rings.proofs.Residues.{residues_ring}
use Rattle.alg_rings.proofs.ResidueFields.{residues_propositional}
use Rattle.alg_rings.proofs.Lists.{length_scale}
use Rattle.alg_linear.proofs.Columns.{sum_scale_by_places}
use Rattle.alg_linear.proofs.RowOperations.{swapped, swapped_first, swapped_below}
use Rattle.alg_linear.proofs.Elimination.{IsPivotStep, eliminated_start, eliminated_with_pivot, eliminated_without_pivot, swap_at}
use Rattle.ff_matrix.specs.PrivateRows.{AreRows, IsCleared, Eliminates}

-- the places of ys below i are done, the others are those of xs, and all are below p
pub record AreDone (p : ℕ) (done : ℕ → ℕ) (xs ys : List ℕ) (i : ℕ) : Type 0 where
  pub residues : All (λ x. x < p) ys
  pub before : (k : ℕ) → k < i → get_or ys k 0 ≡ done k
  pub after : (k : ℕ) → i ≤ k → get_or ys k 0 ≡ get_or xs k 0

-- one more place is done
pub done_more : (p i x : ℕ) (done : ℕ → ℕ) (xs ys : List ℕ) → i < length ys → x ≡ done i → x < p → AreDone p done xs ys i → AreDone p done xs (set ys i x) (i + 1)
done_more p i x done xs ys l e below h = record {
  residues = All-set (λ y. y < p) ys i x below h.residues;
  before = λ k lk. ⊎_elim (λ q. ap (λ j. get_or (set ys i x) j 0) q ∙ get_or-set_same ys i x 0 l ∙ e ∙ ap done (sym q))
      (λ d. get_or-set_other ys i k x 0 d ∙ h.before k (omega arith)) (cases_eq k i);
  after = λ k lk. get_or-set_other ys i k x 0 (omega arith) ∙ h.after k (omega arith);
}

-- zero times the source changes nothing
pub added_nothing : (p a : ℕ) (row source : List ℕ) → a ≡ 0 → length row ≡ length source → All (λ x. x < p) row
    → row ≡ sum (mod_ops p) (scale (mod_ops p) a source) row
added_nothing p a row source zero_factor same v = sum_scale_by_places (mod_ops p) a row row source refl (sym same)
    (λ k l. sym (ap (λ b. (b * get_or source k 0 % p + get_or row k 0) % p) zero_factor
    ∙ ap (λ b. (b % p + get_or row k 0) % p) (zero-mul (get_or source k 0)) ∙ ap (λ b. (b + get_or row k 0) % p) (zero-mod p)
    ∙ ap (λ b. b % p) (zero-add (get_or row k 0)) ∙ mod-eq_of_lt (v k 0 l)))

-- the rows below i are cleared in column m by the source, which is row r, and the others are those of rows
pub record AreClearedBelow (w p m r : ℕ) (source : List ℕ) (rows new : List (List ℕ)) (i : ℕ) : Type 0 where
  pub residues : AreRows w p new
  pub source_is : source ≡ get_or rows r []
  pub pivot_row : get_or new r [] ≡ get_or rows r []
  pub before : (k : ℕ) → k < i → k ≢ r
      → get_or new k [] ≡ sum (mod_ops p) (scale (mod_ops p) ((mod_ops p).neg (get_or (get_or rows k []) m 0)) (get_or rows r [])) (get_or rows k [])
  pub after : (k : ℕ) → i ≤ k → get_or new k [] ≡ get_or rows k []

-- one more row is looked at: the row of the pivot is left, another one cleared
pub cleared_none : (w p m r i : ℕ) (source : List ℕ) (rows new : List (List ℕ)) → i ≡ r → AreClearedBelow w p m r source rows new i
    → AreClearedBelow w p m r source rows new (i + 1)
cleared_none w p m r i source rows new e h = record {
  residues = h.residues;
  source_is = h.source_is;
  pivot_row = h.pivot_row;
  before = λ k l d. h.before k (omega arith) d;
  after = λ k l. h.after k (omega arith);
}

pub cleared_more : (w p m r i : ℕ) (source row : List ℕ) (rows new : List (List ℕ)) → i ≢ r → i < length new
    → IsColumn (residues p) w row
    → row ≡ sum (mod_ops p) (scale (mod_ops p) ((mod_ops p).neg (get_or (get_or new i []) m 0)) source) (get_or new i [])
    → AreClearedBelow w p m r source rows new i → AreClearedBelow w p m r source rows (set new i row) (i + 1)
cleared_more w p m r i source row rows new d l v e h = record {
  residues = All-set (IsColumn (residues p) w) new i row v h.residues;
  source_is = h.source_is;
  pivot_row = get_or-set_other new i r row [] (λ q. d (sym q)) ∙ h.pivot_row;
  before = λ k lk dk. ⊎_elim
      (λ q. ap (λ j. get_or (set new i row) j []) q ∙ get_or-set_same new i row [] l ∙ e
      ∙ ap₂ (λ x y. sum (mod_ops p) (scale (mod_ops p) ((mod_ops p).neg (get_or y m 0)) x) y) h.source_is (h.after i (omega arith) ∙ ap (λ j. get_or rows j []) (sym q)))
      (λ q. get_or-set_other new i k row [] q ∙ h.before k (omega arith) dk) (cases_eq k i);
  after = λ k lk. get_or-set_other new i k row [] (omega arith) ∙ h.after k (omega arith);
}

-- the rows after a swap are rows
pub swapped_rows : (w p r s : ℕ) (rows : List (List ℕ)) → r < length rows → s < length rows → AreRows w p rows → AreRows w p (swap rows r s)
swapped_rows w p r s rows lr ls v = All-from_get_or (IsColumn (residues p) w) (swap rows r s) []
    (λ i l. let li : i < length rows = omega (arith, length-swap rows r s) in
    subst (IsColumn (residues p) w) (sym (swap_at rows r s i [] lr ls li)) (v (swapped r s i) [] (swapped_below (length rows) r s i lr ls li)))

-- the rows after a multiple of one of them took its place are rows
pub scaled_rows : (w p u r : ℕ) (rows : List (List ℕ)) (row : List ℕ) → r < length rows → AreRows w p rows
    → row ≡ scale (mod_ops p) u (get_or rows r []) → All (λ x. x < p) row → AreRows w p (set rows r row)
scaled_rows w p u r rows row lr v e below = All-set (IsColumn (residues p) w) rows r row
    (ap length e ∙ length_scale (mod_ops p) u (get_or rows r []) ∙ (v r [] lr).0, below) v

-- a swap, a multiple and a clearing make a step of the elimination
pivot_step : (p m r s u : ℕ) (rows new : List (List ℕ)) (row : List ℕ) → r < length rows → s < length rows
    → row ≡ scale (mod_ops p) u (get_or (swap rows r s) r []) → length new ≡ length rows
    → IsCleared (mod_ops p) m r (set (swap rows r s) r row) new → IsPivotStep (mod_ops p) m r s u rows new
pivot_step p m r s u rows new row lr ls e count h = record {
  count = count;
  pivot_row = h.pivot_row ∙ own;
  other_rows = λ i li d. h.other_rows i (omega (arith, length-set (swap rows r s) r row, length-swap rows r s)) d
      ∙ ap₂ (λ x y. sum (mod_ops p) (scale (mod_ops p) ((mod_ops p).neg (get_or x m 0)) y) x) (other i li d) own;
}
  where
    own : get_or (set (swap rows r s) r row) r [] ≡ scale (mod_ops p) u (get_or rows s [])
    own = get_or-set_same (swap rows r s) r row [] (omega (arith, length-swap rows r s)) ∙ e
        ∙ ap (scale (mod_ops p) u) (swap_at rows r s r [] lr ls lr ∙ ap (λ k. get_or rows k []) (swapped_first r s))

    other : (i : ℕ) → i < length rows → i ≢ r → get_or (set (swap rows r s) r row) i [] ≡ get_or rows (swapped r s i) []
    other i li d = get_or-set_other (swap rows r s) r i row [] d ∙ swap_at rows r s i [] lr ls li

pub eliminates_with_pivot : (w p m r s u : ℕ) (rows new : List (List ℕ)) (row pivots : List ℕ) → r ≡ length pivots
    → r ≤ s → s < length rows → AreRows w p rows → m < w
    → (mod_ops p).mul (get_or (get_or (swap rows r s) r []) m 0) u ≡ 1 → u < p
    → row ≡ scale (mod_ops p) u (get_or (swap rows r s) r []) → AreRows w p new → length new ≡ length rows
    → IsCleared (mod_ops p) m r (set (swap rows r s) r row) new
    → (start : List (List ℕ)) → Eliminates w p m start rows pivots → Eliminates w p (m + 1) start new (pivots ++ m ∷ [])
eliminates_with_pivot w p m r s u rows new row pivots e rs ls v lm one lu scaled vn count cleared start before = λ h.
    let at : get_or (get_or (swap rows r s) r []) m 0 ≡ get_or (get_or rows s []) m 0 =
    ap (λ x. get_or x m 0) (swap_at rows r s r [] (omega arith) ls (omega arith) ∙ ap (λ k. get_or rows k []) (swapped_first r s)) in
    let step : IsPivotStep (mod_ops p) m r s u rows new = pivot_step p m r s u rows new row (omega arith) ls scaled count cleared in
    let Q : ℕ → Type 0 = λ k. IsPivotStep (mod_ops p) m k s u rows new in
    eliminated_with_pivot (residues_propositional p) (residues_ring p h) w (length start) m s u (get_or (get_or rows s []) m 0)
    start rows new pivots (before h) (omega arith) ls lu ((v s [] ls).1 m 0 (omega (arith, (v s [] ls).0)))
    (ap (λ k. k % p) (mul_comm u (get_or (get_or rows s []) m 0)) ∙ ap (λ k. (k * u) % p) (sym at) ∙ one) refl
    vn (subst Q e step)

pub eliminates_without_pivot : (w p m r : ℕ) (rows : List (List ℕ)) (pivots : List ℕ) → r ≡ length pivots
    → ((i : ℕ) → r ≤ i → i < length rows → get_or (get_or rows i []) m 0 ≡ 0)
    → (start : List (List ℕ)) → Eliminates w p m start rows pivots → Eliminates w p (m + 1) start rows pivots
eliminates_without_pivot w p m r rows pivots e none start before = λ h.
    eliminated_without_pivot (residues_propositional p) (residues_ring p h) w (length start) m start rows pivots (before h)
    (λ i l li. none i (omega arith) li)

pub eliminates_start : (w p : ℕ) (rows : List (List ℕ)) → AreRows w p rows → Eliminates w p 0 rows rows []
eliminates_start w p rows v = λ h. eliminated_start (residues_propositional p) (residues_ring p h) w rows v

-- a list of zeros is zero at each place, and past its end
pub zeros_at : (n k : ℕ) → ◌≡◌ {A = ℕ} (get_or (replicate n 0) k 0) 0
zeros_at n k = ⊎_elim (λ l. get_or-replicate n k 0 0 l) (λ l. get_or_past (replicate n 0) k 0 (omega (arith, length-replicate {A = ℕ} n 0))) (cases_lt k n)
