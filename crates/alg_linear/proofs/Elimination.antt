-- Gauss-Jordan elimination on a list of rows over a carrier: what each step changes, and what the rows are after all of them.
use Rattle.std.proofs.Common.{◌≡◌, ◌≢◌, ℕ, ◌+◌, ◌<◌, ◌≤◌, cond, List, [], ◌∷◌, ◌++◌, length, get_or, set, All, refl, ap, ap₂, sym, ◌∙◌, ⊎_elim, arith}
use Rattle.std.specs.List.{swap}
use Rattle.std.proofs.lemmas.Bool.{cases_eq, eq-eqb, ne_eqb}
use Rattle.std.proofs.lemmas.List.{length-set, get_or-set_same, get_or-set_other}
use Rattle.std.proofs.lemmas.List.Edits.{swap_is}
use Rattle.alg_model.specs.Coefficients.{Ops, Carrier}
use Rattle.alg_model.specs.Polynomials.{sum, scale}
use Rattle.alg_model.specs.Fields.{IsRing}
use Rattle.alg_model.specs.Matrices.{IsColumn}
use Rattle.alg_rings.proofs.Rings.{zero_mul, add_zero}
use Rattle.alg_rings.proofs.Validity.{scale_valid}
use Rattle.alg_rings.proofs.CarrierPolynomials.{sum_at, scale_at}
use Rattle.alg_rings.specs.Laws.{IsPropositional}
use Rattle.alg_rings.proofs.Elements.{Element, underlying_injective, on_elements}
use Rattle.alg_linear.specs.PrivateGrids.{RowEquivalent}
use Rattle.alg_linear.proofs.RowOperations.{equivalent_itself, equivalent_then, equivalent_swapped, equivalent_scaled, equivalent_added, swap_rows, scale_row, add_row, swapped, swapped_first, swapped_to_first, swapped_other, swapped_below}
use Rattle.alg_linear.specs.PrivateGrids.{IsReducedTo}
use Rattle.alg_linear.proofs.RowReduction.{reduced_start, reduced_without_pivot, reduced_swapped, reduced_scaled, reduced_cleared, clearing, clearing_pivot, clearing_other}
use Rattle.alg_linear.specs.PrivateElimination.{row_entries, IsEliminated}

-- row s in the place of row r, multiplied by u, and the others cleared in column m by it
pub record IsPivotStep {A : Type 0} (o : Ops A) (m r s : ℕ) (u : A) (rows new : List (List A)) : Type 0 where
  pub count : length new ≡ length rows
  pub pivot_row : get_or new r [] ≡ scale o u (get_or rows s [])
  pub other_rows : (i : ℕ) → i < length rows → i ≢ r
      → get_or new i [] ≡ sum o (scale o (o.neg (get_or (get_or rows (swapped r s i) []) m o.zero)) (scale o u (get_or rows s []))) (get_or rows (swapped r s i) [])

module _ {A : Type 0} {c : Carrier A} (P : IsPropositional c) (R : IsRing c) where
  open on_elements P R use {ops as B, laws as L}

  pub eliminated_start : (w : ℕ) (rows : List (List A)) → All (IsColumn c w) rows → IsEliminated R w (length rows) 0 rows rows []
  eliminated_start w rows v = record {
    valid_start = v;
    valid = v;
    count = refl;
    equivalent = equivalent_itself L (length rows) _ _ (λ i j li. refl);
    reduced = reduced_start B (length rows) _;
  }

  pub eliminated_without_pivot : (w n m : ℕ) (start rows : List (List A)) (pivots : List ℕ) → IsEliminated R w n m start rows pivots
      → ((i : ℕ) → length pivots ≤ i → i < length rows → get_or (get_or rows i []) m c.ops.zero ≡ c.ops.zero)
      → IsEliminated R w n (m + 1) start rows pivots
  eliminated_without_pivot w n m start rows pivots h z = record {
    valid_start = h.valid_start;
    valid = h.valid;
    count = h.count;
    equivalent = h.equivalent;
    reduced = reduced_without_pivot B n m pivots _ h.reduced (λ r l ln. underlying_injective P _ _ (z r l (omega (arith, h.count))));
  }

  -- the rows after a step, entry by entry
  module _ (w m r s : ℕ) (u : A) (vu : c.Valid u) (rows new : List (List A)) (vr : All (IsColumn c w) rows) (vn : All (IsColumn c w) new)
      (lr : r < length rows) (ls : s < length rows) (step : IsPivotStep c.ops m r s u rows new) where
    abbrev X : ℕ → ℕ → Element c
    X = row_entries R w rows vr

    abbrev Y : ℕ → ℕ → Element c
    Y = row_entries R w new vn

    abbrev U : Element c
    U = (u, vu)

    abbrev X₂ : ℕ → ℕ → Element c
    X₂ = scale_row B r U (swap_rows B r s X)

    pivot_entries : (j : ℕ) → X₂ r j ≡ B.mul U (X s j)
    pivot_entries j = ap (λ b. cond b (B.mul U (X (swapped r s r) j)) (X (swapped r s r) j)) (eq-eqb r r refl)
        ∙ ap (λ k. B.mul U (X k j)) (swapped_first r s)

    other_entries : (i j : ℕ) → i ≢ r → X₂ i j ≡ X (swapped r s i) j
    other_entries i j d = ap (λ b. cond b (B.mul U (X (swapped r s i) j)) (X (swapped r s i) j)) (ne_eqb i r d)

    row_valid : (i : ℕ) → i < length rows → IsColumn c w (get_or rows i [])
    row_valid i l = vr i [] l

    new_pivot : (j : ℕ) → Y r j ≡ B.mul U (X s j)
    new_pivot j = underlying_injective P _ _
        (ap (λ x. get_or x j c.ops.zero) step.pivot_row ∙ scale_at P R u (get_or rows s []) j vu (row_valid s ls).1)

    new_other : (i j : ℕ) → i < length rows → i ≢ r → Y i j ≡ B.add (B.mul (B.neg (X (swapped r s i) m)) (B.mul U (X s j))) (X (swapped r s i) j)
    new_other i j li d = underlying_injective P _ _
        (ap (λ x. get_or x j c.ops.zero) (step.other_rows i li d)
        ∙ sum_at P R (scale c.ops factor.0 pivot_row) other_row j (scale_valid R factor.0 pivot_row factor.1 pivot_valid) other_valid
        ∙ ap (λ y. c.ops.add y (X (swapped r s i) j).0) (scale_at P R factor.0 pivot_row j factor.1 pivot_valid
        ∙ ap (c.ops.mul factor.0) (scale_at P R u (get_or rows s []) j vu (row_valid s ls).1)))
      where
        factor : Element c
        factor = B.neg (X (swapped r s i) m)

        pivot_row : List A
        pivot_row = scale c.ops u (get_or rows s [])

        other_row : List A
        other_row = get_or rows (swapped r s i) []

        pivot_valid : All c.Valid pivot_row
        pivot_valid = scale_valid R u (get_or rows s []) vu (row_valid s ls).1

        other_valid : All c.Valid other_row
        other_valid = (row_valid (swapped r s i) (swapped_below (length rows) r s i lr ls li)).1

    step_entries : (i j : ℕ) → i < length rows → Y i j ≡ add_row B r (clearing B r m X₂) X₂ i j
    step_entries i j li = ⊎_elim
        (λ e. ap (λ k. Y k j) e ∙ new_pivot j ∙ sym (pivot_entries j) ∙ ap (λ k. X₂ k j) (sym e)
        ∙ sym (ap (λ y. B.add (X₂ i j) (B.mul y (X₂ r j))) (clearing_pivot B r m X₂ i e) ∙ ap (B.add (X₂ i j)) (zero_mul L (X₂ r j)) ∙ add_zero L (X₂ i j)))
        (λ d. new_other i j li d
        ∙ L.add_comm (B.mul (B.neg (X (swapped r s i) m)) (B.mul U (X s j))) (X (swapped r s i) j)
        ∙ sym (ap₂ (λ y z. B.add y (B.mul z (X₂ r j))) (other_entries i j d) (clearing_other B r m X₂ i d ∙ ap B.neg (other_entries i m d))
        ∙ ap (λ y. B.add (X (swapped r s i) j) (B.mul (B.neg (X (swapped r s i) m)) y)) (pivot_entries j)))
        (cases_eq i r)

  pub eliminated_with_pivot : (w n m s : ℕ) (u t : A) (start rows new : List (List A)) (pivots : List ℕ) → IsEliminated R w n m start rows pivots
      → length pivots ≤ s → s < length rows → c.Valid u → c.Valid t
      → c.ops.mul u t ≡ c.ops.one → get_or (get_or rows s []) m c.ops.zero ≡ t
      → All (IsColumn c w) new → IsPivotStep c.ops m (length pivots) s u rows new
      → IsEliminated R w n (m + 1) start new (pivots ++ m ∷ [])
  eliminated_with_pivot w n m s u t start rows new pivots h ls sn vu vt ut at v step = record {
    valid_start = h.valid_start;
    valid = v;
    count = step.count ∙ h.count;
    equivalent = equivalent_then L n _ X' Y' h.equivalent (equivalent_then L n X' X₁ Y' first (equivalent_then L n X₁ X₃ Y' second third));
    reduced = reduced_cleared L n m pivots X₃ Y' reduced₂ rn one entries_are;
  }
    where
      ln : s < n
      ln = omega (arith, h.count)

      rn : length pivots < n
      rn = omega (arith, h.count)

      X' : ℕ → ℕ → Element c
      X' = row_entries R w rows h.valid

      Y' : ℕ → ℕ → Element c
      Y' = row_entries R w new v

      X₁ : ℕ → ℕ → Element c
      X₁ = swap_rows B (length pivots) s X'

      X₃ : ℕ → ℕ → Element c
      X₃ = scale_row B (length pivots) (u, vu) X₁

      first : RowEquivalent B n X' X₁
      first = equivalent_swapped L n (length pivots) s X' X₁ rn ln (λ i j li. refl)

      reduced₁ : IsReducedTo B n m pivots X₁
      reduced₁ = reduced_swapped L n m pivots X' X₁ h.reduced s ls ln (λ i j li. refl)

      second : RowEquivalent B n X₁ X₃
      second = equivalent_scaled L n (length pivots) (u, vu) (t, vt) X₁ X₃ (underlying_injective P _ _ ut) (λ i j li. refl)

      reduced₂ : IsReducedTo B n m pivots X₃
      reduced₂ = reduced_scaled L n m pivots X₁ X₃ reduced₁ (u, vu) (λ i j li. refl)

      rl : length pivots < length rows
      rl = omega arith

      one : X₃ (length pivots) m ≡ B.one
      one = pivot_entries w m (length pivots) s u vu rows new h.valid v rl sn step m ∙ underlying_injective P _ _ (ap (c.ops.mul u) at ∙ ut)

      entries_are : (i j : ℕ) → i < n → Y' i j ≡ add_row B (length pivots) (clearing B (length pivots) m X₃) X₃ i j
      entries_are i j li = step_entries w m (length pivots) s u vu rows new h.valid v rl sn step i j (omega (arith, h.count))

      third : RowEquivalent B n X₃ Y'
      third = equivalent_added L n (length pivots) (clearing B (length pivots) m X₃) X₃ Y' rn
          (clearing_pivot B (length pivots) m X₃ (length pivots) refl) entries_are

-- the places of a list with two of them exchanged
pub swap_at : {X : Type 0} (xs : List X) (r s i : ℕ) (d : X) → r < length xs → s < length xs → i < length xs
    → get_or (swap xs r s) i d ≡ get_or xs (swapped r s i) d
swap_at xs r s i d lr ls li =
    ap (λ ys. get_or ys i d) (sym (swap_is xs r s d lr ls))
    ∙ ⊎_elim
    (λ e. ap (λ k. get_or (set (set xs r (get_or xs s d)) s (get_or xs r d)) k d) e
    ∙ get_or-set_same (set xs r (get_or xs s d)) s (get_or xs r d) d (omega (arith, length-set xs r (get_or xs s d)))
    ∙ sym (ap (λ k. get_or xs k d) (ap (swapped r s) e ∙ swapped_to_first r s)))
    (λ n. get_or-set_other (set xs r (get_or xs s d)) s i (get_or xs r d) d n
    ∙ ⊎_elim
    (λ e. ap (λ k. get_or (set xs r (get_or xs s d)) k d) e ∙ get_or-set_same xs r (get_or xs s d) d lr
    ∙ sym (ap (λ k. get_or xs k d) (ap (swapped r s) e ∙ swapped_first r s)))
    (λ m. get_or-set_other xs r i (get_or xs s d) d m ∙ sym (ap (λ k. get_or xs k d) (swapped_other r s i m n)))
    (cases_eq i r))
    (cases_eq i s)
