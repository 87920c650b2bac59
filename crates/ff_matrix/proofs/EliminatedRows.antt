-- The rows after the elimination, read as the form and the transform.
use Rattle.std.proofs.Common.{◌≡◌, ℕ, ◌+◌, ◌<◌, ◌≤◌, List, [], length, map, get_or, refl, ap, sym, ◌∙◌, subst, arith}
use Rattle.std.specs.List.{range_with_len}
use Rattle.std.proofs.lemmas.List.{get_or-map, length-map}
use Rattle.std.proofs.lemmas.List.FromFn.{get_or-map-range_with_len, length-map-range_with_len}
use Rattle.std.proofs.lemmas.List.Elements.{All-from_get_or}
use Rattle.alg_model.specs.Coefficients.{Ops, Carrier, mod_ops, residues}
use Rattle.alg_model.specs.Fields.{IsRing}
use Rattle.alg_model.specs.Matrices.{Matrix, column_at, entry, IsColumn, IsMatrix, IsReduction}
use Rattle.alg_rings.proofs.Residues.{residues_ring}
use Rattle.alg_rings.specs.Laws.{IsPropositional, RingLaws}
use Rattle.alg_rings.proofs.Elements.{Element, element_ops, element_laws, underlying_injective}
use Rattle.alg_linear.specs.PrivateGrids
use Rattle.alg_linear.proofs.RowReduction.{reduced_same}
use Rattle.alg_linear.proofs.Solutions.{transformed_from_augmented, transformed_same}
use Rattle.alg_linear.proofs.CarrierMatrices.{delta_value}
use Rattle.alg_linear.specs.PrivateElimination.{IsEliminated, row_entries}
use Rattle.alg_linear.proofs.MatrixEntries.{entries}
use Rattle.alg_linear.proofs.Echelons.{reduction_lists}
use Rattle.ff_residues.proofs.Characteristics.{characteristic_small}
use Rattle.ff_matrix.specs.ModularMatrix.{IsModularMatrix}
use Rattle.ff_matrix.specs.PrivateRows.{AreRows, IsAugmented, Eliminates}
use Rattle.alg_rings.proofs.ResidueFields.{residues_propositional}

-- the columns of rows, from start on
abbrev pub block : List (List ℕ) → ℕ → ℕ → Matrix ℕ
block rows start count = record { rows = length rows; columns = map (λ k. map (λ row. get_or row k 0) rows) (range_with_len start count) }

pub length_block : (rows : List (List ℕ)) (start count : ℕ) → length (block rows start count).columns ≡ count
length_block rows start count = length-map-range_with_len (λ k. map (λ row. get_or row k 0) rows) start count

block_column : (rows : List (List ℕ)) (start count j : ℕ) → j < count → column_at (block rows start count) j ≡ map (λ row. get_or row (start + j) 0) rows
block_column rows start count j l = get_or-map-range_with_len (λ k. map (λ row. get_or row k 0) rows) start count j (start + j) [] l refl

block_entry : (p : ℕ) (rows : List (List ℕ)) (start count i j : ℕ) → i < length rows → j < count
    → entry (mod_ops p) (block rows start count) i j ≡ get_or (get_or rows i []) (start + j) 0
block_entry p rows start count i j li lj = ap (λ x. get_or x i 0) (block_column rows start count j lj)
    ∙ get_or-map (λ row. get_or row (start + j) 0) rows i [] 0 li

block_valid : (w p : ℕ) (rows : List (List ℕ)) (start count : ℕ) → AreRows w p rows → start + count ≤ w → IsMatrix (residues p) (block rows start count)
block_valid w p rows start count v fits = All-from_get_or (IsColumn (residues p) (length rows)) (block rows start count).columns []
    (λ j l. let lj : j < count = omega (arith, length_block rows start count) in
    subst (IsColumn (residues p) (length rows)) (sym (block_column rows start count j lj)) (
      length-map rows (λ row. get_or row (start + j) 0),
      All-from_get_or (λ x. x < p) (map (λ row. get_or row (start + j) 0) rows) 0
          (λ i li. let lr : i < length rows = omega (arith, length-map rows (λ row. get_or row (start + j) 0)) in
          let row : IsColumn (residues p) w (get_or rows i []) = v i [] lr in
          let Below : ℕ → Type 0 = λ x. x < p in
          subst Below (sym (get_or-map (λ row. get_or row (start + j) 0) rows i [] 0 lr)) (row.1 (start + j) 0 (omega (arith, row.0)))),
    ))

-- the matrix beside the identity, reduced, is the form beside the transform
pub reduction_from_rows : (w p : ℕ) → 1 < p → (m : Matrix ℕ) → IsMatrix (residues p) m → (start rows : List (List ℕ)) (pivots : List ℕ)
    → length m.columns + m.rows ≤ w → AreRows w p rows
    → IsAugmented w p m start → Eliminates w p (length m.columns) start rows pivots
    → IsReduction (residues p) m (block rows 0 (length m.columns)) (block rows (length m.columns) (length rows)) pivots
reduction_from_rows w p h m wm start rows pivots fits v a eliminates =
    reduction_lists P R m form transform wm wf wt pivots count (length_block rows 0 width) count (length_block rows width (length rows) ∙ count)
    (transformed_same B n width M (λ i j. Y i j) (λ i l. Y i (width + l)) (entries R form wf) (entries R transform wt)
    (transformed_from_augmented L n width M X Y
    (λ i j li lj. underlying_injective P _ _ (a.left i j li lj))
    (λ i l li ll. underlying_injective P _ _ (a.right i l li ll ∙ sym (delta_value R i l)))
    (let Q : ℕ → Type 0 = λ k. PrivateGrids.RowEquivalent B k X Y in subst Q a.count g.equivalent))
    (λ i j li lj. underlying_injective P _ _ (block_entry p rows 0 width i j (omega (arith, count)) lj ∙ ap (λ k. get_or (get_or rows i []) k 0) (omega arith)))
    (λ i j li lj. underlying_injective P _ _ (block_entry p rows width (length rows) i j (omega (arith, count)) (omega (arith, count)))))
    (reduced_same B n width pivots Y (entries R form wf)
    (λ i j li lj. underlying_injective P _ _ (block_entry p rows 0 width i j (omega (arith, count)) lj ∙ ap (λ k. get_or (get_or rows i []) k 0) (omega arith)))
    (let Q : ℕ → Type 0 = λ k. PrivateGrids.IsReducedTo B k width pivots Y in subst Q a.count g.reduced))
  where
    c : Carrier ℕ
    c = residues p

    P : IsPropositional (residues p)
    P = residues_propositional p

    R : IsRing c
    R = residues_ring p h

    B : Ops (Element c)
    B = element_ops R

    L : RingLaws B
    L = element_laws P R

    n : ℕ
    n = m.rows

    width : ℕ
    width = length m.columns

    g : IsEliminated R w (length start) width start rows pivots
    g = eliminates h

    count : length rows ≡ n
    count = g.count ∙ a.count

    form : Matrix ℕ
    form = block rows 0 width

    transform : Matrix ℕ
    transform = block rows width (length rows)

    wf : IsMatrix c form
    wf = block_valid w p rows 0 width v (omega arith)

    wt : IsMatrix c transform
    wt = block_valid w p rows width (length rows) v (omega (arith, count))

    M : ℕ → ℕ → Element c
    M = entries R m wm

    X : ℕ → ℕ → Element c
    X = row_entries R w start g.valid_start

    Y : ℕ → ℕ → Element c
    Y = row_entries R w rows g.valid

-- the same from what the functions say of the prime, the sizes and the two blocks
pub reduction_read : (w q p k : ℕ) (m : Matrix ℕ) (start rows : List (List ℕ)) (pivots : List ℕ) (form transform : Matrix ℕ)
    → q ≡ p → k ≡ length m.columns → IsModularMatrix (record { prime = p; matrix = m })
    → length m.columns + m.rows ≤ w → IsAugmented w p m start → AreRows w q rows → Eliminates w q k start rows pivots
    → form.rows ≡ length rows → form.columns ≡ map (λ k. map (λ row. get_or row k 0) rows) (range_with_len 0 k)
    → transform.rows ≡ length rows → transform.columns ≡ map (λ k. map (λ row. get_or row k 0) rows) (range_with_len k (length rows))
    → IsReduction (residues p) m form transform pivots
reduction_read w q p k m start rows pivots form transform same width whole fits a v eliminates fr fc tr tc =
    subst Reduces form_is (subst (λ t. IsReduction (residues p) m (block rows 0 (length m.columns)) t pivots) transform_is
    (reduction_from_rows w p (characteristic_small p whole.characteristic).0 m whole.entries start rows pivots
    fits (subst (λ r. AreRows w r rows) same v) a
    (subst (λ r. Eliminates w r (length m.columns) start rows pivots) same (subst (λ n. Eliminates w q n start rows pivots) width eliminates))))
  where
    Reduces : Matrix ℕ → Type 0
    Reduces d = IsReduction (residues p) m d transform pivots

    form_is : block rows 0 (length m.columns) ≡ form
    form_is = λ i. record { rows = sym fr i; columns = (ap (λ w. map (λ k. map (λ row. get_or row k 0) rows) (range_with_len 0 w)) (sym width) ∙ sym fc) i }

    transform_is : block rows (length m.columns) (length rows) ≡ transform
    transform_is = λ i. record { rows = sym tr i; columns = (ap (λ w. map (λ k. map (λ row. get_or row k 0) rows) (range_with_len w (length rows))) (sym width) ∙ sym tc) i }
