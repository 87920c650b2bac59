-- Rows of sums, read as rows of residues.
use Rattle.std.proofs.Common.{◌≡◌, ◌≢◌, ℕ, ◌+◌, ◌*◌, ◌%◌, ◌<◌, ◌≤◌, List, [], ◌∷◌, ◌++◌, length, map, get_or, set, refl, ap, ap₂, sym, ◌∙◌, subst, ⊎_elim, arith}
use Rattle.std.specs.List.{swap}
use Rattle.std.proofs.lemmas.Nat.{mod_below}
use Rattle.std.proofs.lemmas.List.{ext_get_or, get_or-map, get_or_default, length-map, length-set, get_or-set_same, get_or-set_other, map-set}
use Rattle.std.proofs.Math.ListN.{get_or-map as get_or-map_default}
use Rattle.std.proofs.lemmas.List.FromFn.{get_or-map-range_with_len, length-map-range_with_len}
use Rattle.std.proofs.lemmas.List.Elements.{All-from_get_or}
use Rattle.std.proofs.lemmas.List.Edits.{length-swap}
use native.Mathlib.Nat.{mod-add-mod}
use Rattle.std.proofs.Math.Nat.{add_comm}
use Rattle.alg_model.specs.Coefficients.{mod_ops, residues}
use Rattle.alg_model.specs.Polynomials.{sum, scale}
use Rattle.alg_model.specs.Matrices.{IsColumn}
use Rattle.alg_linear.proofs.Columns.{sum_scale_by_places}
use Rattle.ff_residues.specs.SumRows.{SumRow, residue_at}
use Rattle.ff_matrix.specs.PrivateRows.{residue_row, residue_rows, AreSums, AreRows, IsCleared, IsPlaced, Eliminates}
use Rattle.ff_matrix.proofs.RowPlaces.{AreClearedBelow, cleared_more, eliminates_start, eliminates_with_pivot, eliminates_without_pivot, added_nothing}
use Rattle.alg_rings.proofs.Lists.{length_scale}
use Rattle.alg_linear.proofs.RowOperations.{swapped, swapped_first, swapped_below}
use Rattle.alg_linear.proofs.Elimination.{swap_at}
use Rattle.std.proofs.lemmas.Bool.{cases_eq}

-- a row of residues
pub residue_row_length : (w : ℕ) (s : SumRow) → length (residue_row w s) ≡ w
residue_row_length w s = length-map-range_with_len (residue_at s) 0 w

pub residue_row_at : (w k : ℕ) (s : SumRow) → k < w → get_or (residue_row w s) k 0 ≡ residue_at s k
residue_row_at w k s l = get_or-map-range_with_len (residue_at s) 0 w k k 0 l (omega arith)

pub residue_row_is : (w : ℕ) (s : SumRow) (xs : List ℕ) → length xs ≡ w → ((k : ℕ) → k < w → get_or xs k 0 ≡ residue_at s k) → residue_row w s ≡ xs
residue_row_is w s xs long h = ext_get_or 0 (residue_row w s) xs (residue_row_length w s ∙ sym long)
    (λ k l. let lw : k < w = omega (arith, residue_row_length w s) in residue_row_at w k s lw ∙ sym (h k lw))

residue_row_valid : (w p : ℕ) (s : SumRow) → 0 < p → s.prime ≡ p → IsColumn (residues p) w (residue_row w s)
residue_row_valid w p s positive e = (
  residue_row_length w s,
  All-from_get_or (λ x. x < p) (residue_row w s) 0
      (λ k l. subst (λ x. x < p) (sym (residue_row_at w k s (omega (arith, residue_row_length w s)) ∙ ap (λ q. get_or s.sums k 0 % q) e)) (mod_below (get_or s.sums k 0) p positive)),
)

-- rows of residues
pub residue_rows_length : (w : ℕ) (rows : List SumRow) → length (residue_rows w rows) ≡ length rows
residue_rows_length w rows = length-map rows (residue_row w)

pub residue_rows_at : (w i : ℕ) (rows : List SumRow) (d : SumRow) → i < length rows → get_or (residue_rows w rows) i [] ≡ residue_row w (get_or rows i d)
residue_rows_at w i rows d l = get_or-map (residue_row w) rows i d [] l

pub sums_are_rows : (w p : ℕ) (rows : List SumRow) → 0 < p → AreSums p rows → AreRows w p (residue_rows w rows)
sums_are_rows w p [] positive v = All-from_get_or (IsColumn (residues p) w) [] [] (λ i l. absurd (omega arith))
sums_are_rows w p (s ∷ rows) positive v = All-from_get_or (IsColumn (residues p) w) (residue_rows w (s ∷ rows)) []
    (λ i l. let li : i < length (s ∷ rows) = omega (arith, residue_rows_length w (s ∷ rows)) in
    subst (IsColumn (residues p) w) (sym (residue_rows_at w i (s ∷ rows) s li)) (residue_row_valid w p (get_or (s ∷ rows) i s) positive (v i s li)))

swapped_map : {X Y : Type 0} (f : X → Y) (xs : List X) (i j : ℕ) → map f (swap xs i j) ≡ swap (map f xs) i j
swapped_map f [] i j = refl
swapped_map f (d ∷ ys) i j =
    map-set f (set (d ∷ ys) i (get_or (d ∷ ys) j d)) j (get_or (d ∷ ys) i d)
    ∙ ap₂ (λ zs x. set zs j x) (map-set f (d ∷ ys) i (get_or (d ∷ ys) j d) ∙ ap (λ x. set (map f (d ∷ ys)) i x) (sym (get_or-map_default f (d ∷ ys) j d)))
    (sym (get_or-map_default f (d ∷ ys) i d))

pub residue_rows_swapped : (w r s : ℕ) (rows : List SumRow) → residue_rows w (swap rows r s) ≡ swap (residue_rows w rows) r s
residue_rows_swapped w r s rows = swapped_map (residue_row w) rows r s

pub residue_rows_set : (w i : ℕ) (rows : List SumRow) (s : SumRow) → residue_rows w (set rows i s) ≡ set (residue_rows w rows) i (residue_row w s)
residue_rows_set w i rows s = map-set (residue_row w) rows i s

-- what `Sums::add` does to the residues
pub cleared_residues : (w p a : ℕ) (old new : SumRow) (source : List ℕ) → length source ≡ w → old.prime ≡ p
    → ((k : ℕ) → k < w → residue_at new k ≡ (residue_at old k + a * get_or source (0 + k) 0) % old.prime)
    → residue_row w new ≡ sum (mod_ops p) (scale (mod_ops p) a source) (residue_row w old)
cleared_residues w p a old new source long e h =
    sum_scale_by_places (mod_ops p) a (residue_row w old) (residue_row w new) source
    (residue_row_length w new ∙ sym (residue_row_length w old)) (long ∙ sym (residue_row_length w old))
    (λ k l. let lw : k < w = omega (arith, residue_row_length w old) in
    residue_row_at w k new lw ∙ h k lw ∙ ap (λ j. (residue_at old k + a * get_or source j 0) % old.prime) (let z : 0 + k ≡ k = omega arith in z)
    ∙ ap (λ q. (residue_at old k + a * get_or source k 0) % q) e
    ∙ ap (λ x. x % p) (add_comm (residue_at old k) (a * get_or source k 0))
    ∙ sym (mod-add-mod (a * get_or source k 0) p (residue_at old k))
    ∙ ap (λ x. (a * get_or source k 0 % p + x) % p) (sym (residue_row_at w k old lw)))

-- and nothing, where the factor is zero
pub nothing_to_clear : (w p a : ℕ) (s : SumRow) (source : List ℕ) → 0 < p → a ≡ 0 → length source ≡ w → s.prime ≡ p
    → residue_row w s ≡ sum (mod_ops p) (scale (mod_ops p) a source) (residue_row w s)
nothing_to_clear w p a s source positive z long e =
    added_nothing p a (residue_row w s) source z (residue_row_length w s ∙ sym long) (residue_row_valid w p s positive e).1

-- the residues of a row of sums among others
pub row_of_sums : (w r : ℕ) (rows : List SumRow) (d : SumRow) (xs : List ℕ) → r < length rows → length xs ≡ w
    → ((k : ℕ) → get_or xs k 0 ≡ residue_at (get_or rows r d) k) → xs ≡ get_or (residue_rows w rows) r []
row_of_sums w r rows d xs l long h =
    sym (residue_rows_at w r rows d l ∙ residue_row_is w (get_or rows r d) xs long (λ k lk. h k))

pub swapped_to : (r s : ℕ) (rows : List (List ℕ)) → r < length rows → s < length rows → get_or (swap rows r s) r [] ≡ get_or rows s []
swapped_to r s rows lr ls = swap_at rows r s r [] lr ls lr ∙ ap (λ k. get_or rows k []) (swapped_first r s)

pub sums_swapped : (p r s : ℕ) (rows : List SumRow) → r < length rows → s < length rows → AreSums p rows → AreSums p (swap rows r s)
sums_swapped p r s rows lr ls v = λ i d l.
    let li : i < length rows = omega (arith, length-swap rows r s) in
    ap (λ t. t.prime) (swap_at rows r s i d lr ls li) ∙ v (swapped r s i) d (swapped_below (length rows) r s i lr ls li)

-- what `place_pivot` does
pub placed : (w p m r s u : ℕ) (rows now : List SumRow) (d new : SumRow) (xs ys : List ℕ) → r < length rows → now ≡ swap rows r s
    → length xs ≡ w → ((k : ℕ) → get_or xs k 0 ≡ residue_at (get_or now r d) k)
    → (mod_ops p).mul (get_or xs m 0) u ≡ 1 → u < p → ys ≡ scale (mod_ops p) u xs → ((k : ℕ) → residue_at new k ≡ get_or ys k 0)
    → IsPlaced p m r s (residue_rows w rows) (residue_rows w (set now r new))
placed w p m r s u rows now d new xs ys lr after long h one lu scaled hn =
    let swapped_is : residue_rows w now ≡ swap (residue_rows w rows) r s = ap (residue_rows w) after ∙ residue_rows_swapped w r s rows in
    let row_is : xs ≡ get_or (swap (residue_rows w rows) r s) r [] =
    row_of_sums w r now d xs (omega (arith, ap length after, length-swap rows r s)) long h ∙ ap (λ zs. get_or zs r []) swapped_is in
    let new_is : residue_row w new ≡ scale (mod_ops p) u (get_or (swap (residue_rows w rows) r s) r []) =
    residue_row_is w new ys (ap length scaled ∙ length_scale (mod_ops p) u xs ∙ long) (λ k lk. sym (hn k)) ∙ scaled ∙ ap (scale (mod_ops p) u) row_is in
    record {
      inverse = u;
      residue = lu;
      one = ap (λ zs. (get_or zs m 0 * u) % p) (sym row_is) ∙ one;
      others = residue_rows_set w r now new ∙ ap₂ (λ zs x. set zs r x) swapped_is new_is;
    }

-- one more row of sums is cleared
pub cleared_more_sums : (w p m r i : ℕ) (source : List ℕ) (rows : List (List ℕ)) (now : List SumRow) (d new : SumRow) → 0 < p → i ≢ r
    → i < length now → new.prime ≡ p
    → residue_row w new ≡ sum (mod_ops p) (scale (mod_ops p) ((mod_ops p).neg (get_or (residue_row w (get_or now i d)) m 0)) source) (residue_row w (get_or now i d))
    → AreClearedBelow w p m r source rows (residue_rows w now) i → AreClearedBelow w p m r source rows (residue_rows w (set now i new)) (i + 1)
cleared_more_sums w p m r i source rows now d new positive other l prime e h =
    let old_is : residue_row w (get_or now i d) ≡ get_or (residue_rows w now) i [] = sym (residue_rows_at w i now d l) in
    subst (λ zs. AreClearedBelow w p m r source rows zs (i + 1)) (sym (residue_rows_set w i now new))
    (cleared_more w p m r i source (residue_row w new) rows (residue_rows w now) other (omega (arith, residue_rows_length w now))
    (residue_row_valid w p new positive prime)
    (e ∙ ap (λ z. sum (mod_ops p) (scale (mod_ops p) ((mod_ops p).neg (get_or z m 0)) source) z) old_is) h)

-- a step of the elimination on rows of sums
pub reduced_with_pivot : (w p m r s : ℕ) (rows one new : List SumRow) (pivots : List ℕ) → r ≡ length pivots
    → r ≤ s → s < length rows → AreSums p rows → m < w
    → IsPlaced p m r s (residue_rows w rows) (residue_rows w one)
    → AreSums p new → length new ≡ length rows → IsCleared (mod_ops p) m r (residue_rows w one) (residue_rows w new)
    → (start : List (List ℕ)) → Eliminates w p m start (residue_rows w rows) pivots
    → Eliminates w p (m + 1) start (residue_rows w new) (pivots ++ m ∷ [])
reduced_with_pivot w p m r s rows one new pivots e rs ls v lm made vn count cleared start before = λ h.
    eliminates_with_pivot w p m r s made.inverse (residue_rows w rows) (residue_rows w new)
    (scale (mod_ops p) made.inverse (get_or (swap (residue_rows w rows) r s) r [])) pivots e rs
    (omega (arith, residue_rows_length w rows)) (sums_are_rows w p rows (omega arith) v) lm made.one made.residue refl
    (sums_are_rows w p new (omega arith) vn) (residue_rows_length w new ∙ count ∙ sym (residue_rows_length w rows))
    (subst (λ xs. IsCleared (mod_ops p) m r xs (residue_rows w new)) made.others cleared) start before h

pub reduced_without_pivot : (w p m r : ℕ) (rows : List SumRow) (pivots : List ℕ) → r ≡ length pivots
    → ((i : ℕ) → r ≤ i → i < length rows → get_or (get_or (residue_rows w rows) i []) m 0 ≡ 0)
    → (start : List (List ℕ)) → Eliminates w p m start (residue_rows w rows) pivots → Eliminates w p (m + 1) start (residue_rows w rows) pivots
reduced_without_pivot w p m r rows pivots e none =
    eliminates_without_pivot w p m r (residue_rows w rows) pivots e (λ i l li. none i l (omega (arith, residue_rows_length w rows)))

pub reduction_starts : (w p : ℕ) (rows : List SumRow) → AreSums p rows → Eliminates w p 0 (residue_rows w rows) (residue_rows w rows) []
reduction_starts w p rows v = λ h. eliminates_start w p (residue_rows w rows) (sums_are_rows w p rows (omega arith) v) h

-- the sums below i are those of the rows
pub record AreSumsBelow (w p : ℕ) (rows : List (List ℕ)) (sums : List SumRow) (i : ℕ) : Type 0 where
  pub count : length sums ≡ length rows
  pub primes : (j : ℕ) (d : SumRow) → j < i → (get_or sums j d).prime ≡ p
  pub same : (j : ℕ) → j < i → get_or (residue_rows w sums) j [] ≡ get_or rows j []

pub one_more_sum : (w p i : ℕ) (rows : List (List ℕ)) (sums : List SumRow) (s : SumRow) (xs : List ℕ) → i < length rows → s.prime ≡ p
    → xs ≡ get_or rows i xs → AreRows w p rows → ((k : ℕ) → residue_at s k ≡ get_or xs k 0) → AreSumsBelow w p rows sums i
    → AreSumsBelow w p rows (set sums i s) (i + 1)
one_more_sum w p i rows sums s xs l prime is v h below =
    let is' : xs ≡ get_or rows i [] = is ∙ get_or_default rows i xs [] l in
    let long : length xs ≡ w = ap length is' ∙ (v i [] l).0 in
    record {
      count = length-set sums i s ∙ below.count;
      primes = λ j d lj. ⊎_elim
          (λ e. ap (λ k. (get_or (set sums i s) k d).prime) e ∙ ap (λ t. t.prime) (get_or-set_same sums i s d (omega (arith, below.count))) ∙ prime)
          (λ e. ap (λ t. t.prime) (get_or-set_other sums i j s d e) ∙ below.primes j d (omega arith)) (cases_eq j i);
      same = λ j lj. ap (λ zs. get_or zs j []) (residue_rows_set w i sums s) ∙ ⊎_elim
          (λ e. ap (λ k. get_or (set (residue_rows w sums) i (residue_row w s)) k []) e
          ∙ get_or-set_same (residue_rows w sums) i (residue_row w s) [] (omega (arith, below.count, residue_rows_length w sums))
          ∙ residue_row_is w s xs long (λ k lk. sym (h k)) ∙ is' ∙ ap (λ k. get_or rows k []) (sym e))
          (λ e. get_or-set_other (residue_rows w sums) i j (residue_row w s) [] e ∙ below.same j (omega arith)) (cases_eq j i);
    }

pub all_sums : (w p i : ℕ) (rows : List (List ℕ)) (sums : List SumRow) → length rows ≤ i → AreSumsBelow w p rows sums i → residue_rows w sums ≡ rows
all_sums w p i rows sums past h = ext_get_or [] (residue_rows w sums) rows (residue_rows_length w sums ∙ h.count)
    (λ j l. h.same j (omega (arith, residue_rows_length w sums, h.count)))

-- the rows below i are those of the sums
pub one_more_row : (w i : ℕ) (rows : List (List ℕ)) (sums : List SumRow) (d : SumRow) (xs : List ℕ) → i < length sums → length rows ≡ length sums
    → length xs ≡ w → ((k : ℕ) → get_or xs k 0 ≡ residue_at (get_or sums i d) k)
    → ((j : ℕ) → j < i → get_or rows j [] ≡ get_or (residue_rows w sums) j [])
    → (j : ℕ) → j < i + 1 → get_or (set rows i xs) j [] ≡ get_or (residue_rows w sums) j []
one_more_row w i rows sums d xs l count long h below j lj = ⊎_elim
    (λ e. ap (λ k. get_or (set rows i xs) k []) e ∙ get_or-set_same rows i xs [] (omega (arith, count))
    ∙ row_of_sums w i sums d xs l long h ∙ ap (λ k. get_or (residue_rows w sums) k []) (sym e))
    (λ e. get_or-set_other rows i j xs [] e ∙ below j (omega arith)) (cases_eq j i)
