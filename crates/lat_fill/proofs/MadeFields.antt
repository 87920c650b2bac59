-- The added fields, and their maps into the target.
use Rattle.std.proofs.Common.{◌≡◌, ℕ, ◌+◌, ◌<◌, List, [], ◌∷◌, ◌++◌, length, slice_index, slice_index_or, refl, sym, ap, ◌∙◌, subst, arith, length-append, Option}
use Rattle.std.proofs.lemmas.List.{get_or_append_left, get_or-append-add, get_or_default}
use Rattle.std.proofs.Math.Seq.{get_or-append_seam}
use borrow.Author.Count.{below_more}
use Prim.Native.Nat.{◌∣◌}
use Rattle.alg_model.specs.Maps.{Field, IsFiniteField, degree_of, constants}
use Rattle.alg_model.specs.Roots.{IsLeastRoot}
use Rattle.alg_model.specs.Lattices.{Lattice, Row, no_row, field_at, IsCompatible}
use Rattle.alg_model.specs.Candidates.{map_sending, embedding_by, IsCandidate, AreMissing}
use Rattle.alg_model.specs.Filling.{IsMapInto, IsMadeRow, AreRowsAfter}
use Rattle.alg_model.specs.Filling as Model
use Rattle.alg_galois.proofs.EmbeddingRoots.{root_exists}
use Rattle.alg_splitting.specs.RootLists.{IsRootList}
use Rattle.alg_splitting.proofs.RootLists.{root_list_least}
use Rattle.alg_compatible.specs.Theorems.{AreFields}
use Rattle.alg_compatible.proofs.Filling.{Inserted, made_divides, made_row, target_row}
use Rattle.alg_compatible.proofs.Candidates.{to_candidate}
use Rattle.ff_embed.specs.SmallEmbeddings.{FieldMap}
use Rattle.lat_world.specs.declared.members.Member.{Member}
use Rattle.lat_fill.specs.PrivateListing.{AreListed, AreMade, GoInto}
use Rattle.lat_fill.specs.PrivateMaking.{IsMadeMap}
use Rattle.lat_fill.proofs.MemberLists.{list_more}

-- ---- the least root
-- where the degree divides, there is a root
pub some_root : {K F : Field} {roots : List (List ℕ)} → IsFiniteField K → IsFiniteField F
    → K.characteristic ≡ F.characteristic → degree_of K ∣ degree_of F
    → IsRootList F (constants F K.polynomial) roots → 0 < length roots
some_root {K} {F} V W e d R =
    let (v, r) = root_exists K F V W e d in
    let (k, h, x) = (R.exactly v).1 r in
    omega (arith, h)

-- the first of a list of roots is the least
pub first_is_least : {F : Field} {g : List (List ℕ)} (roots : List (List ℕ)) (d : List ℕ)
    → 0 < length roots → IsRootList F g roots → IsLeastRoot F g (slice_index_or roots 0 d)
first_is_least [] d h R = absurd (omega (arith, h))
first_is_least {F} {g} (v ∷ vs) d h R = root_list_least F g v vs R

pub first_root : {K F : Field} (roots items : List (List ℕ)) (coefficients : List ℕ) → IsFiniteField K
    → IsFiniteField F → K.characteristic ≡ F.characteristic → degree_of K ∣ degree_of F
    → coefficients ≡ K.polynomial → IsRootList F (constants F coefficients) roots → items ≡ roots
    → (0 < length items) × ((v : List ℕ) → v ≡ slice_index_or items 0 v → IsLeastRoot F (constants F K.polynomial) v)
first_root {K} {F} roots items coefficients V W e d same R its =
    let S : IsRootList F (constants F K.polynomial) items = subst (IsRootList F (constants F K.polynomial)) (sym its)
    (subst (λ f. IsRootList F (constants F f) roots) same R) in
    let some : 0 < length items = some_root V W e d S in
    (some, λ v at. subst (IsLeastRoot F (constants F K.polynomial)) (sym at) (first_is_least items v some S))

-- ---- the fields
-- the rows after an insertion
abbrev pub rows_after : {L : Lattice} {E F : ℕ} {degrees : List ℕ} {fields : List Row}
    → AreMissing L E F degrees → AreMade L F degrees fields
    → AreRowsAfter L E F (L.rows ++ fields)
rows_after {degrees = degrees} {fields = fields} missing made = record {
  degrees = degrees;
  missing = missing;
  made = fields;
  appended = refl;
  count = made.count;
  made_rows = made.made_rows;
}

-- the insertion that adds these fields
abbrev insertion : {L : Lattice} {E F : ℕ} {sending : Option (List ℕ × List ℕ)} {v : List ℕ}
    {degrees : List ℕ} {fields : List Row}
    → IsCompatible L → AreFields L E F → IsCandidate L E F sending v
    → AreMissing L E F degrees → AreMade L F degrees fields
    → Inserted L E F (embedding_by L E F v) (L.rows ++ fields)
insertion C A c missing made = record {
  before = C.rows;
  compatible = C.compatible;
  source = A.source;
  target = A.target;
  candidate = to_candidate C.rows A.source A.target c;
  after = rows_after missing made;
}

-- **each added field goes into the target**
pub added_go_into : {L : Lattice} {E F : ℕ} {sending : Option (List ℕ × List ℕ)} {v : List ℕ}
    {degrees : List ℕ} {fields : List Row}
    → IsCompatible L → AreFields L E F → IsCandidate L E F sending v
    → AreMissing L E F degrees → AreMade L F degrees fields → GoInto L F fields
added_go_into {L} {E} {F} {sending} {v} {degrees} {fields} C A c missing made = record {
  same_characteristic = λ k h. (made.made_rows k (below k h)).characteristic;
  divides = λ k h. subst (λ K. degree_of K ∣ degree_of (field_at L.rows F)) (ap (λ r. r.field) (made_row (insertion C A c missing made) k))
      (subst (λ K. degree_of (field_at (L.rows ++ fields) (length L.rows + k)) ∣ degree_of K) (target_row (insertion C A c missing made))
      (made_divides (insertion C A c missing made) (record { place = k; number = refl; below = below k h })));
}
  where
    below : (k : ℕ) → k < length fields → k < length degrees
    below k h = let e : length fields ≡ length degrees = made.count in omega (arith, h, e)

-- ---- one added field
pub row_field : (fields : List Row) (k : ℕ) (r : Row) (K : Field) → k < length fields
    → r ≡ slice_index_or fields k r → K ≡ r.field → K ≡ field_at fields k
row_field fields k r K h at e = e ∙ ap (λ x. x.field) (at ∙ get_or_default fields k r no_row h)

pub divides_at : {K K' T T' : Field} → K ≡ K' → T ≡ T' → degree_of K' ∣ degree_of T' → degree_of K ∣ degree_of T
divides_at {K' = K'} {T = T} e f d = subst (λ x. degree_of x ∣ degree_of T) (sym e) (subst (λ x. degree_of K' ∣ degree_of x) (sym f) d)

pub made_map_at : {K K' T T' : Field} {m : FieldMap} → K ≡ K' → T ≡ T' → IsMadeMap K T m → IsMadeMap K' T' m
made_map_at {K} {T' = T'} {m = m} e f h = subst (λ x. IsMadeMap x T' m) e (subst (λ x. IsMadeMap K x m) f h)

-- ---- the fields in steps
pub record AreMadeBelow (L : Lattice) (F : ℕ) (degrees : List ℕ) (n : ℕ) (fields : List Row)
    : Type 0 where
  pub count : length fields ≡ n
  pub made_rows : (k : ℕ) → k < n
      → IsMadeRow (length L.rows + k) (field_at L.rows F).characteristic (slice_index degrees k)
      (slice_index_or fields k no_row)

-- one field more
pub made_more : {L : Lattice} {F n : ℕ} {degrees : List ℕ} (old new : List Row) (row : Row) (number p d : ℕ)
    → AreMadeBelow L F degrees n old → IsMadeRow number p d row → number ≡ length L.rows + n
    → p ≡ (field_at L.rows F).characteristic → d ≡ slice_index degrees n → new ≡ old ++ row ∷ []
    → AreMadeBelow L F degrees (n + 1) new
made_more {L} {F} {n} {degrees} old new row number p d H m en ep ed e = subst (AreMadeBelow L F degrees (n + 1)) (sym e) (record {
  count = omega (arith, length-append old (row ∷ []), H.count);
  made_rows = below_more (λ k. IsMadeRow (length L.rows + k) (field_at L.rows F).characteristic (slice_index degrees k) (slice_index_or (old ++ row ∷ []) k no_row)) n
      (λ k h. subst (IsMadeRow (length L.rows + k) (field_at L.rows F).characteristic (slice_index degrees k))
      (sym (get_or_append_left old (row ∷ []) no_row k (let c : length old ≡ n = H.count in omega (arith, h, c)))) (H.made_rows k h))
      (subst (λ x. IsMadeRow x (field_at L.rows F).characteristic (slice_index degrees n) (slice_index_or (old ++ row ∷ []) n no_row)) en
      (subst (λ x. IsMadeRow number x (slice_index degrees n) (slice_index_or (old ++ row ∷ []) n no_row)) ep
      (subst (λ x. IsMadeRow number p x (slice_index_or (old ++ row ∷ []) n no_row)) ed
      (subst (IsMadeRow number p d) (sym (ap (λ k. slice_index_or (old ++ row ∷ []) k no_row) (sym H.count) ∙ get_or-append_seam old row [] no_row)) m))));
})

pub all_made : {L : Lattice} {F n : ℕ} (degrees : List ℕ) {fields : List Row} → n ≡ length degrees
    → AreMadeBelow L F degrees n fields → AreMade L F degrees fields
all_made {L} {F} {n} degrees {fields} e H = record {
  count = H.count ∙ e;
  made_rows = λ k h. H.made_rows k (omega (arith, h, e));
}

-- ---- the list with the added fields
module _ (L : Lattice) (E F : ℕ) (phi : List (List ℕ)) (fields : List Row) (k : ℕ)
    (ms : List Member) (within : F < length L.rows) where
  -- **one added field more is listed**
  pub list_added : AreListed L E F phi (L.rows ++ fields) (length L.rows + k) ms → (m : Member)
      → k < length fields
      → m.number ≡ length L.rows + k → IsMadeMap (field_at fields k) (field_at L.rows F) m.map
      → AreListed L E F phi (L.rows ++ fields) (length L.rows + (k + 1)) (ms ++ m ∷ [])
  list_added H m h e M = subst (λ n. AreListed L E F phi (L.rows ++ fields) n (ms ++ m ∷ [])) (let x : length L.rows + k + 1 ≡ length L.rows + (k + 1) = omega arith in x)
      (list_more H m e into (record { source = M.source ∙ sym here; target = M.target ∙ sym target }))
    where
      here : field_at (L.rows ++ fields) (length L.rows + k) ≡ field_at fields k
      here = ap (λ r. r.field) (get_or-append-add L.rows fields k no_row)

      target : field_at (L.rows ++ fields) F ≡ field_at L.rows F
      target = ap (λ r. r.field) (get_or_append_left L.rows fields no_row F within)

      image : m.map.images ≡ map_sending (field_at (L.rows ++ fields) (length L.rows + k)) (field_at (L.rows ++ fields) F) M.root
      image = M.images ∙ (λ i. map_sending (sym here i) (sym target i) M.root)

      least : IsLeastRoot (field_at (L.rows ++ fields) F) (constants (field_at (L.rows ++ fields) F) (field_at (L.rows ++ fields) (length L.rows + k)).polynomial) M.root
      least = subst (λ K. IsLeastRoot K (constants K (field_at (L.rows ++ fields) (length L.rows + k)).polynomial) M.root) (sym target)
          (subst (λ K. IsLeastRoot (field_at L.rows F) (constants (field_at L.rows F) K.polynomial) M.root) (sym here) M.least)

      into : IsMapInto L E F phi (L.rows ++ fields) (length L.rows + k) m.map.images
      into = subst (IsMapInto L E F phi (L.rows ++ fields) (length L.rows + k)) (sym image)
          (Model.IsMapInto.made (omega arith) (omega (arith, length-append L.rows fields, h)) least)
