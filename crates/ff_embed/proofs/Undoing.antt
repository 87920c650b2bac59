-- Maps between finite fields as lists of values, embeddings or not, and what undoes an embedding.
use Rattle.std.proofs.Common.{◌≡◌, ℕ, ◌<◌, List, [], length, replicate, All, ap, ap₂, sym, ◌∙◌, subst, arith}
use Rattle.std.proofs.lemmas.List.{length-map, get_or-map}
use Rattle.std.proofs.lemmas.List.Elements.{All-get_or, All-from_get_or}
use Rattle.std.proofs.lemmas.Nat.Gcd.{dvd_refl}
use Prim.Native.Nat.{◌∣◌}
use Rattle.alg_model.specs.Coefficients.{mod_ops, residues}
use Rattle.alg_model.specs.Fields.{IsRing}
use Rattle.alg_model.specs.Matrices.{Matrix, matrix_apply, matrix_product, identity_matrix, IsColumn, IsMatrix, IsIndependent}
use Rattle.alg_model.specs.Maps.{Field, IsFiniteField, field_values, degree_of, generator, powers, map_matrix, apply, comp, identity_map, IsEmbedding}
use Rattle.alg_rings.proofs.Residues.{residues_ring}
use Rattle.alg_rings.proofs.ResidueFields.{residues_propositional}
use Rattle.alg_linear.proofs.MatrixEntries
use Rattle.alg_galois.proofs.Embeddings.{identity_embedding, apply_identity, apply_valid, embedding_injective, embeddings_equal, embedding_is_powers_of_image, comp_embedding, apply_comp, comp_cancel}
use Rattle.alg_galois.proofs.EmbeddingRoots.{embedding_through, zero_kept}
use Rattle.ff_field.proofs.SmallFieldLaws.{values_field}
use Rattle.ff_embed.specs.SmallEmbeddings.{FieldMap, IsSmallEmbedding}
use Rattle.ff_embed.specs.PrivateMaps.{IsMap}

-- ---- maps that are lists of values
-- a value as a column
pub value_column : (E : Field) (a : List ℕ) → (field_values E).Valid a
    → IsColumn (residues E.characteristic) (degree_of E) a
value_column E a va = (va.1, va.0)

-- a column as a value
pub column_value : (E : Field) (a : List ℕ) → IsColumn (residues E.characteristic) (degree_of E) a
    → (field_values E).Valid a
column_value E a va = (va.1, va.0)

-- an embedding is such a map
pub embedding_map : (E F : Field) (m : List (List ℕ)) → IsEmbedding E F m → IsMap E F m
embedding_map E F m D = record {
  same_characteristic = D.same_characteristic;
  count = D.count;
  images = D.images;
}

module _ (E F : Field) (m : List (List ℕ)) (D : IsMap E F m) where
  -- its matrix
  pub map_entries : IsMatrix (residues F.characteristic) (map_matrix F m)
  map_entries = All-from_get_or (IsColumn (residues F.characteristic) (degree_of F)) m []
      (λ k l. value_column F _ (All-get_or (field_values F).Valid m k [] l D.images))

  -- a value of E as a column that it takes
  pub argument_column : (a : List ℕ) → (field_values E).Valid a
      → IsColumn (residues F.characteristic) (length m) a
  argument_column a va =
      (va.1 ∙ sym D.count, subst (λ p. All (λ x. x < p) a) D.same_characteristic va.0)

  -- **what it gives is a value**
  pub map_valid : IsFiniteField F → (a : List ℕ) → (field_values E).Valid a
      → (field_values F).Valid (apply F m a)
  map_valid W a va = column_value F (apply F m a)
      (MatrixEntries.apply_valid (residues_propositional F.characteristic)
      (residues_ring F.characteristic W.characteristic.above_one) (map_matrix F m) map_entries a
      (argument_column a va))

module _ (E F G : Field) (W : IsFiniteField G) (m n : List (List ℕ)) (D : IsMap E F m)
    (C : IsMap F G n) where
  -- the matrix of the first one, over the characteristic of the last field
  first_entries : IsMatrix (residues G.characteristic) (map_matrix F m)
  first_entries = subst (λ p. IsMatrix (residues p) (map_matrix F m)) C.same_characteristic
      (map_entries E F m D)

  -- **one map after the other is their composition**
  pub apply_comp_map : (a : List ℕ) → (field_values E).Valid a
      → apply G (comp G m n) a ≡ apply G n (apply F m a)
  apply_comp_map a va =
      MatrixEntries.product_apply (residues_propositional G.characteristic)
      (residues_ring G.characteristic W.characteristic.above_one) (map_matrix G n) (map_matrix F m)
      (map_entries F G n C) first_entries (sym C.count) a
      (subst (λ p. IsColumn (residues p) (length m) a) C.same_characteristic
      (argument_column E F m D a va))
      ∙ ap (λ p. apply G n (matrix_apply (mod_ops p) (map_matrix F m) a))
      (sym C.same_characteristic)

  -- which is such a map
  pub comp_map : IsMap E G (comp G m n)
  comp_map = record {
    same_characteristic = D.same_characteristic ∙ C.same_characteristic;
    count = length-map m (apply G n) ∙ D.count;
    images = All-from_get_or (field_values G).Valid (comp G m n) []
        (λ k l. let h : k < length m = omega (arith, length-map m (apply G n)) in
        subst (field_values G).Valid (sym (get_or-map (apply G n) m k [] [] h))
        (map_valid F G n C W _ (All-get_or (field_values F).Valid m k [] h D.images)));
  }

-- **a map that agrees with an embedding is one**
pub embedding_from_agreement : (E F : Field) → IsFiniteField E → (m n : List (List ℕ))
    → IsEmbedding E F m → IsMap E F n
    → ((a : List ℕ) → (field_values E).Valid a → apply F n a ≡ apply F m a) → IsEmbedding E F n
embedding_from_agreement E F V m n D C agree =
    let R : IsRing (field_values E) = (values_field E V).ring in record {
      same_characteristic = C.same_characteristic;
      count = C.count;
      images = C.images;
      one = agree (field_values E).ops.one R.one_valid ∙ D.one;
      sums = λ a b va vb. agree ((field_values E).ops.add a b) (R.add_valid a b va vb)
          ∙ D.sums a b va vb
          ∙ ap₂ (field_values F).ops.add (sym (agree a va)) (sym (agree b vb));
      products = λ a b va vb. agree ((field_values E).ops.mul a b) (R.mul_valid a b va vb)
          ∙ D.products a b va vb
          ∙ ap₂ (field_values F).ops.mul (sym (agree a va)) (sym (agree b vb));
    }

-- ---- what undoes an embedding
module _ (E F : Field) (V : IsFiniteField E) (W : IsFiniteField F) (m : List (List ℕ))
    (D : IsEmbedding E F m) where
  -- **the columns of an embedding are independent**
  pub images_independent : IsIndependent (residues F.characteristic) (degree_of F) m
  images_independent x vx zero =
      let va : (field_values E).Valid x =
      (subst (λ p. All (λ y. y < p) x) (sym D.same_characteristic) vx.1, vx.0 ∙ D.count) in
      embedding_injective E F V W m D x (field_values E).ops.zero va
      (values_field E V).ring.zero_valid (zero ∙ sym (zero_kept E F V W m D))
      ∙ ap (λ n. replicate n 0) (sym D.count)

  -- **a matrix whose product with its matrix is the identity undoes it**
  pub undone_by_product : (l : Matrix ℕ) → IsMatrix (residues F.characteristic) l
      → l.rows ≡ degree_of E → length l.columns ≡ degree_of F
      → matrix_product (mod_ops F.characteristic) l (map_matrix F m)
      ≡ identity_matrix (mod_ops F.characteristic) (length m)
      → (a : List ℕ) → (field_values E).Valid a → apply E l.columns (apply F m a) ≡ a
  undone_by_product l wl rows count product a va =
      let p = F.characteristic in
      let M = embedding_map E F m D in
      ap₂ (λ q n. matrix_apply (mod_ops q) (record { rows = n; columns = l.columns }) (apply F m a))
      D.same_characteristic (sym rows)
      ∙ sym (MatrixEntries.product_apply (residues_propositional p)
      (residues_ring p W.characteristic.above_one) l (map_matrix F m) wl (map_entries E F m M)
      (sym count) a (argument_column E F m M a va))
      ∙ ap (λ (k : Matrix ℕ). matrix_apply (mod_ops p) k a) product
      ∙ ap₂ (λ q n. matrix_apply (mod_ops q) (identity_matrix (mod_ops q) n) a)
      (sym D.same_characteristic) D.count
      ∙ apply_identity E V a va

  module _ (l : List (List ℕ)) (C : IsMap F E l)
      (undone : (a : List ℕ) → (field_values E).Valid a → apply E l (apply F m a) ≡ a) where
    -- **a value that is an image is the image of what undoes it**
    pub image_returns : (a b : List ℕ) → (field_values E).Valid a → apply F m a ≡ b
        → apply F m (apply E l b) ≡ b
    image_returns a b va e =
        ap (λ c. apply F m (apply E l c)) (sym e) ∙ ap (apply F m) (undone a va) ∙ e

    -- **where the degrees are equal, what undoes an embedding is one**
    module _ (same : degree_of E ≡ degree_of F) where
      inverse : (w : List (List ℕ)) × IsEmbedding F E w × (comp F w m ≡ identity_map F)
      inverse = embedding_through F E F W V W (identity_map F) m (identity_embedding F W) D
          (subst (λ n. degree_of F ∣ n) (sym same) (dvd_refl (degree_of F)))

      inverse_first : (b : List ℕ) → (field_values F).Valid b
          → apply F m (apply E inverse.0 b) ≡ b
      inverse_first b vb =
          sym (apply_comp F E F W V W inverse.0 m inverse.1 D b vb)
          ∙ ap (λ c. apply F c b) inverse.2 ∙ apply_identity F W b vb

      undoing_agrees : (b : List ℕ) → (field_values F).Valid b
          → apply E l b ≡ apply E inverse.0 b
      undoing_agrees b vb =
          ap (apply E l) (sym (inverse_first b vb))
          ∙ undone (apply E inverse.0 b) (apply_valid F E W V inverse.0 inverse.1 b vb)

      pub undoing_embedding : IsEmbedding F E l
      undoing_embedding = embedding_from_agreement F E W inverse.0 l inverse.1 C undoing_agrees

      -- and the embedding undoes it
      pub undoing_undone : (b : List ℕ) → (field_values F).Valid b
          → apply F m (apply E l b) ≡ b
      undoing_undone b vb = ap (apply F m) (undoing_agrees b vb) ∙ inverse_first b vb

      -- **both compositions are the identity**
      pub undoing_back : comp E m l ≡ identity_map E
      undoing_back = embeddings_equal E E V V (comp E m l) (identity_map E)
          (comp_embedding E F E V W V m l D undoing_embedding) (identity_embedding E V)
          (λ a va. apply_comp E F E V W V m l D undoing_embedding a va ∙ undone a va
          ∙ sym (apply_identity E V a va))

      -- the other one
      pub undoing_forth : comp F l m ≡ identity_map F
      undoing_forth = embeddings_equal F F W W (comp F l m) (identity_map F)
          (comp_embedding F E F W V W l m undoing_embedding D) (identity_embedding F W)
          (λ b vb. apply_comp F E F W V W l m undoing_embedding D b vb ∙ undoing_undone b vb
          ∙ sym (apply_identity F W b vb))

-- ---- compositions
module _ (E F G : Field) (U : IsFiniteField E) (V : IsFiniteField F) (W : IsFiniteField G)
    (m n : List (List ℕ)) (D : IsEmbedding E F m) (C : IsEmbedding F G n)
    (k l : List (List ℕ)) (A : IsMap F E k) (B : IsMap G F l)
    (first : (a : List ℕ) → (field_values E).Valid a → apply E k (apply F m a) ≡ a)
    (second : (b : List ℕ) → (field_values F).Valid b → apply F l (apply G n b) ≡ b) where
  -- **what undoes the second one and then the first undoes their composition**
  pub comp_undone : (a : List ℕ) → (field_values E).Valid a
      → apply E (comp E l k) (apply G (comp G m n) a) ≡ a
  comp_undone a va =
      let vb : (field_values F).Valid (apply F m a) = apply_valid E F U V m D a va in
      let vc : (field_values G).Valid (apply G n (apply F m a)) =
      apply_valid F G V W n C (apply F m a) vb in
      ap (apply E (comp E l k)) (apply_comp E F G U V W m n D C a va)
      ∙ apply_comp_map G F E U l k B A (apply G n (apply F m a)) vc
      ∙ ap (apply E k) (second (apply F m a) vb) ∙ first a va

-- ---- the map through which an embedding goes
module _ (I J K : Field) (U : IsFiniteField I) (V : IsFiniteField J) (W : IsFiniteField K)
    (a b : List (List ℕ)) (A : IsEmbedding I K a) (B : IsEmbedding J K b)
    (k l : List (List ℕ)) (P : IsMap K I k) (Q : IsMap K J l)
    (first : (x : List ℕ) → (field_values I).Valid x → apply I k (apply K a x) ≡ x)
    (second : (y : List ℕ) → (field_values J).Valid y → apply J l (apply K b y) ≡ y)
    (divides : degree_of I ∣ degree_of J) where
  through : (m : List (List ℕ)) × IsEmbedding I J m × (comp K m b ≡ a)
  through = embedding_through I J K U V W a b A B divides

  around : (x : List ℕ) → (field_values I).Valid x → apply K b (apply J through.0 x) ≡ apply K a x
  around x vx = sym (apply_comp I J K U V W through.0 b through.1 B x vx)
      ∙ ap (λ c. apply K c x) through.2

  through_agrees : (x : List ℕ) → (field_values I).Valid x
      → apply J (comp J a l) x ≡ apply J through.0 x
  through_agrees x vx =
      apply_comp_map I K J V a l (embedding_map I K a A) Q x vx
      ∙ ap (apply J l) (sym (around x vx))
      ∙ second (apply J through.0 x) (apply_valid I J U V through.0 through.1 x vx)

  -- **it is the embedding followed by what undoes the other one**
  pub through_embedding : IsEmbedding I J (comp J a l)
  through_embedding = embedding_from_agreement I J U through.0 (comp J a l) through.1
      (comp_map I K J V a l (embedding_map I K a A) Q) through_agrees

  -- with the other one after it, it is the embedding
  pub through_followed : comp K (comp J a l) b ≡ a
  through_followed = ap (λ c. comp K c b)
      (embeddings_equal I J U V (comp J a l) through.0 through_embedding through.1 through_agrees)
      ∙ through.2

  -- **what undoes it: the other one followed by what undoes the embedding**
  pub through_undone : (x : List ℕ) → (field_values I).Valid x
      → apply I (comp I b k) (apply J (comp J a l) x) ≡ x
  through_undone x vx =
      let vm : (field_values J).Valid (apply J through.0 x) =
      apply_valid I J U V through.0 through.1 x vx in
      ap (apply I (comp I b k)) (through_agrees x vx)
      ∙ apply_comp_map J K I U b k (embedding_map J K b B) P (apply J through.0 x) vm
      ∙ ap (apply I k) (around x vx) ∙ first x vx

-- ---- laws
-- the ends of a small embedding are finite fields
pub ends_finite : (e : FieldMap) → IsSmallEmbedding e
    → IsFiniteField e.source × IsFiniteField e.target
ends_finite e S = (S.source.finite, S.target.finite)

-- maps with equal parts
pub same_maps : (a b : FieldMap) → a.source ≡ b.source → a.target ≡ b.target → a.images ≡ b.images
    → a ≡ b
same_maps a b s t i = ap (λ x. record { source = x; target = a.target; images = a.images }) s
    ∙ ap₂ (λ y z. record { source = b.source; target = y; images = z }) t i

-- **the image of the generator determines an embedding**
pub image_determines : (a b : FieldMap) → IsSmallEmbedding a → IsSmallEmbedding b
    → a.source ≡ b.source → a.target ≡ b.target
    → apply a.target a.images (generator a.source) ≡ apply b.target b.images (generator b.source)
    → a ≡ b
image_determines a b A B s t e =
    let v = apply a.target a.images (generator a.source) in
    same_maps a b s t
    (embedding_is_powers_of_image a.source a.target A.source.finite A.target.finite a.images
    A.embedding
    ∙ ap₂ (λ (T S : Field). powers T v (degree_of S)) t s
    ∙ ap (λ w. powers b.target w (degree_of b.source)) e
    ∙ sym (embedding_is_powers_of_image b.source b.target B.source.finite B.target.finite b.images
    B.embedding))

-- **one map alone is another one when an embedding follows it**
pub through_determined : (j : FieldMap) → IsSmallEmbedding j → (a b : FieldMap)
    → IsSmallEmbedding a → IsSmallEmbedding b → a.source ≡ b.source → a.target ≡ j.source
    → b.target ≡ j.source
    → comp j.target a.images j.images ≡ comp j.target b.images j.images → a ≡ b
through_determined j S a b A B s t u e =
    same_maps a b s (t ∙ sym u)
    (comp_cancel b.source j.source j.target B.source.finite S.source.finite S.target.finite
    a.images b.images j.images
    (subst (λ y. IsEmbedding b.source y a.images) t
    (subst (λ x. IsEmbedding x a.target a.images) s A.embedding))
    (subst (λ y. IsEmbedding b.source y b.images) u B.embedding) S.embedding e)
