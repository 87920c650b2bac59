-- What an `Embedding` keeps, for each way in which one is made.
use Rattle.std.proofs.Common.{◌≡◌, ℕ, ◌<◌, List, [], length, slice_index_or, ap, ap₂, sym, ◌∙◌, subst, arith}
use Rattle.std.proofs.lemmas.List.FromFn.{get_or-map-range_with_len}
use Prim.Native.Nat.{◌∣◌}
use Rattle.alg_model.specs.Coefficients.{mod_ops, residues, power}
use Rattle.alg_model.specs.Matrices.{Matrix, matrix_product, identity_matrix, IsColumn, IsMatrix, IsIndependent}
use Rattle.alg_model.specs.Maps.{Field, field_values, degree_of, generator, constants, map_matrix, apply, comp, identity_map, powers, IsEmbedding}
use Rattle.alg_model.specs.Roots.{IsRoot}
use Rattle.alg_galois.proofs.Embeddings.{identity_embedding, apply_identity, apply_valid, generator_is_value, embedding_is_powers_of_image, comp_embedding}
use Rattle.alg_galois.proofs.EmbeddingRoots.{embedding_of_root}
use Rattle.ff_poly.specs.Polynomial.{Polynomial}
use Rattle.ff_field.specs.SmallFields.{IsSmallField}
use Rattle.ff_field.proofs.SmallFieldLaws.{values_field}
use Rattle.ff_matrix.specs.ModularMatrix.{ModularMatrix, IsModularMatrix}
use Rattle.ff_embed.specs.SmallEmbeddings.{FieldMap, IsSmallEmbedding}
use Rattle.ff_embed.specs.PrivateMaps.{IsMap, IsUndone, IsKept}
use Rattle.ff_embed.proofs.Undoing.{column_value, embedding_map, comp_map, images_independent, undone_by_product, undoing_embedding, undoing_undone, comp_undone, through_embedding, through_undone, through_followed, same_maps}

-- ---- from polynomials and matrices
-- a field by its parts
pub same_field : (K : Field) (f : Polynomial) → f.prime ≡ K.characteristic
    → f.coefficients ≡ K.polynomial
    → K ≡ record { characteristic = f.prime; polynomial = f.coefficients }
same_field K f p c = ap₂ (λ q d. record { characteristic = q; polynomial = d }) (sym p) (sym c)

-- what is kept of a map, at what is equal to its parts
pub kept_at : (e : FieldMap) (f g : Polynomial) (m l : ModularMatrix)
    → f.prime ≡ e.source.characteristic → f.coefficients ≡ e.source.polynomial
    → g.prime ≡ e.target.characteristic → g.coefficients ≡ e.target.polynomial
    → m.matrix.columns ≡ e.images → IsKept e m l
    → IsKept (record {
      source = record { characteristic = f.prime; polynomial = f.coefficients };
      target = record { characteristic = g.prime; polynomial = g.coefficients };
      images = m.matrix.columns;
    }) m l
kept_at e f g m l sp sc tp tc i = subst (λ d. IsKept d m l)
    (same_maps e (record {
      source = record { characteristic = f.prime; polynomial = f.coefficients };
      target = record { characteristic = g.prime; polynomial = g.coefficients };
      images = m.matrix.columns;
    }) (same_field e.source f sp sc) (same_field e.target g tp tc) (sym i))

-- **a product of matrices as the composition of maps**
pub product_is_comp : (F : Field) (a b : ModularMatrix) (m n : List (List ℕ))
    → a.prime ≡ F.characteristic → a.matrix.rows ≡ degree_of F → a.matrix.columns ≡ n
    → b.matrix.columns ≡ m
    → matrix_product (mod_ops a.prime) a.matrix b.matrix
    ≡ record { rows = degree_of F; columns = comp F m n }
product_is_comp F a b m n p r c d =
    ap₂ (λ q (k : Matrix ℕ). matrix_product (mod_ops q) k b.matrix) p
    (ap₂ (λ x y. record { rows = x; columns = y }) r c)
    ∙ ap (λ y. record { rows = degree_of F; columns = comp F y n }) d

-- ---- a root
module _ (E F : Field) (S : IsSmallField E) (T : IsSmallField F) (v : List ℕ)
    (same : E.characteristic ≡ F.characteristic)
    (root : IsRoot F (constants F E.polynomial) v) where
  root_embedding : IsEmbedding E F (powers F v (degree_of E))
  root_embedding = (embedding_of_root E F S.finite T.finite same v root).0

  module _ (m : ModularMatrix) (prime : m.prime ≡ F.characteristic)
      (rows : m.matrix.rows ≡ degree_of F)
      (columns : m.matrix.columns ≡ powers F v (degree_of E)) where
    -- **the powers of a root are independent**
    pub powers_independent : IsIndependent (residues m.prime) m.matrix.rows m.matrix.columns
    powers_independent =
        subst (λ q. IsIndependent (residues q) m.matrix.rows m.matrix.columns) (sym prime)
        (subst (λ n. IsIndependent (residues F.characteristic) n m.matrix.columns) (sym rows)
        (subst (IsIndependent (residues F.characteristic) (degree_of F)) (sym columns)
        (images_independent E F S.finite T.finite (powers F v (degree_of E)) root_embedding)))

    -- **the embedding by the powers of a root is kept**
    pub root_kept : (l : ModularMatrix) → IsModularMatrix l → l.prime ≡ m.prime
        → length l.matrix.columns ≡ m.matrix.rows
        → matrix_product (mod_ops m.prime) l.matrix m.matrix
        ≡ identity_matrix (mod_ops m.prime) (length m.matrix.columns)
        → IsKept (record { source = E; target = F; images = powers F v (degree_of E) }) m l
    root_kept l L lp sizes product =
        let D = root_embedding in
        let count : length m.matrix.columns ≡ degree_of E = ap length columns ∙ D.count in
        let lrows : l.matrix.rows ≡ degree_of E = ap (λ (k : Matrix ℕ). k.rows) product ∙ count in
        let lcolumns : length l.matrix.columns ≡ degree_of F = sizes ∙ rows in
        let p : l.prime ≡ F.characteristic = lp ∙ prime in
        let is : m.matrix ≡ map_matrix F (powers F v (degree_of E)) =
        ap₂ (λ x y. record { rows = x; columns = y }) rows columns in record {
          small = record { source = S; target = T; embedding = D };
          matrix_prime = prime;
          matrix_rows = rows;
          inverse_prime = p ∙ sym same;
          inverse_rows = lrows;
          back = record {
            same_characteristic = sym same;
            count = lcolumns;
            images = λ k d h.
                column_value E _
                (subst (λ q. IsColumn (residues q) (degree_of E) (slice_index_or l.matrix.columns k d))
                (p ∙ sym same)
                (subst (λ n. IsColumn (residues l.prime) n (slice_index_or l.matrix.columns k d)) lrows
                (L.entries k d h)));
          };
          undone = undone_by_product E F S.finite T.finite (powers F v (degree_of E)) D l.matrix
              (subst (λ q. IsMatrix (residues q) l.matrix) p L.entries) lrows lcolumns
              (ap₂ (λ q (k : Matrix ℕ). matrix_product (mod_ops q) l.matrix k) (sym prime) (sym is)
              ∙ product
              ∙ ap₂ (λ q (k : Matrix ℕ). identity_matrix (mod_ops q) (length k.columns)) prime is);
        }

-- ---- the identity
-- **the identity is kept**
pub identity_kept : (K : Field) → IsSmallField K → (m u : ModularMatrix)
    → m.prime ≡ K.characteristic → u.prime ≡ K.characteristic
    → m.matrix ≡ identity_matrix (mod_ops K.characteristic) (degree_of K)
    → u.matrix ≡ identity_matrix (mod_ops K.characteristic) (degree_of K)
    → IsKept (record { source = K; target = K; images = identity_map K }) m u
identity_kept K S m u prime uprime is uis =
    let D = identity_embedding K S.finite in
    let columns : u.matrix.columns ≡ identity_map K = ap (λ (k : Matrix ℕ). k.columns) uis in
    record {
      small = record { source = S; target = S; embedding = D };
      matrix_prime = prime;
      matrix_rows = ap (λ (k : Matrix ℕ). k.rows) is;
      inverse_prime = uprime;
      inverse_rows = ap (λ (k : Matrix ℕ). k.rows) uis;
      back = subst (IsMap K K) (sym columns) (embedding_map K K (identity_map K) D);
      undone = λ a va. ap (λ l. apply K l (apply K (identity_map K) a)) columns
          ∙ apply_identity K S.finite _ (apply_valid K K S.finite S.finite (identity_map K) D a va)
          ∙ apply_identity K S.finite a va;
    }

-- ---- compositions
module _ (d e : FieldMap) (S : IsSmallEmbedding d) (T : IsSmallEmbedding e)
    (join : e.source ≡ d.target) (k l : List (List ℕ)) (A : IsMap d.target d.source k)
    (B : IsMap e.target e.source l) (first : IsUndone d k) (second : IsUndone e l) where
  joined : IsEmbedding d.target e.target e.images
  joined = subst (λ x. IsEmbedding x e.target e.images) join T.embedding

  -- **the composition is kept**
  pub comp_kept : (m u : ModularMatrix) → m.prime ≡ e.target.characteristic
      → m.matrix.rows ≡ degree_of e.target → u.prime ≡ d.source.characteristic
      → u.matrix ≡ record { rows = degree_of d.source; columns = comp d.source l k }
      → IsKept (record {
        source = d.source;
        target = e.target;
        images = comp e.target d.images e.images;
      }) m u
  comp_kept m u prime rows uprime is =
      let U = S.source.finite in
      let V = S.target.finite in
      let W = T.target.finite in
      let into : IsMap e.target d.target l = subst (λ x. IsMap e.target x l) join B in
      let columns : u.matrix.columns ≡ comp d.source l k = ap (λ (c : Matrix ℕ). c.columns) is in
      record {
        small = record {
          source = S.source;
          target = T.target;
          embedding = comp_embedding d.source d.target e.target U V W d.images e.images S.embedding
              joined;
        };
        matrix_prime = prime;
        matrix_rows = rows;
        inverse_prime = uprime;
        inverse_rows = ap (λ (c : Matrix ℕ). c.rows) is;
        back = subst (IsMap e.target d.source) (sym columns)
            (comp_map e.target d.target d.source U l k into A);
        undone = λ a va. ap (λ c. apply d.source c
            (apply e.target (comp e.target d.images e.images) a)) columns
            ∙ comp_undone d.source d.target e.target U V W d.images e.images S.embedding joined k l
            A into first
            (subst (λ x. (b : List ℕ) → (field_values x).Valid b
            → apply x l (apply e.target e.images b) ≡ b) join second) a va;
      }

-- ---- inverses
module _ (e : FieldMap) (S : IsSmallEmbedding e) (l : List (List ℕ))
    (B : IsMap e.target e.source l) (undone : IsUndone e l)
    (same : degree_of e.source ≡ degree_of e.target) where
  -- **the inverse is kept**
  pub inverse_kept : (m u : ModularMatrix) → m.prime ≡ e.target.characteristic
      → m.matrix.rows ≡ degree_of e.target → m.matrix.columns ≡ e.images
      → u.prime ≡ e.source.characteristic → u.matrix.rows ≡ degree_of e.source
      → IsKept (record { source = e.target; target = e.source; images = l }) u m
  inverse_kept m u prime rows columns uprime urows =
      let V = S.source.finite in
      let W = S.target.finite in record {
        small = record {
          source = S.target;
          target = S.source;
          embedding = undoing_embedding e.source e.target V W e.images S.embedding l B undone same;
        };
        matrix_prime = uprime;
        matrix_rows = urows;
        inverse_prime = prime;
        inverse_rows = rows;
        back = subst (IsMap e.source e.target) (sym columns)
            (embedding_map e.source e.target e.images S.embedding);
        undone = λ b vb. ap (λ c. apply e.target c (apply e.source l b)) columns
            ∙ undoing_undone e.source e.target V W e.images S.embedding l B undone same b vb;
      }

-- ---- the map through which an embedding goes
module _ (i j : FieldMap) (S : IsSmallEmbedding i) (T : IsSmallEmbedding j)
    (join : i.target ≡ j.target) (k l : List (List ℕ)) (P : IsMap i.target i.source k)
    (Q : IsMap j.target j.source l) (first : IsUndone i k) (second : IsUndone j l)
    (divides : degree_of i.source ∣ degree_of j.source) where
  ended : IsEmbedding i.source j.target i.images
  ended = subst (λ x. IsEmbedding i.source x i.images) join S.embedding

  ended_back : IsMap j.target i.source k
  ended_back = subst (λ x. IsMap x i.source k) join P

  ended_undone : (x : List ℕ) → (field_values i.source).Valid x
      → apply i.source k (apply j.target i.images x) ≡ x
  ended_undone = subst (λ y. (x : List ℕ) → (field_values i.source).Valid x
      → apply i.source k (apply y i.images x) ≡ x) join first

  -- **the map through which the first one goes is kept**
  pub through_kept : (m u : ModularMatrix) → m.prime ≡ j.source.characteristic
      → m.matrix.rows ≡ degree_of j.source → u.prime ≡ i.source.characteristic
      → u.matrix ≡ record { rows = degree_of i.source; columns = comp i.source j.images k }
      → IsKept (record {
        source = i.source;
        target = j.source;
        images = comp j.source i.images l;
      }) m u
  through_kept m u prime rows uprime is =
      let U = S.source.finite in
      let V = T.source.finite in
      let W = T.target.finite in
      let columns : u.matrix.columns ≡ comp i.source j.images k =
      ap (λ (c : Matrix ℕ). c.columns) is in record {
        small = record {
          source = S.source;
          target = T.source;
          embedding = through_embedding i.source j.source j.target U V W i.images j.images ended
              T.embedding k l ended_back Q ended_undone second divides;
        };
        matrix_prime = prime;
        matrix_rows = rows;
        inverse_prime = uprime;
        inverse_rows = ap (λ (c : Matrix ℕ). c.rows) is;
        back = subst (IsMap j.source i.source) (sym columns)
            (comp_map j.source j.target i.source U j.images k
            (embedding_map j.source j.target j.images T.embedding) ended_back);
        undone = λ x vx. ap (λ c. apply i.source c
            (apply j.source (comp j.source i.images l) x)) columns
            ∙ through_undone i.source j.source j.target U V W i.images j.images ended T.embedding k
            l ended_back Q ended_undone second divides x vx;
      }

  -- and with the second one after it, it is the first one
  pub through_is_followed : comp j.target (comp j.source i.images l) j.images ≡ i.images
  through_is_followed = through_followed i.source j.source j.target S.source.finite
      T.source.finite T.target.finite i.images j.images ended T.embedding k l ended_back Q
      ended_undone second divides

-- ---- the image of the generator
-- **from degree 2 on, the image of the generator is the second column**
pub second_is_image : (e : FieldMap) → IsSmallEmbedding e → 1 < degree_of e.source
    → slice_index_or e.images 1 [] ≡ apply e.target e.images (generator e.source)
second_is_image e S above =
    let V = S.source.finite in
    let W = S.target.finite in
    let o = (field_values e.target).ops in
    let v : List ℕ = apply e.target e.images (generator e.source) in
    let vv : (field_values e.target).Valid v = apply_valid e.source e.target V W e.images
    S.embedding (generator e.source) (generator_is_value e.source e.target V W) in
    ap (λ m. slice_index_or m 1 [])
    (embedding_is_powers_of_image e.source e.target V W e.images S.embedding)
    ∙ get_or-map-range_with_len (power o v) 0 (degree_of e.source) 1 1 [] above (omega arith)
    ∙ (values_field e.target W).ring.one_mul v vv
