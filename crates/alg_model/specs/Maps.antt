-- Finite fields, and maps between them as the images of 1, x, x^2, ..
--     Field                        a characteristic and a polynomial over its residues
--     IsFiniteField K              a prime, and a monic irreducible polynomial
--     field_values K               the values of K: residues modulo its polynomial
--     degree_of K, generator K     the degree of its polynomial; the class of x
--     constant K c, constants K f  a residue as a value; the coefficients of f as values
--     apply F m a                  a_0 * m_0 + a_1 * m_1 + .., for a map m into F
--     comp F m n                   m followed by n, which ends in F
--     identity_map K               1, x, .., x^(deg K - 1)
--     powers F v n                 1, v, .., v^(n - 1)
--     frobenius_map F t            the map of F into itself that sends a to a^(p^t)
--     IsEmbedding E F m            m keeps one, sums and products
--     IsMeet I J K L u v a b       what a and b send to one value comes by u and v from one of L
use Rattle.std.specs.Prelude.{◌≡◌, ℕ, ◌^◌, List, [], ◌∷◌, length, map, All}
use Rattle.std.specs.List.{range_with_len}
use Rattle.alg_model.specs.Coefficients.{Carrier, power, mod_ops, residues, IsPrime}
use Rattle.alg_model.specs.Factors.{IsMonic, IsIrreducible}
use Rattle.alg_model.specs.Values.{degree, padded, remainder, values}
use Rattle.alg_model.specs.Matrices.{Matrix, matrix_apply, identity_matrix}

pub record Field : Type 0 where
  pub characteristic : ℕ
  pub polynomial : List ℕ

pub record IsFiniteField (K : Field) : Type 0 where
  pub characteristic : IsPrime K.characteristic
  pub monic : IsMonic (residues K.characteristic) K.polynomial
  pub irreducible : IsIrreducible (residues K.characteristic) K.polynomial

abbrev pub field_values : Field → Carrier (List ℕ)
field_values K = values (residues K.characteristic) K.polynomial

abbrev pub degree_of : Field → ℕ
degree_of K = degree K.polynomial

abbrev pub generator : Field → List ℕ
generator K = remainder (mod_ops K.characteristic) K.polynomial (0 ∷ 1 ∷ [])

abbrev pub constant : Field → ℕ → List ℕ
constant K c = padded (mod_ops K.characteristic) (degree_of K) (c ∷ [])

abbrev pub constants : Field → List ℕ → List (List ℕ)
constants K f = map (constant K) f

-- a map into F has the images of 1, x, .. for its columns
abbrev pub map_matrix : Field → List (List ℕ) → Matrix ℕ
map_matrix F m = record { rows = degree_of F; columns = m }

abbrev pub apply : Field → List (List ℕ) → List ℕ → List ℕ
apply F m a = matrix_apply (mod_ops F.characteristic) (map_matrix F m) a

abbrev pub comp : Field → List (List ℕ) → List (List ℕ) → List (List ℕ)
comp F m n = map (apply F n) m

abbrev pub identity_map : Field → List (List ℕ)
identity_map K = (identity_matrix (mod_ops K.characteristic) (degree_of K)).columns

abbrev pub powers : Field → List ℕ → ℕ → List (List ℕ)
powers F v n = map (power (field_values F).ops v) (range_with_len 0 n)

abbrev pub frobenius_map : Field → ℕ → List (List ℕ)
frobenius_map F t = powers F (power (field_values F).ops (generator F) (F.characteristic ^ t))
    (degree_of F)

pub record IsEmbedding (E F : Field) (m : List (List ℕ)) : Type 0 where
  pub same_characteristic : E.characteristic ≡ F.characteristic
  pub count : length m ≡ degree_of E
  pub images : All (field_values F).Valid m
  pub one : apply F m (field_values E).ops.one ≡ (field_values F).ops.one
  pub sums : (a b : List ℕ) → (field_values E).Valid a → (field_values E).Valid b
      → apply F m ((field_values E).ops.add a b)
      ≡ (field_values F).ops.add (apply F m a) (apply F m b)
  pub products : (a b : List ℕ) → (field_values E).Valid a → (field_values E).Valid b
      → apply F m ((field_values E).ops.mul a b)
      ≡ (field_values F).ops.mul (apply F m a) (apply F m b)

-- a takes I into K and b takes J into K; u takes L into I and v takes L into J
abbrev pub IsMeet : Field → Field → Field → Field → List (List ℕ) → List (List ℕ) → List (List ℕ)
    → List (List ℕ) → Type 0
IsMeet I J K L u v a b = (x y : List ℕ) → (field_values I).Valid x → (field_values J).Valid y
    → apply K a x ≡ apply K b y
    → (z : List ℕ) × (field_values L).Valid z × (apply I u z ≡ x) × (apply J v z ≡ y)
