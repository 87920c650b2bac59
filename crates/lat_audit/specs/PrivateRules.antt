-- The rules at some fields: each is kept there or broken. No public clause cites this module.
--     KeepsInverse L i j           an isomorphism from i to j has its inverse
--     KeepsComposition L i j k     the composition from i by j to k is stored
--     BreaksInverse L i j, ..      the first place at which it isn't so
use Rattle.std.specs.Prelude.{◌≡◌, ℕ, ◌<◌, ◌≤◌, List, length, Contains}
use Rattle.std.specs.Int.{IsGcd}
use Rattle.alg_model.specs.Maps.{IsFiniteField, degree_of, comp, identity_map, IsEmbedding}
use Rattle.alg_model.specs.Lattices.{first_edition, Lattice, field_at, pair_cmp, Stored}
use Rattle.std.specs.Ordering.{nat_cmp}
use Rattle.lat_audit.specs.Verdicts.{IsFirst, None, triple_cmp, LacksIdentity, LacksPrimeSubfield, LacksInverse, LacksComposition, LacksIntersection, HasInverse, IsPrimeField, IsIntersection}
use Rattle.lat_audit.specs.declared.faults.Fault.{Fault}
use Rattle.lat_audit.specs.declared.faults.Fault.TheVariants as fault

module _ (L : Lattice) where
  abbrev pub HasIdentity : ℕ → Type 0
  HasIdentity i = Stored L i i (identity_map (field_at L.rows i))

  pub record HasPrimeSubfield (j : ℕ) : Type 0 where
    pub number : ℕ
    pub map : List (List ℕ)
    pub prime : IsPrimeField L number j
    pub stored : Stored L number j map

  -- the fields are those of the first edition
  pub record IsOfEdition : Type 0 where
    pub edition : L.edition ≡ first_edition
    pub enough : length first_edition.primes ≤ length L.rows
    pub known : (j : ℕ) → j < length L.rows
        → Contains first_edition.primes (field_at L.rows j).characteristic

  abbrev pub KeepsInverse : ℕ → ℕ → Type 0
  KeepsInverse i j = (m : List (List ℕ)) → Stored L i j m
      → degree_of (field_at L.rows i) ≡ degree_of (field_at L.rows j)
      → (n : List (List ℕ)) × HasInverse L i j m n

  abbrev pub KeepsComposition : ℕ → ℕ → ℕ → Type 0
  KeepsComposition i j k = (m n : List (List ℕ)) → Stored L i j m → Stored L j k n
      → Stored L i k (comp (field_at L.rows k) m n)

  pub record BreaksInverse (i j : ℕ) : Type 0 where
    pub within : j < length L.rows
    pub broken : LacksInverse L (i, j)
    pub before : (b : ℕ) → b < j → KeepsInverse i b

  pub record BreaksComposition (i j k : ℕ) : Type 0 where
    pub within : k < length L.rows
    pub broken : LacksComposition L (i, j, k)
    pub before : (b : ℕ) → b < k → KeepsComposition i j b

  -- what the degrees of common subfields tell rests on: finite fields, embeddings, compositions
  pub record AreComposed : Type 0 where
    pub finite : (i : ℕ) → i < length L.rows → IsFiniteField (field_at L.rows i)
    pub within : (i j : ℕ) (m : List (List ℕ)) → Stored L i j m
        → (i < length L.rows) × (j < length L.rows)
    pub embedding : (i j : ℕ) (m : List (List ℕ)) → Stored L i j m
        → IsEmbedding (field_at L.rows i) (field_at L.rows j) m
    pub composed : (i j k : ℕ) → i < length L.rows → j < length L.rows → k < length L.rows
        → KeepsComposition i j k

  -- l goes into both, and has the degree of their intersection
  pub record IsCommonSubfield (i j l : ℕ) : Type 0 where
    pub first : (u : List (List ℕ)) × Stored L l i u
    pub second : (v : List (List ℕ)) × Stored L l j v
    pub degree : IsGcd (degree_of (field_at L.rows i)) (degree_of (field_at L.rows j))
        (degree_of (field_at L.rows l))

  -- both go into k
  pub record HaveOverfield (i j k : ℕ) : Type 0 where
    pub first : (a : List (List ℕ)) × Stored L i k a
    pub second : (b : List (List ℕ)) × Stored L j k b

  abbrev pub KeepsIntersection : ℕ → ℕ → ℕ → Type 0
  KeepsIntersection i j k = (a b : List (List ℕ)) → Stored L i k a → Stored L j k b
      → (l : ℕ) × (u : List (List ℕ)) × (v : List (List ℕ)) × IsIntersection L i j k l a b u v

  pub record BreaksIntersection (i j k : ℕ) : Type 0 where
    pub within : k < length L.rows
    pub broken : LacksIntersection L (i, j, k)
    pub before : (b : ℕ) → b < k → KeepsIntersection i j b

  -- finite fields, and embeddings between them
  pub record HoldsMaps : Type 0 where
    pub finite : (i : ℕ) → i < length L.rows → IsFiniteField (field_at L.rows i)
    pub within : (i j : ℕ) (m : List (List ℕ)) → Stored L i j m
        → (i < length L.rows) × (j < length L.rows)
    pub embedding : (i j : ℕ) (m : List (List ℕ)) → Stored L i j m
        → IsEmbedding (field_at L.rows i) (field_at L.rows j) m

  -- all rules are kept
  pub record KeepsRules : Type 0 where
    pub identity : (i : ℕ) → i < length L.rows → HasIdentity i
    pub prime_subfield : (j : ℕ) → j < length L.rows → HasPrimeSubfield j
    pub inverse : (i j : ℕ) → i < length L.rows → j < length L.rows → KeepsInverse i j
    pub composition : (i j k : ℕ) → i < length L.rows → j < length L.rows → k < length L.rows
        → KeepsComposition i j k
    pub intersection : (i j k : ℕ) → i < length L.rows → j < length L.rows → k < length L.rows
        → KeepsIntersection i j k

  -- the first rule that is broken, at its first fields; those before it are kept
  pub data RuleFault : Fault → Type 0 where
    no_identity : {i : ℕ} → IsFirst nat_cmp (LacksIdentity L) i → RuleFault (fault.Rule 2 i i i)
    no_prime_subfield : {q j : ℕ} → None (LacksIdentity L)
        → IsFirst nat_cmp (LacksPrimeSubfield L) j → IsPrimeField L q j
        → RuleFault (fault.Rule 3 q j j)
    no_inverse : {i j : ℕ} → None (LacksIdentity L) → None (LacksPrimeSubfield L)
        → IsFirst pair_cmp (LacksInverse L) (i, j) → RuleFault (fault.Rule 4 i j j)
    no_composition : {i j k : ℕ} → None (LacksIdentity L) → None (LacksPrimeSubfield L)
        → None (LacksInverse L) → IsFirst triple_cmp (LacksComposition L) (i, j, k)
        → RuleFault (fault.Rule 5 i j k)
    no_intersection : {i j k : ℕ} → None (LacksIdentity L) → None (LacksPrimeSubfield L)
        → None (LacksInverse L) → None (LacksComposition L)
        → IsFirst triple_cmp (LacksIntersection L) (i, j, k) → RuleFault (fault.Rule 6 i j k)
