-- The verdict on a text: the lattice whose dump it is, or its first fault.
--     IsFirst cmp P a            a is the first, in an order, of which P holds
--     IsReducible rows i         the polynomial of field i has a factor
--     IsWrongImage c pair        the image for the pair is that of no embedding
--     Lacks.., Breaks..          a rule of compatible lattices is broken at these fields
--     Judges text verdict        the verdict on a text
use Rattle.std.specs.Prelude.{◌≡◌, ℕ, ◌<◌, List, length, slice_index, All, Contains}
use Rattle.std.specs.Ordering.{nat_cmp, ordering_then}
use Rattle.std.specs.declared.cmp.Ordering.{Ordering}
use Rattle.std.specs.declared.cmp.Ordering.TheVariants.{Less}
use Rattle.alg_model.specs.Coefficients.{residues}
use Rattle.alg_model.specs.Factors.{IsIrreducible}
use Rattle.alg_model.specs.Maps.{degree_of, constants, comp, identity_map, IsMeet}
use Rattle.alg_model.specs.Roots.{IsRoot}
use Rattle.alg_model.specs.Lattices.{first_edition, Row, Lattice, field_at, pair_cmp, Stored, IsCompatible}
use Rattle.lat_core.specs.Names.{IsFieldName}
use Rattle.lat_audit.specs.Dumps.{dump_text}
use Rattle.lat_audit.specs.Readings.{Content, IsDump, IsBadLine, lattice_of}
use Rattle.lat_audit.specs.declared.verdicts.AuditVerdict.{AuditVerdict}
use Rattle.lat_audit.specs.declared.verdicts.AuditVerdict.TheVariants.{Good, BadText, BadField, BadMap, BadRule, NoMemory}

-- ---- the first of several
abbrev pub IsFirst : {A : Type 0} → (A → A → Ordering) → (A → Type 0) → A → Type 0
IsFirst {A} cmp P a = P a × ((b : A) → cmp b a ≡ Less → ¬ P b)

abbrev pub None : {A : Type 0} → (A → Type 0) → Type 0
None {A} P = (a : A) → ¬ P a

-- three numbers, in the order of the first ones, then of the second and then of the third
abbrev pub Triple : Type 0
Triple = ℕ × ℕ × ℕ

abbrev pub triple_cmp : Triple → Triple → Ordering
triple_cmp a b =
    ordering_then (nat_cmp a.0 b.0) (ordering_then (nat_cmp a.1 b.1) (nat_cmp a.2 b.2))

-- ---- fields and maps
pub record IsReducible (rows : List Row) (i : ℕ) : Type 0 where
  pub within : i < length rows
  pub reducible : let F = field_at rows i in
      ¬ IsIrreducible (residues F.characteristic) F.polynomial

-- fields i and j have one characteristic, and v is a root of the polynomial of i in j
pub record IsGeneratorImage (rows : List Row) (i j : ℕ) (v : List ℕ) : Type 0 where
  pub characteristic : (field_at rows i).characteristic ≡ (field_at rows j).characteristic
  pub root : let F = field_at rows j in IsRoot F (constants F (field_at rows i).polynomial) v

abbrev pub IsWrongImage : Content → ℕ × ℕ → Type 0
IsWrongImage c pair = (v : List ℕ) × Contains c.images (pair, v)
    × ¬ IsGeneratorImage c.rows pair.0 pair.1 v

-- ---- the rules of compatible lattices
module _ (L : Lattice) where
  pub record LacksIdentity (i : ℕ) : Type 0 where
    pub within : i < length L.rows
    pub lacking : ¬ Stored L i i (identity_map (field_at L.rows i))

  -- q is the number of the prime field of the characteristic of field j
  pub record IsPrimeField (q j : ℕ) : Type 0 where
    pub within : q < length L.edition.primes
    pub prime : slice_index L.edition.primes q ≡ (field_at L.rows j).characteristic

  pub record LacksPrimeSubfield (j : ℕ) : Type 0 where
    pub within : j < length L.rows
    pub lacking : (q : ℕ) (m : List (List ℕ)) → IsPrimeField q j → ¬ Stored L q j m

  -- n is stored for the way back, and both compositions are identities
  pub record HasInverse (i j : ℕ) (m n : List (List ℕ)) : Type 0 where
    pub stored : Stored L j i n
    pub back : let E = field_at L.rows i in comp E m n ≡ identity_map E
    pub forth : let F = field_at L.rows j in comp F n m ≡ identity_map F

  pub record LacksInverse (pair : ℕ × ℕ) : Type 0 where
    pub map : List (List ℕ)
    pub stored : Stored L pair.0 pair.1 map
    pub isomorphism : degree_of (field_at L.rows pair.0) ≡ degree_of (field_at L.rows pair.1)
    pub lacking : (n : List (List ℕ)) → ¬ HasInverse pair.0 pair.1 map n

  pub record LacksComposition (t : Triple) : Type 0 where
    pub first : List (List ℕ)
    pub second : List (List ℕ)
    pub first_stored : Stored L t.0 t.1 first
    pub second_stored : Stored L t.1 t.2 second
    pub lacking : ¬ Stored L t.0 t.2 (comp (field_at L.rows t.2) first second)

  -- what comes from i by a and from j by b comes from l
  pub record IsIntersection (i j k l : ℕ) (a b u v : List (List ℕ)) : Type 0 where
    pub first : Stored L l i u
    pub second : Stored L l j v
    pub meet : IsMeet (field_at L.rows i) (field_at L.rows j) (field_at L.rows k)
        (field_at L.rows l) u v a b

  pub record LacksIntersection (t : Triple) : Type 0 where
    pub first : List (List ℕ)
    pub second : List (List ℕ)
    pub first_stored : Stored L t.0 t.2 first
    pub second_stored : Stored L t.1 t.2 second
    pub lacking : (l : ℕ) (u v : List (List ℕ))
        → ¬ IsIntersection t.0 t.1 t.2 l first second u v

-- ---- the verdict
-- the text is a dump whose polynomials are irreducible and whose images are those of embeddings
pub record HoldsEmbeddings (text : List ℕ) (c : Content) : Type 0 where
  pub dump : IsDump text c
  pub fields : None (IsReducible c.rows)
  pub maps : None (IsWrongImage c)

-- the rules up to the first that is broken are kept
module _ (text : List ℕ) (c : Content) where
  pub record KeepsIdentities : Type 0 where
    pub embeddings : HoldsEmbeddings text c
    pub kept : None (LacksIdentity (lattice_of c))

  pub record KeepsPrimeSubfields : Type 0 where
    pub before : KeepsIdentities
    pub kept : None (LacksPrimeSubfield (lattice_of c))

  pub record KeepsInverses : Type 0 where
    pub before : KeepsPrimeSubfields
    pub kept : None (LacksInverse (lattice_of c))

  pub record KeepsCompositions : Type 0 where
    pub before : KeepsInverses
    pub kept : None (LacksComposition (lattice_of c))

-- a lattice that a dump may be of: compatible, of the first edition, with names of fields
pub record IsDumped (L : Lattice) : Type 0 where
  pub edition : L.edition ≡ first_edition
  pub names : All (λ row. IsFieldName row.name) L.rows
  pub compatible : IsCompatible L

-- The text is the dump of a lattice, or it has a first fault: a bad line; else a field; else a map;
-- else a rule, of which each is judged at all fields before the next one. Memory may be wanting at
-- any text.
pub data Judges (text : List ℕ) : AuditVerdict → Type 0 where
  good : {L : Lattice} → IsDumped L → text ≡ dump_text L → Judges text (Good L)
  bad_text : {n : ℕ} → IsBadLine text n → Judges text (BadText n)
  bad_field : (c : Content) {i : ℕ} → IsDump text c → IsFirst nat_cmp (IsReducible c.rows) i
      → Judges text (BadField i)
  bad_map : (c : Content) {i j : ℕ} → IsDump text c → None (IsReducible c.rows)
      → IsFirst pair_cmp (IsWrongImage c) (i, j) → Judges text (BadMap i j)
  identity : (c : Content) {i : ℕ} → HoldsEmbeddings text c
      → IsFirst nat_cmp (LacksIdentity (lattice_of c)) i → Judges text (BadRule 2 i i i)
  prime_subfield : (c : Content) {q j : ℕ} → KeepsIdentities text c
      → IsFirst nat_cmp (LacksPrimeSubfield (lattice_of c)) j → IsPrimeField (lattice_of c) q j
      → Judges text (BadRule 3 q j j)
  inverse : (c : Content) {i j : ℕ} → KeepsPrimeSubfields text c
      → IsFirst pair_cmp (LacksInverse (lattice_of c)) (i, j) → Judges text (BadRule 4 i j j)
  transitivity : (c : Content) {i j k : ℕ} → KeepsInverses text c
      → IsFirst triple_cmp (LacksComposition (lattice_of c)) (i, j, k)
      → Judges text (BadRule 5 i j k)
  intersection : (c : Content) {i j k : ℕ} → KeepsCompositions text c
      → IsFirst triple_cmp (LacksIntersection (lattice_of c)) (i, j, k)
      → Judges text (BadRule 6 i j k)
  no_memory : Judges text NoMemory
