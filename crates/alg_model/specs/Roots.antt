-- Roots in a finite field, the least of them, and the least polynomials.
--     IsRoot F g v                 v is a value of F at which g, with coefficients in F, is zero
--     IsBefore a b                 a comes before b, from the highest place down
--     IsLeastRoot F g v            the first of the roots
--     IsLeastIrreducible p n f     the first monic irreducible polynomial of degree n over the
--                                  residues modulo p
--     IsMinimal F a g              the monic polynomial of least degree over the prime field that
--                                  is zero at a
--     IsMinimalOver E F m a g      the same with coefficients in E, taken into F by the map m
use Rattle.std.specs.Prelude.{◌≡◌, ℕ, ◌≤◌, List, length, map}
use Rattle.std.specs.Ordering.{nat_cmp}
use Rattle.std.specs.declared.cmp.Ordering.TheVariants.{Less}
use Rattle.alg_model.specs.Coefficients.{Carrier, residues}
use Rattle.alg_model.specs.Polynomials.{evaluate}
use Rattle.alg_model.specs.Factors.{IsPolynomial, IsMonic, IsIrreducible, order_by}
use Rattle.alg_model.specs.Values.{degree}
use Rattle.alg_model.specs.Maps.{Field, field_values, constant, apply}

abbrev pub IsRoot : Field → List (List ℕ) → List ℕ → Type 0
IsRoot F g v = (field_values F).Valid v
    × (evaluate (field_values F).ops g v ≡ (field_values F).ops.zero)

-- values have one length, so that the highest place at which they differ decides
abbrev pub IsBefore : List ℕ → List ℕ → Type 0
IsBefore a b = order_by nat_cmp a b ≡ Less

pub record IsLeastRoot (F : Field) (g : List (List ℕ)) (v : List ℕ) : Type 0 where
  pub root : IsRoot F g v
  pub least : (w : List ℕ) → IsRoot F g w → IsBefore w v → ⊥

pub record IsLeastIrreducible (p n : ℕ) (f : List ℕ) : Type 0 where
  pub monic : IsMonic (residues p) f
  pub irreducible : IsIrreducible (residues p) f
  pub of_degree : degree f ≡ n
  pub least : (g : List ℕ) → IsMonic (residues p) g → IsIrreducible (residues p) g → degree g ≡ n
      → IsBefore g f → ⊥

-- over any carrier c whose elements `image` takes into d
pub record IsMinimalPolynomial {A B : Type 0} (c : Carrier A) (d : Carrier B) (image : A → B)
    (a : B) (g : List A) : Type 0 where
  pub polynomial : IsPolynomial c g
  pub monic : IsMonic c g
  pub vanishes : evaluate d.ops (map image g) a ≡ d.ops.zero
  pub least : (h : List A) → IsPolynomial c h → IsMonic c h
      → evaluate d.ops (map image h) a ≡ d.ops.zero → length g ≤ length h

abbrev pub IsMinimal : Field → List ℕ → List ℕ → Type 0
IsMinimal F a g = IsMinimalPolynomial (residues F.characteristic) (field_values F) (constant F) a g

abbrev pub IsMinimalOver : Field → Field → List (List ℕ) → List ℕ → List (List ℕ) → Type 0
IsMinimalOver E F m a g = IsMinimalPolynomial (field_values E) (field_values F) (apply F m) a g
