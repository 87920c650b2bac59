-- The values of the three operations, in the operations of the field.
use Rattle.std.specs.Prelude.{◌≡◌, ℕ, zero, suc, ◌-◌, ◌<◌, List, [], ◌∷◌, ◌++◌, map, replicate}
use Rattle.std.proofs.Common.{refl, ap, ap₂, sym, ◌∙◌, arith}
use Rattle.std.proofs.Math.Nat.{mod-eq_of_lt}
use Rattle.alg_model.specs.Coefficients.{Ops, power, IsCharacteristic}
use Rattle.alg_model.specs.Polynomials.{evaluate}
use Rattle.alg_model.specs.Maps.{Field, IsFiniteField, field_values, constant, constants}
use Rattle.alg_rings.specs.Laws.{RingLaws}
use Rattle.alg_rings.proofs.Elements.{Element, underlying, underlying_homomorphism}
use Rattle.alg_rings.proofs.Homomorphisms.{evaluate-map}
use Rattle.alg_galois.proofs.Fields
use Rattle.alg_galois.proofs.Fields.{modulus_of}
use Rattle.natural_ops.specs.Operations.{value_at}
use Rattle.program_ops.specs.Tables.{table_with, square, artin_schreier, successor}
use Rattle.program_ops.specs.Theorems.{SquareValue, ArtinSchreierValue, SuccessorValue}
use Rattle.program_ops.proofs.PowersOfX.{value_of_square, value_of_power_less_x, value_of_successor}
use Rattle.program_ops.proofs.TablePolynomials.{coefficients_of_table}

module _ (K : Field) (W : IsFiniteField K) where
  abbrev V : Type 0
  V = Element (field_values K)

  abbrev o : Ops V
  o = Fields.ops K.characteristic W.characteristic K.polynomial (modulus_of K W)

  abbrev R : RingLaws o
  R = (Fields.laws K.characteristic W.characteristic K.polynomial (modulus_of K W)).ring

  -- ---- constants
  constant_zero : constant K 0 ≡ o.zero.0
  constant_zero = ap (underlying (field_values K)) (Fields.of_residue_homomorphism
      K.characteristic W.characteristic K.polynomial (modulus_of K W)).zero

  constant_one : constant K 1 ≡ o.one.0
  constant_one = refl

  constant_minus_one : constant K (K.characteristic - 1) ≡ (o.neg o.one).0
  constant_minus_one =
      ap (constant K) (sym (mod-eq_of_lt (let l : 1 < K.characteristic = W.characteristic.above_one in
      let m : K.characteristic - 1 < K.characteristic = omega arith in m)))
      ∙ ap (underlying (field_values K)) ((Fields.of_residue_homomorphism
      K.characteristic W.characteristic K.polynomial (modulus_of K W)).neg
      (1, W.characteristic.above_one))

  constants_of_power : (n : ℕ) → constants K (replicate n 0 ++ (1 ∷ []))
      ≡ map (underlying (field_values K)) (replicate n o.zero ++ (o.one ∷ []))
  constants_of_power zero = refl
  constants_of_power (suc n) = ap₂ ◌∷◌ constant_zero (constants_of_power n)

  -- ---- values
  -- where the coefficients for the characteristic are those of members, so is the value
  value_from : (c : ℕ → List ℕ) (F : List V) (a v : V) → IsCharacteristic K.characteristic
      → constants K (c K.characteristic) ≡ map (underlying (field_values K)) F
      → evaluate o F a ≡ v → value_at (table_with c) K a.0 ≡ v.0
  value_from c F a v h e s =
      ap (λ g. evaluate (field_values K).ops (constants K g) a.0)
      (coefficients_of_table c K.characteristic h)
      ∙ ap (λ g. evaluate (field_values K).ops g a.0) e
      ∙ sym (evaluate-map (underlying_homomorphism (Fields.field_is K.characteristic
      W.characteristic K.polynomial (modulus_of K W)).ring) F a)
      ∙ ap (underlying (field_values K)) s

  power_value : (a : V) (n : ℕ) → (power o a n).0 ≡ power (field_values K).ops a.0 n
  power_value = Fields.power_value K.characteristic W.characteristic K.polynomial (modulus_of K W)

  square_at : (a : V) → IsCharacteristic K.characteristic
      → value_at (table_with square) K a.0 ≡ (o.mul a a).0
  square_at a h = value_from square (o.zero ∷ o.zero ∷ o.one ∷ []) a (o.mul a a) h
      (constants_of_power 2) (value_of_square R a)

  successor_at : (a : V) → IsCharacteristic K.characteristic
      → value_at (table_with successor) K a.0 ≡ (o.add a o.one).0
  successor_at a h = value_from successor (o.one ∷ o.one ∷ []) a (o.add a o.one) h refl
      (value_of_successor R a)

  artin_schreier_at : (a : V) → IsCharacteristic K.characteristic
      → value_at (table_with artin_schreier) K a.0
      ≡ (field_values K).ops.add (power (field_values K).ops a.0 K.characteristic)
      ((field_values K).ops.neg a.0)
  artin_schreier_at a h =
      let l : 1 < K.characteristic = W.characteristic.above_one in
      let e : suc (suc (K.characteristic - 2)) ≡ K.characteristic = omega arith in
      value_from artin_schreier
      (o.zero ∷ o.neg o.one ∷ (replicate (K.characteristic - 2) o.zero ++ (o.one ∷ []))) a
      (o.add (power o a K.characteristic) (o.neg a)) h
      (ap₂ ◌∷◌ constant_zero (ap₂ ◌∷◌ constant_minus_one (constants_of_power (K.characteristic - 2))))
      (value_of_power_less_x R (K.characteristic - 2) a
      ∙ ap (λ n. o.add (power o a n) (o.neg a)) e)
      ∙ ap (λ w. (field_values K).ops.add w ((field_values K).ops.neg a.0))
      (power_value a K.characteristic)

-- **the three laws**
pub square_value : SquareValue
square_value K a h W va = square_at K W (a, va) h

pub artin_schreier_value : ArtinSchreierValue
artin_schreier_value K a h W va = artin_schreier_at K W (a, va) h

pub successor_value : SuccessorValue
successor_value K a h W va = successor_at K W (a, va) h
