-- The polynomials of a table, their values, and what embeddings make of them.
use Rattle.std.specs.Prelude.{◌≡◌, ℕ, ◌==◌, cond, Bool, true, false, List, [], ◌∷◌, All}
use Rattle.std.proofs.Common.{refl, ap, subst, ◌∙◌, rules}
use Rattle.std.proofs.lemmas.List.Elements.{All-nil, All-head, All-tail}
use Rattle.alg_model.specs.Coefficients.{residues}
use Rattle.alg_model.specs.Polynomials.{evaluate}
use Rattle.alg_model.specs.Factors.{IsPolynomial}
use Rattle.alg_model.specs.Maps.{Field, IsFiniteField, field_values, constants, apply, IsEmbedding}
use Rattle.alg_rings.proofs.Elements.{Element}
use Rattle.alg_finite.proofs.Evaluation.{evaluate_by}
use Rattle.alg_galois.proofs.Fields.{modulus_of, ops, of_residue, evaluate_constants}
use Rattle.alg_galois.proofs.EmbeddingRoots.{apply_value_at}
use Rattle.ff_poly.specs.Polynomial.{Polynomial, IsPoly}
use Rattle.natural_ops.specs.Operations.{IsOpTable, coefficients_for, value_at}

-- **what stands in a table for a characteristic is a polynomial over its residues**
pub coefficients_are_polynomial : (table : List Polynomial) (p : ℕ) → All IsPoly table
    → IsPolynomial (residues p) (coefficients_for table p)
coefficients_are_polynomial [] p a = (All-nil (residues p).Valid, refl)
coefficients_are_polynomial (f ∷ fs) p a = of_either (f.prime == p) f.coefficients
    (coefficients_for fs p) (λ e. subst (λ q. IsPolynomial (residues q) f.coefficients)
    (same_number f.prime p e) (All-head IsPoly f fs a).polynomial)
    (coefficients_are_polynomial fs p (All-tail IsPoly f fs a))
  where
    same_number : (a n : ℕ) → (a == n) ≡ true → a ≡ n
    same_number a n e = search rules

    of_either : (b : Bool) (g h : List ℕ) → (b ≡ true → IsPolynomial (residues p) g)
        → IsPolynomial (residues p) h → IsPolynomial (residues p) (cond b g h)
    of_either true g h k l = k refl
    of_either false g h k l = l

-- **the value of a polynomial over the prime field is a value**
pub value_of_constants_valid : (K : Field) → IsFiniteField K → (g : List ℕ)
    → IsPolynomial (residues K.characteristic) g → (a : List ℕ) → (field_values K).Valid a
    → (field_values K).Valid (evaluate (field_values K).ops (constants K g) a)
value_of_constants_valid K W g k a va =
    let z : Element (field_values K) =
    evaluate_by (residues K.characteristic)
    (of_residue K.characteristic W.characteristic K.polynomial (modulus_of K W))
    (ops K.characteristic W.characteristic K.polynomial (modulus_of K W)) (g, k) (a, va) in
    subst (field_values K).Valid
    (evaluate_constants K.characteristic W.characteristic K.polynomial (modulus_of K W) (g, k)
    (a, va)) z.1

-- **so an operation's value is one**
pub value_at_valid : (table : List Polynomial) (K : Field) (a : List ℕ) → IsOpTable table
    → IsFiniteField K → (field_values K).Valid a → (field_values K).Valid (value_at table K a)
value_at_valid table K a t W va = value_of_constants_valid K W
    (coefficients_for table K.characteristic)
    (coefficients_are_polynomial table K.characteristic t.polynomials) a va

-- **an embedding sends an operation's value to its value at the image**
pub value_at_commutes : (table : List Polynomial) (E F : Field) (m : List (List ℕ)) (a : List ℕ)
    → IsOpTable table → IsFiniteField E → IsFiniteField F → IsEmbedding E F m
    → (field_values E).Valid a
    → apply F m (value_at table E a) ≡ value_at table F (apply F m a)
value_at_commutes table E F m a t V W D va =
    apply_value_at E F V W m D (coefficients_for table E.characteristic)
    (coefficients_are_polynomial table E.characteristic t.polynomials) a va
    ∙ ap (λ p. evaluate (field_values F).ops (constants F (coefficients_for table p))
    (apply F m a)) D.same_characteristic
