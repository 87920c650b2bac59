-- The values over a field c modulo a monic f of degree at least 1 are a ring; for an irreducible f they are a field. So a field
-- stands over a field: c may be a carrier of values itself.
use Rattle.std.proofs.Common.{◌≡◌, ◌↔◌, IsTrue, Bool, ℕ, zero, suc, ◌-◌, ◌<◌, ◌&&◌, List, [], ◌∷◌, length, replicate, All, refl, ap₂, sym, ◌∙◌, arith, ⊎_elim}
use Rattle.std.proofs.lemmas.Bool.{and_parts}
use Rattle.std.proofs.lemmas.List.{length-map, length-replicate}
use Rattle.std.proofs.lemmas.List.Elements.{All-nil, All-cons, All-append, All-replicate, All-head, All-tail}
use Rattle.std.specs.List.{list_all}
use native.Mathlib.Nat.{ℕ_set}
use mathlib.Core.List.{is_set}
use Rattle.alg_model.specs.Coefficients.{Carrier}
use Rattle.alg_model.specs.Polynomials.{product, trim}
use Rattle.alg_model.specs.Factors.{IsMonic, IsIrreducible}
use Rattle.alg_model.specs.Values.{degree, remainder, values}
use Rattle.alg_model.specs.Fields.{IsRing, IsField}
use Rattle.alg_rings.specs.Laws.{IsPropositional}
use Rattle.alg_rings.proofs.Rings
use Rattle.alg_rings.proofs.Lists
use Rattle.alg_rings.proofs.Trims
use Rattle.alg_rings.proofs.Validity.{sum_valid, product_valid, negatives_valid}
use Rattle.alg_rings.proofs.Divisors.{Polynomial, same_polynomial}
use Rattle.alg_rings.proofs.Modulo
use Rattle.alg_rings.proofs.Modulo.{Same}
use Rattle.alg_divisors.proofs.Euclidean
use Rattle.alg_divisors.proofs.Irreducible
use Rattle.alg_divisors.proofs.EuclideanPolynomials.{over_field}
use Rattle.alg_divisors.proofs.PolynomialFactors.{irreducible_from}
use Rattle.alg_fields.proofs.ListRemainders.{length_remainder}
use Rattle.alg_fields.proofs.Classes
use Rattle.alg_fields.proofs.Classes.{class_of}
use Rattle.alg_fields.proofs.Quotients.{IsQuotient, quotient_ring, quotient_field}

pub values_propositional : {A : Type 0} {c : Carrier A} → IsPropositional c → (f : List A) → IsPropositional (values c f)
values_propositional P f = record { set = is_set P.set; valid = λ x. hlevel (P.valid, ℕ_set) }

zero_step : {A : Type 0} (test : A → Bool) (z x : A) (xs zs : List A) → IsTrue (test x) ↔ (x ≡ z) → IsTrue (list_all test xs) ↔ (xs ≡ zs)
    → IsTrue (list_all test (x ∷ xs)) ↔ (x ∷ xs ≡ z ∷ zs)
zero_step test z x xs zs first rest = (
  (λ h. let parts = and_parts (test x) (list_all test xs) h in ap₂ ◌∷◌ (first.0 parts.0) (rest.0 parts.1)),
  (λ h. let head : x ≡ z = cc in let tail : xs ≡ zs = cc in ap₂ ◌&&◌ (first.1 head) (rest.1 tail)),
)

all_zero_iff : {A : Type 0} {c : Carrier A} → IsRing c → (n : ℕ) (x : List A) → All c.Valid x → length x ≡ n
    → IsTrue (list_all c.ops.is_zero x) ↔ (x ≡ replicate n c.ops.zero)
all_zero_iff R zero [] v e = ((λ h. refl), (λ h. refl))
all_zero_iff R zero (x ∷ xs) v e = absurd (omega arith)
all_zero_iff R (suc n) [] v e = absurd (omega arith)
all_zero_iff {A} {c} R (suc n) (x ∷ xs) v e =
    zero_step c.ops.is_zero c.ops.zero x xs (replicate n c.ops.zero) (R.zero_test x (All-head c.Valid x xs v))
    (all_zero_iff R n xs (All-tail c.Valid x xs v) (omega arith))

module _ {A : Type 0} {c : Carrier A} (P : IsPropositional c) (F : IsField c) (f : Polynomial c) (not_constant : 1 < length f.0) (monic : IsMonic c f.0) where
  open over_field P F use {ops as Q, laws as E}

  -- the polynomial that a value stands for
  abbrev pub polynomial_of : (x : List A) → (values c f.0).Valid x → Polynomial c
  polynomial_of x v = class_of P F.ring x v.0

  -- polynomials of fewer coefficients than f that are the same modulo f are equal
  pub same_small : (a b : Polynomial c) → length a.0 < length f.0 → length b.0 < length f.0 → Same Q f a b → a ≡ b
  same_small a b l m s = Rings.same_from_difference E.ring a b (⊎_elim (λ z. z)
      (λ n. absurd (omega (arith, Euclidean.size_of_divisor E (Modulo.divides_from_same E.ring s) n, Trims.length_poly_difference c.ops a.0 b.0)))
      (Rings.zero_or_not Q E.ring.zero_test (Q.add a (Q.neg b))))

  one_alone : All c.Valid (c.ops.one ∷ [])
  one_alone = All-cons c.Valid c.ops.one [] F.ring.one_valid (All-nil c.Valid)

  one_valid : (values c f.0).Valid (values c f.0).ops.one
  one_valid = (
    All-append c.Valid (c.ops.one ∷ []) (replicate (degree f.0 - 1) c.ops.zero) one_alone
        (All-replicate c.Valid (degree f.0 - 1) c.ops.zero F.ring.zero_valid),
    omega (arith, length-replicate (degree f.0 - 1) c.ops.zero),
  )

  small : (x : List A) (v : (values c f.0).Valid x) → length (trim c.ops x) < length f.0
  small x v = omega (arith, Trims.length_trim c.ops x, v.1)

  pub values_quotient : IsQuotient (values c f.0) Q f polynomial_of
  values_quotient = record {
    zero_valid = (All-replicate c.Valid (degree f.0) c.ops.zero F.ring.zero_valid, length-replicate (degree f.0) c.ops.zero);
    one_valid = one_valid;
    add_valid = λ x y vx vy. (sum_valid F.ring x y vx.0 vy.0, omega (arith, Lists.length_sum c.ops x y));
    mul_valid = λ x y vx vy. (Classes.remainder_valid P F.ring f.0 (product c.ops x y) f.1.0 (product_valid F.ring x y vx.0 vy.0), length_remainder c.ops f.0 not_constant (product c.ops x y));
    neg_valid = λ x vx. (negatives_valid F.ring x vx.0, length-map x c.ops.neg ∙ vx.1);
    zero_test = λ x vx. all_zero_iff F.ring (degree f.0) x vx.0 vx.1;
    equal = λ x y vx vy s. Classes.same_from_class P F.ring x y vx.0 vy.0 (vx.1 ∙ sym vy.1)
        (same_small (polynomial_of x vx) (polynomial_of y vy) (small x vx) (small y vy) s);
    zero = λ h. Modulo.same_from_equal E.ring (Classes.class_of_zeros P F.ring (degree f.0) h.0);
    one = Modulo.same_from_equal E.ring (Classes.class_of_padded P F.ring (degree f.0) (c.ops.one ∷ []) one_alone one_valid.0
        ∙ same_polynomial P F.ring (class_of P F.ring (c.ops.one ∷ []) one_alone) Q.one refl);
    add = λ x y vx vy. Modulo.same_from_equal E.ring (Classes.class_of_sum P F.ring x y vx.0 vy.0 _);
    mul = λ x y vx vy. Modulo.same_trans E.ring
        (Modulo.same_back E.ring (Classes.remainder_same P F.ring f not_constant monic (product c.ops x y) (product_valid F.ring x y vx.0 vy.0)
        (Classes.remainder_valid P F.ring f.0 (product c.ops x y) f.1.0 (product_valid F.ring x y vx.0 vy.0))))
        (Modulo.same_from_equal E.ring (Classes.class_of_product P F.ring x y vx.0 vy.0 (product_valid F.ring x y vx.0 vy.0)));
    neg = λ x vx. Modulo.same_from_equal E.ring (Classes.class_of_negative P F.ring x vx.0 _);
  }

  -- **the values modulo f are a ring**
  pub values_ring : IsRing (values c f.0)
  values_ring = quotient_ring E.ring values_quotient

  -- the value that a polynomial is the same as
  value_of_polynomial : (a : Polynomial c) → (x : List A) × (v : (values c f.0).Valid x) × Same Q f (polynomial_of x v) a
  value_of_polynomial a =
      let v : All c.Valid (remainder c.ops f.0 a.0) = Classes.remainder_valid P F.ring f.0 a.0 f.1.0 a.1.0 in (
        remainder c.ops f.0 a.0,
        (v, length_remainder c.ops f.0 not_constant a.0),
        Modulo.same_trans E.ring (Modulo.same_back E.ring (Classes.remainder_same P F.ring f not_constant monic a.0 a.1.0 v))
            (Modulo.same_from_equal E.ring (Classes.class_of_polynomial P F.ring a)),
      )

  -- **the values modulo an irreducible f are a field**
  pub values_field : IsIrreducible c f.0 → IsField (values c f.0)
  values_field i = quotient_field E.ring values_quotient value_of_polynomial
      (λ d. absurd (omega (arith, Euclidean.unit_from_divisor E f d)))
      (Irreducible.coprime_or_divides E (irreducible_from P F f i))
