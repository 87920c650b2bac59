-- The polynomials over a field have division with remainder by their numbers of coefficients, and a monic associate each.
use Rattle.std.proofs.Common.{◌≡◌, ◌≢◌, ◌<◌, sym, refl, ap, ap₂, ◌∙◌, arith, List, [], ◌∷◌, length, ℕ}
use Rattle.std.proofs.lemmas.List.{nil_from_length}
use Rattle.std.proofs.lemmas.List.Elements.{All-nil, All-cons}
use Rattle.alg_model.specs.Coefficients.{Ops, Carrier}
use Rattle.alg_model.specs.Polynomials.{trim, leading}
use Rattle.alg_model.specs.Factors.{IsPolynomial, IsMonic, IsDivision}
use Rattle.alg_model.specs.Fields.{IsField}
use Rattle.alg_rings.specs.Laws.{FieldLaws, IsPropositional}
use Rattle.alg_rings.proofs.Rings
use Rattle.alg_rings.proofs.Elements.{underlying, element_ops, element_field}
use Rattle.alg_rings.proofs.Validity.{leading_valid}
use Rattle.alg_rings.proofs.CarrierPolynomials.{constant_trimmed, leading_not_zero}
use Rattle.alg_rings.proofs.Divisors.{Polynomial, polynomial_ops, polynomial_laws, same_polynomial, length_poly_product, leading_poly_product, division}
use Rattle.alg_divisors.proofs.Euclidean.{EuclideanLaws}

module _ {A : Type 0} {c : Carrier A} (P : IsPropositional c) (F : IsField c) where
  abbrev L : FieldLaws (element_ops F.ring)
  L = element_field P F

  abbrev Q : Ops (Polynomial c)
  Q = polynomial_ops P F.ring

  pub one_is : trim c.ops (c.ops.one ∷ []) ≡ c.ops.one ∷ []
  one_is = constant_trimmed P F.ring c.ops.one F.ring.one_valid F.one_not_zero

  single : (f : List A) → length f ≡ 1 → f ≡ leading c.ops f ∷ []
  single [] e = absurd (omega arith)
  single (x ∷ []) e = refl
  single (x ∷ y ∷ ys) e = absurd (omega arith)

  not_nil : (x : Polynomial c) → x ≢ Q.zero → x.0 ≢ []
  not_nil x n e = n (same_polynomial P F.ring x Q.zero e)

  divided : (a d : Polynomial c) → (q : List A) × (r : List A) × IsDivision c a.0 d.0 q r
      → (q : Polynomial c) × (r : Polynomial c) × (a ≡ Q.add (Q.mul q d) r) × (length r.0 < length d.0)
  divided a d s = ((s.0, s.2.quotient), (s.1, s.2.remainder), same_polynomial P F.ring _ _ (sym s.2.identity), s.2.smaller)

  monic_quotient : (a b : Polynomial c) → IsMonic c (Q.mul a b).0 → IsMonic c b.0 → IsMonic c a.0
  monic_quotient a b m n = sym (F.ring.one_mul (leading c.ops a.0) (leading_valid F.ring a.0 a.1.0))
      ∙ F.ring.mul_comm c.ops.one (leading c.ops a.0) F.ring.one_valid (leading_valid F.ring a.0 a.1.0)
      ∙ ap (c.ops.mul (leading c.ops a.0)) (sym n) ∙ sym (leading_poly_product P F a.0 b.0 a.1 b.1) ∙ m

  -- times the inverse of the last coefficient
  normalized : (a : Polynomial c) → (y : A) × c.Valid y × (c.ops.mul (leading c.ops a.0) y ≡ c.ops.one)
      → (u : Polynomial c) × (length u.0 ≡ 1) × IsMonic c (Q.mul u a).0
  normalized a i = (
    (i.0 ∷ [], u),
    refl,
    leading_poly_product P F (i.0 ∷ []) a.0 u a.1
        ∙ F.ring.mul_comm i.0 (leading c.ops a.0) i.1 (leading_valid F.ring a.0 a.1.0) ∙ i.2,
  )
    where
      not_zero : i.0 ≢ c.ops.zero
      not_zero z = F.one_not_zero (sym i.2 ∙ ap (c.ops.mul (leading c.ops a.0)) z
          ∙ ap (underlying c) (Rings.mul_zero L.ring (leading c.ops a.0, leading_valid F.ring a.0 a.1.0)))

      u : IsPolynomial c (i.0 ∷ [])
      u = (All-cons c.Valid i.0 [] i.1 (All-nil c.Valid), constant_trimmed P F.ring i.0 i.1 not_zero)

  pub polynomials_euclidean : EuclideanLaws (polynomial_ops P F.ring) (λ x. length x.0) (λ x. IsMonic c x.0)
  polynomials_euclidean = record {
    ring = polynomial_laws P F.ring;
    divide = λ a d n. divided a d (division P F a.0 d.0 a.1 d.1 (not_nil d n));
    size_zero = refl;
    size_one = ap length one_is;
    zero_from_size = λ a e. same_polynomial P F.ring a Q.zero (nil_from_length a.0 e);
    size_mul = λ a b m n. omega (arith, length_poly_product P F a.0 b.0 a.1 b.1 (not_nil a m) (not_nil b n));
    zero_not_monic = λ e. F.one_not_zero (sym e);
    one_monic = ap (leading c.ops) one_is;
    monic_mul = λ a b m n. leading_poly_product P F a.0 b.0 a.1 b.1 ∙ ap₂ c.ops.mul m n ∙ F.ring.one_mul c.ops.one F.ring.one_valid;
    monic_quotient = monic_quotient;
    monic_unit = λ u m e. same_polynomial P F.ring u Q.one (single u.0 e ∙ ap (λ t. t ∷ []) m ∙ sym one_is);
    normalize = λ a n. normalized a (F.inverse (leading c.ops a.0) (leading_valid F.ring a.0 a.1.0) (leading_not_zero P F.ring a.0 a.1 (not_nil a n)));
  }

-- the polynomials over a field as one value, of which a section opens what it speaks of under short
-- names
pub record OverField {A : Type 0} (c : Carrier A) : Type 1 where
  pub ops : Ops (Polynomial c)
  pub size : Polynomial c → ℕ
  pub Monic : Polynomial c → Type 0
  pub laws : EuclideanLaws ops size Monic

abbrev pub over_field : {A : Type 0} {c : Carrier A} → IsPropositional c → IsField c → OverField c
over_field {c = c} P F = record {
  ops = polynomial_ops P F.ring;
  size = λ f. length f.0;
  Monic = λ f. IsMonic c f.0;
  laws = polynomials_euclidean P F;
}
