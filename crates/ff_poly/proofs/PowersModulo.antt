-- Powers of polynomials modulo another, by squaring.
use Rattle.std.proofs.Common.{◌≡◌, ℕ, ◌+◌, ◌<◌, List, length, refl, ap, sym, ◌∙◌, add-one}
use Rattle.alg_model.specs.Coefficients.{Ops, Carrier, power}
use Rattle.alg_model.specs.Polynomials.{poly_product, poly_power}
use Rattle.alg_model.specs.Factors.{IsPolynomial, IsDivision}
use Rattle.alg_model.specs.Fields.{IsField}
use Rattle.alg_rings.specs.Laws.{RingLaws, IsPropositional}
use Rattle.alg_rings.proofs.Divisors.{Polynomial, polynomial_ops, polynomial_laws, same_polynomial}
use Rattle.alg_rings.proofs.Modulo.{Same, same_itself, same_from_equal, same_trans, same_product, same_power}
use Rattle.alg_rings.proofs.Powers.{power_add}
use Rattle.alg_rings.proofs.Divisors.{power_is}

-- r is the remainder of a by f
abbrev pub Leaves : {A : Type 0} → Carrier A → List A → List A → List A → Type 0
Leaves {A} c a f r = (q : List A) × IsDivision c a f q r

module _ {A : Type 0} {c : Carrier A} (P : IsPropositional c) (F : IsField c) where
  abbrev Q : Ops (Polynomial c)
  Q = polynomial_ops P F.ring

  abbrev L : RingLaws (polynomial_ops P F.ring)
  L = polynomial_laws P F.ring

  -- dividend and remainder are the same modulo the divisor
  same_from : (a f : Polynomial c) (x r : List A) (D : Leaves c x f.0 r) → a.0 ≡ x → Same (polynomial_ops P F.ring) f a (r, D.1.remainder)
  same_from a f x r D e =
      record { quotient = (D.0, D.1.quotient); identity = same_polynomial P F.ring _ _ (e ∙ sym D.1.identity) }

  leaves_from : (a f r : Polynomial c) (x : List A) → Same (polynomial_ops P F.ring) f a r → length r.0 < length f.0 → a.0 ≡ x → Leaves c x f.0 r.0
  leaves_from a f r x h l e = (
    h.quotient.0,
    record {
      quotient = h.quotient.1;
      remainder = r.1;
      identity = sym (ap (λ (y : Polynomial c). y.0) h.identity) ∙ e;
      smaller = l;
    },
  )

  -- from a^h to a^(2 h)
  pub square_leaves : (a f r s : List A) (h n : ℕ) → IsPolynomial c a → IsPolynomial c f → n ≡ h + h
      → Leaves c (poly_power c.ops a h) f r → Leaves c (poly_product c.ops r r) f s → Leaves c (poly_power c.ops a n) f s
  square_leaves a f r s h n va vf e D S =
      let x : Polynomial c = (a, va) in
      let y : Polynomial c = (f, vf) in
      let root : Polynomial c = (r, D.1.remainder) in
      leaves_from (power Q x n) y (s, S.1.remainder) (poly_power c.ops a n)
      (same_trans L (same_from_equal L (ap (power Q x) e ∙ power_add L x h h))
      (same_trans L (same_product L (same_from (power Q x h) y (poly_power c.ops a h) r D (power_is P F.ring x h)) (same_from (power Q x h) y (poly_power c.ops a h) r D (power_is P F.ring x h)))
      (same_from (Q.mul root root) y (poly_product c.ops r r) s S refl)))
      S.1.smaller (power_is P F.ring x n)

  -- from a^n to a^(n + 1)
  pub next_leaves : (a f s t : List A) (n m : ℕ) → IsPolynomial c a → IsPolynomial c f → m ≡ n + 1
      → Leaves c (poly_power c.ops a n) f s → Leaves c (poly_product c.ops s a) f t → Leaves c (poly_power c.ops a m) f t
  next_leaves a f s t n m va vf e D T =
      let x : Polynomial c = (a, va) in
      let y : Polynomial c = (f, vf) in
      let known : Polynomial c = (s, D.1.remainder) in
      leaves_from (power Q x m) y (t, T.1.remainder) (poly_power c.ops a m)
      (same_trans L (same_from_equal L (ap (power Q x) (e ∙ add-one n)))
      (same_trans L (same_product L (same_from (power Q x n) y (poly_power c.ops a n) s D (power_is P F.ring x n)) (same_itself L y x))
      (same_from (Q.mul known x) y (poly_product c.ops s a) t T refl)))
      T.1.smaller (power_is P F.ring x m)

  -- the power of a remainder leaves what the power leaves
  pub power_leaves : (a f b r : List A) (n : ℕ) → IsPolynomial c a → IsPolynomial c f
      → Leaves c a f b → Leaves c (poly_power c.ops b n) f r → Leaves c (poly_power c.ops a n) f r
  power_leaves a f b r n va vf D T =
      let x : Polynomial c = (a, va) in
      let y : Polynomial c = (f, vf) in
      let z : Polynomial c = (b, D.1.remainder) in
      leaves_from (power Q x n) y (r, T.1.remainder) (poly_power c.ops a n)
      (same_trans L (same_power L (same_from x y a b D refl) n) (same_from (power Q z n) y (poly_power c.ops b n) r T (power_is P F.ring z n)))
      T.1.smaller (power_is P F.ring x n)
