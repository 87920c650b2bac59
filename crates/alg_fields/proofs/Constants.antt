-- Constants among the polynomials over a carrier.
use Rattle.std.proofs.Common.{◌≡◌, ◌≤◌, ◌==◌, Bool, true, false, cond, List, [], ◌∷◌, length, All, refl, ◌∙◌, arith}
use Rattle.std.proofs.lemmas.List.Elements.{All-nil, All-cons, All-head}
use Rattle.alg_model.specs.Coefficients.{Carrier}
use Rattle.alg_model.specs.Factors.{IsPolynomial}
use Rattle.alg_model.specs.Fields.{IsRing}
use Rattle.alg_rings.specs.Laws.{IsPropositional}
use Rattle.alg_rings.proofs.Trims
use Rattle.alg_rings.proofs.Homomorphisms.{Homomorphism}
use Rattle.alg_rings.proofs.Elements.{Element, element_ops, underlying_injective, on_elements}
use Rattle.alg_rings.proofs.Divisors.{Polynomial, polynomial_ops, same_polynomial, on_polynomials}
use Rattle.alg_fields.proofs.Classes
use Rattle.alg_fields.proofs.Classes.{class_of}

module _ {A : Type 0} {c : Carrier A} (P : IsPropositional c) (R : IsRing c) where
  open on_elements P R use {ops as E}
  open on_polynomials P R use {ops as Q}

  pub alone : (a : Element c) → All c.Valid (a.0 ∷ [])
  alone a = All-cons c.Valid a.0 [] a.1 (All-nil c.Valid)

  abbrev pub constant : Element c → Polynomial c
  constant a = class_of P R (a.0 ∷ []) (alone a)

  length_one_or_none : (b : Bool) (x : A) → b ≡ (length (cond b [] (x ∷ [])) == 0)
  length_one_or_none true x = refl
  length_one_or_none false x = refl

  pub constant_homomorphism : Homomorphism (element_ops R) (polynomial_ops P R) constant
  constant_homomorphism = record {
    zero = Classes.class_of_zeros P R 1 (alone E.zero);
    one = same_polynomial P R (constant E.one) Q.one refl;
    add = λ a b. Classes.class_of_sum P R (a.0 ∷ []) (b.0 ∷ []) (alone a) (alone b) (alone (E.add a b));
    mul = λ a b. Classes.class_of_product P R (a.0 ∷ []) (b.0 ∷ []) (alone a) (alone b) (alone (E.mul a b));
    neg = λ a. Classes.class_of_negative P R (a.0 ∷ []) (alone a) (alone (E.neg a));
    is_zero = λ a. length_one_or_none (c.ops.is_zero a.0) a.0;
  }

  pub constant_injective : (a b : Element c) → constant a ≡ constant b → a ≡ b
  constant_injective a b e =
      let same : a.0 ∷ [] ≡ b.0 ∷ [] = Classes.same_from_class P R (a.0 ∷ []) (b.0 ∷ []) (alone a) (alone b) refl e in
      underlying_injective P a b (cc)

  pub length_constant : (a : Element c) → length (constant a).0 ≤ 1
  length_constant a = Trims.length_trim c.ops (a.0 ∷ [])

  constant_of_list : (g : List A) (v : IsPolynomial c g) → length g ≤ 1 → (a : Element c) × (constant a ≡ (g, v))
  constant_of_list [] v l = (E.zero, constant_homomorphism.zero ∙ same_polynomial P R Q.zero ([], v) refl)
  constant_of_list (x ∷ []) v l =
      let a : Element c = (x, All-head c.Valid x [] v.0) in (a, same_polynomial P R (constant a) (x ∷ [], v) v.1)
  constant_of_list (x ∷ y ∷ ys) v l = absurd (omega arith)

  -- a polynomial of at most one coefficient is a constant
  pub constant_from_length : (f : Polynomial c) → length f.0 ≤ 1 → (a : Element c) × (constant a ≡ f)
  constant_from_length f l = constant_of_list f.0 f.1 l
