-- Elements that are the same modulo f, in any commutative ring.
--     Same o f a b     a = q * f + b for some q
use Rattle.std.proofs.Common.{◌≡◌, ℕ, zero, suc, ap, ap₂, sym, ◌∙◌}
use Rattle.alg_model.specs.Coefficients.{Ops, power}
use Rattle.alg_rings.specs.Laws.{RingLaws}
use Rattle.alg_rings.proofs.Rings
use Rattle.alg_rings.proofs.Rings.{expanded}
use Rattle.alg_rings.proofs.Divisibility.{Divides, divides_same, divides_sum, divides_product}

pub record Same {P : Type 0} (o : Ops P) (f a b : P) : Type 0 where
  pub quotient : P
  pub identity : a ≡ o.add (o.mul quotient f) b

module _ {P : Type 0} {o : Ops P} (L : RingLaws o) where
  open o use {zero as O, one as I, add as ◌⊕◌, mul as ◌⊗◌, neg}

  infixl 60 ◌⊕◌
  infixl 70 ◌⊗◌
  pub same_itself : (f a : P) → Same o f a a
  same_itself f a = record { quotient = O; identity = sym (ap (λ t. t ⊕ a) (Rings.zero_mul L f) ∙ L.zero_add a) }

  pub same_from_equal : {f a b : P} → a ≡ b → Same o f a b
  same_from_equal {f} {a} {b} e =
      record { quotient = O; identity = e ∙ sym (ap (λ t. t ⊕ b) (Rings.zero_mul L f) ∙ L.zero_add b) }

  pub same_trans : {f a b c : P} → Same o f a b → Same o f b c → Same o f a c
  same_trans {f} {a} {b} {c} h k = record {
    quotient = h.quotient ⊕ k.quotient;
    identity = h.identity ∙ ap (λ t. h.quotient ⊗ f ⊕ t) k.identity ∙ together f c h.quotient k.quotient;
  }
    where
      together : (f c q r : P) → q ⊗ f ⊕ (r ⊗ f ⊕ c) ≡ (q ⊕ r) ⊗ f ⊕ c
      together f c q r = simp (expanded, L)

  pub same_back : {f a b : P} → Same o f a b → Same o f b a
  same_back {f} {a} {b} h = record {
    quotient = neg h.quotient;
    identity = sym (ap (λ t. neg h.quotient ⊗ f ⊕ t) h.identity ∙ ap (λ t. t ⊕ (h.quotient ⊗ f ⊕ b)) (Rings.neg_mul L h.quotient f)
        ∙ sym (L.add_assoc (neg (h.quotient ⊗ f)) (h.quotient ⊗ f) b) ∙ ap (λ t. t ⊕ b) (Rings.neg_add L (h.quotient ⊗ f)) ∙ L.zero_add b);
  }

  pub same_sum : {f a b c d : P} → Same o f a b → Same o f c d → Same o f (a ⊕ c) (b ⊕ d)
  same_sum {f} {a} {b} {c} {d} h k = record {
    quotient = h.quotient ⊕ k.quotient;
    identity = ap₂ ◌⊕◌ h.identity k.identity ∙ together f b d h.quotient k.quotient;
  }
    where
      together : (f b d q r : P) → q ⊗ f ⊕ b ⊕ (r ⊗ f ⊕ d) ≡ (q ⊕ r) ⊗ f ⊕ (b ⊕ d)
      together f b d q r = simp (expanded, L)

  pub same_product : {f a b c d : P} → Same o f a b → Same o f c d → Same o f (a ⊗ c) (b ⊗ d)
  same_product {f} {a} {b} {c} {d} h k = record {
    quotient = h.quotient ⊗ c ⊕ b ⊗ k.quotient;
    identity = ap (λ t. t ⊗ c) h.identity ∙ apart f b c h.quotient ∙ ap (λ t. h.quotient ⊗ c ⊗ f ⊕ b ⊗ t) k.identity
        ∙ together f b d (h.quotient ⊗ c) k.quotient;
  }
    where
      apart : (f b c q : P) → (q ⊗ f ⊕ b) ⊗ c ≡ q ⊗ c ⊗ f ⊕ b ⊗ c
      apart f b c q = simp (expanded, L)

      together : (f b d q r : P) → q ⊗ f ⊕ b ⊗ (r ⊗ f ⊕ d) ≡ (q ⊕ b ⊗ r) ⊗ f ⊕ b ⊗ d
      together f b d q r = simp (expanded, L)

  pub same_negative : {f a b : P} → Same o f a b → Same o f (neg a) (neg b)
  same_negative {f} {a} {b} h = record {
    quotient = neg h.quotient;
    identity = ap neg h.identity ∙ Rings.neg_sum L (h.quotient ⊗ f) b ∙ ap (λ t. t ⊕ neg b) (sym (Rings.neg_mul L h.quotient f));
  }

  pub same_power : {f a b : P} → Same o f a b → (n : ℕ) → Same o f (power o a n) (power o b n)
  same_power {f} h zero = same_itself f I
  same_power {f} h (suc n) = same_product (same_power h n) h

  pub same_from_divides : {f a b : P} → Divides o f (a ⊕ neg b) → Same o f a b
  same_from_divides {f} {a} {b} h =
      record { quotient = h.quotient; identity = sym (Rings.difference_to_sum L (h.quotient ⊗ f) b a h.identity) }

  pub divides_from_same : {f a b : P} → Same o f a b → Divides o f (a ⊕ neg b)
  divides_from_same {f} {a} {b} h =
      record { quotient = h.quotient; identity = Rings.sum_to_difference L (h.quotient ⊗ f) b a (sym h.identity) }

  -- what is the same as a multiple of f is one
  pub divides_across : {f a b : P} → Same o f a b → Divides o f b → Divides o f a
  divides_across {f} {a} {b} h k = divides_same L (sym h.identity) (divides_sum L (divides_product L f h.quotient) k)

  pub same_zero : {f a : P} → Divides o f a → Same o f a O
  same_zero {f} {a} h = record { quotient = h.quotient; identity = sym h.identity ∙ sym (Rings.add_zero L (h.quotient ⊗ f)) }

  pub divides_from_zero : {f a : P} → Same o f a O → Divides o f a
  divides_from_zero {f} {a} h = record { quotient = h.quotient; identity = sym (Rings.add_zero L (h.quotient ⊗ f)) ∙ sym h.identity }

  -- a divisor of the modulus
  pub same_for_divisor : {f g a b : P} → Divides o g f → Same o f a b → Same o g a b
  same_for_divisor {f} {g} {a} {b} d h = record {
    quotient = h.quotient ⊗ d.quotient;
    identity = h.identity ∙ ap (λ t. t ⊕ b) (ap (λ t. h.quotient ⊗ t) (sym d.identity) ∙ sym (L.mul_assoc h.quotient d.quotient g));
  }
