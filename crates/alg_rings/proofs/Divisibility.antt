-- Divisibility in a commutative ring.
--     Divides o d a     some multiple of d is a
use Rattle.std.proofs.Common.{◌≡◌, sym, refl, ap, ap₂, ◌∙◌, subst}
use Rattle.alg_model.specs.Coefficients.{Ops}
use Rattle.alg_rings.specs.Laws.{RingLaws}
use Rattle.alg_rings.proofs.Rings.{zero_mul, mul_one, add_mul, neg_mul, neg_add}

pub record Divides {R : Type 0} (o : Ops R) (d a : R) : Type 0 where
  pub quotient : R
  pub identity : o.mul quotient d ≡ a

module _ {R : Type 0} {o : Ops R} (L : RingLaws o) where
  open o use {zero as O, one as I, add as ◌⊕◌, mul as ◌⊗◌, neg}

  infixl 60 ◌⊕◌
  infixl 70 ◌⊗◌
  pub divides_itself : (a : R) → Divides o a a
  divides_itself a = record { quotient = I; identity = L.one_mul a }

  pub divides_same : {d a b : R} → a ≡ b → Divides o d a → Divides o d b
  divides_same {d} {a} {b} e h = subst (λ t. Divides o d t) e h

  pub one_divides : (a : R) → Divides o I a
  one_divides a = record { quotient = a; identity = mul_one L a }

  pub divides_zero : (a : R) → Divides o a O
  divides_zero a = record { quotient = O; identity = zero_mul L a }

  pub divides_trans : {a b c : R} → Divides o a b → Divides o b c → Divides o a c
  divides_trans {a} {b} {c} h k = record {
    quotient = k.quotient ⊗ h.quotient;
    identity = L.mul_assoc k.quotient h.quotient a ∙ ap (λ t. k.quotient ⊗ t) h.identity ∙ k.identity;
  }

  pub divides_multiple : {d a : R} (b : R) → Divides o d a → Divides o d (b ⊗ a)
  divides_multiple {d} {a} b h = record {
    quotient = b ⊗ h.quotient;
    identity = L.mul_assoc b h.quotient d ∙ ap (λ t. b ⊗ t) h.identity;
  }

  pub divides_multiple_right : {d a : R} (b : R) → Divides o d a → Divides o d (a ⊗ b)
  divides_multiple_right {d} {a} b h = subst (λ t. Divides o d t) (L.mul_comm b a) (divides_multiple b h)

  pub divides_product : (d b : R) → Divides o d (b ⊗ d)
  divides_product d b = record { quotient = b; identity = refl }

  pub divides_product_left : (d b : R) → Divides o d (d ⊗ b)
  divides_product_left d b = record { quotient = b; identity = L.mul_comm b d }

  pub divides_sum : {d a b : R} → Divides o d a → Divides o d b → Divides o d (a ⊕ b)
  divides_sum {d} {a} {b} h k = record {
    quotient = h.quotient ⊕ k.quotient;
    identity = add_mul L h.quotient k.quotient d ∙ ap₂ ◌⊕◌ h.identity k.identity;
  }

  pub divides_negative : {d a : R} → Divides o d a → Divides o d (neg a)
  divides_negative {d} {a} h = record {
    quotient = neg h.quotient;
    identity = neg_mul L h.quotient d ∙ ap neg h.identity;
  }

  -- d divides what is left of a sum that it divides
  pub divides_rest : {d a b : R} → Divides o d (a ⊕ b) → Divides o d a → Divides o d b
  divides_rest {d} {a} {b} h k =
      divides_same (sym (L.add_assoc (neg a) a b) ∙ ap (λ t. t ⊕ b) (neg_add L a) ∙ L.zero_add b)
      (divides_sum (divides_negative k) h)
