-- Polynomials with fixed coefficients in a ring of characteristic p: their power p is their value at the power p.
--     gaps o x y j cs     c_0 * (y^j - x^j) + c_1 * (y^(j + 1) - x^(j + 1)) + ..
use Rattle.std.proofs.Common.{◌≡◌, ℕ, suc, List, [], ◌∷◌, All, ap, ap₂, sym, ◌∙◌}
use Rattle.std.proofs.lemmas.List.Elements.{All-head, All-tail}
use Rattle.alg_model.specs.Coefficients.{Ops, times, power}
use Rattle.alg_model.specs.Polynomials.{evaluate}
use Rattle.alg_rings.specs.Laws.{RingLaws}
use Rattle.alg_rings.proofs.Rings
use Rattle.alg_rings.proofs.Rings.{sorted, expanded}
use Rattle.alg_rings.proofs.Powers
use Rattle.alg_fields.proofs.Frobenius
use Rattle.alg_model.specs.Coefficients.{IsPrime}

abbrev pub gaps : {P : Type 0} → Ops P → P → P → ℕ → List P → P
gaps o x y j [] = o.zero
gaps o x y j (c ∷ cs) = o.add (o.mul c (o.add (power o y j) (o.neg (power o x j)))) (gaps o x y (suc j) cs)

module _ {P : Type 0} {o : Ops P} (R : RingLaws o) where
  open o use {zero as O, one as I, add as ◌⊕◌, mul as ◌⊗◌, neg}

  infixl 60 ◌⊕◌
  infixl 70 ◌⊗◌
  module _ (p : ℕ) (prime : IsPrime p) (characteristic : times o p I ≡ O) where
    -- v(x)^p = v(x^p), for a v whose coefficients are their own powers p
    pub power_of_value : (cs : List P) → All (λ c. power o c p ≡ c) cs → (x : P) → power o (evaluate o cs x) p ≡ evaluate o cs (power o x p)
    power_of_value [] fixed x = Frobenius.power_of_multiple R p prime characteristic 0
    power_of_value (c ∷ cs) fixed x =
        Frobenius.power_of_sum R p prime characteristic c (x ⊗ evaluate o cs x)
        ∙ ap₂ ◌⊕◌ (All-head (λ c. power o c p ≡ c) c cs fixed)
        (Powers.power_product R x (evaluate o cs x) p
        ∙ ap (λ w. power o x p ⊗ w) (power_of_value cs (All-tail (λ c. power o c p ≡ c) c cs fixed) x))

  -- y^j * v(y) - x^j * v(x), by coefficients
  pub gaps_are : (x y : P) (j : ℕ) (cs : List P)
      → gaps o x y j cs ≡ power o y j ⊗ evaluate o cs y ⊕ neg (power o x j ⊗ evaluate o cs x)
  gaps_are x y j [] =
      sym (ap₂ (λ s t. s ⊕ neg t) (Rings.mul_zero R (power o y j)) (Rings.mul_zero R (power o x j)) ∙ R.add_neg O)
  gaps_are x y j (c ∷ cs) =
      ap₂ ◌⊕◌ (R.mul_add c (power o y j) (neg (power o x j)) ∙ ap (λ w. c ⊗ power o y j ⊕ w) (Rings.mul_neg R c (power o x j)))
      (gaps_are x y (suc j) cs)
      ∙ Rings.add_swap R (c ⊗ power o y j) (neg (c ⊗ power o x j)) (power o y j ⊗ y ⊗ evaluate o cs y) (neg (power o x j ⊗ x ⊗ evaluate o cs x))
      ∙ ap₂ ◌⊕◌ (together c (power o y j) y (evaluate o cs y))
      (sym (Rings.neg_sum R (c ⊗ power o x j) (power o x j ⊗ x ⊗ evaluate o cs x)) ∙ ap neg (together c (power o x j) x (evaluate o cs x)))
    where
      together : (c s x v : P) → c ⊗ s ⊕ s ⊗ x ⊗ v ≡ s ⊗ (c ⊕ x ⊗ v)
      together c s x v = simp (expanded, R)

  -- v(y) - v(x): the constant coefficient adds nothing
  pub gaps_without_constant : (x y a : P) (cs : List P)
      → gaps o x y 1 cs ≡ evaluate o (a ∷ cs) y ⊕ neg (evaluate o (a ∷ cs) x)
  gaps_without_constant x y a cs =
      sym (ap (λ w. w ⊕ gaps o x y 1 cs) (ap (λ w. a ⊗ w) (R.add_neg I) ∙ Rings.mul_zero R a) ∙ R.zero_add (gaps o x y 1 cs))
      ∙ gaps_are x y 0 (a ∷ cs)
      ∙ ap₂ (λ s t. s ⊕ neg t) (R.one_mul (evaluate o (a ∷ cs) y)) (R.one_mul (evaluate o (a ∷ cs) x))
