-- The least factor x + c of a polynomial over the residues modulo a characteristic.
use Rattle.std.proofs.Common.{◌≡◌, ℕ, ◌+◌, ◌-◌, ◌*◌, ◌%◌, ◌<◌, ◌≤◌, List, [], ◌∷◌, length, drop, slice_index, Less, nat_cmp, refl, ap, sym, ◌∙◌, subst, arith, lit<, mod-eq_of_lt, ⊎_elim}
use Rattle.std.proofs.lemmas.Bool.{cases_eq}
use Rattle.std.proofs.Math.Nat.{mod_self}
use Rattle.std.proofs.lemmas.Cmp.{ranked}
use Rattle.std.proofs.lemmas.List.{drop_more}
use Rattle.std.proofs.lemmas.List.Elements.{All-nil, All-cons, All-head}
use native.Mathlib.Nat.{add-mod-mod, mul_comm, add_comm}
use Rattle.alg_model.specs.Coefficients.{mod_ops, residues, IsCharacteristic}
use Rattle.alg_model.specs.Polynomials.{evaluate}
use Rattle.alg_model.specs.Factors.{IsPolynomial, Divides, IsProperFactor, IsIrreducible, IsLeastFactor, order_by}
use Rattle.alg_rings.proofs.PolynomialOrder.{order_by_not_longer}
use Rattle.alg_rings.proofs.ResidueFields.{residues_field, residues_propositional, two_le_characteristic}
use Rattle.alg_fields.proofs.OnCarriers.{root_iff_divides}
use Rattle.ff_factor.specs.PrivateSplitting.{IsLeastNegativeRoot}

module _ (p : ℕ) (h : IsCharacteristic p) where
  above_one : 1 < p
  above_one = two_le_characteristic p h

  negative_below : (a : ℕ) → (p - a) % p < p
  negative_below a = omega (arith, above_one)

  -- the negative of the negative
  negative_twice : (a : ℕ) → a < p → (p - (p - a) % p) % p ≡ a
  negative_twice a l = ⊎_elim
      (λ none. let whole : p - 0 ≡ p = omega arith in
      let zero_mod : (p - a) % p ≡ 0 = ap (λ k. (p - k) % p) none ∙ ap (λ k. k % p) whole ∙ mod_self p in
      ap (λ k. (p - k) % p) zero_mod ∙ ap (λ k. k % p) whole ∙ mod_self p ∙ sym none)
      (λ some. let small : p - a < p = omega arith in
      ap (λ k. (p - k) % p) (mod-eq_of_lt small) ∙ (let same : p - (p - a) ≡ a = omega arith in ap (λ k. k % p) same) ∙ mod-eq_of_lt l)
      (cases_eq a 0)

  -- x + c divides f exactly where -c is a root
  divides_from_root : (f : List ℕ) (c : ℕ) → IsPolynomial (residues p) f → c < p → evaluate (mod_ops p) f ((p - c) % p) ≡ 0
      → Divides (residues p) (c ∷ 1 ∷ []) f
  divides_from_root f c v l e =
      subst (λ a. Divides (residues p) (a ∷ 1 ∷ []) f) (negative_twice c l)
      ((root_iff_divides (residues_propositional p) (residues_field p h).ring f ((p - c) % p) v (negative_below c)).0 e)

  root_from_divisor : (f : List ℕ) (c : ℕ) → IsPolynomial (residues p) f → c < p → Divides (residues p) (c ∷ 1 ∷ []) f
      → evaluate (mod_ops p) f ((p - c) % p) ≡ 0
  root_from_divisor f c v l d =
      (root_iff_divides (residues_propositional p) (residues_field p h).ring f ((p - c) % p) v (negative_below c)).1
      (subst (λ a. Divides (residues p) (a ∷ 1 ∷ []) f) (sym (negative_twice c l)) d)

  -- no proper factor comes before
  no_earlier : (f : List ℕ) (c : ℕ) → IsPolynomial (residues p) f → IsLeastNegativeRoot p f c → (g : List ℕ)
      → IsProperFactor (residues p) f g → order_by nat_cmp g (c ∷ 1 ∷ []) ≡ Less → ⊥
  no_earlier f c v r [] k e = absurd (let l : 1 < 0 = k.not_constant in omega arith)
  no_earlier f c v r (a ∷ []) k e = absurd (let l : 1 < 1 = k.not_constant in omega arith)
  no_earlier f c v r (a ∷ b ∷ []) k e =
      let one : b ≡ 1 = k.monic in
      let d : Divides (residues p) (a ∷ 1 ∷ []) f = subst (λ w. Divides (residues p) (a ∷ w ∷ []) f) one k.divides in
      let less : nat_cmp a c ≡ Less = subst (λ w. order_by nat_cmp (a ∷ w ∷ []) (c ∷ 1 ∷ []) ≡ Less) one e in
      let below : a < c = ranked a c Less (sym less) in
      r.first a below (root_from_divisor f a v (All-head (λ x. x < p) a (b ∷ []) k.polynomial.0) d)
  no_earlier f c v r (a ∷ b ∷ x ∷ g) k e =
      absurd (let l : length (a ∷ b ∷ x ∷ g) ≤ length (c ∷ 1 ∷ []) = order_by_not_longer nat_cmp (a ∷ b ∷ x ∷ g) (c ∷ 1 ∷ []) e in omega arith)

  -- **the least factor**
  pub least_linear_factor : (f : List ℕ) (c : ℕ) → IsPolynomial (residues p) f → 2 < length f → IsLeastNegativeRoot p f c
      → IsLeastFactor (residues p) nat_cmp f (c ∷ 1 ∷ [])
  least_linear_factor f c v long r = record {
    factor = record {
      polynomial = (
        All-cons (λ x. x < p) c (1 ∷ []) r.residue (All-cons (λ x. x < p) 1 [] above_one (All-nil (λ x. x < p))),
        refl,
      );
      monic = refl;
      not_constant = lit< tt;
      smaller = long;
      divides = divides_from_root f c v r.residue r.root;
    };
    least = no_earlier f c v r;
  }

  -- and it has no factor of its own
  pub linear_irreducible : (c : ℕ) → c < p → IsIrreducible (residues p) (c ∷ 1 ∷ [])
  linear_irreducible c l = record {
    polynomial = (
      All-cons (λ x. x < p) c (1 ∷ []) l (All-cons (λ x. x < p) 1 [] above_one (All-nil (λ x. x < p))),
      refl,
    );
    not_constant = lit< tt;
    no_factor = λ g k. let long : 1 < length g = k.not_constant in let short : length g < 2 = k.smaller in omega arith;
  }

-- a step of Horner's rule
pub horner_step : (p n a : ℕ) (f : List ℕ) (v w : ℕ) → n < length f → v ≡ evaluate (mod_ops p) (drop (n + 1) f) a
    → w ≡ (v * a + slice_index f n) % p → w ≡ evaluate (mod_ops p) (drop n f) a
horner_step p n a f v w l e step =
    step
    ∙ ap (λ k. k % p) (add_comm (v * a) (slice_index f n) ∙ ap (λ k. slice_index f n + k) (mul_comm v a))
    ∙ sym (add-mod-mod (slice_index f n) (a * v) p)
    ∙ ap (λ k. (slice_index f n + (a * k) % p) % p) e
    ∙ ap (λ xs. evaluate (mod_ops p) xs a) (sym (drop_more f n 0 l))
