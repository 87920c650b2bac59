-- The roots v, v^p, v^(p^2), .. of the polynomial of E, one after another.
use Rattle.std.proofs.Common.{◌≡◌, ◌⊎◌, ◌↔◌, ℕ, ◌+◌, ◌%◌, ◌^◌, ◌<◌, ◌≤◌, List, ap, sym, ◌∙◌, subst, arith, ⊎_elim, inl, inr, eq-or-lt_of_le, mod-eq_of_lt}
use Rattle.std.specs.List.{Contains}
use Rattle.alg_model.specs.Coefficients.{power, residues}
use Rattle.alg_model.specs.Factors.{IsPolynomial}
use Rattle.alg_model.specs.Maps.{Field, IsFiniteField, field_values, degree_of, constants}
use Rattle.alg_model.specs.Roots.{IsRoot}
use Rattle.alg_galois.proofs.EmbeddingRoots.{roots_are_powers, root_powers_agree, powers_are_roots}

-- the members are those of the first t powers at which g vanishes
abbrev pub HasPowers : Field → List ℕ → List (List ℕ) → ℕ → List (List ℕ) → Type 0
HasPowers F v g t list = (w : List ℕ) → Contains list w
    ↔ (((s : ℕ) × (s < t) × (power (field_values F).ops v (F.characteristic ^ s) ≡ w)) × IsRoot F g w)

-- **one power more**
pub one_power_more : (F : Field) (v : List ℕ) (g : List (List ℕ)) (t : ℕ) (list new : List (List ℕ))
    (u : List ℕ) → u ≡ power (field_values F).ops v (F.characteristic ^ t) → HasPowers F v g t list
    → ((w : List ℕ) → Contains new w ↔ (Contains list w ⊎ ((w ≡ u) × IsRoot F g w)))
    → HasPowers F v g (t + 1) new
one_power_more F v g t list new u e h more w = (
  λ m. ⊎_elim
      (λ k. let p = (h w).0 k in ((p.0.0, omega (arith, p.0.1), p.0.2), p.1))
      (λ k. ((t, omega arith, sym e ∙ sym k.0), k.1)) ((more w).0 m),
  λ p. (more w).1 (⊎_elim
      (λ (q : p.0.0 ≡ t). inr (
        sym p.0.2
            ∙ ap (λ s. power (field_values F).ops v (F.characteristic ^ s)) q ∙ sym e,
        p.1,
      ))
      (λ (l : p.0.0 < t). inl ((h w).1 ((p.0.0, l, p.0.2), p.1)))
      (eq-or-lt_of_le (let m : p.0.0 ≤ t = omega (arith, p.0.1) in m))),
)

module _ (E F : Field) (V : IsFiniteField E) (W : IsFiniteField F)
    (e : E.characteristic ≡ F.characteristic) (v : List ℕ)
    (r : IsRoot F (constants F E.polynomial) v) (g : List (List ℕ)) where
  -- **a power below the degree is a new one**
  pub next_power_new : (t : ℕ) (list : List (List ℕ)) (u : List ℕ) → t < degree_of E
      → u ≡ power (field_values F).ops v (F.characteristic ^ t) → HasPowers F v g t list
      → ¬ Contains list u
  next_power_new t list u l q h m =
      let p = (h u).0 m in
      let same : p.0.0 % degree_of E ≡ t % degree_of E =
      (root_powers_agree E F V W e v r p.0.0 t).0 (p.0.2 ∙ q) in
      let first : p.0.0 % degree_of E ≡ p.0.0 = mod-eq_of_lt (omega (arith, p.0.1)) in
      let second : t % degree_of E ≡ t = mod-eq_of_lt l in
      omega (arith, p.0.1)

  -- **as many as the degree are all roots**
  pub all_powers : (list : List (List ℕ)) → HasPowers F v g (degree_of E) list → (w : List ℕ)
      → Contains list w ↔ (IsRoot F (constants F E.polynomial) w × IsRoot F g w)
  all_powers list h w = (
    λ m. let p = (h w).0 m in (
      subst (IsRoot F (constants F E.polynomial)) p.0.2
          (powers_are_roots F W E.polynomial
          (subst (λ q. IsPolynomial (residues q) E.polynomial) e V.irreducible.polynomial) v r p.0.0),
      p.1,
    ),
    λ p. (h w).1 (roots_are_powers E F V W e v w r p.0, p.1),
  )
