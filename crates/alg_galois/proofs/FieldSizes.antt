-- A finite field of degree n has p^n values, each its own power p^n; Frobenius fixes the prime
-- field alone, and brings the generator
-- back after the multiples of n alone.
use Rattle.std.proofs.Common.{◌≡◌, ◌≢◌, ◌↔◌, ℕ, ◌*◌, ◌/◌, ◌^◌, ◌<◌, List, length, map, All, AllPairs, Contains, slice_index_or, ap, sym, ◌∙◌, subst, arith}
use Rattle.std.specs.List.{range_with_len}
use Rattle.std.proofs.Math.Nat.{div-add-mod}
use Rattle.std.proofs.lemmas.List.FromFn.{length-map-range_with_len, get_or-map-range_with_len}
use Rattle.std.proofs.lemmas.List.Elements.{All-from_get_or}
use Rattle.std.proofs.lemmas.Nat.Gcd.{dvd_of_mod-eq-zero, mod-eq-zero_of_dvd}
use Prim.Native.Nat.{◌∣◌}
use Rattle.alg_model.specs.Coefficients.{Ops, power, residues}
use Rattle.alg_model.specs.Maps.{Field, IsFiniteField, field_values, degree_of, generator, constant}
use Rattle.alg_rings.proofs.Elements.{Element, underlying_injective}
use Rattle.alg_rings.proofs.Homomorphisms.{power-map}
use Rattle.alg_finite.proofs.Enumerations.{members_distinct}
use Rattle.alg_finite.proofs.FiniteField.{FiniteField, frobenius, frobenius_multiple, pow_one, above_one}
use Rattle.alg_finite.proofs.FiniteValues.{residues_finite}
use Rattle.alg_finite.proofs.Extensions.{fixed_is_image}
use Rattle.alg_finite.proofs.Orbits.{Period, period_divides}
use Rattle.alg_galois.proofs.Fields.{IsModulus, modulus_of, propositional, ops, laws, of_residue, of_residue_homomorphism, power_value, finite}
use Rattle.alg_galois.proofs.FieldEmbeddings.{generator_element}
use Rattle.alg_galois.proofs.FieldFrobenius.{generator_period}

module _ (F : Field) (W : IsFiniteField F) where
  abbrev p : ℕ
  p = F.characteristic

  abbrev N : IsModulus F.characteristic F.polynomial
  N = modulus_of F W

  abbrev O : Ops (Element (field_values F))
  O = ops F.characteristic W.characteristic F.polynomial (modulus_of F W)

  abbrev K : FiniteField O F.characteristic (degree_of F)
  K = finite F.characteristic W.characteristic F.polynomial (modulus_of F W)

  -- **each value is its own power p^n**
  pub power_of_size : (a : List ℕ) → (field_values F).Valid a
      → power (field_values F).ops a (F.characteristic ^ degree_of F) ≡ a
  power_of_size a va = sym (power_value p W.characteristic F.polynomial N (a, va) (p ^ degree_of F))
      ∙ ap (λ y. y.0) (K.fixed (a, va))

  -- **there are p^n values**
  pub all_values : (xs : List (List ℕ)) × (length xs ≡ F.characteristic ^ degree_of F)
      × All (field_values F).Valid xs × AllPairs (λ a b. a ≢ b) xs
      × ((a : List ℕ) → (field_values F).Valid a → Contains xs a)
  all_values = (
    xs,
    long,
    All-from_get_or (field_values F).Valid xs O.zero.0
        (λ i l. let s : i < n = omega (arith, long) in
        subst (field_values F).Valid (sym (at i O.zero.0 s)) (K.members.at i).1),
    (λ i j d l k e. let s : j < n = omega (arith, long) in
        members_distinct K.members i j l s
        (underlying_injective (propositional p W.characteristic F.polynomial N) _ _
        (sym (at i d (omega arith)) ∙ e ∙ at j d s))),
    (λ a va. (
      K.members.index (a, va),
      omega (arith, long, K.members.index_below (a, va)),
      at (K.members.index (a, va)) a (K.members.index_below (a, va))
          ∙ ap (λ y. y.0) (K.members.at_index (a, va)),
    )),
  )
    where
      n : ℕ
      n = p ^ degree_of F

      xs : List (List ℕ)
      xs = map (λ i. (K.members.at i).0) (range_with_len 0 n)

      long : length xs ≡ n
      long = length-map-range_with_len (λ i. (K.members.at i).0) 0 n

      at : (i : ℕ) (d : List ℕ) → i < n → slice_index_or xs i d ≡ (K.members.at i).0
      at i d l = get_or-map-range_with_len (λ i. (K.members.at i).0) 0 n i i d l (omega arith)

  -- **a value is its own power p exactly if it is a constant**
  pub prime_field_fixed : (a : List ℕ) → (field_values F).Valid a
      → (power (field_values F).ops a F.characteristic ≡ a)
      ↔ ((t : ℕ) × (t < F.characteristic) × (constant F t ≡ a))
  prime_field_fixed a va = (
    (λ e. let b : (b : Element (residues p))
        × (of_residue p W.characteristic F.polynomial N b ≡ (a, va)) =
        fixed_is_image (of_residue_homomorphism p W.characteristic F.polynomial N)
        (residues_finite p W.characteristic) (laws p W.characteristic F.polynomial N)
        (above_one (residues_finite p W.characteristic)) (a, va)
        (ap (power O (a, va)) (pow_one p)
        ∙ underlying_injective (propositional p W.characteristic F.polynomial N) _ _
        (power_value p W.characteristic F.polynomial N (a, va) p ∙ e)) in
        (b.0.0, b.0.1, ap (λ y. y.0) b.1)),
    (λ t. let b : Element (residues p) = (t.0, t.1) in
        let c : Element (field_values F) = of_residue p W.characteristic F.polynomial N b in
        ap (λ y. power (field_values F).ops y p) (sym t.2)
        ∙ sym (power_value p W.characteristic F.polynomial N c p)
        ∙ ap (λ y. y.0) (ap (power O c) (sym (pow_one p)) ∙ constant_fixed b) ∙ t.2),
  )
    where
      constant_fixed : (b : Element (residues p))
          → power O (of_residue p W.characteristic F.polynomial N b) (p ^ 1)
          ≡ of_residue p W.characteristic F.polynomial N b
      constant_fixed b = sym (power-map
          (of_residue_homomorphism p W.characteristic F.polynomial N) b (p ^ 1))
          ∙ ap (of_residue p W.characteristic F.polynomial N)
          ((residues_finite p W.characteristic).fixed b)

  -- **the power p^t of the generator is the generator exactly if the degree divides t**
  pub generator_returns : (t : ℕ)
      → (power (field_values F).ops (generator F) (F.characteristic ^ t) ≡ generator F)
      ↔ (degree_of F ∣ t)
  generator_returns t = (
    (λ e. dvd_of_mod-eq-zero (degree_of F)
        (period_divides K 1 x (degree_of F)
        (subst (λ q. Period O q x (degree_of F)) (sym (pow_one p)) D) t
        (ap (λ q. frobenius O q t x) (pow_one p)
        ∙ underlying_injective (propositional p W.characteristic F.polynomial N) _ _
        (power_value p W.characteristic F.polynomial N x (p ^ t) ∙ e)))),
    (λ k. sym (power_value p W.characteristic F.polynomial N x (p ^ t))
        ∙ ap (λ y. y.0) (ap (λ i. frobenius O p i x) (quotient t k)
        ∙ frobenius_multiple (laws p W.characteristic F.polynomial N).ring p
        (degree_of F) x D.returns (t / degree_of F))),
  )
    where
      x : Element (field_values F)
      x = generator_element p W.characteristic F.polynomial N

      D : Period O F.characteristic
          (generator_element F.characteristic W.characteristic F.polynomial (modulus_of F W))
          (degree_of F)
      D = generator_period p W.characteristic F.polynomial N

      quotient : (t : ℕ) → degree_of F ∣ t → t ≡ degree_of F * (t / degree_of F)
      quotient t k = omega (arith, div-add-mod t (degree_of F), mod-eq-zero_of_dvd (degree_of F) k)
