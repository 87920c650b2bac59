-- From the theory to carriers: powers p, roots and derivatives on valid elements and lists.
use Rattle.std.proofs.Common.{◌%◌, ◌≡◌, ◌≢◌, ◌↔◌, ℕ, ◌<◌, List, [], map, length, slice_index_or, All, AllPairs, ap, ap₂, sym, ◌∙◌, arith}
use Rattle.std.proofs.lemmas.List.{length-map, get_or-map}
use Rattle.alg_model.specs.Coefficients.{Carrier, times, power}
use Rattle.alg_model.specs.Polynomials.{trim, poly_product, evaluate, derivative}
use Rattle.alg_model.specs.Factors.{IsPolynomial, Divides}
use Rattle.alg_model.specs.Fields.{IsRing, IsField}
use Rattle.alg_model.specs.Coefficients.{IsPrime}
use Rattle.alg_rings.specs.Laws.{IsPropositional}
use Rattle.alg_rings.proofs.Trims
use Rattle.alg_rings.proofs.Division.{zero_from_product}
use Rattle.alg_rings.proofs.Homomorphisms.{times-map, power-map, evaluate-map, trim-map, derivative-map, place-map, poly_product-map}
use Rattle.alg_rings.proofs.Elements.{Element, underlying, element_ops, underlying_injective, underlying_lists_injective, underlying_valid, on_valid, on_valid₂, element_laws, element_field, on_elements}
use Rattle.alg_rings.proofs.CarrierPolynomials.{trimmed_elements}
use Rattle.alg_rings.proofs.Powers
use Rattle.alg_fields.proofs.Frobenius
use Rattle.alg_fields.proofs.Roots
use Rattle.alg_fields.proofs.Roots.{linear, quotient_at}

module _ {A : Type 0} {c : Carrier A} (P : IsPropositional c) (R : IsRing c) where
  open on_elements P R use {ops as E, laws as L, value as H}

  pub characteristic_of_elements : (p : ℕ) → times c.ops p c.ops.one ≡ c.ops.zero → times (element_ops R) p (element_ops R).one ≡ (element_ops R).zero
  characteristic_of_elements p e = underlying_injective P (times E p E.one) E.zero (times-map H p E.one ∙ e)

  pub characteristic_of_carrier : (p : ℕ) → times (element_ops R) p (element_ops R).one ≡ (element_ops R).zero → times c.ops p c.ops.one ≡ c.ops.zero
  characteristic_of_carrier p e = sym (times-map H p E.one) ∙ ap (underlying c) e

  pub power_of_product : (a b : A) → c.Valid a → c.Valid b → (n : ℕ) → power c.ops (c.ops.mul a b) n ≡ c.ops.mul (power c.ops a n) (power c.ops b n)
  power_of_product a b va vb n =
      let x : Element c = (a, va) in
      let y : Element c = (b, vb) in
      sym (power-map H (E.mul x y) n) ∙ ap (underlying c) (Powers.power_product L x y n) ∙ ap₂ c.ops.mul (power-map H x n) (power-map H y n)

  -- **in characteristic p the power p keeps sums**
  pub power_of_sum : (p : ℕ) → IsPrime p → times c.ops p c.ops.one ≡ c.ops.zero → (a b : A) → c.Valid a → c.Valid b
      → power c.ops (c.ops.add a b) p ≡ c.ops.add (power c.ops a p) (power c.ops b p)
  power_of_sum p prime e a b va vb =
      let x : Element c = (a, va) in
      let y : Element c = (b, vb) in
      sym (power-map H (E.add x y) p)
      ∙ ap (underlying c) (Frobenius.power_of_sum L p prime (characteristic_of_elements p e) x y)
      ∙ ap₂ c.ops.add (power-map H x p) (power-map H y p)

  -- the derivative is zero exactly if each place that is no multiple of p is zero
  pub derivative_zero_iff_places : (p : ℕ) → IsPrime p → times c.ops p c.ops.one ≡ c.ops.zero → (f : List A) → All c.Valid f
      → (derivative c.ops f ≡ []) ↔ ((k : ℕ) → k % p ≢ 0 → slice_index_or f k c.ops.zero ≡ c.ops.zero)
  derivative_zero_iff_places p prime e = on_valid c
      (λ f. (derivative c.ops f ≡ []) ↔ ((k : ℕ) → k % p ≢ 0 → slice_index_or f k c.ops.zero ≡ c.ops.zero)) at
    where
      theory : (G : List (Element c)) → (derivative E G ≡ []) ↔ ((k : ℕ) → k % p ≢ 0 → slice_index_or G k E.zero ≡ E.zero)
      theory G = Frobenius.derivative_zero_iff_places L p prime (characteristic_of_elements p e) G

      at : (G : List (Element c)) → (derivative c.ops (map (underlying c) G) ≡ [])
          ↔ ((k : ℕ) → k % p ≢ 0 → slice_index_or (map (underlying c) G) k c.ops.zero ≡ c.ops.zero)
      at G = (
        (λ d k n. sym (place-map H G k) ∙ ap (underlying c) ((theory G).0 (underlying_lists_injective P (derivative E G) [] (derivative-map H G ∙ d)) k n)),
        (λ h. sym (derivative-map H G) ∙ ap (map (underlying c)) ((theory G).1 (λ k n. underlying_injective P (slice_index_or G k E.zero) E.zero (place-map H G k ∙ h k n)))),
      )

  -- a is a root exactly where x - a divides f
  pub root_iff_divides : (f : List A) (a : A) → IsPolynomial c f → c.Valid a → (evaluate c.ops f a ≡ c.ops.zero) ↔ Divides c (linear c.ops a) f
  root_iff_divides f a vf va = on_valid c (λ f. trim c.ops f ≡ f → (evaluate c.ops f a ≡ c.ops.zero) ↔ Divides c (linear c.ops a) f) at f vf.0 vf.1
    where
      x : Element c
      x = (a, va)

      to : (G : List (Element c)) → trim c.ops (map (underlying c) G) ≡ map (underlying c) G → evaluate c.ops (map (underlying c) G) a ≡ c.ops.zero
          → Divides c (linear c.ops a) (map (underlying c) G)
      to G t e = (
        map (underlying c) q,
        (underlying_valid c q, sym (trim-map H q) ∙ ap (map (underlying c)) (Trims.trim_trim E L.zero_test (quotient_at E G x))),
        sym (poly_product-map H q (linear E x))
            ∙ ap (map (underlying c)) (Trims.trim_product_first L (quotient_at E G x) (linear E x)
            ∙ sym (Roots.factor_from_root L G x (underlying_injective P (evaluate E G x) E.zero (evaluate-map H G x ∙ e)))
            ∙ trimmed_elements P R G t),
      )
        where
          q : List (Element c)
          q = trim E (quotient_at E G x)

      from : (G : List (Element c)) → trim c.ops (map (underlying c) G) ≡ map (underlying c) G → Divides c (linear c.ops a) (map (underlying c) G)
          → evaluate c.ops (map (underlying c) G) a ≡ c.ops.zero
      from G t d = on_valid c (λ q. poly_product c.ops q (linear c.ops a) ≡ map (underlying c) G → evaluate c.ops (map (underlying c) G) a ≡ c.ops.zero)
          (λ Y e. sym (evaluate-map H G x) ∙ ap (underlying c) (Roots.root_from_factor L G Y x
          (underlying_lists_injective P (trim E G) (poly_product E Y (linear E x)) (trim-map H G ∙ t ∙ sym e ∙ sym (poly_product-map H Y (linear E x))))))
          d.0 d.1.0 d.2

      at : (G : List (Element c)) → trim c.ops (map (underlying c) G) ≡ map (underlying c) G
          → (evaluate c.ops (map (underlying c) G) a ≡ c.ops.zero) ↔ Divides c (linear c.ops a) (map (underlying c) G)
      at G t = (to G t, from G t)

module _ {A : Type 0} {c : Carrier A} (P : IsPropositional c) (F : IsField c) where
  open on_elements P F.ring use {ops as M, value as K}

  -- **a polynomial has fewer distinct roots than coefficients**
  pub root_bound : (f roots : List A) → IsPolynomial c f → f ≢ [] → All c.Valid roots → AllPairs (λ a b. a ≢ b) roots
      → All (λ a. evaluate c.ops f a ≡ c.ops.zero) roots → length roots < length f
  root_bound f roots vf n vr = on_valid₂ c (λ f roots. trim c.ops f ≡ f → f ≢ [] → AllPairs (λ a b. a ≢ b) roots
      → All (λ a. evaluate c.ops f a ≡ c.ops.zero) roots → length roots < length f) at f roots vf.0 vr vf.1 n
    where
      at : (G S : List (Element c)) → trim c.ops (map (underlying c) G) ≡ map (underlying c) G → map (underlying c) G ≢ [] → AllPairs (λ a b. a ≢ b) (map (underlying c) S)
          → All (λ a. evaluate c.ops (map (underlying c) G) a ≡ c.ops.zero) (map (underlying c) S) → length (map (underlying c) S) < length (map (underlying c) G)
      at G S t n d z = omega (
        arith,
        length-map S (underlying c),
        length-map G (underlying c),
        Roots.root_bound (element_laws P F.ring)
            (λ x y e m. zero_from_product (element_field P F) x y e m) G
            (Trims.leading_from_not_nil M (element_laws P F.ring).zero_test G (trimmed_elements P F.ring G t) (λ e. n (ap (map (underlying c)) e))) S distinct zeros,
      )
        where
          within : (k : ℕ) → k < length S → k < length (map (underlying c) S)
          within k l = omega (arith, length-map S (underlying c))

          distinct : AllPairs (λ a b. a ≢ b) S
          distinct i j e l h s = d i j e.0 l (within j h)
              (get_or-map (underlying c) S i e e.0 (omega arith) ∙ ap (underlying c) s ∙ sym (get_or-map (underlying c) S j e e.0 h))

          zeros : All (λ a. evaluate M G a ≡ M.zero) S
          zeros k e l = underlying_injective P (evaluate M G (slice_index_or S k e)) M.zero
              (evaluate-map K G (slice_index_or S k e) ∙ ap (evaluate c.ops (map (underlying c) G)) (sym (get_or-map (underlying c) S k e e.0 l)) ∙ z k e.0 (within k l))
