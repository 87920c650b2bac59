-- Factors put into an ordered list, one irreducible factor or the factors of two parts at a time.
use Rattle.std.proofs.Common.{◌≡◌, ◌≢◌, ℕ, ◌-◌, ◌<◌, ◌≤◌, Bool, false, List, [], ◌∷◌, length, get_or, refl, ap, ap₂, sym, ◌∙◌, arith, subst, Ordering, Less, Equal, Greater, nat_cmp}
use Rattle.std.specs.List.{insert}
use Rattle.std.specs.List.Sorted.{IsSorted}
use Rattle.std.specs.Ordering.{is_lt, ordering_reverse}
use Rattle.std.proofs.lemmas.List.{length-map, get_or-map}
use Rattle.std.proofs.lemmas.List.Edits.{length-insert}
use Rattle.std.proofs.lemmas.List.Sorted.{sorted_far, ranks_by}
use Rattle.std.proofs.lemmas.Bool.{false≢true}
use Rattle.std.proofs.lemmas.Cmp.{nat_cmp_total}
use Rattle.alg_model.specs.Coefficients.{residues, mod_ops, IsCharacteristic}
use Rattle.alg_model.specs.Polynomials.{trim, poly_product}
use Rattle.alg_model.specs.Factors.{IsPolynomial, IsMonic, IsIrreducible, IsLeastFactor, order_by}
use Rattle.alg_rings.proofs.ResidueFields.{residues_field, residues_propositional}
use Rattle.alg_rings.proofs.CarrierPolynomials
use Rattle.alg_rings.proofs.Rings.{mul_one}
use Rattle.alg_rings.proofs.Divisors.{polynomial_laws}
use Rattle.alg_divisors.specs.Factorization.{IsFactorization}
use Rattle.alg_rings.proofs.PolynomialOrder.{order_by_total}
use Rattle.alg_divisors.proofs.LeastFactors.{least_of_factorization}
use Rattle.ff_poly.specs.Polynomial.{Polynomial, IsPoly}
use Rattle.ff_factor.specs.FactorLists.{AreOver, coefficients_of}
use Rattle.ff_factor.specs.PrivateSplitting.{Collects, IsCofactor}
use Rattle.ff_factor.proofs.ListInsertion.{sorted_insert, All-insert, map-insert}
use Rattle.ff_factor.proofs.Cofactors

not_less : (o : Ordering) → o ≢ Less → is_lt o ≡ false
not_less Less n = absurd (n refl)
not_less Equal n = refl
not_less Greater n = refl

module _ (f : Polynomial) (old : List Polynomial) (place : ℕ) (within : place ≤ length old)
    (before : (k : ℕ) (d : Polynomial) → k < place → order_by nat_cmp f.coefficients (get_or old k d).coefficients ≢ Less)
    (after : (d : Polynomial) → place < length old → order_by nat_cmp f.coefficients (get_or old place d).coefficients ≡ Less) where
  abbrev key : Polynomial → List ℕ
  key g = g.coefficients

  sorted_place : IsSorted (order_by nat_cmp) (coefficients_of old) → IsSorted (order_by nat_cmp) (coefficients_of (insert old place f))
  sorted_place sorted =
      let n = length-map old key in
      subst (IsSorted (order_by nat_cmp)) (sym (map-insert key old place f))
      (sorted_insert (λ x y. is_lt (order_by nat_cmp x y)) (coefficients_of old) place (f.coefficients) (omega arith)
      (λ d l. ap (λ x. is_lt (order_by nat_cmp f.coefficients x)) (get_or-map key old (place - 1) f d (omega arith))
      ∙ not_less (order_by nat_cmp f.coefficients (get_or old (place - 1) f).coefficients) (before (place - 1) f (omega arith)))
      (λ d l. ap (λ x. is_lt (order_by nat_cmp x f.coefficients)) (get_or-map key old place f d (omega arith))
      ∙ ap is_lt ((order_by_total nat_cmp_total).antisymm (get_or old place f).coefficients f.coefficients ∙ ap ordering_reverse (after f (omega arith))))
      sorted)

  pub collects_irreducible : IsCharacteristic f.prime → IsMonic (residues f.prime) f.coefficients → IsIrreducible (residues f.prime) f.coefficients
      → AreOver f.prime old → Collects f old (insert old place f)
  collects_irreducible h m irreducible over =
      let n = length-insert old place f within in
      let l : 1 < length f.coefficients = irreducible.not_constant in
      record {
        primes = All-insert (λ g. g.prime ≡ f.prime) old place f over refl;
        grows = omega arith;
        room = omega arith;
        sorted = sorted_place;
        factors = λ g v k. subst (IsFactorization (residues f.prime) (poly_product (mod_ops f.prime) f.coefficients g)) (sym (map-insert key old place f))
            (Cofactors.factorization_insert (residues_propositional f.prime) (residues_field f.prime h) (coefficients_of old) place f.coefficients g m irreducible k);
      }

module _ (f d q : Polynomial) (old middle new : List Polynomial) (h : IsCharacteristic f.prime) (dp : d.prime ≡ f.prime) (qp : q.prime ≡ f.prime)
    (polynomial : IsPolynomial (residues f.prime) d.coefficients) (cofactor : IsCofactor (residues f.prime) f.coefficients d.coefficients q.coefficients) where
  pub collects_parts : Collects d old middle → Collects q middle new → Collects f old new
  collects_parts first second = record {
    primes = subst (λ p. AreOver p new) qp second.primes;
    grows = omega (arith, first.grows, second.grows);
    room = omega (arith, first.room, second.room, cofactor.lengths);
    sorted = λ s. second.sorted (first.sorted s);
    factors = factors;
  }
    where
      factors : (g : List ℕ) → IsPolynomial (residues f.prime) g → IsFactorization (residues f.prime) g (coefficients_of old)
          → IsFactorization (residues f.prime) (poly_product (mod_ops f.prime) f.coefficients g) (coefficients_of new)
      factors g v k =
          let R = (residues_field f.prime h).ring in
          let vd = CarrierPolynomials.poly_product_polynomial (residues_propositional f.prime) R d.coefficients g polynomial v in
          let one = subst (λ p. IsPolynomial (residues p) g → IsFactorization (residues p) g (coefficients_of old)
          → IsFactorization (residues p) (poly_product (mod_ops p) d.coefficients g) (coefficients_of middle)) dp (first.factors g) v k in
          let two = subst (λ p. IsPolynomial (residues p) (poly_product (mod_ops f.prime) d.coefficients g)
          → IsFactorization (residues p) (poly_product (mod_ops f.prime) d.coefficients g) (coefficients_of middle)
          → IsFactorization (residues p) (poly_product (mod_ops p) q.coefficients (poly_product (mod_ops f.prime) d.coefficients g)) (coefficients_of new)) qp
          (second.factors (poly_product (mod_ops f.prime) d.coefficients g)) vd one in
          subst (λ w. IsFactorization (residues f.prime) w (coefficients_of new))
          (sym (CarrierPolynomials.poly_product_assoc (residues_propositional f.prime) R q.coefficients d.coefficients g cofactor.polynomial.0 polynomial.0 v.0)
          ∙ ap (λ w. poly_product (mod_ops f.prime) w g) cofactor.product) two

-- from the empty list
pub factorization_collected : (f : Polynomial) (old new : List Polynomial) → old ≡ [] → IsPoly f → Collects f old new
    → IsFactorization (residues f.prime) f.coefficients (coefficients_of new)
factorization_collected f old new e whole h =
    let P = residues_propositional f.prime in
    let F = residues_field f.prime whole.characteristic in
    subst (λ w. IsFactorization (residues f.prime) w (coefficients_of new)) (ap (λ g. g.0) (mul_one (polynomial_laws P F.ring) (f.coefficients, whole.polynomial)))
    (h.factors (trim (mod_ops f.prime) (1 ∷ [])) (CarrierPolynomials.one_polynomial P F.ring)
    (subst (λ fs. IsFactorization (residues f.prime) (trim (mod_ops f.prime) (1 ∷ [])) (coefficients_of fs)) (sym e) (Cofactors.factorization_none P F)))

-- **the first of two or more factors in order is the least factor**
pub first_is_least : (f : Polynomial) (fs : List Polynomial) → IsCharacteristic f.prime
    → IsFactorization (residues f.prime) f.coefficients (coefficients_of fs) → IsSorted (order_by nat_cmp) (coefficients_of fs) → 2 ≤ length fs
    → (d : Polynomial) → IsLeastFactor (residues f.prime) nat_cmp f.coefficients (get_or fs 0 d).coefficients
first_is_least f fs h k sorted l d =
    least_of_factorization (residues_propositional f.prime) (residues_field f.prime h) nat_cmp k
    (omega (arith, long))
    (0, omega (arith, long), get_or-map (λ g. g.coefficients) fs 0 d (get_or fs 0 d).coefficients (omega arith))
    (λ g (j, lj, e) less. false≢true (sym (sorted_far lt (ranks_by (order_by_total nat_cmp_total) (λ x. x)) (coefficients_of fs) sorted 0 j g (omega arith) lj)
    ∙ ap₂ lt e (get_or-map (λ g. g.coefficients) fs 0 d g (omega arith)) ∙ ap is_lt less))
  where
    lt : List ℕ → List ℕ → Bool
    lt x y = is_lt (order_by nat_cmp x y)

    long : length (coefficients_of fs) ≡ length fs
    long = length-map fs (λ g. g.coefficients)

pub sorted_none : IsSorted (order_by nat_cmp) (coefficients_of [])
sorted_none k d low high = absurd (omega arith)
