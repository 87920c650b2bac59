-- What stands in a table for one characteristic.
use Rattle.std.specs.Prelude.{◌≡◌, ℕ, zero, suc, ◌==◌, ◌<◌, cond, Bool, true, false, List, [], ◌∷◌, length, map, slice_index_or}
use Rattle.std.specs.List.{Contains}
use Rattle.std.proofs.Common.{refl, ap, ap₂, ◌∙◌, rules, arith}
use Rattle.std.proofs.lemmas.Bool.{false≢true}
use Rattle.std.proofs.lemmas.List.Elements.{Contains-get_or}
use Rattle.alg_model.specs.Coefficients.{primes, IsCharacteristic}
use Rattle.ff_poly.specs.Polynomial.{Polynomial}
use Rattle.natural_ops.specs.Operations.{coefficients_for}
use Rattle.program_ops.specs.Tables.{polynomial_over, table_with}

same_number : (a n : ℕ) → (a == n) ≡ true → a ≡ n
same_number a n e = search rules

equal_number : (a n : ℕ) → a ≡ n → (a == n) ≡ true
equal_number a n e = search rules

first_of : (b : Bool) (f g : List ℕ) → b ≡ true → cond b f g ≡ f
first_of true f g e = refl
first_of false f g e = absurd (false≢true e)

either_of : (b : Bool) (f g h : List ℕ) → (b ≡ true → f ≡ h) → g ≡ h → cond b f g ≡ h
either_of true f g h k l = k refl
either_of false f g h k l = l

-- the polynomial of a listed characteristic is the one that was put there
pub coefficients_among : (c : ℕ → List ℕ) (ps : List ℕ) (p : ℕ) → Contains ps p
    → coefficients_for (map (polynomial_over c) ps) p ≡ c p
coefficients_among c [] p (k, l, e) = absurd (omega (arith, l))
coefficients_among c (q ∷ ps) p (zero, l, e) =
    first_of (q == p) (c q) (coefficients_for (map (polynomial_over c) ps) p) (equal_number q p e)
    ∙ ap c e
coefficients_among c (q ∷ ps) p (suc k, l, e) =
    either_of (q == p) (c q) (coefficients_for (map (polynomial_over c) ps) p) (c p)
    (λ same. ap c (same_number q p same)) (coefficients_among c ps p (k, omega (arith, l), e))

-- **for each characteristic the table has the coefficients that it was made with**
pub coefficients_of_table : (c : ℕ → List ℕ) (p : ℕ) → IsCharacteristic p
    → coefficients_for (table_with c) p ≡ c p
coefficients_of_table c p h = coefficients_among c primes p h

-- the list that has at each place the polynomial for the characteristic there is the table
pub table_is : (c : ℕ → List ℕ) (fs : List Polynomial) → length fs ≡ length primes
    → ((k : ℕ) (d : Polynomial) → k < length primes
    → slice_index_or fs k d ≡ polynomial_over c (slice_index_or primes k 0)) → fs ≡ table_with c
table_is c fs n at = listed primes fs n at
  where
    listed : (ps : List ℕ) (fs : List Polynomial) → length fs ≡ length ps
        → ((k : ℕ) (d : Polynomial) → k < length ps
        → slice_index_or fs k d ≡ polynomial_over c (slice_index_or ps k 0))
        → fs ≡ map (polynomial_over c) ps
    listed [] [] n at = refl
    listed [] (f ∷ fs) n at = absurd (omega (arith, n))
    listed (p ∷ ps) [] n at = absurd (omega (arith, n))
    listed (p ∷ ps) (f ∷ fs) n at = ap₂ ◌∷◌ (at 0 f (omega arith))
        (listed ps fs (omega (arith, n)) (λ k d l. at (suc k) d (omega (arith, l))))

-- each number at a place of the list is a characteristic
pub listed_is_characteristic : (k d : ℕ) → k < length primes
    → IsCharacteristic (slice_index_or primes k d)
listed_is_characteristic k d l = Contains-get_or primes k d l
