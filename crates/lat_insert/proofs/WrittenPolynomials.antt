-- What a field can be declared by, from what a program finds of the numbers that are written.
use Rattle.std.proofs.Common.{◌≡◌, ◌≢◌, ℕ, List, ◌<◌, ◌∙◌, sym, ap₂, subst, arith, Option, Some, None}
use Rattle.std.specs.Prelude.{All, Contains, SomeIff, slice_index}
use Rattle.alg_model.specs.Coefficients.{mod_ops}
use Rattle.alg_model.specs.Polynomials.{trim, leading}
use Rattle.alg_model.specs.Values.{degree}
use Rattle.alg_model.specs.Lattices.{Edition}
use Rattle.alg_rings.proofs.Trims.{leading_at, trimmed_from_leading}
use Rattle.alg_rings.proofs.Residues.{zero_test}
use Rattle.ff_poly.specs.Polynomial.{Polynomial}
use Rattle.ff_field.specs.SmallFields.{IsFirstTooLarge}
use Rattle.lat_core.specs.declared.replies.StepRefusal.TheVariants.{NotInTable, DegreeOutOfRange, CoefficientTooLarge, NotMonic}
use Rattle.lat_core.specs.Step.{IsDegreeInRange, IsWellFormed, IsMalformed}
use Rattle.lat_core.specs.Step.IsMalformed.{not_in_table, degree_out_of_range, coefficient_too_large, not_monic}

-- a number that isn't found is no characteristic
pub unknown : (edition : Edition) (p : ℕ) (digits : List ℕ) (found : Option ℕ)
    → SomeIff found (Contains edition.primes p) p → found ≡ None
    → IsMalformed edition p digits (NotInTable p)
unknown edition p digits None absent e = not_in_table absent
unknown edition p digits (Some q) h e = cc

module _ (edition : Edition) (p prime : ℕ) (digits numbers : List ℕ) (e : numbers ≡ digits)
    (known : Contains edition.primes p × (prime ≡ p)) where
  -- a degree that isn't that of a declared field
  pub out_of_range : ¬ IsDegreeInRange edition numbers
      → IsMalformed edition p digits (DegreeOutOfRange (degree numbers))
  out_of_range outside =
      subst (λ f. IsMalformed edition p f (DegreeOutOfRange (degree numbers))) e (degree_out_of_range known.0 outside)

module _ (edition : Edition) (p prime : ℕ) (digits numbers : List ℕ) (e : numbers ≡ digits)
    (known : Contains edition.primes p × (prime ≡ p)) (range : IsDegreeInRange edition numbers) where
  -- the first number that is too large
  pub too_large : (place : ℕ) → IsFirstTooLarge prime numbers place
      → IsMalformed edition p digits (CoefficientTooLarge place)
  too_large place first =
      let P : List ℕ → Type 0 = λ f. IsMalformed edition p f (CoefficientTooLarge place) in
      subst P e (coefficient_too_large known.0 range (subst (λ q. IsFirstTooLarge q numbers place) known.1 first))

  module _ (valid : All (λ a. a < prime) numbers) where
    -- the number at the degree is the last coefficient
    pub last_not_one : slice_index numbers (degree numbers) ≢ 1 → IsMalformed edition p digits NotMonic
    last_not_one apart =
        let P : List ℕ → Type 0 = λ f. IsMalformed edition p f NotMonic in
        subst P e (not_monic known.0 range (subst (λ q. All (λ a. a < q) numbers) known.1 valid)
        (λ m. apart (sym (leading_at (mod_ops p) numbers) ∙ m)))

    -- what is made of the numbers is what is written
    pub last_one : (g : Polynomial) → slice_index numbers (degree numbers) ≡ 1
        → (g.prime ≡ prime) × (g.coefficients ≡ trim (mod_ops prime) numbers)
        → IsWellFormed edition p digits × (g ≡ record { prime = p; coefficients = digits })
    last_one g one made =
        let P : List ℕ → Type 0 = λ f. IsWellFormed edition p f × (g ≡ record { prime = p; coefficients = f }) in
        subst P e (
          record {
            characteristic = known.0;
            in_range = range;
            coefficients = subst (λ q. All (λ a. a < q) numbers) known.1 valid;
            monic = leading_at (mod_ops p) numbers ∙ one;
          },
          ap₂ (λ q f. record { prime = q; coefficients = f }) (made.0 ∙ known.1) (made.1 ∙ kept),
        )
      where
        kept : trim (mod_ops prime) numbers ≡ numbers
        kept = trimmed_from_leading (mod_ops prime) (zero_test prime) numbers
            (λ z. absurd (let l : leading (mod_ops prime) numbers ≡ 1 = leading_at (mod_ops prime) numbers ∙ one in omega (arith, l, z)))
