-- What can be told of names, of declared polynomials, of prescribed values and of candidates.
use Rattle.std.proofs.Common.{◌≡◌, ◌⊎◌, inl, inr, ⊎_elim, ℕ, ◌<◌, ◌≤◌, List, length, slice_index_or, slice_index, sym, subst, arith, Option, Some, None, ◌^◌}
use Rattle.std.specs.Prelude.{All, Contains}
use Rattle.std.specs.Ordering.{nat_cmp}
use Rattle.std.proofs.lemmas.Bool.{cases_lt, cases_eq}
use Rattle.std.proofs.lemmas.Cmp.{nat_cmp_total}
use Rattle.std.proofs.lemmas.Grind.{get_or_default_zero}
use Rattle.alg_model.specs.Coefficients.{mod_ops, residues, IsPrime}
use Rattle.alg_model.specs.Polynomials.{leading}
use Rattle.alg_model.specs.Factors.{IsPolynomial, IsIrreducible, IsLeastFactor}
use Rattle.alg_model.specs.Values.{degree}
use Rattle.alg_model.specs.Maps.{IsFiniteField, field_values, degree_of}
use Rattle.alg_model.specs.Lattices.{Edition, Lattice, no_row, field_at, IsEdition, IsCompatible}
use Rattle.alg_model.specs.Candidates.{IsCandidate}
use Rattle.alg_rings.proofs.Decisions.{Least, search_below, lists_equal_or_not, both_or_not}
use Rattle.alg_rings.proofs.Elements.{Element}
use Rattle.alg_rings.proofs.Residues.{zero_test}
use Rattle.alg_rings.proofs.ResidueFields.{prime_residues_field, residues_propositional}
use Rattle.alg_rings.proofs.Trims.{trimmed_from_leading}
use Rattle.alg_divisors.proofs.Existence.{least_factor_exists, proper_factor_or_none}
use Rattle.alg_divisors.proofs.Finite.{residues_finite}
use Rattle.alg_finite.proofs.Enumerations.{Enumeration}
use Rattle.alg_galois.proofs.Fields.{modulus_of, finite}
use Rattle.alg_compatible.specs.Theorems.{AreFields}
use Rattle.alg_compatible.proofs.Choices.{candidate_or_not}
use Rattle.alg_compatible.proofs.Transfer.{field_finite}
use Rattle.ff_field.specs.SmallFields.{IsFirstTooLarge}
use Rattle.lat_core.specs.declared.tagged.Tagged.{Tagged}
use Rattle.lat_core.specs.declared.tagged.Sending.{Sending}
use Rattle.lat_core.specs.declared.replies.StepRefusal.{StepRefusal}
use Rattle.lat_core.specs.declared.replies.StepRefusal.TheVariants.{NotInTable, DegreeOutOfRange, CoefficientTooLarge, NotMonic}
use Rattle.lat_core.specs.Step.{IsNamed, IsFreeName, IsDegreeInRange, IsWellFormed, IsMalformed, IsValueOf, IsWrongTag, ArePrescribed, HaveOneCharacteristic}
use Rattle.lat_core.specs.Step.IsMalformed.{not_in_table, degree_out_of_range, coefficient_too_large, not_monic}
use Rattle.lat_core.specs.Step.IsWrongTag.{of_value, of_image}

-- a field has the name or none has
pub named_or_free : (L : Lattice) (name : List ℕ) → ((n : ℕ) × IsNamed L n name) ⊎ IsFreeName L name
named_or_free L name = ⊎_elim
    (λ (l : Least (λ n. (slice_index_or L.rows n no_row).name ≡ name) (length L.rows)).
    inl (l.number, record { within = l.below; named = l.holds }))
    (λ none. inr (λ n h. none n h.within h.named))
    (search_below (λ n. (slice_index_or L.rows n no_row).name ≡ name) (length L.rows)
    (λ n h. lists_equal_or_not cases_eq (slice_index_or L.rows n no_row).name name))

-- a list contains a number or not
pub contains_or_not : (xs : List ℕ) (x : ℕ) → Contains xs x ⊎ ¬ Contains xs x
contains_or_not xs x = ⊎_elim
    (λ (l : Least (λ k. slice_index_or xs k x ≡ x) (length xs)). inl (l.number, l.below, l.holds))
    (λ none. inr (λ (k, h, e). none k h e))
    (search_below (λ k. slice_index_or xs k x ≡ x) (length xs) (λ k h. cases_eq (slice_index_or xs k x) x))

in_range_or_not : (edition : Edition) (f : List ℕ)
    → IsDegreeInRange edition f ⊎ ¬ IsDegreeInRange edition f
in_range_or_not edition f = ⊎_elim
    (λ l. inr (λ h. absurd (let k : 2 ≤ degree f = h.0 in omega arith)))
    (λ h. ⊎_elim
    (λ l. inr (λ k. absurd (let m : degree f ≤ edition.top = k.1 in omega arith)))
    (λ k. inl (h, k)) (cases_lt edition.top (degree f)))
    (cases_lt (degree f) 2)

-- the first number that isn't below p, or all are
pub first_or_none : (p : ℕ) (f : List ℕ)
    → ((place : ℕ) × IsFirstTooLarge p f place) ⊎ All (λ a. a < p) f
first_or_none p f = ⊎_elim
    (λ (l : Least (λ k. p ≤ slice_index f k) (length f)). inl (
      l.number,
      record {
        within = l.below;
        too_large = l.holds;
        first = λ k h. ⊎_elim (λ s. s) (λ m. absurd (l.least k h m)) (cases_lt (slice_index f k) p);
      },
    ))
    (λ none. inr (λ k d h. subst (λ a. a < p) (sym (get_or_default_zero f k d h))
    (⊎_elim (λ s. s) (λ m. absurd (none k h m)) (cases_lt (slice_index f k) p))))
    (search_below (λ k. p ≤ slice_index f k) (length f)
    (λ k h. ⊎_elim (λ s. inr (λ m. absurd (omega arith))) (λ m. inl m) (cases_lt (slice_index f k) p)))

-- a first number that isn't below p, where all are
pub first_of_all_below : (p : ℕ) (f : List ℕ) (place : ℕ) → IsFirstTooLarge p f place
    → All (λ a. a < p) f → ⊥
first_of_all_below p f place h all =
    let a : slice_index f place < p = all place 0 h.within in
    let b : p ≤ slice_index f place = h.too_large in
    omega arith

-- what a field is declared by, or the first thing that is wrong with it
pub malformed_or_well_formed : (edition : Edition) (p : ℕ) (f : List ℕ)
    → ((refusal : StepRefusal) × IsMalformed edition p f refusal) ⊎ IsWellFormed edition p f
malformed_or_well_formed edition p f = ⊎_elim
    (λ c. ⊎_elim
    (λ d. ⊎_elim
    (λ (place, h). inl (CoefficientTooLarge place, coefficient_too_large c d h))
    (λ a. ⊎_elim
    (λ m. inr (record { characteristic = c; in_range = d; coefficients = a; monic = m }))
    (λ n. inl (NotMonic, not_monic c d a n))
    (cases_eq (leading (mod_ops p) f) 1))
    (first_or_none p f))
    (λ n. inl (DegreeOutOfRange (degree f), degree_out_of_range c n))
    (in_range_or_not edition f))
    (λ n. inl (NotInTable p, not_in_table n))
    (contains_or_not edition.primes p)

-- the characteristics of an edition are prime
pub prime_of : {edition : Edition} → IsEdition edition → (p : ℕ) → Contains edition.primes p
    → IsPrime p
prime_of {edition} e p (k, h, s) = subst IsPrime s (e.are_prime k p h)

-- a list whose last coefficient is one has no zeros at its end
pub well_formed_polynomial : {edition : Edition} {p : ℕ} {f : List ℕ} → IsWellFormed edition p f
    → IsPolynomial (residues p) f
well_formed_polynomial {p = p} {f = f} w = (
  w.coefficients,
  trimmed_from_leading (mod_ops p) (zero_test p) f
      (λ e. absurd (let l : leading (mod_ops p) f ≡ 1 = w.monic in omega arith)),
)

-- a polynomial that a field is declared by is irreducible or has a least factor
pub irreducible_or_factored : {edition : Edition} → IsEdition edition → (p : ℕ) (f : List ℕ)
    → IsWellFormed edition p f
    → IsIrreducible (residues p) f ⊎ ((g : List ℕ) × IsLeastFactor (residues p) nat_cmp f g)
irreducible_or_factored e p f w =
    let field = prime_residues_field p (prime_of e p w.characteristic) in
    let polynomial : IsPolynomial (residues p) f = well_formed_polynomial w in
    ⊎_elim
    (λ (g, k). inr (least_factor_exists (residues_propositional p) field (residues_finite p) nat_cmp_total f g polynomial w.monic k))
    (λ none. inl (record {
      polynomial = polynomial;
      not_constant = let d : 2 ≤ degree f = w.in_range.0 in omega arith;
      no_factor = none;
    }))
    (proper_factor_or_none (residues_propositional p) field (residues_finite p) f polynomial)

-- a tagged value is a value of field i or not
pub value_or_not : (L : Lattice) (i : ℕ) (t : Tagged) → IsValueOf L i t ⊎ ¬ IsValueOf L i t
value_or_not L i t = ⊎_elim
    (λ (e, value). inl (record { tag = e; value = value }))
    (λ fails. inr (λ h. fails (h.tag, h.value)))
    (both_or_not (cases_eq t.field i)
    (both_or_not below (cases_eq (length t.value) (degree (field_at L.rows i).polynomial))))
  where
    below : All (λ a. a < (field_at L.rows i).characteristic) t.value
        ⊎ ¬ All (λ a. a < (field_at L.rows i).characteristic) t.value
    below = ⊎_elim
        (λ (place, h). inr (λ all. first_of_all_below (field_at L.rows i).characteristic t.value place h all))
        (λ all. inl all)
        (first_or_none (field_at L.rows i).characteristic t.value)

-- a prescribed pair is one of the two fields, or the tag of the first that isn't can be told
pub wrong_or_prescribed : (L : Lattice) (E F : ℕ) (sending : Option Sending)
    → ((s : Sending) × (number : ℕ) × (sending ≡ Some s) × IsWrongTag L E F s number)
    ⊎ ArePrescribed L E F sending
wrong_or_prescribed L E F None = inr tt
wrong_or_prescribed L E F (Some s) = ⊎_elim
    (λ v. ⊎_elim
    (λ w. inr (v, w))
    (λ n. inl (s, s.image.field, refl_of s, of_image v n))
    (value_or_not L F s.image))
    (λ n. inl (s, s.value.field, refl_of s, of_value n))
    (value_or_not L E s.value)
  where
    refl_of : (s : Sending) → Some s ≡ Some s
    refl_of s = λ i. Some s

-- there is a candidate or none
pub candidate_or_none : {L : Lattice} {E F : ℕ} → IsCompatible L → AreFields L E F
    → HaveOneCharacteristic L E F → (sending : Option (List ℕ × List ℕ))
    → ((v : List ℕ) × IsCandidate L E F sending v) ⊎ ((v : List ℕ) → ¬ IsCandidate L E F sending v)
candidate_or_none {L} {E} {F} C A same sending = ⊎_elim
    (λ (l : Least (λ i. IsCandidate L E F sending (K.at i).0) _). inl ((K.at l.number).0, l.holds))
    (λ none. inr (λ v c. none (K.index (v, c.value)) (K.index_below (v, c.value))
    (subst (λ (a : Element (field_values (field_at L.rows F))). IsCandidate L E F sending a.0) (sym (K.at_index (v, c.value))) c)))
    (search_below (λ i. IsCandidate L E F sending (K.at i).0) _
    (λ i h. candidate_or_not L C.rows C.compatible E F A.source A.target sending same (K.at i).0 (K.at i).1))
  where
    W : IsFiniteField (field_at L.rows F)
    W = field_finite L C.rows F A.target

    K : Enumeration (Element (field_values (field_at L.rows F)))
        ((field_at L.rows F).characteristic ^ degree_of (field_at L.rows F))
    K = (finite (field_at L.rows F).characteristic W.characteristic (field_at L.rows F).polynomial (modulus_of (field_at L.rows F) W)).members
