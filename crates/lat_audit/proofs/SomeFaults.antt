-- The first field whose polynomial has a factor, and the first pair whose image is that of no
-- embedding, or that there is none.
use Rattle.std.proofs.Common.{◌≡◌, ℕ, ◌<◌, ◌≤◌, List, [], length, refl, subst, inl, inr, ⊎_elim, arith, nat_cmp}
use Rattle.std.specs.Prelude.{Contains}
use Rattle.std.proofs.lemmas.List.Elements.{All-get_or}
use Rattle.std.proofs.lemmas.Bool.{cases_lt, cases_eq}
use Rattle.alg_model.specs.Coefficients.{residues}
use Rattle.alg_model.specs.Factors.{IsIrreducible}
use Rattle.alg_model.specs.Polynomials.{evaluate}
use Rattle.alg_model.specs.Values.{degree}
use Rattle.alg_model.specs.Maps.{Field, field_values, constants}
use Rattle.alg_model.specs.Roots.{IsRoot}
use Rattle.alg_model.specs.Lattices.{Row, field_at, pair_cmp}
use Rattle.alg_compatible.proofs.Editions.{first_is_edition}
use Rattle.lat_core.proofs.Decisions.{irreducible_or_factored}
use Rattle.lat_language.specs.PrivateDecisions.{Decided, same_text}
use Rattle.lat_audit.specs.Readings.{Image, Content}
use Rattle.lat_audit.specs.Verdicts.{IsReducible, IsGeneratorImage, IsWrongImage}
use Rattle.lat_audit.specs.PrivateReadings.{IsFieldPoly}
use Rattle.lat_audit.proofs.ReadRows.{trim_monic}
use Rattle.lat_audit.proofs.LineDecisions.{value_told}
use Rattle.lat_audit.proofs.SomeReading.{ArePolys, AreWithin, poly_at}
use Rattle.lat_audit.proofs.FiniteSearches.{FirstOrNone, told_as, both_told, fails_told, some_member, number_or_none, pair_or_none}

-- ---- fields
-- a polynomial of degree 1 has no proper factor, and of a higher degree it is known
pub irreducible_told : (p : ℕ) (f : List ℕ) → IsFieldPoly p f → Decided (IsIrreducible (residues p) f)
irreducible_told p f is = ⊎_elim
    (λ low. let some : 1 ≤ degree f = is.degree.0 in inl (record {
      polynomial = (is.coefficients, trim_monic p f is.monic);
      not_constant = omega (arith, some);
      no_factor = λ g h.
          let above : 1 < length g = h.not_constant in
          let below : length g < length f = h.smaller in
          omega (arith, low, some, above, below);
    }))
    (λ high. ⊎_elim
    (λ irreducible. inl irreducible)
    (λ (g, least). inr (λ irreducible. irreducible.no_factor g least.factor))
    (irreducible_or_factored first_is_edition p f (record {
      characteristic = is.characteristic;
      in_range = (high, is.degree.1);
      coefficients = is.coefficients;
      monic = is.monic;
    })))
    (cases_lt (degree f) 2)

module _ (rows : List Row) (polys : ArePolys rows) where
  pub irreducible_at : (i : ℕ) → i < length rows
      → Decided (IsIrreducible (residues (field_at rows i).characteristic) (field_at rows i).polynomial)
  irreducible_at i l =
      irreducible_told (field_at rows i).characteristic (field_at rows i).polynomial (poly_at rows polys i l)

  pub field_or_none : FirstOrNone nat_cmp (IsReducible rows)
  field_or_none = number_or_none (IsReducible rows) (length rows) (λ i r. r.within)
      (λ i l. told_as (λ fails. record { within = l; reducible = fails }) (λ r. r.reducible)
      (fails_told (irreducible_at i l)))

-- ---- images
root_told : (F : Field) (g : List (List ℕ)) (v : List ℕ) → Decided (IsRoot F g v)
root_told F g v = both_told (value_told F v)
    (same_text (evaluate (field_values F).ops g v) (field_values F).ops.zero)

pub generator_image_told : (rows : List Row) (i j : ℕ) (v : List ℕ)
    → Decided (IsGeneratorImage rows i j v)
generator_image_told rows i j v = told_as
    (λ h. record { characteristic = h.0; root = h.1 })
    (λ g. (g.characteristic, g.root))
    (both_told (cases_eq (field_at rows i).characteristic (field_at rows j).characteristic)
    (root_told (field_at rows j) (constants (field_at rows j) (field_at rows i).polynomial) v))

module _ (c : Content) where
  abbrev IsWrong : ℕ × ℕ → Image → Type 0
  IsWrong pair e = ((e.0.0 ≡ pair.0) × (e.0.1 ≡ pair.1)) × ¬ IsGeneratorImage c.rows pair.0 pair.1 e.1

  wrong_told : (pair : ℕ × ℕ) → Decided (IsWrongImage c pair)
  wrong_told pair = told_as
      (λ (e, there, (same, wrong)).
      let here : ◌≡◌ {A = Image} e (pair, e.1) = λ k. ((same.0 k, same.1 k), e.1) in
      (e.1, subst (Contains c.images) here there, wrong))
      (λ (v, there, wrong). ((pair, v), there, ((refl, refl), wrong)))
      (some_member (IsWrong pair)
      (λ e. both_told (both_told (cases_eq e.0.0 pair.0) (cases_eq e.0.1 pair.1))
      (fails_told (generator_image_told c.rows pair.0 pair.1 e.1)))
      (pair, []) c.images)

  wrong_within : AreWithin c.rows c.images → (i j : ℕ) → IsWrongImage c (i, j)
      → (i < length c.rows) × (j < length c.rows)
  wrong_within within i j (v, (k, l, e), wrong) =
      subst (λ (x : Image). (x.0.0 < length c.rows) × (x.0.1 < length c.rows)) e
      (All-get_or (λ (x : Image). (x.0.0 < length c.rows) × (x.0.1 < length c.rows)) c.images k ((i, j), v) l within)

  pub image_or_none : AreWithin c.rows c.images → FirstOrNone pair_cmp (IsWrongImage c)
  image_or_none within = pair_or_none (IsWrongImage c) (length c.rows) (wrong_within within)
      (λ i j li lj. wrong_told (i, j))
