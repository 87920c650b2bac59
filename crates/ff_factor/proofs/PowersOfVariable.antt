-- The powers x^(k p) modulo f, and the columns of v^p - v, over the residues modulo a characteristic.
use Rattle.std.proofs.Common.{◌≡◌, ⊎_elim, ℕ, suc, ◌+◌, ◌-◌, ◌*◌, ◌<◌, ◌≤◌, ◌==◌, cond, List, [], ◌∷◌, length, map, replicate, slice_index, All, ap, ap₂, sym, ◌∙◌, arith, subst}
use Rattle.std.proofs.lemmas.Bool.{cases_lt, ne_eqb}
use Rattle.std.proofs.lemmas.List.{get_or_past}
use Rattle.alg_model.specs.Coefficients.{Ops, mod_ops, residues}
use Rattle.alg_model.specs.Polynomials.{trim, poly_power}
use Rattle.alg_model.specs.Factors.{IsMonic, IsDivision}
use Rattle.alg_model.specs.Fields.{IsField}
use Rattle.alg_model.specs.Values.{degree, times_x, remainder, values}
use Rattle.alg_model.specs.Matrices.{Matrix, combination, matrix_apply, IsColumn}
use Rattle.alg_rings.proofs.ResidueFields.{residues_field, residues_propositional}
use Rattle.alg_rings.proofs.CarrierPolynomials
use Rattle.alg_fields.proofs.Remainders.{remainder_value, remainder_one}
use Rattle.ff_poly.specs.Polynomial.{Polynomial, IsPoly}
use Rattle.ff_matrix.specs.ModularMatrix.{ModularMatrix}
use Rattle.ff_factor.specs.Certificates.{berlekamp_column}
use Rattle.ff_factor.specs.PrivateSplitting.{IsPowerOfVariable, ArePlacesOfPower}
use Rattle.std.specs.List.{range_with_len}
use Rattle.ff_factor.proofs.BerlekampColumns
use Rattle.ff_factor.proofs.Congruences

module _ (f : Polynomial) (whole : IsPoly f) (monic : IsMonic (residues f.prime) f.coefficients) (not_constant : 1 < length f.coefficients) where
  abbrev o : Ops ℕ
  o = mod_ops f.prime

  abbrev F : IsField (residues f.prime)
  F = residues_field f.prime whole.characteristic

  abbrev x : List ℕ
  x = 0 ∷ 1 ∷ []

  abbrev rest : List ℕ → List ℕ
  rest g = remainder (mod_ops f.prime) f.coefficients g

  -- by division
  pub power_from_division : (k e : ℕ) (x g : Polynomial) → x.prime ≡ f.prime → x.coefficients ≡ 0 ∷ 1 ∷ [] → e ≡ k * f.prime
      → (q : List ℕ) × IsDivision (residues x.prime) (poly_power (mod_ops x.prime) x.coefficients e) f.coefficients q g.coefficients
      → IsPowerOfVariable f k g.coefficients
  power_from_division k e x g xp xc h (q, d) =
      let d' : IsDivision (residues f.prime) (poly_power o x.coefficients e) f.coefficients q g.coefficients =
      subst (λ p. IsDivision (residues p) (poly_power (mod_ops p) x.coefficients e) f.coefficients q g.coefficients) xp d in
      record {
        residues = d'.remainder.0;
        short = let s : length g.coefficients < length f.coefficients = d'.smaller in omega arith;
        power =
            Congruences.remainder_from_division (residues_propositional f.prime) F (f.coefficients, whole.polynomial)
            not_constant monic (poly_power o x.coefficients e) q g.coefficients d'
            ∙ ap₂ (λ c n. rest (poly_power o c n)) xc h;
      }

  -- **the powers of x in turn**
  pub places_of_one : ArePlacesOfPower f 0 (1 ∷ replicate (degree f.coefficients - 1) 0)
  places_of_one = sym (remainder_one (residues_propositional f.prime) F (f.coefficients, whole.polynomial) not_constant monic)

  pub places_of_next : (e : ℕ) (xs ys : List ℕ) → ArePlacesOfPower f e xs
      → ys ≡ times_x o f.coefficients xs → ArePlacesOfPower f (suc e) ys
  places_of_next e xs ys h k =
      k ∙ ap (times_x o f.coefficients) h
      ∙ sym (Congruences.next_power (residues_propositional f.prime) F (f.coefficients, whole.polynomial) not_constant monic e)

  -- the places of the remainder
  remainder_valid : (e : ℕ) → (values (residues f.prime) f.coefficients).Valid (rest (poly_power o x e))
  remainder_valid e =
      remainder_value (residues_propositional f.prime) F (f.coefficients, whole.polynomial) not_constant monic
      (poly_power o x e, Congruences.power_polynomial (residues_propositional f.prime) F e)

  pub power_column : (e : ℕ) (c : List ℕ) → c ≡ rest (poly_power o x e) → IsColumn (residues f.prime) (degree f.coefficients) c
  power_column e c same = let v = remainder_valid e in
      subst (IsColumn (residues f.prime) (degree f.coefficients)) (sym same) (v.1, v.0)

  pub power_from_remainder : (k : ℕ) (c : List ℕ) → c ≡ rest (poly_power o x (k * f.prime)) → IsPowerOfVariable f k c
  power_from_remainder k c same =
      let g = poly_power o x (k * f.prime) in
      let v = remainder_valid (k * f.prime) in
      record {
        residues = subst (All (λ y. y < f.prime)) (sym same) v.0;
        short = omega (arith, ap length same, v.1);
        power = ap rest same
            ∙ Congruences.remainder_of_itself (residues_propositional f.prime) F (f.coefficients, whole.polynomial) not_constant monic (rest g) v;
      }

  pub power_from_places : (k : ℕ) (xs c : List ℕ) → ArePlacesOfPower f (k * f.prime) xs → c ≡ xs → IsPowerOfVariable f k c
  power_from_places k xs c h same = power_from_remainder k c (same ∙ h)

  -- **from x^(k p) to x^((k + 1) p), by the matrix of x^p, x^(p + 1), ..**
  pub next_from_table : (k : ℕ) (t : Matrix ℕ) (c : List ℕ) → t.rows ≡ degree f.coefficients
      → t.columns ≡ map (λ j. rest (poly_power o x j)) (range_with_len f.prime (degree f.coefficients))
      → c ≡ rest (poly_power o x (k * f.prime)) → matrix_apply (mod_ops f.prime) t c ≡ rest (poly_power o x (suc k * f.prime))
  next_from_table k t c rows columns same =
      let v = remainder_valid (k * f.prime) in
      let long : length c ≡ degree f.coefficients = ap length same ∙ v.1 in
      let more : k * f.prime + f.prime ≡ suc k * f.prime = omega arith in
      ap₂ (λ n cs. combination (mod_ops f.prime) n cs c) rows
      (columns ∙ ap (λ n. map (λ j. rest (poly_power o x j)) (range_with_len f.prime n)) (sym long))
      ∙ BerlekampColumns.table_combination (residues_propositional f.prime) F f.prime (f.coefficients, whole.polynomial) not_constant monic
      f.prime (k * f.prime) c (subst (values (residues f.prime) f.coefficients).Valid (sym same) v) same
      ∙ ap (λ e. rest (poly_power o x e)) more

  pub next_column : (k : ℕ) (t : ModularMatrix) (c next : List ℕ) → 1 ≤ k → t.prime ≡ f.prime → t.matrix.rows ≡ degree f.coefficients
      → t.matrix.columns ≡ map (λ j. rest (poly_power o x j)) (range_with_len f.prime (degree f.coefficients))
      → c ≡ rest (poly_power o x ((k - 1) * f.prime)) → next ≡ matrix_apply (mod_ops t.prime) t.matrix c → next ≡ rest (poly_power o x (k * f.prime))
  next_column k t c next l prime rows columns same e =
      let at : suc (k - 1) ≡ k = omega arith in
      e ∙ ap (λ q. matrix_apply (mod_ops q) t.matrix c) prime
      ∙ next_from_table (k - 1) t.matrix c rows columns same ∙ ap (λ j. rest (poly_power o x (j * f.prime))) at

  -- **a column from the places of the power**
  pub column_from_power : (k : ℕ) (g x : List ℕ) → k < degree f.coefficients → IsPowerOfVariable f k g → IsColumn (residues f.prime) (degree f.coefficients) x
      → ((i : ℕ) → i < degree f.coefficients → slice_index x i ≡ (mod_ops f.prime).add (slice_index g i) ((mod_ops f.prime).neg (cond (i == k) 1 0)))
      → x ≡ berlekamp_column (mod_ops f.prime) f.prime f.coefficients k
  column_from_power k g x l power v at =
      Congruences.column_from_places (residues_propositional f.prime) F (f.coefficients, whole.polynomial) not_constant monic f.prime k
      (trim o g) x (CarrierPolynomials.trim_polynomial (residues_propositional f.prime) F.ring g power.residues) v
      (Congruences.remainder_of_trimmed (residues_propositional f.prime) F (f.coefficients, whole.polynomial) not_constant monic g power.residues ∙ power.power)
      (λ i. ⊎_elim (λ li. at i li) (λ li. past i li) (cases_lt i (degree f.coefficients))
      ∙ ap (λ a. o.add a (o.neg (cond (i == k) 1 0))) (sym (CarrierPolynomials.trim_at (residues_propositional f.prime) F.ring g i power.residues)))
    where
      past : (i : ℕ) → degree f.coefficients ≤ i → slice_index x i ≡ o.add (slice_index g i) (o.neg (cond (i == k) 1 0))
      past i li =
          get_or_past x i 0 (omega (arith, v.0))
          ∙ sym (ap₂ (λ a b. o.add a (o.neg (cond b 1 0))) (get_or_past g i 0 (omega (arith, power.short))) (ne_eqb i k (omega arith))
          ∙ F.ring.add_neg 0 F.ring.zero_valid)
