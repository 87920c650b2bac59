-- The first relation of the powers of a value over a subfield: its minimal polynomial.
use Rattle.std.proofs.Common.{◌≡◌, ℕ, suc, ◌+◌, ◌*◌, ◌/◌, ◌%◌, ◌<◌, ◌≤◌, List, [], length, slice_index, slice_index_or, All, ap, sym, ◌∙◌, subst, arith}
use Rattle.std.proofs.lemmas.Nat.Gcd.{mod-eq-zero_of_dvd}
use Rattle.std.proofs.Math.Nat.{mul_comm, mul-le-mul_right}
use native.Mathlib.Nat.{div-add-mod, add-zero, mul-div_cancel}
use Rattle.alg_model.specs.Fields.{IsField}
use Rattle.alg_model.specs.Maps.{Field, IsFiniteField, field_values, degree_of, apply, IsEmbedding}
use Rattle.alg_model.specs.Roots.{IsMinimalOver}
use Rattle.alg_fields.proofs.OverResidues.{field_at_values}
use Rattle.alg_galois.proofs.Embeddings.{apply_valid}
use Rattle.alg_galois.proofs.EmbeddingRoots.{embedding_degree_divides}
use Rattle.ff_residues.specs.SumRows.{sum_below}
use Rattle.ff_minpoly.specs.PrivateRelations.{HasRelation, IsRelation, IsMonicOf}
use Rattle.ff_minpoly.proofs.ValuePlaces.{propositional, combination_times}
use Rattle.ff_minpoly.proofs.ShortPolynomials.{subfield_short}
use Rattle.ff_minpoly.proofs.MinimalRelations.{monic_dependent, relation_is_minimal}

module _ (E F : Field) (V : IsFiniteField E) (W : IsFiniteField F) (m : List (List ℕ))
    (D : IsEmbedding E F m) where
  -- the degree of F is a multiple of that of E
  pub degrees_multiply : degree_of E * (degree_of F / degree_of E) ≡ degree_of F
  degrees_multiply =
      let none : degree_of F % degree_of E ≡ 0 =
      mod-eq-zero_of_dvd (degree_of E) (embedding_degree_divides E F V W m D) in
      sym (add-zero (degree_of E * (degree_of F / degree_of E)))
      ∙ ap (λ r. degree_of E * (degree_of F / degree_of E) + r) (sym none)
      ∙ div-add-mod (degree_of F) (degree_of E)

  source_field : IsField (field_values E)
  source_field = field_at_values E.characteristic V.characteristic E.polynomial V.monic V.irreducible

  module _ (a : List ℕ) (va : (field_values F).Valid a) where
    spread : (x : List ℕ) → (field_values E).Valid x → (w : List ℕ) → (field_values F).Valid w
        → (k : ℕ) → k < degree_of F
        → slice_index ((field_values F).ops.mul (apply F m x) w) k % F.characteristic
        ≡ sum_below (length m) (λ i. slice_index x i
        * slice_index ((field_values F).ops.mul (slice_index_or m i []) w) k) % F.characteristic
    spread x vx w vw k l = combination_times F W m x D.images
        (subst (λ q. All (λ y. y < q) x) D.same_characteristic vx.0) (vx.1 ∙ sym D.count) w vw k l

    -- **there is one**
    pub subfield_relation_exists : HasRelation F m a
    subfield_relation_exists =
        let S = subfield_short E F V W m D a va (degree_of F / degree_of E) degrees_multiply in
        let grown : S.1.degree * degree_of E ≤ degree_of F / degree_of E * degree_of E =
        mul-le-mul_right (degree_of E) S.1.small in
        record {
          degree = S.1.degree;
          fits = subst (λ q. S.1.degree * q ≤ degree_of F) (sym D.count)
              (subst (λ q. S.1.degree * degree_of E ≤ q)
              (mul_comm (degree_of F / degree_of E) (degree_of E) ∙ degrees_multiply) grown);
          dependent = monic_dependent F W (field_values E) (propositional E V) source_field.ring
              source_field.one_not_zero (apply F m) slice_index m (apply_valid E F V W m D) D.one
              spread a va S.0 S.1.minimal.polynomial.0 S.1.minimal.monic S.1.minimal.vanishes
              S.1.degree S.1.long;
        }

    -- **it gives the minimal polynomial**
    pub subfield_relation_is_minimal : (digits : List ℕ) → IsRelation F m a digits
        → (g : List (List ℕ)) → IsMonicOf E digits g → IsMinimalOver E F m a g
    subfield_relation_is_minimal digits R g G =
        let same_degree : R.degree ≡ G.degree =
        same_factor (degree_of E) R.degree G.degree positive
        (ap (λ q. R.degree * q) (sym D.count) ∙ sym R.count ∙ G.count) in
        let next : G.degree + 1 ≡ suc R.degree = omega (arith, same_degree) in
        relation_is_minimal F W (field_values E) (propositional E V) source_field.ring
        source_field.one_not_zero (apply F m) slice_index m (apply_valid E F V W m D) D.one
        spread a va digits R g G.valid (G.long ∙ next)
        (ap (λ r. slice_index_or g r (field_values E).ops.zero) same_degree ∙ G.top)
        (λ j i lj li. ap (λ q. slice_index digits (j * q + i)) D.count
        ∙ G.digits_are j i (omega (arith, same_degree)) (omega (arith, D.count)))
      where
        positive : 0 < degree_of E
        positive = let l : 1 < length E.polynomial = V.irreducible.not_constant in omega arith

        same_factor : (d r s : ℕ) → 0 < d → r * d ≡ s * d → r ≡ s
        same_factor d r s l e = sym (mul-div_cancel r l) ∙ ap (λ q. q / d) e ∙ mul-div_cancel s l
