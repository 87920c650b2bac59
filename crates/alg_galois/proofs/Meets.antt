-- Subfields of a finite field: those of degrees i and j meet in that of degree gcd(i, j).
use Rattle.std.proofs.Common.{◌≡◌, ◌↔◌, ℕ, zero, suc, ◌^◌, ◌<◌, List, length, ap, sym, ◌∙◌, subst, arith}
use Rattle.std.specs.Int.{IsGcd}
use Rattle.std.proofs.lemmas.Nat.Gcd.{dvd_of_mod-eq-zero, mod-eq-zero_of_dvd}
use Rattle.std.proofs.Math.Nat.{eq-zero_of_zero-dvd, zero-mod}
use Prim.Native.Nat.{◌∣◌}
use Rattle.alg_model.specs.Coefficients.{power}
use Rattle.alg_model.specs.Maps.{Field, IsFiniteField, field_values, degree_of, generator, constants, powers, apply, comp, IsEmbedding, IsMeet}
use Rattle.alg_model.specs.Roots.{IsRoot}
use Rattle.alg_rings.proofs.Elements.{underlying_injective}
use Rattle.alg_finite.proofs.FiniteField.{frobenius, frobenius_none}
use Rattle.alg_galois.proofs.Fields.{modulus_of, propositional, power_value, ops, laws}
use Rattle.alg_galois.proofs.FieldFrobenius.{frobenius_returns_gcd, frobenius_returns_multiple}
use Rattle.alg_galois.proofs.Embeddings.{apply_valid, embedding_injective, generator_is_value, comp_embedding, apply_comp}
use Rattle.alg_galois.proofs.EmbeddingRoots
use Rattle.alg_galois.proofs.LeastIrreducible.{field_exists}

module _ (K : Field) (W : IsFiniteField K) (w : List ℕ) (vw : (field_values K).Valid w) where
  -- fixed as a list and as an element
  element_fixed : (n : ℕ) → power (field_values K).ops w (K.characteristic ^ n) ≡ w
      → frobenius (ops K.characteristic W.characteristic K.polynomial (modulus_of K W))
      K.characteristic n (w, vw) ≡ (w, vw)
  element_fixed n e = underlying_injective
      (propositional K.characteristic W.characteristic K.polynomial (modulus_of K W)) _ _
      (power_value K.characteristic W.characteristic K.polynomial (modulus_of K W) (w, vw)
      (K.characteristic ^ n) ∙ e)

  list_fixed : (n : ℕ) → frobenius
      (ops K.characteristic W.characteristic K.polynomial (modulus_of K W)) K.characteristic n
      (w, vw) ≡ (w, vw)
      → power (field_values K).ops w (K.characteristic ^ n) ≡ w
  list_fixed n e = sym (power_value K.characteristic W.characteristic K.polynomial (modulus_of K W)
      (w, vw) (K.characteristic ^ n)) ∙ ap (λ y. y.0) e

  -- **a value fixed by the powers p^i and p^j is fixed by the power p^gcd(i, j)**
  pub fixed_by_gcd : (i j d : ℕ) → IsGcd i j d
      → power (field_values K).ops w (K.characteristic ^ i) ≡ w
      → power (field_values K).ops w (K.characteristic ^ j) ≡ w
      → power (field_values K).ops w (K.characteristic ^ d) ≡ w
  fixed_by_gcd i j d e ei ej =
      list_fixed d (frobenius_returns_gcd K.characteristic W.characteristic K.polynomial
      (modulus_of K W) i j d
      (λ n ri rj. mod-eq-zero_of_dvd n (e.2 n (dvd_of_mod-eq-zero n ri) (dvd_of_mod-eq-zero n rj)))
      (w, vw) (element_fixed i ei) (element_fixed j ej))

  -- and what the power p^d fixes, so does the power p^n where d divides n
  pub fixed_by_multiple : (d n : ℕ) → d ∣ n
      → power (field_values K).ops w (K.characteristic ^ d) ≡ w
      → power (field_values K).ops w (K.characteristic ^ n) ≡ w
  fixed_by_multiple d n k e =
      list_fixed n (frobenius_returns_multiple K.characteristic W.characteristic K.polynomial
      (modulus_of K W) d n (mod-eq-zero_of_dvd d k) (w, vw) (element_fixed d e))

-- a degree is positive
pub degree_positive : (K : Field) → IsFiniteField K → 0 < degree_of K
degree_positive K W = let l : 1 < length K.polynomial = W.irreducible.not_constant in omega arith

module _ (I J K L : Field) (RI : IsFiniteField I) (RJ : IsFiniteField J) (RK : IsFiniteField K)
    (RL : IsFiniteField L)
    (u v a b : List (List ℕ)) (U : IsEmbedding L I u) (V : IsEmbedding L J v)
    (A : IsEmbedding I K a) (B : IsEmbedding J K b) (square : comp K u a ≡ comp K v b) where
  into : IsEmbedding L K (comp K u a)
  into = comp_embedding L I K RL RI RK u a U A

  around : (z : List ℕ) → (field_values L).Valid z
      → apply K a (apply I u z) ≡ apply K b (apply J v z)
  around z vz = sym (apply_comp L I K RL RI RK u a U A z vz) ∙ ap (λ m. apply K m z) square
      ∙ apply_comp L J K RL RJ RK v b V B z vz

  -- **subfields whose degree is the gcd are meets**
  pub meet_from_gcd : IsGcd (degree_of I) (degree_of J) (degree_of L) → IsMeet I J K L u v a b
  meet_from_gcd g x y vx vy e = (
    z.0,
    z.1,
    embedding_injective I K RI RK a A (apply I u z.0) x (apply_valid L I RL RI u U z.0 z.1) vx
        (sym (apply_comp L I K RL RI RK u a U A z.0 z.1) ∙ z.2),
    embedding_injective J K RJ RK b B (apply J v z.0) y (apply_valid L J RL RJ v V z.0 z.1) vy
        (sym (around z.0 z.1) ∙ sym (apply_comp L I K RL RI RK u a U A z.0 z.1) ∙ z.2 ∙ e),
  )
    where
      w : List ℕ
      w = apply K a x

      vw : (field_values K).Valid (apply K a x)
      vw = apply_valid I K RI RK a A x vx

      z : (z : List ℕ) × (field_values L).Valid z × (apply K (comp K u a) z ≡ apply K a x)
      z = EmbeddingRoots.fixed_is_image L K RL RK (comp K u a) into (apply K a x) vw
          (fixed_by_gcd K RK (apply K a x) vw (degree_of I) (degree_of J) (degree_of L) g
          (EmbeddingRoots.image_fixed I K RI RK a A x vx)
          (ap (λ t. power (field_values K).ops t (K.characteristic ^ degree_of J)) e
          ∙ EmbeddingRoots.image_fixed J K RJ RK b B y vy ∙ sym e))

  -- a subfield of both is one of their meet
  module _ (meets : IsMeet I J K L u v a b) (D : Field) (RD : IsFiniteField D)
      (same : D.characteristic ≡ I.characteristic) (di : degree_of D ∣ degree_of I)
      (dj : degree_of D ∣ degree_of J) where
    r : (r : List ℕ) × IsRoot I (constants I D.polynomial) r
    r = EmbeddingRoots.root_exists D I RD RI same di

    abbrev s : List (List ℕ)
    s = powers I r.0 (degree_of D)

    S : IsEmbedding D I s
    S = (EmbeddingRoots.embedding_of_root D I RD RI same r.0 r.1).0

    through : (m : List (List ℕ)) × IsEmbedding D J m × (comp K m b ≡ comp K s a)
    through = EmbeddingRoots.embedding_through D J K RD RJ RK (comp K s a) b
        (comp_embedding D I K RD RI RK s a S A) B dj

    common_divides : degree_of D ∣ degree_of L
    common_divides =
        let t = through in
        let x : List ℕ = generator D in
        let vx : (field_values D).Valid x = generator_is_value D I RD RI in
        let e : apply K a (apply I s x) ≡ apply K b (apply J t.0 x) =
        sym (apply_comp D I K RD RI RK s a S A x vx) ∙ ap (λ m. apply K m x) (sym t.2)
        ∙ apply_comp D J K RD RJ RK t.0 b t.1 B x vx in
        let z : (z : List ℕ) × (field_values L).Valid z × (apply I u z ≡ apply I s x)
        × (apply J v z ≡ apply J t.0 x) =
        meets (apply I s x) (apply J t.0 x) (apply_valid D I RD RI s S x vx)
        (apply_valid D J RD RJ t.0 t.1 x vx) e in
        let w : apply K (comp K u a) z.0 ≡ apply K (comp K s a) x =
        apply_comp L I K RL RI RK u a U A z.0 z.1 ∙ ap (apply K a) z.2
        ∙ sym (apply_comp D I K RD RI RK s a S A x vx) in
        let C : IsEmbedding D K (comp K s a) = comp_embedding D I K RD RI RK s a S A in
        let back : power (field_values K).ops (apply K (comp K s a) x)
        (K.characteristic ^ degree_of L) ≡ apply K (comp K s a) x =
        ap (λ y. power (field_values K).ops y (K.characteristic ^ degree_of L)) (sym w)
        ∙ EmbeddingRoots.image_fixed L K RL RK (comp K u a) into z.0 z.1 ∙ w in
        dvd_of_mod-eq-zero (degree_of D)
        ((EmbeddingRoots.root_powers_agree D K RD RK C.same_characteristic
        (apply K (comp K s a) x)
        (EmbeddingRoots.generator_image_root D K RD RK (comp K s a) C)
        (degree_of L) 0).0 (back ∙ sym
        (none (apply K (comp K s a) x) (apply_valid D K RD RK (comp K s a) C x vx)))
        ∙ zero-mod (degree_of D))
      where
        none : (y : List ℕ) → (field_values K).Valid y
            → power (field_values K).ops y (K.characteristic ^ 0) ≡ y
        none y vy = sym (power_value K.characteristic RK.characteristic K.polynomial
            (modulus_of K RK) (y, vy) (K.characteristic ^ 0))
            ∙ ap (λ q. q.0) (frobenius_none
            (laws K.characteristic RK.characteristic K.polynomial (modulus_of K RK)).ring
            K.characteristic (y, vy))

  -- **and the degree of a meet is the gcd**
  pub gcd_from_meet : IsMeet I J K L u v a b → IsGcd (degree_of I) (degree_of J) (degree_of L)
  gcd_from_meet meets = (
    EmbeddingRoots.embedding_degree_divides L I RL RI u U,
    EmbeddingRoots.embedding_degree_divides L J RL RJ v V,
    each,
  )
    where
      each : (d : ℕ) → d ∣ degree_of I → d ∣ degree_of J → d ∣ degree_of L
      each zero di dj = absurd (omega (arith, eq-zero_of_zero-dvd di, degree_positive I RI))
      each (suc d) di dj =
          let D : (D : Field) × IsFiniteField D × (D.characteristic ≡ I.characteristic)
          × (degree_of D ≡ suc d) =
          field_exists I.characteristic (suc d) RI.characteristic (omega arith) in
          subst (λ n. n ∣ degree_of L) D.3
          (common_divides meets D.0 D.1 D.2 (subst (λ n. n ∣ degree_of I) (sym D.3) di)
          (subst (λ n. n ∣ degree_of J) (sym D.3) dj))

  -- both ways
  pub meet_is_gcd : IsMeet I J K L u v a b ↔ IsGcd (degree_of I) (degree_of J) (degree_of L)
  meet_is_gcd = (gcd_from_meet, meet_from_gcd)

-- ---- one subfield
-- **a field has a subfield of each degree that divides its own**
pub subfield_exists : (F : Field) → IsFiniteField F → (d : ℕ) → d ∣ degree_of F
    → (E : Field) × IsFiniteField E × (degree_of E ≡ d) × ((m : List (List ℕ)) × IsEmbedding E F m)
subfield_exists F W zero k = absurd (omega (arith, eq-zero_of_zero-dvd k, degree_positive F W))
subfield_exists F W (suc d) k =
    let E : (E : Field) × IsFiniteField E × (E.characteristic ≡ F.characteristic)
    × (degree_of E ≡ suc d) =
    field_exists F.characteristic (suc d) W.characteristic (omega arith) in
    let v : (v : List ℕ) × IsRoot F (constants F E.0.polynomial) v =
    EmbeddingRoots.root_exists E.0 F E.1 W E.2 (subst (λ n. n ∣ degree_of F) (sym E.3) k) in (
      E.0,
      E.1,
      E.3,
      (
        powers F v.0 (degree_of E.0),
        (EmbeddingRoots.embedding_of_root E.0 F E.1 W E.2 v.0 v.1).0,
      ),
    )

-- **whose values are those that are their own power p^d**
pub subfield_is_fixed : (E F : Field) → IsFiniteField E → IsFiniteField F → (m : List (List ℕ))
    → IsEmbedding E F m
    → (b : List ℕ) → (field_values F).Valid b
    → (power (field_values F).ops b (F.characteristic ^ degree_of E) ≡ b)
    ↔ ((a : List ℕ) × (field_values E).Valid a × (apply F m a ≡ b))
subfield_is_fixed E F V W m D b vb = (
  (λ e. EmbeddingRoots.fixed_is_image E F V W m D b vb e),
  (λ a. ap (λ y. power (field_values F).ops y (F.characteristic ^ degree_of E)) (sym a.2)
      ∙ EmbeddingRoots.image_fixed E F V W m D a.0 a.1 ∙ a.2),
)
