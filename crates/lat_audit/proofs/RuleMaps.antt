-- Maps that the images of the generators tell, and what is stored for a pair.
use Rattle.std.proofs.Common.{◌≡◌, Bool, ℕ, Some, None, List, sym, refl, ap, ◌∙◌, subst}
use Rattle.std.specs.Prelude.{◌↔◌, IsTrue}
use Rattle.std.specs.FinMap.{get}
use Rattle.alg_model.specs.Maps.{Field, generator, apply, comp, identity_map, IsEmbedding}
use Rattle.alg_model.specs.Lattices.{Lattice, Stored}
use Rattle.alg_galois.proofs.Embeddings.{identity_embedding, apply_identity, generator_is_value, comp_embedding, apply_comp}
use Rattle.ff_field.specs.SmallFields.{IsSmallField}
use Rattle.ff_embed.specs.SmallEmbeddings.{FieldMap, IsSmallEmbedding}
use Rattle.ff_embed.proofs.Undoing.{image_determines}

-- ---- the image of the generator
identity_of : Field → FieldMap
identity_of K = record { source = K; target = K; images = identity_map K }

small_identity : (K : Field) → IsSmallField K → IsSmallEmbedding (identity_of K)
unfolding identity_of
small_identity K S = record { source = S; target = S; embedding = identity_embedding K S.finite }

identity_image : (K : Field) → IsSmallField K → apply K (identity_map K) (generator K) ≡ generator K
identity_image K S = apply_identity K S.finite (generator K) (generator_is_value K K S.finite S.finite)

pub identity_by_image : (e : FieldMap) (K : Field) → IsSmallEmbedding e → e.source ≡ K → e.target ≡ K
    → (apply e.target e.images (generator e.source) ≡ generator K) ↔ (e.images ≡ identity_map K)
unfolding identity_of
identity_by_image e K S s t =
    let small : IsSmallField K = subst IsSmallField s S.source in (
      λ h. ap (λ (f : FieldMap). f.images) (image_determines e (identity_of K) S (small_identity K small) s t (h ∙ sym (identity_image K small))),
      λ h. at_identity h small,
    )
  where
    at_identity : e.images ≡ identity_map K → IsSmallField K
        → apply e.target e.images (generator e.source) ≡ generator K
    at_identity h small = subst (λ (T : Field). apply T e.images (generator e.source) ≡ generator K) (sym t)
        (subst (λ (F : Field). apply K e.images (generator F) ≡ generator K) (sym s)
        (subst (λ (m : List (List ℕ)). apply K m (generator K) ≡ generator K) (sym h) (identity_image K small)))

composition_of : FieldMap → FieldMap → FieldMap
composition_of f g = record { source = f.source; target = g.target; images = comp g.target f.images g.images }

module _ (f g : FieldMap) (F : IsSmallEmbedding f) (G : IsSmallEmbedding g) (meets : g.source ≡ f.target) where
  second : IsEmbedding f.target g.target g.images
  second = subst (λ (K : Field). IsEmbedding K g.target g.images) meets G.embedding

  small_composition : IsSmallEmbedding (composition_of f g)
  unfolding composition_of
  small_composition = record {
    source = F.source;
    target = G.target;
    embedding = comp_embedding f.source f.target g.target F.source.finite F.target.finite G.target.finite
        f.images g.images F.embedding second;
  }

  composed_image : apply g.target (comp g.target f.images g.images) (generator f.source)
      ≡ apply g.target g.images (apply f.target f.images (generator f.source))
  composed_image = apply_comp f.source f.target g.target F.source.finite F.target.finite G.target.finite
      f.images g.images F.embedding second (generator f.source) (generator_is_value f.source f.source F.source.finite F.source.finite)

  pub composition_by_image : (e : FieldMap) → IsSmallEmbedding e → f.source ≡ e.source → g.target ≡ e.target
      → (apply e.target e.images (generator e.source) ≡ apply g.target g.images (apply f.target f.images (generator f.source)))
      ↔ (e.images ≡ comp g.target f.images g.images)
  unfolding composition_of
  composition_by_image e E s t = (
    λ h. ap (λ (x : FieldMap). x.images) (image_determines e (composition_of f g) E small_composition (sym s) (sym t) (h ∙ sym composed_image)),
    λ h. subst (λ (T : Field). apply T e.images (generator e.source) ≡ apply g.target g.images (apply f.target f.images (generator f.source))) t
        (subst (λ (K : Field). apply g.target e.images (generator K) ≡ apply g.target g.images (apply f.target f.images (generator f.source))) s
        (subst (λ (m : List (List ℕ)). apply g.target m (generator f.source) ≡ apply g.target g.images (apply f.target f.images (generator f.source))) (sym h) composed_image)),
  )

  -- the second one takes the first one back
  pub back_by_image : g.target ≡ f.source
      → (apply g.target g.images (apply f.target f.images (generator f.source)) ≡ generator f.source)
      ↔ (comp f.source f.images g.images ≡ identity_map f.source)
  unfolding composition_of
  back_by_image t =
      let both = identity_by_image (composition_of f g) f.source small_composition refl t in (
        λ h. subst (λ (T : Field). comp T f.images g.images ≡ identity_map f.source) t (both.0 (composed_image ∙ h)),
        λ h. sym composed_image ∙ both.1 (subst (λ (T : Field). comp T f.images g.images ≡ identity_map f.source) (sym t) h),
      )

-- ---- what is stored
-- one map at most is stored for a pair
pub stored_once : (L : Lattice) (i j : ℕ) (m n : List (List ℕ)) → Stored L i j m → Stored L i j n → m ≡ n
stored_once L i j m n a b = let e : Some m ≡ Some n = sym a.found ∙ b.found in cc

pub none_stored : (L : Lattice) (i j : ℕ) (m : List (List ℕ)) → get L.maps (i, j) ≡ None → Stored L i j m → ⊥
none_stored L i j m none s = let e : None ≡ Some m = sym none ∙ s.found in cc

-- a map that is stored is the one that is asked for
pub stored_as : (L : Lattice) (i j : ℕ) (m n : List (List ℕ)) (b : Bool) → Stored L i j m
    → IsTrue b ↔ (m ≡ n) → IsTrue b ↔ Stored L i j n
stored_as L i j m n b s h = (
  λ t. subst (λ (x : List (List ℕ)). Stored L i j x) (h.0 t) s,
  λ o. h.1 (stored_once L i j m n s o),
)
