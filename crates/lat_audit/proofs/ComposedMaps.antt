-- A map that is one stored map after another.
use Rattle.std.proofs.Common.{◌≡◌, ℕ, List, Option, Some, None, ap, ap₂, sym, ◌∙◌, subst}
use Rattle.std.specs.Prelude.{Contains, IfSome}
use Rattle.std.proofs.lemmas.List.Elements.{All-contains}
use Rattle.alg_model.specs.Maps.{Field, degree_of, constants, generator, apply, comp, powers, IsEmbedding}
use Rattle.alg_model.specs.Roots.{IsRoot}
use Rattle.alg_model.specs.Lattices.{Row, field_at}
use Rattle.alg_model.specs.Candidates.{map_sending}
use Rattle.alg_galois.proofs.Embeddings.{apply_comp, generator_is_value, embedding_is_powers_of_image}
use Rattle.alg_galois.proofs.EmbeddingRoots.{generator_image_root}
use Rattle.ff_embed.specs.SmallEmbeddings.{FieldMap, IsSmallEmbedding}
use Rattle.lat_core.specs.SharedRows.{IsBetween, AreBetween}
use Rattle.lat_core.specs.declared.rows.MapRow.{MapRow}
use Rattle.lat_audit.specs.Verdicts.{IsGeneratorImage}

-- it sends the generator where the second map sends the image under the first one
pub composed_image : (a b e : FieldMap) (v : List ℕ) → IsSmallEmbedding a → IsSmallEmbedding b
    → b.source ≡ a.target → e.source ≡ a.source → e.target ≡ b.target
    → e.images ≡ comp b.target a.images b.images
    → apply b.target b.images (apply a.target a.images (generator a.source)) ≡ v
    → apply e.target e.images (generator e.source) ≡ v
composed_image a b e v A B meets source target images is =
    let C : IsEmbedding a.target b.target b.images =
    subst (λ (K : Field). IsEmbedding K b.target b.images) meets B.embedding in
    ap₂ (λ (K : Field) m. apply K m (generator e.source)) target images
    ∙ ap (λ (K : Field). apply b.target (comp b.target a.images b.images) (generator K)) source
    ∙ apply_comp a.source a.target b.target A.source.finite A.target.finite B.target.finite a.images
    b.images A.embedding C (generator a.source)
    (generator_is_value a.source a.target A.source.finite A.target.finite) ∙ is

-- **an embedding between two fields of the rows is judged by its generator's image**
pub judged_by_image : (rows : List Row) (i j : ℕ) (v : List ℕ) (e : FieldMap) → IsSmallEmbedding e
    → IsBetween rows i j e → apply e.target e.images (generator e.source) ≡ v
    → IsGeneratorImage rows i j v × IsBetween rows i j e
    × (e.images ≡ map_sending (field_at rows i) (field_at rows j) v)
judged_by_image rows i j v e S b is =
    let U = S.source.finite in
    let V = S.target.finite in
    let root : IsRoot e.target (constants e.target e.source.polynomial) v =
    subst (IsRoot e.target (constants e.target e.source.polynomial)) is
    (generator_image_root e.source e.target U V e.images S.embedding) in (
      record {
        characteristic = sym (ap (λ (K : Field). K.characteristic) b.source)
            ∙ S.embedding.same_characteristic ∙ ap (λ (K : Field). K.characteristic) b.target;
        root = subst (λ (K : Field). IsRoot K (constants K (field_at rows i).polynomial) v) b.target
            (subst (λ (K : Field). IsRoot e.target (constants e.target K.polynomial) v) b.source root);
      },
      b,
      embedding_is_powers_of_image e.source e.target U V e.images S.embedding
          ∙ ap (λ w. powers e.target w (degree_of e.source)) is
          ∙ ap₂ (λ (K L : Field). powers K v (degree_of L)) b.target b.source,
    )

-- so is a map that was found, if one was
pub some_judged : (rows : List Row) (i j : ℕ) (v : List ℕ) (a b : FieldMap) (found : Option FieldMap)
    → a.source ≡ field_at rows i → b.target ≡ field_at rows j
    → IfSome found (λ map. (map.source ≡ a.source) × (map.target ≡ b.target)
    × IsSmallEmbedding map × (apply map.target map.images (generator map.source) ≡ v))
    → IfSome found (λ map. IsGeneratorImage rows i j v × IsBetween rows i j map
    × (map.images ≡ map_sending (field_at rows i) (field_at rows j) v))
some_judged rows i j v a b None s t h = tt
some_judged rows i j v a b (Some e) s t h =
    judged_by_image rows i j v e h.2 (record { source = h.0 ∙ s; target = h.1 ∙ t }) h.3

-- a map of the list that goes between these fields
pub found_between : (rows : List Row) (maps : List MapRow) (m : MapRow) (i j : ℕ)
    → AreBetween rows maps → Contains maps m → m.from ≡ i → m.into ≡ j → IsBetween rows i j m.map
found_between rows maps m i j between held from into =
    subst (λ (k : ℕ). IsBetween rows k j m.map) from
    (subst (λ (k : ℕ). IsBetween rows m.from k m.map) into
    (All-contains (λ (x : MapRow). IsBetween rows x.from x.into x.map) maps m between held))
