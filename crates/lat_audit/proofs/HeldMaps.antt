-- The lattice of a content whose polynomials are irreducible and whose images are those of
-- embeddings holds embeddings of finite fields.
use Rattle.std.proofs.Common.{◌≡◌, ℕ, suc, ◌<◌, cond, Some, List, [], ◌∷◌, length, map, sym, ap, ◌∙◌, subst, ⊎_elim, arith}
use Rattle.std.specs.Prelude.{Contains}
use Rattle.std.specs.Ordering.{eq_by_cmp}
use Rattle.std.specs.FinMap.{get-from_entries, find}
use Rattle.std.proofs.lemmas.Bool.{cases_Bool}
use Rattle.std.proofs.lemmas.List.Elements.{All-contains}
use Rattle.alg_model.specs.Maps.{IsFiniteField, generator, apply, IsEmbedding}
use Rattle.alg_model.specs.Candidates.{map_sending}
use Rattle.alg_model.specs.Lattices.{Row, Stored, field_at, pair_cmp}
use Rattle.alg_galois.proofs.EmbeddingRoots.{embedding_of_root}
use Rattle.alg_compatible.proofs.Tables.{pair_total}
use Rattle.alg_compatible.proofs.Editions.{first_is_edition}
use Rattle.lat_core.proofs.Decisions.{prime_of}
use Rattle.lat_audit.specs.Readings.{Image, Content, map_of, lattice_of}
use Rattle.lat_audit.specs.Verdicts.{None as Never, IsReducible, IsWrongImage}
use Rattle.lat_audit.specs.PrivateRules.{HoldsMaps}
use Rattle.lat_audit.proofs.StoredMaps.{pair_tied}
use Rattle.lat_audit.proofs.FiniteSearches.{holds_told}
use Rattle.lat_audit.proofs.SomeReading.{ArePolys, AreWithin, poly_at}
use Rattle.lat_audit.proofs.SomeFaults.{irreducible_at, generator_image_told}

-- what is found for a pair is the map of one of the images
IsOne : List Row → List Image → ℕ × ℕ → List (List ℕ) → Type 0
IsOne rows images q m = (v : List ℕ) × Contains images (q, v)
    × (m ≡ map_sending (field_at rows q.0) (field_at rows q.1) v)

found_image : (rows : List Row) (images : List Image) (q : ℕ × ℕ) (m : List (List ℕ))
    → find pair_cmp q (map (map_of rows) images) ≡ Some m → IsOne rows images q m
unfolding IsOne
found_image rows [] q m e = cc
found_image rows (x ∷ images) q m e = ⊎_elim
    (λ tied.
    let same = pair_tied q x.0 tied in
    let here : ◌≡◌ {A = Image} x (q, x.1) = λ i. ((sym same.0 i, sym same.1 i), x.1) in
    let first : Some (map_of rows x).1 ≡ Some m
    = sym (ap (λ b. cond b (Some (map_of rows x).1) (find pair_cmp q (map (map_of rows) images))) tied) ∙ e in
    let own : m ≡ map_sending (field_at rows x.0.0) (field_at rows x.0.1) x.1 = cc in (
      x.1,
      (0, omega arith, here),
      own ∙ ap (λ (y : Image). map_sending (field_at rows y.0.0) (field_at rows y.0.1) x.1) here,
    ))
    (λ apart.
    let (v, (k, l, is), own) = found_image rows images q m
    (sym (ap (λ b. cond b (Some (map_of rows x).1) (find pair_cmp q (map (map_of rows) images))) apart) ∙ e) in
    (v, (suc k, omega (arith, l), is), own))
    (cases_Bool (eq_by_cmp pair_cmp q x.0))

module _ (c : Content) (polys : ArePolys c.rows) (within : AreWithin c.rows c.images)
    (fields : Never (IsReducible c.rows)) (images : Never (IsWrongImage c)) where
  pub field_finite : (i : ℕ) → i < length c.rows → IsFiniteField (field_at c.rows i)
  field_finite i l =
      let is = poly_at c.rows polys i l in
      record {
        characteristic = prime_of first_is_edition (field_at c.rows i).characteristic is.characteristic;
        monic = is.monic;
        irreducible = holds_told (irreducible_at c.rows polys i l)
            (λ fails. fields i (record { within = l; reducible = fails }));
      }

  pub image_within : (i j : ℕ) (v : List ℕ) → Contains c.images ((i, j), v)
      → (i < length c.rows) × (j < length c.rows)
  image_within i j v there = All-contains (λ (e : Image). (e.0.0 < length c.rows) × (e.0.1 < length c.rows))
      c.images ((i, j), v) within there

  -- an image is that of an embedding
  pub image_embeds : (i j : ℕ) (v : List ℕ) → Contains c.images ((i, j), v)
      → IsEmbedding (field_at c.rows i) (field_at c.rows j)
      (map_sending (field_at c.rows i) (field_at c.rows j) v)
      × (apply (field_at c.rows j) (map_sending (field_at c.rows i) (field_at c.rows j) v)
      (generator (field_at c.rows i)) ≡ v)
  image_embeds i j v there =
      let w = image_within i j v there in
      let root = holds_told (generator_image_told c.rows i j v) (λ fails. images (i, j) (v, there, fails)) in
      embedding_of_root (field_at c.rows i) (field_at c.rows j) (field_finite i w.0) (field_finite j w.1)
      root.characteristic v root.root

  stored_image : (i j : ℕ) (m : List (List ℕ)) → Stored (lattice_of c) i j m → IsOne c.rows c.images (i, j) m
  stored_image i j m s = found_image c.rows c.images (i, j) m
      (sym (get-from_entries pair_total (map (map_of c.rows) c.images) (i, j)) ∙ s.found)

  -- **its lattice holds maps**
  pub holds_maps : HoldsMaps (lattice_of c)
  unfolding IsOne
  holds_maps = record {
    finite = field_finite;
    within = λ i j m s. let (v, there, own) = stored_image i j m s in image_within i j v there;
    embedding = λ i j m s.
        let (v, there, own) = stored_image i j m s in
        subst (IsEmbedding (field_at c.rows i) (field_at c.rows j)) (sym own) (image_embeds i j v there).0;
  }
