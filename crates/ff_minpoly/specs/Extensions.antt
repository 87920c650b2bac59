-- Which values extend an embedding.
--     Extends sub into v     where sub takes D into E and into takes D into F: sending the generator
--                            of E to v is an embedding of E in F that agrees with into on D
use Rattle.std.specs.Prelude.{◌≡◌, ℕ, List}
use Rattle.alg_model.specs.Maps.{generator, apply, comp, IsEmbedding}
use Rattle.alg_model.specs.Candidates.{map_sending}
use Rattle.ff_embed.specs.SmallEmbeddings.{FieldMap}

-- the map that sends E's generator to v is an embedding, sends it to v, and agrees with into on D
pub record Extends (sub into : FieldMap) (v : List ℕ) : Type 0 where
  pub embedding : IsEmbedding sub.target into.target (map_sending sub.target into.target v)
  pub generator : apply into.target (map_sending sub.target into.target v) (generator sub.target)
      ≡ v
  pub agrees : comp into.target sub.images (map_sending sub.target into.target v) ≡ into.images
