-- What the functions of this crate hand on of an added field's map. No public clause cites this
-- module.
--     IsMadeMap K F e     e goes from K to F by the least root of the polynomial of K
use Rattle.std.specs.Prelude.{◌≡◌, ℕ, List}
use Rattle.alg_model.specs.Maps.{Field, constants}
use Rattle.alg_model.specs.Roots.{IsLeastRoot}
use Rattle.alg_model.specs.Candidates.{map_sending}
use Rattle.ff_embed.specs.SmallEmbeddings.{FieldMap}

pub record IsMadeMap (K F : Field) (e : FieldMap) : Type 0 where
  pub source : e.source ≡ K
  pub target : e.target ≡ F
  pub root : List ℕ
  pub least : IsLeastRoot F (constants F K.polynomial) root
  pub images : e.images ≡ map_sending K F root
