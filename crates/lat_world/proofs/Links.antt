-- A forced map between two members is a link between their fields in a lattice.
use Rattle.std.proofs.Common.{◌≡◌, ℕ, ◌<◌, List, length, slice_index_or, sym, ap, ◌∙◌, subst}
use Rattle.alg_model.specs.Maps.{comp, IsEmbedding}
use Rattle.alg_model.specs.Lattices.{Row, field_at}
use Rattle.alg_choices.specs.Linking.{IsLink}
use Rattle.ff_embed.specs.SmallEmbeddings.{FieldMap}
use Rattle.lat_world.specs.declared.members.Member.{Member}
use Rattle.lat_world.specs.Worlds.{no_member, map_at, IsForcedBetween}

-- the number of the a-th member, and its map into the target
abbrev pub number_at : List Member → ℕ → ℕ
number_at ms a = (slice_index_or ms a no_member).number

abbrev pub images_at : List Member → ℕ → List (List ℕ)
images_at ms a = (map_at ms a).images

-- the members' maps begin in the fields of their numbers, and end in field F
pub record AreOfLattice (rows : List Row) (F : ℕ) (ms : List Member) : Type 0 where
  pub source : (a : ℕ) → a < length ms → (map_at ms a).source ≡ field_at rows (number_at ms a)
  pub target : (a : ℕ) → a < length ms → (map_at ms a).target ≡ field_at rows F

-- **so a forced map is the link between them**
pub forced_is_link : {rows : List Row} {F : ℕ} {ms : List Member} {a b : ℕ} {e : FieldMap}
    → AreOfLattice rows F ms → a < length ms → b < length ms → IsForcedBetween ms a b e
    → IsLink (length ms) (number_at ms) (images_at ms) F rows a b e.images
forced_is_link {rows} {F} {ms} {a} {b} {e} L la lb h = record {
  source = la;
  target = lb;
  embedding = subst (λ K. IsEmbedding K (field_at rows (number_at ms b)) e.images) (h.source ∙ L.source a la)
      (subst (λ K. IsEmbedding e.source K e.images) (h.target ∙ L.source b lb) h.embedding);
  followed = ap (λ K. comp K e.images (images_at ms b)) (sym (L.target b lb)) ∙ h.followed;
}
