-- Members below one field.
--     no_member, map_at ms a     what stands past the last member; the map of the a-th, from 0
--     degrees_of ms              the members' degrees
--     AreMembers ms              at least one, and not too many; their maps end in one field, and
--                                their numbers differ
--     IsForcedBetween ms a b e   e is the map from the a-th to the b-th that agrees with their maps
use Rattle.std.specs.Prelude.{◌≡◌, ◌≢◌, ℕ, ◌<◌, ◌≤◌, List, [], length, map, AllPairs, slice_index_or}
use Rattle.alg_model.specs.Maps.{Field, degree_of, comp, IsEmbedding}
use Rattle.ff_embed.specs.SmallEmbeddings.{FieldMap, IsSmallEmbedding}
use Rattle.lat_world.specs.declared.members.TheConstants.{MAX_MEMBERS}
use Rattle.lat_world.specs.declared.members.Member.{Member}

abbrev no_field : Field
no_field = record { characteristic = 0; polynomial = [] }

abbrev pub no_member : Member
no_member = record {
  number = 0;
  map = record { source = no_field; target = no_field; images = [] };
}

abbrev pub map_at : List Member → ℕ → FieldMap
map_at ms a = (slice_index_or ms a no_member).map

abbrev pub degrees_of : List Member → List ℕ
degrees_of ms = map (λ m. degree_of m.map.source) ms

pub record AreMembers (ms : List Member) : Type 0 where
  pub some : 0 < length ms
  pub room : length ms ≤ MAX_MEMBERS
  pub one_target : AllPairs (λ m n. m.map.target ≡ n.map.target) ms
  pub numbers_differ : AllPairs (λ m n. m.number ≢ n.number) ms

-- an embedding of the a-th member's field in the b-th's which, followed by the b-th's map, is the
-- a-th's
pub record IsForcedBetween (ms : List Member) (a b : ℕ) (e : FieldMap) : Type 0 where
  pub source : e.source ≡ (map_at ms a).source
  pub target : e.target ≡ (map_at ms b).source
  pub embedding : IsEmbedding e.source e.target e.images
  pub followed : comp (map_at ms b).target e.images (map_at ms b).images ≡ (map_at ms a).images

-- At most one map is forced between two members.
abbrev pub ForcedMapsAreDetermined : Type 0
ForcedMapsAreDetermined = (ms : List Member) (a b : ℕ) (e f : FieldMap)
    → IsSmallEmbedding (map_at ms a) → IsSmallEmbedding (map_at ms b)
    → IsForcedBetween ms a b e → IsForcedBetween ms a b f → e ≡ f
