-- Members below one field: their degrees, and the maps that are forced between them.
use Rattle.std.proofs.Common.{◌≡◌, ◌≢◌, ◌↔◌, ℕ, ◌%◌, ap₂, ◌<◌, List, Bool, length, get_or, sym, ap, ◌∙◌, subst, ⊎_elim}
use Rattle.std.proofs.lemmas.Bool.{cases_order}
use Rattle.std.proofs.lemmas.List.{get_or_default}
use Rattle.std.proofs.lemmas.Nat.Gcd.{dvd_of_mod-eq-zero, mod-eq-zero_of_dvd}
use Prim.Native.Nat.{◌∣◌}
use Rattle.alg_model.specs.Maps.{degree_of, IsEmbedding}
use Rattle.alg_galois.proofs.Embeddings.{comp_cancel}
use Rattle.alg_choices.specs.Degrees.{InClosure}
use Rattle.alg_choices.specs.Degrees as Choices
use Rattle.ff_embed.specs.SmallEmbeddings.{FieldMap}
use Rattle.ff_meet.specs.Degrees.{Holds}
use Rattle.ff_meet.specs.Degrees as Sets
use Rattle.lat_world.specs.declared.members.Member.{Member}
use Rattle.lat_world.specs.Worlds.{AreMembers, map_at, no_member, ForcedMapsAreDetermined}

-- ---- degrees
module _ {s : List Bool} {P : ℕ → Type 0} (same : (d : ℕ) → Holds s d ↔ P d) where
  to_closure : {d : ℕ} → Sets.InClosure s d → InClosure P d
  to_closure (Sets.InClosure.of_member {d} h) = Choices.InClosure.of_member ((same d).0 h)
  to_closure (Sets.InClosure.of_gcd p q g) = Choices.InClosure.of_gcd (to_closure p) (to_closure q) g

  from_closure : {d : ℕ} → InClosure P d → Sets.InClosure s d
  from_closure (Choices.InClosure.of_member {d} h) = Sets.InClosure.of_member ((same d).1 h)
  from_closure (Choices.InClosure.of_gcd p q g) = Sets.InClosure.of_gcd (from_closure p) (from_closure q) g

  -- the degrees that a set lacks are those that what it holds lacks
  pub lacks : (d : ℕ) → (Sets.InClosure s d × (Holds s d → ⊥)) ↔ (InClosure P d × (P d → ⊥))
  lacks d = (
    λ (c, none). (to_closure c, λ p. none ((same d).1 p)),
    λ (c, none). (from_closure c, λ h. none ((same d).0 h)),
  )

-- ---- maps
-- the map of the member at a place
pub map_of_place : {ns ms : List Member} {a : ℕ} (other : Member) → ns ≡ ms → a < length ms
    → (get_or ns a other).map ≡ map_at ms a
map_of_place {ns} {ms} {a} other e h =
    ap (λ r. r.map) (ap (λ ls. get_or ls a other) e ∙ get_or_default ms a other no_member h)

-- a remainder that is zero
pub divided : {m n x y : ℕ} → m ≡ x → n ≡ y → m % n ≡ 0 → y ∣ x
divided {m} {n} {x} {y} e f z = dvd_of_mod-eq-zero y (sym (ap₂ (λ i j. i % j) e f) ∙ z)

-- a remainder that isn't zero
pub not_divided : {m n x y : ℕ} → m ≡ x → n ≡ y → m % n ≢ 0 → y ∣ x → ⊥
not_divided {m} {n} {x} {y} e f fails d = fails (ap₂ (λ i j. i % j) e f ∙ mod-eq-zero_of_dvd y d)

-- the degrees of two members divide as those of their maps do
pub divides_places : {x y u v : FieldMap} → x ≡ u → y ≡ v → degree_of u.source ∣ degree_of v.source
    → degree_of x.source ∣ degree_of y.source
divides_places {x} {y} {u} {v} e f d = subst (λ m. degree_of m.source ∣ degree_of y.source) (sym e)
    (subst (λ m. degree_of u.source ∣ degree_of m.source) (sym f) d)

-- the maps of any two members end in one field
pub one_target : {ms : List Member} → AreMembers ms → (a b : ℕ) → a < length ms → b < length ms
    → (map_at ms a).target ≡ (map_at ms b).target
one_target {ms} A a b la lb = ⊎_elim
    (λ e. ap (λ k. (map_at ms k).target) e)
    (λ c. ⊎_elim (λ l. A.one_target a b no_member l lb) (λ l. sym (A.one_target b a no_member l la)) c)
    (cases_order a b)

-- **at most one map is forced between two members**
pub forced_one : ForcedMapsAreDetermined
forced_one ms a b e f S T h k = λ i. record { source = source i; target = target i; images = images i }
  where
    source : e.source ≡ f.source
    source = h.source ∙ sym k.source

    target : e.target ≡ f.target
    target = h.target ∙ sym k.target

    first : IsEmbedding (map_at ms a).source (map_at ms b).source e.images
    first = subst (λ K. IsEmbedding K (map_at ms b).source e.images) h.source
        (subst (λ K. IsEmbedding e.source K e.images) h.target h.embedding)

    second : IsEmbedding (map_at ms a).source (map_at ms b).source f.images
    second = subst (λ K. IsEmbedding K (map_at ms b).source f.images) k.source
        (subst (λ K. IsEmbedding f.source K f.images) k.target k.embedding)

    images : e.images ≡ f.images
    images = comp_cancel (map_at ms a).source (map_at ms b).source (map_at ms b).target
        S.source.finite T.source.finite T.target.finite e.images f.images (map_at ms b).images
        first second T.embedding (h.followed ∙ sym k.followed)
