-- Intersections in a compatible lattice, by degrees.
--     CommonSubfield o L i j k a b     a field with maps into i and j that agree in k, of the degree gcd
use Rattle.std.proofs.Common.{◌≡◌, ℕ}
use Rattle.std.specs.Int.{IsGcd}
use Rattle.alg_lattices.specs.Embeddings.{Embeddings, EmbeddingLaws}
use Rattle.alg_lattices.specs.Lattices.{Lattice, Compatible}

-- a field below two stored subfields of field k, of the greatest degree that is possible
pub record CommonSubfield {Field Map : Type 0} (o : Embeddings Field Map) (L : Lattice Field Map)
    (i j k : ℕ) (a b : Map) : Type 0 where
  pub field : ℕ
  pub first : Map
  pub second : Map
  pub first_stored : L.Has field i first
  pub second_stored : L.Has field j second
  pub square : o.comp (L.row k) first a ≡ o.comp (L.row k) second b
  pub gcd : IsGcd (o.degree (L.row i)) (o.degree (L.row j)) (o.degree (L.row field))

-- the intersection of two stored subfields has the gcd of their degrees
pub common_subfield : {Field Map : Type 0} {o : Embeddings Field Map} {primes : ℕ}
    {L : Lattice Field Map}
    → EmbeddingLaws o → Compatible o primes L → {i j k : ℕ} {a b : Map} → L.Has i k a → L.Has j k b
    → CommonSubfield o L i j k a b
common_subfield {o = o} {L = L} law C {i} {j} {k} {a} {b} h n =
    let (l, u, v, p, q, e) = C.meet h n in
    let square : o.comp (L.row k) u a ≡ o.comp (L.row k) v b = C.one (C.transitive p h) (C.transitive q n) in
    record {
      field = l;
      first = u;
      second = v;
      first_stored = p;
      second_stored = q;
      square = square;
      gcd = (law.meet (C.embedding p) (C.embedding q) (C.embedding h) (C.embedding n) square).0 e;
    }
