-- Intersections are told by degrees, once the other rules hold.
use Rattle.std.proofs.Common.{◌≡◌, ◌≢◌, true, false, Bool, Option, Some, None, ℕ, ◌<◌, List, length}
use Rattle.std.specs.Bool.{MatchBool}
use Rattle.std.specs.Prelude.{MatchOption}
use Rattle.std.specs.Int.{IsGcd}
use Rattle.std.specs.FinMap.{get}
use Rattle.std.proofs.lemmas.Nat.Gcd.{dvd_antisymm}
use Rattle.alg_model.specs.Maps.{degree_of, comp}
use Rattle.alg_model.specs.Lattices.{Lattice, Stored, field_at}
use Rattle.alg_galois.proofs.Meets.{meet_from_gcd, gcd_from_meet}
use Rattle.lat_audit.specs.Verdicts.{LacksIntersection}
use Rattle.lat_audit.specs.PrivateRules.{AreComposed, IsCommonSubfield, KeepsIntersection, HaveOverfield, BreaksIntersection}
use Rattle.lat_audit.proofs.RuleMaps.{stored_once, none_stored}

module _ (L : Lattice) (C : AreComposed L) (i j k l : ℕ) (u v a b : List (List ℕ))
    (U : Stored L l i u) (V : Stored L l j v) (A : Stored L i k a) (B : Stored L j k b) where
  -- by i and by j it is one map
  square : comp (field_at L.rows k) u a ≡ comp (field_at L.rows k) v b
  square =
      let lw = C.within l i u U in
      let kw = C.within i k a A in
      let jw = C.within l j v V in
      stored_once L l k (comp (field_at L.rows k) u a) (comp (field_at L.rows k) v b)
      (C.composed l i k lw.0 lw.1 kw.1 u a U A)
      (C.composed l j k lw.0 jw.1 kw.1 v b V B)

-- a common subfield of this degree is the intersection
pub meets_by_degree : (L : Lattice) → AreComposed L → (i j k l : ℕ) → IsCommonSubfield L i j l
    → KeepsIntersection L i j k
meets_by_degree L C i j k l is a b A B =
    let U = is.first.1 in
    let V = is.second.1 in
    let lw = C.within l i is.first.0 U in
    let kw = C.within i k a A in
    let jw = C.within l j is.second.0 V in (
      l,
      is.first.0,
      is.second.0,
      record {
        first = U;
        second = V;
        meet = meet_from_gcd (field_at L.rows i) (field_at L.rows j) (field_at L.rows k) (field_at L.rows l)
            (C.finite i lw.1) (C.finite j jw.1) (C.finite k kw.1) (C.finite l lw.0)
            is.first.0 is.second.0 a b (C.embedding l i is.first.0 U) (C.embedding l j is.second.0 V) (C.embedding i k a A) (C.embedding j k b B)
            (square L C i j k l is.first.0 is.second.0 a b U V A B) is.degree;
      },
    )

-- and without one there is no intersection
pub lacks_by_degree : (L : Lattice) → AreComposed L → (i j k : ℕ) (a b : List (List ℕ))
    → Stored L i k a → Stored L j k b → ((l : ℕ) → IsCommonSubfield L i j l → ⊥)
    → LacksIntersection L (i, j, k)
lacks_by_degree L C i j k a b A B none = record {
  first = a;
  second = b;
  first_stored = A;
  second_stored = B;
  lacking = λ l u v x.
      let lw = C.within l i u x.first in
      let kw = C.within i k a A in
      let jw = C.within l j v x.second in
      none l (record {
        first = (u, x.first);
        second = (v, x.second);
        degree = gcd_from_meet (field_at L.rows i) (field_at L.rows j) (field_at L.rows k) (field_at L.rows l)
            (C.finite i lw.1) (C.finite j jw.1) (C.finite k kw.1) (C.finite l lw.0)
            u v a b (C.embedding l i u x.first) (C.embedding l j v x.second) (C.embedding i k a A) (C.embedding j k b B)
            (square L C i j k l u v a b x.first x.second A B) x.meet;
      });
}

-- there is one greatest common divisor
pub other_degree : (L : Lattice) (i j l d : ℕ)
    → IsGcd (degree_of (field_at L.rows i)) (degree_of (field_at L.rows j)) d
    → degree_of (field_at L.rows l) ≢ d → IsCommonSubfield L i j l → ⊥
other_degree L i j l d gcd apart is =
    apart (dvd_antisymm (gcd.2 (degree_of (field_at L.rows l)) is.degree.0 is.degree.1) (is.degree.2 d gcd.0 gcd.1))

pub common_told : (L : Lattice) (i j l : ℕ) (b : Bool)
    → IsGcd (degree_of (field_at L.rows i)) (degree_of (field_at L.rows j)) (degree_of (field_at L.rows l))
    → (m : List (List ℕ)) × Stored L l i m
    → MatchBool b ((m : List (List ℕ)) × Stored L l j m) (get L.maps (l, j) ≡ None)
    → MatchBool b (IsCommonSubfield L i j l) (IsCommonSubfield L i j l → ⊥)
common_told L i j l true gcd first second = record { first = first; second = second; degree = gcd }
common_told L i j l false gcd first none = λ is. none_stored L l j is.second.0 none is.second.1

-- where the two go into no field, nothing is asked for
pub kept_without : (L : Lattice) (i j k : ℕ) → (HaveOverfield L i j k → ⊥) → KeepsIntersection L i j k
kept_without L i j k none a b A B = absurd (none (record { first = (a, A); second = (b, B) }))

-- what the first field is, into which both go
pub in_first : (L : Lattice) → AreComposed L → (i j : ℕ) → ((l : ℕ) → IsCommonSubfield L i j l → ⊥)
    → (r : Option ℕ) → MatchOption r ((k : ℕ) → k < length L.rows → HaveOverfield L i j k → ⊥)
    (λ k. (k < length L.rows) × HaveOverfield L i j k × ((b : ℕ) → b < k → HaveOverfield L i j b → ⊥))
    → MatchOption r ((k : ℕ) → k < length L.rows → KeepsIntersection L i j k) (BreaksIntersection L i j)
in_first L C i j none None h = λ k l. kept_without L i j k (h k l)
in_first L C i j none (Some k) h =
    let over = h.1 in
    record {
      within = h.0;
      broken = lacks_by_degree L C i j k over.first.0 over.second.0 over.first.1 over.second.1 none;
      before = λ b l. kept_without L i j b (h.2 b l);
    }

pub intersection_kept : (L : Lattice) (i j k : ℕ) → KeepsIntersection L i j k
    → LacksIntersection L (i, j, k) → ⊥
intersection_kept L i j k keeps lacks =
    let x = keeps lacks.first lacks.second lacks.first_stored lacks.second_stored in
    lacks.lacking x.0 x.1 x.2 x.3
