-- Which common subfields restrict an embedding of field E into field F: those that restrict it are
-- enough.
use Rattle.std.proofs.Common.{◌≡◌, ◌≢◌, ℕ, ◌<◌, ◌≤◌, List, length, arith}
use Rattle.std.proofs.lemmas.Nat.Gcd.{le_of_dvd}
use Rattle.alg_model.specs.Maps.{degree_of}
use Rattle.alg_model.specs.Lattices.{Lattice, field_at, Stored, IsCompatible}
use Rattle.alg_galois.proofs.EmbeddingRoots.{embedding_degree_divides}
use Rattle.alg_galois.proofs.Meets.{degree_positive}
use Rattle.alg_compatible.specs.Theorems.{AreFields}
use Rattle.alg_choices.specs.Fitting.{IsCommonSubfield, IsCovered, AreSufficient, Passed}
use Rattle.alg_choices.proofs.Fitting.{finite_at, uncovered_sufficient}
use Rattle.lat_choice.specs.PrivateNeeded.{Covers, IsNeeded}

-- a field that does for another one covers it
pub covered_by : {L : Lattice} {E F d c : ℕ} → Covers L E F d c → IsCovered L E F d
covered_by {c = c} x = record {
  cover = c;
  map = x.into.0;
  is_common = x.is_common;
  into = x.into.1;
  comes_first = x.comes_first;
}

module _ {L : Lattice} (C : IsCompatible L) where
  -- where no field does for it, it isn't covered
  pub not_covered : {E F d : ℕ} → ((c : ℕ) → c < length L.rows → ¬ Covers L E F d c)
      → ¬ IsCovered L E F d
  not_covered none x = none x.cover (C.compatible.within x.into).1
      (record { comes_first = x.comes_first; into = (x.map, x.into); is_common = x.is_common })

  -- a field goes into fields of at least its degree
  degree_rises : {c d : ℕ} {m : List (List ℕ)} → Stored L c d m
      → degree_of (field_at L.rows c) ≤ degree_of (field_at L.rows d)
  degree_rises {c} {d} {m} h =
      let V = finite_at C c (C.compatible.within h).0 in
      let W = finite_at C d (C.compatible.within h).1 in
      le_of_dvd (degree_positive (field_at L.rows d) W)
      (embedding_degree_divides (field_at L.rows c) (field_at L.rows d) V W m (C.compatible.embedding h))

  -- **the needed fields are enough**
  pub needed_sufficient : {E F : ℕ} → AreFields L E F
      → AreSufficient L E F (Passed L E F (IsNeeded L E F) (length L.rows))
  needed_sufficient {E} {F} A = record {
    covered = λ c S more.
        let (d, (below, free), T, (k, into)) = (uncovered_sufficient C A).covered c S more in
        let rises : degree_of (field_at L.rows c) ≤ degree_of (field_at L.rows d) = degree_rises into in
        let some : 0 < degree_of (field_at L.rows c) =
        degree_positive (field_at L.rows c) (finite_at C c (C.compatible.within into).0) in
        let needed : IsNeeded L E F d = record {
          is_common = T;
          not_prime = λ one. more (omega arith);
          uncovered = free;
        } in
        (d, (below, needed), T, (k, into));
  }
