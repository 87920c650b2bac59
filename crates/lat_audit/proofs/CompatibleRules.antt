-- A compatible lattice breaks no rule.
use Rattle.std.proofs.Common.{ℕ, ◌<◌, List, length, sym, ap, ◌∙◌}
use Rattle.alg_model.specs.Lattices.{Lattice, Row, Stored, IsCompatible}
use Rattle.alg_compatible.proofs.Transfer.{prime_row_at}
use Rattle.lat_audit.specs.Verdicts.{None, IsPrimeField, LacksIdentity, LacksPrimeSubfield, LacksInverse, LacksComposition, LacksIntersection}

module _ (L : Lattice) (C : IsCompatible L) where
  pub identities_stored : None (LacksIdentity L)
  identities_stored i lacks = lacks.lacking (C.compatible.identity i lacks.within)

  -- a prime field that has a map into another field has its characteristic
  prime_by_map : (q j : ℕ) (m : List (List ℕ)) → q < length L.edition.primes → Stored L q j m
      → IsPrimeField L q j
  prime_by_map q j m below stored =
      let at = prime_row_at L.edition.primes L.rows C.rows.prime_fields q below in
      let same = (C.compatible.embedding stored).same_characteristic in
      record {
        within = below;
        prime = sym (ap (λ (r : Row). r.field.characteristic) at) ∙ same;
      }

  pub prime_subfields_stored : None (LacksPrimeSubfield L)
  prime_subfields_stored j lacks =
      let (q, m, below, stored) = C.compatible.prime_subfield j lacks.within in
      lacks.lacking q m (prime_by_map q j m below stored) stored

  pub inverses_stored : None (LacksInverse L)
  inverses_stored pair lacks =
      let (n, stored, back, forth) = C.compatible.inverse lacks.stored lacks.isomorphism in
      lacks.lacking n (record { stored = stored; back = back; forth = forth })

  pub compositions_stored : None (LacksComposition L)
  compositions_stored t lacks =
      lacks.lacking (C.compatible.transitive lacks.first_stored lacks.second_stored)

  pub intersections_stored : None (LacksIntersection L)
  intersections_stored t lacks =
      let (l, u, v, first, second, meet) = C.compatible.meet lacks.first_stored lacks.second_stored in
      lacks.lacking l u v (record { first = first; second = second; meet = meet })
