-- Rules that are kept are broken at no fields.
use Rattle.std.proofs.Common.{ℕ, ◌<◌, length}
use Rattle.alg_model.specs.Lattices.{Lattice}
use Rattle.lat_audit.specs.Verdicts.{None, LacksIdentity, LacksPrimeSubfield, LacksInverse, LacksComposition}
use Rattle.lat_audit.specs.PrivateRules.{HasIdentity, HasPrimeSubfield, IsOfEdition, KeepsInverse, KeepsComposition, HoldsMaps, AreComposed}
use Rattle.lat_audit.proofs.RuleOrders.{not_lacking, inverse_kept, composition_kept}

pub all_identities : (L : Lattice) → ((i : ℕ) → i < length L.rows → HasIdentity L i)
    → None (LacksIdentity L)
all_identities L has i lacks = lacks.lacking (has i lacks.within)

module _ (L : Lattice) (M : HoldsMaps L) where
  pub all_prime_subfields : IsOfEdition L → ((j : ℕ) → j < length L.rows → HasPrimeSubfield L j)
      → None (LacksPrimeSubfield L)
  all_prime_subfields E has j lacks = not_lacking L E j (has j lacks.within) lacks

  pub all_inverses : ((i j : ℕ) → i < length L.rows → j < length L.rows → KeepsInverse L i j)
      → None (LacksInverse L)
  all_inverses keeps p lacks =
      let w = M.within p.0 p.1 lacks.map lacks.stored in inverse_kept L p.0 p.1 (keeps p.0 p.1 w.0 w.1) lacks

  pub all_compositions : ((i j k : ℕ) → i < length L.rows → j < length L.rows → k < length L.rows → KeepsComposition L i j k)
      → None (LacksComposition L)
  all_compositions keeps t lacks =
      let w = M.within t.0 t.1 lacks.first lacks.first_stored in
      let v = M.within t.1 t.2 lacks.second lacks.second_stored in
      composition_kept L t.0 t.1 t.2 (keeps t.0 t.1 t.2 w.0 w.1 v.1) lacks

  pub are_composed : ((i j k : ℕ) → i < length L.rows → j < length L.rows → k < length L.rows → KeepsComposition L i j k)
      → AreComposed L
  are_composed keeps = record { finite = M.finite; within = M.within; embedding = M.embedding; composed = keeps }
