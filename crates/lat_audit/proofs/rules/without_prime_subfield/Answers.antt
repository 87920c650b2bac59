-- The first field that lacks its prime subfield.
use Rattle.std.proofs.Common.{rules, ◌≡◌, ◌<◌, ℕ, List, false, None, length}
use Rattle.std.specs.FinMap.{get}
use Rattle.alg_model.specs.Lattices.{Stored}
use Rattle.lat_audit.specs.Verdicts.{LacksPrimeSubfield}
use Rattle.lat_audit.specs.PrivateRules.{HasPrimeSubfield}
use Rattle.lat_audit.proofs.RuleOrders.{first_number, told_false, lacks_prime, not_lacking}
use Rattle.lat_audit.proofs.rules.without_prime_subfield.Goals as goal

pub returns-then-not-has_map : goal.returns-then-not-has_map
returns-then-not-has_map c =
    let L = c.args.table.now in
    let q = c.prime_field-q.result in
    let j = c.loop-j.j in
    let within : j < length L.rows = search rules in
    let told : c.has_map.result ≡ false = search rules in
    let none : get L.maps (q, j) ≡ None = told_false ((m : List (List ℕ)) × Stored L q j m) (get L.maps (q, j) ≡ None) c.has_map.result told c.has_map.ensures in (
      first_number {P = LacksPrimeSubfield L} {Good = HasPrimeSubfield L} j (not_lacking L c.requires)
          (lacks_prime L c.requires q j within c.prime_field-q.ensures none) c.loop-j.invariant,
      c.prime_field-q.ensures,
    )
