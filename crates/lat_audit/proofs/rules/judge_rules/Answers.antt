-- Each rule is judged once those before it are kept.
use Rattle.lat_audit.specs.PrivateRules.{no_identity, no_prime_subfield, no_inverse, no_composition, no_intersection}
use Rattle.lat_audit.proofs.RuleFaults.{all_identities, all_prime_subfields, all_inverses, all_compositions}
use Rattle.lat_audit.proofs.rules.judge_rules.Goals as goal

pub returns-in-Some : goal.returns-in-Some
returns-in-Some c = no_identity c.in-Some.ensures

pub returns-in-Some-without_prime_subfield : goal.returns-in-Some-without_prime_subfield
returns-in-Some-without_prime_subfield c =
    let h = c.in-Some-without_prime_subfield.ensures in
    no_prime_subfield (all_identities c.args.table.now c.in_default.ensures) h.0 h.1

pub returns-in-Some-without_inverse : goal.returns-in-Some-without_inverse
returns-in-Some-without_inverse c =
    let L = c.args.table.now in
    no_inverse (all_identities L c.in_default.ensures)
    (all_prime_subfields L c.requires.maps c.requires.edition c.in_default-without_prime_subfield.ensures)
    c.in-Some-without_inverse.ensures

pub returns-in-Some-without_composition : goal.returns-in-Some-without_composition
returns-in-Some-without_composition c =
    let L = c.args.table.now in
    no_composition (all_identities L c.in_default.ensures)
    (all_prime_subfields L c.requires.maps c.requires.edition c.in_default-without_prime_subfield.ensures)
    (all_inverses L c.requires.maps c.in_default-without_inverse.ensures)
    c.in-Some-without_composition.ensures

pub returns-in-Some-without_intersection : goal.returns-in-Some-without_intersection
returns-in-Some-without_intersection c =
    let L = c.args.table.now in
    no_intersection (all_identities L c.in_default.ensures)
    (all_prime_subfields L c.requires.maps c.requires.edition c.in_default-without_prime_subfield.ensures)
    (all_inverses L c.requires.maps c.in_default-without_inverse.ensures)
    (all_compositions L c.requires.maps c.in_default-without_composition.ensures)
    c.in-Some-without_intersection.ensures
