use Rattle.std.proofs.Common.{subst, sym}
use Rattle.std.proofs.lemmas.Result.{err_from_is_err_and}
use Rattle.alg_model.specs.Maps.{field_values}
use Rattle.lat_session.proofs.FittingPlays.{seen_compatible}
use Rattle.lat_session.proofs.CombinedValues.{both_values, no_sum, is_sum}
use Rattle.lat_session.proofs.sessions.Session.sum.Goals as goal

pub returns-in_err-pair : goal.returns-in_err-pair
returns-in_err-pair g c = let p = err_from_is_err_and c.from_residual.result c.from_residual.ensures.1 in
    rw (p.1, p.2) (λ operations name L s. no_sum (c.in_err-pair.ensures L s))

pub field_of-field-requires : goal.field_of-field-requires
field_of-field-requires g c = (
  c.requires.lattice,
  c.requires.seen,
  (both_values (seen_compatible c.requires.seen) c.requires.fit (c.in_ok-pair.ensures c.requires.lattice c.requires.seen)).0.tag,
)

pub add-requires : goal.add-requires
add-requires g c =
    let there = both_values (seen_compatible c.requires.seen) c.requires.fit (c.in_ok-pair.ensures c.requires.lattice c.requires.seen) in
    let is = c.field_of-field.ensures c.requires.lattice c.requires.seen in
    record {
      first = subst (λ G. (field_values G).Valid c.in_ok-pair.pair.first.value) (sym is) there.0.value;
      second = subst (λ G. (field_values G).Valid c.in_ok-pair.pair.second.value) (sym is) there.1;
    }

pub returns : goal.returns
returns g c = λ operations name L s. is_sum c.in_ok-pair.pair c.field_of-field.result c.add.result (c.in_ok-pair.ensures L s)
    (c.field_of-field.ensures L s) c.add.ensures.value
