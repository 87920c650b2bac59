use Rattle.std.proofs.lemmas.Result.{err_from_is_err_and}
use Rattle.lat_session.proofs.AskedLines.{target_within}
use Rattle.lat_session.proofs.FittingPlays.{seen_compatible}
use Rattle.lat_session.proofs.CombinedValues.{common_pairs, common_is, not_refused, first_unlifted, second_unlifted, lifts_apart, lifts_both}
use Rattle.lat_session.proofs.sessions.Session.pair.Goals as goal

pub returns-in_err-a : goal.returns-in_err-a
returns-in_err-a g c = let p = err_from_is_err_and c.from_residual.result c.from_residual.ensures.1 in
    rw (p.1, p.2) (λ L s. first_unlifted L c.args.self.now c.args.left.now c.args.right.now _ c.in_err-a.ensures)

pub returns-in_err-b : goal.returns-in_err-b
returns-in_err-b g c = let p = err_from_is_err_and c.from_residual-in_err-b.result c.from_residual-in_err-b.ensures.1 in
    rw (p.1, p.2) (λ L s. second_unlifted L c.args.self.now c.args.left.now c.args.right.now _ c.in_ok-a.a c.in_ok-a.ensures c.in_err-b.ensures)

pub common-requires : goal.common-requires
common-requires g c = (
  c.requires.lattice,
  c.requires.seen,
  ((c.requires.fit.values c.in_ok-a.ensures).tag, (c.requires.fit.values c.in_ok-b.ensures).tag),
)

pub returns-in_err-field : goal.returns-in_err-field
returns-in_err-field g c = let p = err_from_is_err_and c.from_residual-in_err-field.result c.from_residual-in_err-field.ensures.1 in
    rw (p.1, p.2) (λ L s. lifts_apart c.in_ok-a.ensures c.in_ok-b.ensures (c.in_err-field.ensures L s))

pub lifted-requires : goal.lifted-requires
lifted-requires g c = (
  c.requires.lattice,
  c.requires.seen,
  (
    c.requires.fit.values c.in_ok-a.ensures,
    target_within (seen_compatible c.requires.seen) (common_pairs (common_is (c.in_ok-field.ensures c.requires.lattice c.requires.seen))).0,
  ),
)

pub returns-in_err-first : goal.returns-in_err-first
returns-in_err-first g c = let p = err_from_is_err_and c.from_residual-in_err-first.result c.from_residual-in_err-first.ensures.1 in
    rw (p.1, p.2) (λ L s. absurd (not_refused (common_pairs (common_is (c.in_ok-field.ensures L s))).0 (c.in_err-first.ensures L s)))

pub lifted-requires-2 : goal.lifted-requires-2
lifted-requires-2 g c = (
  c.requires.lattice,
  c.requires.seen,
  (
    c.requires.fit.values c.in_ok-b.ensures,
    target_within (seen_compatible c.requires.seen) (common_pairs (common_is (c.in_ok-field.ensures c.requires.lattice c.requires.seen))).0,
  ),
)

pub returns-in_err-second : goal.returns-in_err-second
returns-in_err-second g c = let p = err_from_is_err_and c.from_residual-in_err-second.result c.from_residual-in_err-second.ensures.1 in
    rw (p.1, p.2) (λ L s. absurd (not_refused (common_pairs (common_is (c.in_ok-field.ensures L s))).1 (c.in_err-second.ensures L s)))

pub returns : goal.returns
returns g c = λ L s. lifts_both c.in_ok-a.ensures c.in_ok-b.ensures (c.in_ok-field.ensures L s) (c.in_ok-first.ensures L s) (c.in_ok-second.ensures L s)
