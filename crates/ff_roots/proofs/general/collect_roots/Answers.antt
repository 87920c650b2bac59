use Rattle.std.proofs.Common.{length, ap, ◌∙◌, subst, arith, ⊎_elim, inr}
use Rattle.alg_model.specs.Polynomials.{poly_difference}
use Rattle.alg_model.specs.Factors.{IsGreatestCommonDivisor}
use Rattle.alg_model.specs.Maps.{field_values}
use Rattle.alg_rings.proofs.Lists.{not_nil_from_length}
use Rattle.alg_rings.proofs.Divisors.{length_divisor}
use Rattle.alg_splitting.proofs.ValueLaws.{values_set, values_field}
use Rattle.alg_splitting.proofs.FrobeniusModulo.{split_part_splits, split_part_roots}
use Rattle.ff_roots.proofs.GeneralRoots.{first_narrowed}
use Rattle.ff_roots.proofs.RootInsertion.{nothing_contained}
use Rattle.ff_roots.proofs.general.collect_roots.Goals as goal

pub collect-requires-clause-splits : goal.collect-requires-clause-splits
collect-requires-clause-splits c =
    let F = c.args.field.now in
    let g = c.args.g.now in
    let last = c.frobenius_powers-last.result in
    let part = c.gcd-part.result in
    split_part_splits F c.prime-prime.ensures.whole.finite g c.requires.polynomial
    (not_nil_from_length g (omega (arith, c.requires.not_constant))) last
    c.frobenius_powers-last.ensures.valid c.frobenius_powers-last.ensures.next part
    (subst (λ b. IsGreatestCommonDivisor (field_values F) g b part)
    (c.sub.ensures.difference ∙ ap (poly_difference (field_values F).ops last) c.variable.ensures.value)
    c.gcd-part.ensures.gcd)

pub collect-requires-clause-narrowed : goal.collect-requires-clause-narrowed
collect-requires-clause-narrowed c =
    let F = c.args.field.now in
    let W = c.prime-prime.ensures.whole.finite in
    let g = c.args.g.now in
    let last = c.frobenius_powers-last.result in
    let part = c.gcd-part.result in
    let n = not_nil_from_length g (omega (arith, c.requires.not_constant)) in
    λ l. first_narrowed F W g c.sub.result part n
    (split_part_splits F W g c.requires.polynomial n last c.frobenius_powers-last.ensures.valid
    c.frobenius_powers-last.ensures.next part
    (subst (λ b. IsGreatestCommonDivisor (field_values F) g b part)
    (c.sub.ensures.difference ∙ ap (poly_difference (field_values F).ops last) c.variable.ensures.value)
    c.gcd-part.ensures.gcd)) c.gcd-part.ensures.gcd l

pub collect-requires-clause-room : goal.collect-requires-clause-room
collect-requires-clause-room c =
    let F = c.args.field.now in
    let g = c.args.g.now in
    let G = c.gcd-part.ensures.gcd in
    omega (
      arith,
      ap length c.requires.none,
      c.requires.degree,
      length_divisor (values_set F) (values_field F c.prime-prime.ensures.whole.finite)
          c.gcd-part.result g G.polynomial
          (not_nil_from_length g (omega (arith, c.requires.not_constant))) G.divides_first,
    )

pub returns-clause-members : goal.returns-clause-members
returns-clause-members c =
    let F = c.args.field.now in
    let g = c.args.g.now in
    let last = c.frobenius_powers-last.result in
    let part = c.gcd-part.result in
    let same = split_part_roots F c.prime-prime.ensures.whole.finite g c.requires.polynomial
    (not_nil_from_length g (omega (arith, c.requires.not_constant))) last
    c.frobenius_powers-last.ensures.valid c.frobenius_powers-last.ensures.next part
    (subst (λ b. IsGreatestCommonDivisor (field_values F) g b part)
    (c.sub.ensures.difference ∙ ap (poly_difference (field_values F).ops last) c.variable.ensures.value)
    c.gcd-part.ensures.gcd) in
    λ v. (
      λ m. (same v).0 (⊎_elim (λ k. absurd (nothing_contained c.args.list.now c.requires.none v k))
          (λ r. r) ((c.collect.ensures.members v).0 m)),
      λ r. (c.collect.ensures.members v).1 (inr ((same v).1 r)),
    )
