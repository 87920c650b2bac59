use Rattle.std.proofs.Common.{◌≡◌, ◌≤◌, length, slice_index_or, nat_cmp, arith, ap, sym, ◌∙◌, subst}
use Rattle.std.specs.List.Sorted.{IsSorted}
use Rattle.alg_model.specs.Coefficients.{residues}
use Rattle.alg_model.specs.Factors.{order_by, IsLeastFactor}
use Rattle.ff_factor.specs.FactorLists.{coefficients_of}
use Rattle.ff_factor.specs.PrivateSplitting.{Collects}
use Rattle.ff_factor.proofs.Collecting.{collects_parts, factorization_collected, first_is_least, sorted_none}
use Rattle.ff_factor.proofs.verdicts.least_factor.Goals as goal

pub returns-clause-least : goal.returns-clause-least
returns-clause-least c =
    let f = c.args.f.now in
    let fs = c.collect-2.new.list in
    let h = c.cofactor-quotient.ensures.characteristic in
    let whole : Collects f c.new-factors.result fs =
    collects_parts f c.args.divisor.now c.cofactor-quotient.result c.new-factors.result c.collect.new.list fs h c.requires.prime
    c.cofactor-quotient.ensures.prime c.requires.divisor.polynomial c.cofactor-quotient.ensures.cofactor c.collect.ensures c.collect-2.ensures in
    let none = c.new-factors.ensures in
    let sorted = whole.sorted (subst (λ xs. IsSorted (order_by nat_cmp) (coefficients_of xs)) (sym none) sorted_none) in
    let two : 2 ≤ length fs = omega (arith, c.collect.ensures.grows, c.collect-2.ensures.grows) in
    let d = c.index-items-0.result in
    let same : slice_index_or fs 0 d ≡ c.copy.result =
    sym (c.copy.ensures.same ∙ c.index-items-0.is ∙ ap (λ xs. slice_index_or xs 0 d) c.items.ensures.value) in
    subst (λ g. IsLeastFactor (residues f.prime) nat_cmp f.coefficients g.coefficients) same
    (first_is_least f fs h (factorization_collected f _ fs none c.prime-prime.ensures.whole whole) sorted two d)
