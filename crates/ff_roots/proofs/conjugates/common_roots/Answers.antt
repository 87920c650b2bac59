use Rattle.std.proofs.Common.{◌%◌, length, ap, ap₂, sym, ◌∙◌, subst, arith, ◌↔◌}
use Rattle.std.specs.List.{Contains}
use Rattle.std.proofs.lemmas.Nat.Gcd.{dvd_of_mod-eq-zero, mod-eq-zero_of_dvd}
use Prim.Native.Nat.{◌∣◌}
use Rattle.alg_model.specs.Maps.{degree_of, constants}
use Rattle.alg_model.specs.Roots.{IsRoot}
use Rattle.alg_galois.proofs.EmbeddingRoots.{root_degree_divides}
use Rattle.alg_splitting.proofs.RootDivisors.{gcd_root}
use Rattle.ff_roots.proofs.Cofactors.{no_root}
use Rattle.ff_roots.proofs.CommonRoots.{common_part_splits}
use Rattle.ff_roots.proofs.RootInsertion.{nothing_contained}
use Rattle.ff_roots.proofs.conjugates.common_roots.Goals as goal

pub returns-then-degree-ne0-clause-exactly : goal.returns-then-degree-ne0-clause-exactly
returns-then-degree-ne0-clause-exactly c =
    let E = c.new-source.result in
    let F = c.args.field.now in
    let same = c.new-source.ensures.characteristic ∙ ap (λ x. x.prime) c.copy.ensures.same
    ∙ c.requires.prime in
    let polynomial = c.new-source.ensures.polynomial ∙ ap (λ x. x.coefficients) c.copy.ensures.same in
    λ v. (
      λ m. absurd (nothing_contained c.new.result c.new.ensures v m),
      λ p. absurd (c.if-degree-ne0.true (ap₂ ◌%◌ c.degree.ensures.value c.degree-2.ensures.value
          ∙ mod-eq-zero_of_dvd (degree_of E) (root_degree_divides E F
          c.new-source.ensures.whole.finite c.degree.ensures.whole.finite same v
          (subst (λ q. IsRoot F (constants F q) v) (sym polynomial) p.0)))),
    )

pub returns-then-coefficients-lt2-clause-exactly : goal.returns-then-coefficients-lt2-clause-exactly
returns-then-coefficients-lt2-clause-exactly c =
    let E = c.new-source.result in
    let F = c.args.field.now in
    let W = c.degree.ensures.whole.finite in
    let f = c.polynomial_of.result in
    let g = c.args.g.now in
    let part = c.gcd-part.result in
    let same = c.new-source.ensures.characteristic ∙ ap (λ x. x.prime) c.copy.ensures.same
    ∙ c.requires.prime in
    let polynomial = c.new-source.ensures.polynomial ∙ ap (λ x. x.coefficients) c.copy.ensures.same in
    let value = c.polynomial_of.ensures.value ∙ ap (constants F) c.poly.ensures.coefficients in
    let divides : degree_of E ∣ degree_of F = dvd_of_mod-eq-zero (degree_of E)
    (ap₂ ◌%◌ (sym c.degree.ensures.value) (sym c.degree-2.ensures.value) ∙ c.if-degree-ne0.false) in
    let splits = common_part_splits E F c.new-source.ensures.whole.finite W same divides f g part value
    c.gcd-part.ensures.gcd in
    λ v. (
      λ m. absurd (nothing_contained c.new-then-coefficients-lt2.result
          c.new-then-coefficients-lt2.ensures v m),
      λ p. absurd (no_root F W part splits
          (omega (arith, c.if-coefficients-lt2.true, ap length c.coefficients.ensures.value)) v
          ((gcd_root F W f g part c.polynomial_of.ensures.valid c.requires.polynomial
          c.gcd-part.ensures.gcd v).1
          (subst (λ w. IsRoot F w v) (ap (constants F) (sym polynomial) ∙ sym value) p.0, p.1))),
    )

pub root_of_part-root-requires-clause-splits : goal.root_of_part-root-requires-clause-splits
root_of_part-root-requires-clause-splits c =
    let E = c.new-source.result in
    let F = c.args.field.now in
    let same = c.new-source.ensures.characteristic ∙ ap (λ x. x.prime) c.copy.ensures.same
    ∙ c.requires.prime in
    let divides : degree_of E ∣ degree_of F = dvd_of_mod-eq-zero (degree_of E)
    (ap₂ ◌%◌ (sym c.degree.ensures.value) (sym c.degree-2.ensures.value) ∙ c.if-degree-ne0.false) in
    common_part_splits E F c.new-source.ensures.whole.finite c.degree.ensures.whole.finite same divides
    c.polynomial_of.result c.args.g.now c.gcd-part.result
    (c.polynomial_of.ensures.value ∙ ap (constants F) c.poly.ensures.coefficients)
    c.gcd-part.ensures.gcd

pub common_conjugates-requires-clause-root : goal.common_conjugates-requires-clause-root
common_conjugates-requires-clause-root c =
    let F = c.args.field.now in
    let r = c.root_of_part-root.result in
    subst (λ w. IsRoot F w r)
    (c.polynomial_of.ensures.value ∙ ap (constants F) c.poly.ensures.coefficients)
    ((gcd_root F c.degree.ensures.whole.finite c.polynomial_of.result c.args.g.now c.gcd-part.result
    c.polynomial_of.ensures.valid c.requires.polynomial c.gcd-part.ensures.gcd r).0
    c.root_of_part-root.ensures).0

pub returns-clause-exactly : goal.returns-clause-exactly
returns-clause-exactly c =
    let F = c.args.field.now in
    let polynomial = c.new-source.ensures.polynomial ∙ ap (λ x. x.coefficients) c.copy.ensures.same in
    λ v. subst (λ q. Contains c.common_conjugates.result v
    ↔ (IsRoot F (constants F q) v × IsRoot F c.args.g.now v)) polynomial
    (c.common_conjugates.ensures.members v)
