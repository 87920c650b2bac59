use Rattle.std.proofs.Common.{◌<◌, [], ◌∷◌, ◌++◌, ◌≡◌, All, ap, sym, ◌∙◌, subst}
use Rattle.alg_model.specs.Coefficients.{mod_ops}
use Rattle.alg_model.specs.Polynomials.{trim}
use Rattle.alg_model.specs.Roots.{IsMinimal}
use Rattle.ff_minpoly.specs.PrivateRelations.{HasRelation, IsRelation}
use Rattle.ff_minpoly.proofs.PrimeRelations.{prime_relation_exists, prime_relation_is_minimal}
use Rattle.ff_minpoly.proofs.minimal.over_prime.Goals as goal

pub relation-digits-requires-clause-dependent : goal.relation-digits-requires-clause-dependent
relation-digits-requires-clause-dependent c =
    subst (λ v. HasRelation c.args.field.now (v ∷ []) c.args.a.now) (sym c.one.ensures.value)
    (prime_relation_exists c.args.field.now c.prime-p.ensures.whole.finite c.args.a.now c.requires)

pub trimmed-requires-clause-residues : goal.trimmed-requires-clause-residues
trimmed-requires-clause-residues c =
    let K = c.args.field.now in
    let digits = c.relation-digits.result.items in
    let minimal : IsMinimal K c.args.a.now (digits ++ 1 ∷ []) =
    prime_relation_is_minimal K c.prime-p.ensures.whole.finite c.args.a.now c.requires digits
    (subst (λ v. IsRelation K (v ∷ []) c.args.a.now digits) c.one.ensures.value c.relation-digits.ensures) in
    let list_is : digits ++ 1 ∷ [] ≡ c.as_slice-2.result.now =
    sym (c.as_slice-2.ensures.value ∙ c.push.ensures.items
    ∙ ap (λ l. l ++ 1 ∷ []) (c.fixed-coefficients.ensures ∙ c.as_slice.ensures.value)) in
    subst (λ l. All (λ x. x < c.prime-p.result) l) list_is
    (subst (λ q. All (λ x. x < q) (digits ++ 1 ∷ [])) (sym c.prime-p.ensures.value) minimal.polynomial.0)

pub returns-clause-minimal : goal.returns-clause-minimal
returns-clause-minimal c =
    let K = c.args.field.now in
    let digits = c.relation-digits.result.items in
    let minimal : IsMinimal K c.args.a.now (digits ++ 1 ∷ []) =
    prime_relation_is_minimal K c.prime-p.ensures.whole.finite c.args.a.now c.requires digits
    (subst (λ v. IsRelation K (v ∷ []) c.args.a.now digits) c.one.ensures.value c.relation-digits.ensures) in
    let list_is : c.as_slice-2.result.now ≡ digits ++ 1 ∷ [] =
    c.as_slice-2.ensures.value ∙ c.push.ensures.items
    ∙ ap (λ l. l ++ 1 ∷ []) (c.fixed-coefficients.ensures ∙ c.as_slice.ensures.value) in
    subst (IsMinimal K c.args.a.now)
    (sym (c.trimmed.ensures.coefficients ∙ ap (trim (mod_ops c.prime-p.result)) list_is
    ∙ ap (λ q. trim (mod_ops q) (digits ++ 1 ∷ [])) c.prime-p.ensures.value ∙ minimal.polynomial.1))
    minimal
