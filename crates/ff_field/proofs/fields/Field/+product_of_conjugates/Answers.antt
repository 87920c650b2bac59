use Rattle.std.proofs.Common.{◌≡◌, ℕ, ◌+◌, ◌/◌, ◌^◌, List, ap, ap₂, sym, ◌∙◌, arith}
use Rattle.alg_model.specs.Coefficients.{power}
use Rattle.alg_model.specs.Maps.{Field, field_values}
use Rattle.alg_model.specs.Conjugates.{conjugates, product_all}
use Rattle.ff_field.proofs.SmallFieldLaws.{product_of_first, product_of_twice, product_of_next}
use Rattle.ff_field.proofs.fields.Field.+product_of_conjugates.Goals as goal

-- the product of the first m conjugates
abbrev of_first : Field → List ℕ → ℕ → List ℕ
of_first K a m = product_all (field_values K).ops (conjugates (field_values K).ops K.characteristic m a)

pub returns-then-m-eq1-clause-value : goal.returns-then-m-eq1-clause-value
returns-then-m-eq1-clause-value t c =
    let K = c.args.self.now in
    let a = c.args.a.now in
    let one : c.args.m ≡ 1 = omega (arith, c.if-m-eq1.true) in
    c.copy.ensures ∙ sym (product_of_first K c.prime-prime.ensures.whole.finite a c.requires)
    ∙ ap (of_first K a) (sym one)

pub returns-then-m-eq1-2-clause-value : goal.returns-then-m-eq1-2-clause-value
returns-then-m-eq1-2-clause-value t c =
    let K = c.args.self.now in
    let o = (field_values K).ops in
    let W = c.prime-prime.ensures.whole.finite in
    let a = c.args.a.now in
    let h = c.args.m / 2 in
    let whole : 1 + (h + h) ≡ c.args.m = omega (arith, c.if-m-eq1-2.true) in
    let both : c.mul-both.result ≡ of_first K a (h + h) =
    c.mul-both.ensures.value
    ∙ ap₂ o.mul c.product_of_conjugates-half.ensures.value
    (c.conjugate.ensures.value ∙ ap (λ b. power o b (K.characteristic ^ h)) c.product_of_conjugates-half.ensures.value)
    ∙ sym (product_of_twice K W h a c.requires) in
    c.mul.ensures.value
    ∙ ap (o.mul a) (c.frob.ensures.value ∙ ap (λ b. power o b K.characteristic) both)
    ∙ sym (product_of_next K W (h + h) a c.requires) ∙ ap (of_first K a) whole

pub returns-else-m-eq1-2-clause-value : goal.returns-else-m-eq1-2-clause-value
returns-else-m-eq1-2-clause-value t c =
    let K = c.args.self.now in
    let o = (field_values K).ops in
    let W = c.prime-prime.ensures.whole.finite in
    let a = c.args.a.now in
    let h = c.args.m / 2 in
    let whole : h + h ≡ c.args.m = omega (arith, c.if-m-eq1-2.false) in
    c.mul-both.ensures.value
    ∙ ap₂ o.mul c.product_of_conjugates-half.ensures.value
    (c.conjugate.ensures.value ∙ ap (λ b. power o b (K.characteristic ^ h)) c.product_of_conjugates-half.ensures.value)
    ∙ sym (product_of_twice K W h a c.requires) ∙ ap (of_first K a) whole
