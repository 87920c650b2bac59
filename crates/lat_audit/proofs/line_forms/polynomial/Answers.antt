-- A word is one list of coefficients, which a monic polynomial has as they stand.
use Rattle.std.proofs.Common.{◌≡◌, true, false, refl, ℕ, List, ◌<◌, sym, ap, subst, ◌∙◌, arith}
use Rattle.std.specs.Prelude.{decimal}
use Rattle.std.proofs.lemmas.Fmt.{decimal_injective}
use Rattle.alg_model.specs.Coefficients.{mod_ops}
use Rattle.alg_model.specs.Polynomials.{trim}
use Rattle.lat_language.specs.Commands.{digits_text}
use Rattle.lat_language.specs.PrivateCoefficients.{digits_text_injective}
use Rattle.lat_audit.specs.PrivateReadings.{IsFieldPoly, AreCoefficients}
use Rattle.lat_audit.proofs.ReadRows.{characteristic_small, poly_digits, poly_read, poly_coefficients, trim_monic}
use Rattle.lat_audit.proofs.line_forms.polynomial.Goals as goal

same_poly : (p q : ℕ) (f g : List ℕ) → p ≡ q → f ≡ g → IsFieldPoly q g → IsFieldPoly p f
same_poly p q f g e d h = subst (λ r. IsFieldPoly r f) (sym e) (subst (IsFieldPoly q) (sym d) h)

pub returns-then-are_coefficients : goal.returns-then-are_coefficients
returns-then-are_coefficients c =
    let p = c.in-Some.p in
    let f = c.in-Some-read_digits.digits in
    let is : AreCoefficients p f = subst (AreCoefficients p) c.numbers.ensures.value (c.if-are_coefficients.ensures.0 refl) in
    let whole : IsFieldPoly p f = poly_read p f c.in-Some.ensures.0 is in
    let prime : c.trimmed.result.prime ≡ p = c.trimmed.ensures.prime in
    let places : c.trimmed.result.coefficients ≡ f =
    c.trimmed.ensures.coefficients ∙ ap (trim (mod_ops p)) c.numbers-then-are_coefficients.ensures.value ∙ trim_monic p f whole.monic in (
      same_poly c.trimmed.result.prime p c.trimmed.result.coefficients f prime places whole,
      c.in-Some.ensures.1 ∙ ap decimal (sym prime),
      c.in-Some-read_digits.ensures.1 ∙ ap digits_text (sym places),
    )

pub returns-else-are_coefficients : goal.returns-else-are_coefficients
returns-else-are_coefficients c = λ q g is e d.
    let p = c.in-Some.p in
    let f = c.in-Some-read_digits.digits in
    let low : p < 32 = characteristic_small p c.in-Some.ensures.0 in
    let other : q < 32 = characteristic_small q is.characteristic in
    let prime : q ≡ p = decimal_injective q p (omega (arith, other)) (omega (arith, low)) (sym e ∙ c.in-Some.ensures.1) in
    let places : g ≡ f = digits_text_injective g f (poly_digits q g is) c.in-Some-read_digits.ensures.0 (sym d ∙ c.in-Some-read_digits.ensures.1) in
    let own : AreCoefficients p f = subst (AreCoefficients p) places (subst (λ r. AreCoefficients r g) prime (poly_coefficients q g is)) in
    let no : false ≡ true = c.if-are_coefficients.ensures.1 (subst (AreCoefficients p) (sym c.numbers.ensures.value) own) in
    cc
