use Rattle.std.proofs.Common.{◌*◌, ◌^◌, ◌<◌, ◌≤◌, ◌%◌, arith, ap, ◌∙◌, subst}
use Rattle.std.proofs.lemmas.List.{get_or_past}
use Rattle.alg_model.specs.Coefficients.{residues}
use Rattle.alg_model.specs.Factors.{IsPolynomial}
use Rattle.ff_poly.specs.declared.TheConstants.{MAX_POLY}
use Rattle.ff_poly.proofs.Quotients.{division_of_places}
use Rattle.ff_poly.proofs.division.division_in.Goals as goal

pub divide-requires : goal.divide-requires
divide-requires g c =
    let width : g.row.W ≤ MAX_POLY = c.requires.width in
    let fits : g.row.W * 1 < 2 ^ 63 = omega arith in
    let f = c.args.f.now in
    let positive : 0 < c.args.p = omega (arith, c.number-number.ensures.small, c.number-number.ensures.value) in (
      fits,
      (
        width,
        (
          c.requires.sizes,
          (
            (c.requires.divisor, omega (arith, c.requires.longer, c.requires.room)),
            (
              c.requires.leading,
              (
                c.requires.residues,
                (
                  omega (arith, c.requires.longer, c.requires.room, c.requires.divisor),
                  (
                    c.row_of-rest.ensures.residues c.args.p positive c.requires.dividend.0,
                    (
                      λ k h. c.row_of-rest.ensures.places k ∙ get_or_past f k 0 (omega (arith, c.requires.longer, c.requires.divisor)),
                      c.blank_row-quotient.ensures.blank,
                    ),
                  ),
                ),
              ),
            ),
          ),
        ),
      ),
    )

pub returns-clause-division : goal.returns-clause-division
returns-clause-division g c =
    let p = c.args.p in
    let q = c.trimmed.result.coefficients in
    let r = c.poly_of_places.result.coefficients in
    division_of_places p c.args.f.now c.args.d.now c.divide.new.quotient c.divide.new.rest q r
    (omega (arith, c.number-number.ensures.small, c.number-number.ensures.value)) c.requires.dividend c.requires.divisor
    c.trimmed.ensures.coefficients
    (subst (λ m. IsPolynomial (residues m) q) c.trimmed.ensures.prime c.trimmed.ensures.whole.polynomial)
    (subst (λ m. IsPolynomial (residues m) r) c.poly_of_places.ensures.prime c.poly_of_places.ensures.whole.polynomial)
    c.poly_of_places.ensures.residues c.divide.ensures.smaller
    (λ k. c.divide.ensures.division k ∙ ap (λ x. x % p) (c.row_of-rest.ensures.places k))
