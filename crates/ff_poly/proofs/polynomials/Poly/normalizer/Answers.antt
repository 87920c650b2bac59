use Rattle.std.proofs.Common.{◌≡◌, ◌≢◌, ◌-◌, ◌*◌, ◌%◌, [], ◌∷◌, length, slice_index, ap, sym, ◌∙◌, subst, arith}
use Rattle.alg_model.specs.Coefficients.{mod_ops}
use Rattle.alg_model.specs.Polynomials.{trim}
use Rattle.alg_rings.proofs.Lists.{length_not_nil}
use Rattle.alg_rings.proofs.Trims.{last_not_zero, leading_at}
use Rattle.alg_rings.proofs.Residues.{zero_test}
use Rattle.ff_poly.proofs.polynomials.Poly.normalizer.Goals as goal

pub inv-inverse-requires-clause-not_zero : goal.inv-inverse-requires-clause-not_zero
inv-inverse-requires-clause-not_zero c =
    let p = c.args.self.now.prime in
    let f = c.args.self.now.coefficients in
    subst (λ xs. slice_index xs (length xs - 1) ≢ 0) (sym c.coefficients-coefficients.ensures.value)
    (last_not_zero (mod_ops p) (zero_test p) f c.prime-p.ensures.whole.polynomial.1 (length_not_nil f c.requires))

pub returns-clause-normalizer : goal.returns-clause-normalizer
returns-clause-normalizer c =
    let p = c.args.self.now.prime in
    let f = c.args.self.now.coefficients in
    let i = c.inv-inverse.result in
    let same = c.prime-p.ensures.value in
    record {
      inverse = i;
      residue = omega (arith, c.inv-inverse.ensures.residue, same);
      identity =
          ap (λ w. (w * i) % p) (leading_at (mod_ops p) f ∙ ap (λ xs. slice_index xs (length xs - 1)) (sym c.coefficients-coefficients.ensures.value))
          ∙ subst (λ n. (slice_index c.coefficients-coefficients.result.now (length c.coefficients-coefficients.result.now - 1) * i) % n ≡ 1) same
          c.inv-inverse.ensures.inverse;
      constant = c.trimmed.ensures.coefficients ∙ ap (λ n. trim (mod_ops n) (i ∷ [])) same;
    }
