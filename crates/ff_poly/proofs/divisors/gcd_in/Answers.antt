use Rattle.std.proofs.Common.{◌≡◌, ◌<◌, [], take, length, sym, ◌∙◌, subst, arith}
use Rattle.alg_model.specs.Coefficients.{mod_ops, residues}
use Rattle.alg_model.specs.Polynomials.{trim}
use Rattle.alg_model.specs.Factors.{IsDivision, IsGreatestCommonDivisor}
use Rattle.alg_rings.proofs.Residues.{residues_ring}
use Rattle.alg_rings.proofs.ResidueFields.{residues_propositional}
use Rattle.ff_poly.proofs.Euclid.{gcd_step}
use Rattle.ff_poly.proofs.EuclidRows.{row_of_polynomial, row_polynomial}
use Rattle.ff_poly.proofs.divisors.gcd_in.Goals as goal

pub euclid-init : goal.euclid-init
euclid-init g c =
    let p = c.args.p in
    let w = g.row.W in
    let a = c.args.a.now in
    let b = c.args.b.now in
    let positive : 0 < p = omega (arith, c.number-number.ensures.small, c.number-number.ensures.value) in
    let (first, first_row) = row_of_polynomial w p a c.row_of-first.result c.row_of-first.ensures.len c.requires.room.0 c.requires.first
    (c.row_of-first.ensures.residues p positive c.requires.first.0) c.row_of-first.ensures.places in
    let (second, second_row) = row_of_polynomial w p b c.row_of-second.result c.row_of-second.ensures.len c.requires.room.1 c.requires.second
    (c.row_of-second.ensures.residues p positive c.requires.second.0) c.row_of-second.ensures.places in
    record {
      first = first_row;
      second = second_row;
      gcd = λ d G. subst (λ xs. IsGreatestCommonDivisor (residues p) xs b d) first
          (subst (λ ys. IsGreatestCommonDivisor (residues p) (take (length a) c.row_of-first.result) ys d) second G);
    }

pub euclid-preserved : goal.euclid-preserved
euclid-preserved g c =
    let p = c.args.p in
    let w = g.row.W in
    let h = c.euclid.invariant in
    let above : 1 < p = omega (arith, c.number-number.ensures.small, c.number-number.ensures.value) in
    let trimmed = c.trimmed_len-n.ensures.trimmed p in
    let A = take c.euclid.m c.euclid.first in
    let B = take c.euclid.n c.euclid.second in
    let R = take c.trimmed_len-n.result c.divided-rest.result.1 in
    let q = trim (mod_ops p) c.divided-rest.result.0 in
    let by : IsDivision (residues p) A B q R = subst (λ xs. IsDivision (residues p) A B q xs) (sym trimmed) c.divided-rest.ensures.division in
    record {
      first = h.second;
      second = record {
        count = c.divided-rest.ensures.len.1;
        residues = c.divided-rest.ensures.residues.1;
        fits = omega (arith, c.trimmed_len-n.ensures.fits, c.divided-rest.ensures.len);
        trimmed = trimmed;
      };
      gcd = λ d G. h.gcd d (gcd_step (residues_propositional p) (residues_ring p above) A B q R d
          (row_polynomial w p c.euclid.m c.euclid.first h.first above) (row_polynomial w p c.euclid.n c.euclid.second h.second above) by G);
    }

pub returns-clause-gcd : goal.returns-clause-gcd
returns-clause-gcd g c =
    let p = c.args.p in
    let h = c.euclid.invariant in
    let d = c.made_monic.result.coefficients in
    let done : c.euclid.n ≡ 0 = omega (arith, c.euclid-test.false) in
    let A = take c.euclid.m c.euclid.first in
    h.gcd d (subst (λ n. IsGreatestCommonDivisor (residues p) A (take n c.euclid.second) d) (sym done)
    (subst (λ xs. IsGreatestCommonDivisor (residues p) xs [] d) (c.trimmed.ensures.coefficients ∙ sym h.first.trimmed)
    (subst (λ q. IsGreatestCommonDivisor (residues q) c.trimmed.result.coefficients [] d) c.trimmed.ensures.prime c.made_monic.ensures.gcd)))
