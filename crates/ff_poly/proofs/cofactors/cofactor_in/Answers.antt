use Rattle.std.proofs.Common.{◌*◌, ◌^◌, ◌<◌, ◌≤◌, [], ◌∷◌, take, refl, ap₂, sym, ◌∙◌, subst, arith}
use Rattle.std.proofs.lemmas.List.Elements.{All-nil, All-cons}
use Rattle.alg_model.specs.Coefficients.{mod_ops, residues}
use Rattle.alg_model.specs.Polynomials.{trim, poly_product, poly_difference}
use Rattle.alg_model.specs.Factors.{IsDivision}
use Rattle.ff_poly.specs.PrivateDivisors.{IsNormalizer}
use Rattle.ff_poly.specs.declared.TheConstants.{MAX_POLY}
use Rattle.ff_poly.proofs.EuclidRows.{row_of_polynomial}
use Rattle.ff_poly.proofs.CofactorRows.{remainders_start, remainders_step, remainders_room, unit_row, zero_row, last_not_zero, last_cofactor}
use Rattle.ff_poly.proofs.cofactors.cofactor_in.Goals as goal

pub euclid-init : goal.euclid-init
euclid-init g c =
    let p = c.args.p in
    let w = g.row.W in
    let a = c.args.a.now in
    let b = c.args.b.now in
    let prime = c.number-number.ensures.whole in
    let positive : 0 < p = omega (arith, c.number-number.ensures.small, c.number-number.ensures.value) in
    let (first, first_row) = row_of_polynomial w p a c.row_of-first.result c.row_of-first.ensures.len c.requires.room.0 c.requires.first
    (c.row_of-first.ensures.residues p positive c.requires.first.0) c.row_of-first.ensures.places in
    let (second, second_row) = row_of_polynomial w p b c.row_of-second.result c.row_of-second.ensures.len c.requires.room.1 c.requires.second
    (c.row_of-second.ensures.residues p positive c.requires.second.0) c.row_of-second.ensures.places in
    record {
      u_count = c.row_of-u.ensures.len;
      v_count = c.blank_row-v.ensures.len;
      u_residues = c.row_of-u.ensures.residues p positive (All-cons (λ x. x < p) 1 [] (omega (arith, c.number-number.ensures.small, c.number-number.ensures.value)) (All-nil (λ x. x < p)));
      v_residues = c.blank_row-v.ensures.residues p positive;
      others = (
        [],
        1 ∷ [],
        remainders_start w p a b prime c.requires.first c.requires.second c.row_of-first.result c.row_of-second.result
            (trim (mod_ops p) c.row_of-u.result) (trim (mod_ops p) c.blank_row-v.result) [] (1 ∷ [])
            first_row first second_row second c.requires.not_both_zero
            (unit_row p c.row_of-u.result c.row_of-u.ensures.places) (zero_row p c.blank_row-v.result c.blank_row-v.ensures.blank) refl refl,
      );
    }

pub next_factor-next-requires : goal.next_factor-next-requires
next_factor-next-requires g c =
    let p = c.args.p in
    let h = c.euclid.invariant in
    let o = mod_ops p in
    let width : g.row.W ≤ MAX_POLY = c.requires.width in
    let fits : g.row.W * 1 < 2 ^ 63 = omega arith in
    let some : 0 < c.euclid.n = omega (arith, c.euclid-test.true) in
    let R = h.others.2 in
    let steps = c.saturating_sub.ensures in
    let room = remainders_room g.row.W p c.args.a.now c.args.b.now c.number-number.ensures.whole c.requires.first c.requires.second
    c.euclid.first c.euclid.second c.euclid.m c.euclid.n (trim o c.euclid.u) (trim o c.euclid.v) h.others.0 h.others.1 R
    some c.requires.room.0 c.requires.room.1 in (
      fits,
      (
        width,
        (
          c.requires.sizes,
          (
            h.u_residues,
            (
              h.v_residues,
              (
                c.divided-quotient.ensures.residues.0,
                (omega (arith, steps, R.first_row.fits, some), (λ k l. c.divided-quotient.ensures.short k (omega (arith, steps)), omega (arith, room.0, steps))),
              ),
            ),
          ),
        ),
      ),
    )

pub euclid-preserved : goal.euclid-preserved
euclid-preserved g c =
    let p = c.args.p in
    let w = g.row.W in
    let h = c.euclid.invariant in
    let o = mod_ops p in
    let m = c.euclid.m in
    let n = c.euclid.n in
    let above : 1 < p = omega (arith, c.number-number.ensures.small, c.number-number.ensures.value) in
    let trimmed = c.trimmed_len-n.ensures.trimmed p in
    let q = trim o c.divided-quotient.result.0 in
    let rest = c.divided-quotient.result.1 in
    let r = c.trimmed_len-n.result in
    let s = h.others.0 in
    let t = h.others.1 in
    let by : IsDivision (residues p) (take m c.euclid.first) (take n c.euclid.second) q (take r rest) =
    subst (λ xs. IsDivision (residues p) (take m c.euclid.first) (take n c.euclid.second) q xs) (sym trimmed) c.divided-quotient.ensures.division in
    record {
      u_count = h.v_count;
      v_count = c.next_factor-next.ensures.len;
      u_residues = h.v_residues;
      v_residues = c.next_factor-next.ensures.residues;
      others = (
        t,
        poly_difference o s (poly_product o q t),
        remainders_step w p c.args.a.now c.args.b.now c.number-number.ensures.whole c.requires.first c.requires.second
            c.euclid.first c.euclid.second m n (trim o c.euclid.u) (trim o c.euclid.v) s t h.others.2
            (omega (arith, c.euclid-test.true)) q rest r (trim o c.next_factor-next.result) (poly_difference o s (poly_product o q t))
            (record {
              count = c.divided-quotient.ensures.len.1;
              residues = c.divided-quotient.ensures.residues.1;
              fits = omega (arith, c.trimmed_len-n.ensures.fits, c.divided-quotient.ensures.len);
              trimmed = trimmed;
            })
            by c.next_factor-next.ensures.difference refl above,
      );
    }

pub returns-clause-cofactor : goal.returns-clause-cofactor
returns-clause-cofactor g c =
    let p = c.args.p in
    let h = c.euclid.invariant in
    let o = mod_ops p in
    let R = h.others.2 in
    let k = c.normalizer-normalizer.result.coefficients in
    let same = c.trimmed.ensures.coefficients ∙ sym R.first_row.trimmed in
    last_cofactor g.row.W p c.args.a.now c.args.b.now c.number-number.ensures.whole c.requires.first c.requires.second
    c.euclid.first c.euclid.second c.euclid.m c.euclid.n (trim o c.euclid.u) (trim o c.euclid.v) h.others.0 h.others.1 R
    (omega (arith, c.euclid-test.false)) k c.mul.result.coefficients
    (subst (λ q. IsNormalizer q (take c.euclid.m c.euclid.first) k) c.trimmed.ensures.prime
    (subst (λ xs. IsNormalizer c.trimmed.result.prime xs k) same c.normalizer-normalizer.ensures.normalizer))
    c.normalizer-normalizer.ensures.short
    (c.mul.ensures.product ∙ ap₂ (λ q xs. poly_product (mod_ops q) k xs) (c.normalizer-normalizer.ensures.prime ∙ c.trimmed.ensures.prime) c.trimmed-2.ensures.coefficients)

pub normalizer-normalizer-requires : goal.normalizer-normalizer-requires
normalizer-normalizer-requires g c =
    let p = c.args.p in
    let h = c.euclid.invariant in
    let o = mod_ops p in
    let R = h.others.2 in
    λ e. last_not_zero g.row.W p c.args.a.now c.args.b.now c.number-number.ensures.whole c.requires.first c.requires.second
    c.euclid.first c.euclid.second c.euclid.m c.euclid.n (trim o c.euclid.u) (trim o c.euclid.v) h.others.0 h.others.1 R
    (omega (arith, c.euclid-test.false)) (R.first_row.trimmed ∙ sym c.trimmed.ensures.coefficients ∙ e)
