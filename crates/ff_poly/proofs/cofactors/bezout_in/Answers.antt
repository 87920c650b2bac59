use Rattle.std.proofs.Common.{◌≡◌, ◌*◌, ◌^◌, ◌<◌, ◌≤◌, [], take, sym, ◌∙◌, subst, arith}
use Rattle.std.proofs.lemmas.List.Elements.{All-nil, All-cons}
use Rattle.alg_model.specs.Coefficients.{mod_ops, residues}
use Rattle.alg_model.specs.Polynomials.{trim}
use Rattle.alg_model.specs.Factors.{IsDivision}
use Rattle.ff_poly.specs.declared.TheConstants.{MAX_POLY}
use Rattle.ff_poly.proofs.EuclidRows.{row_of_polynomial}
use Rattle.ff_poly.proofs.CofactorRows.{line_of, remainders_start, remainders_step, remainders_room, unit_row, zero_row, last_not_zero, last_gcd, last_identity, last_first, last_second, multiple_of_line}
use Rattle.ff_poly.proofs.ExtendedEuclid.{IsMonicMultiple}
use Rattle.ff_poly.proofs.cofactors.bezout_in.Given.{Over}
use Rattle.ff_poly.proofs.cofactors.bezout_in.Goals as goal

pub euclid-init : goal.euclid-init
euclid-init g c =
    let p = c.args.p in
    let w = g.row.W in
    let a = c.args.a.now in
    let b = c.args.b.now in
    let o = mod_ops p in
    let positive : 0 < p = omega (arith, c.number-number.ensures.small, c.number-number.ensures.value) in
    let one = All-cons (λ x. x < p) 1 [] (omega (arith, c.number-number.ensures.small, c.number-number.ensures.value)) (All-nil (λ x. x < p)) in
    let (first, first_row) = row_of_polynomial w p a c.row_of-first.result c.row_of-first.ensures.len c.requires.room.0 c.requires.first
    (c.row_of-first.ensures.residues p positive c.requires.first.0) c.row_of-first.ensures.places in
    let (second, second_row) = row_of_polynomial w p b c.row_of-second.result c.row_of-second.ensures.len c.requires.room.1 c.requires.second
    (c.row_of-second.ensures.residues p positive c.requires.second.0) c.row_of-second.ensures.places in
    record {
      u_count = c.row_of-u.ensures.len;
      v_count = c.blank_row-v.ensures.len;
      s_count = c.blank_row-s.ensures.len;
      t_count = c.row_of-t.ensures.len;
      u_residues = c.row_of-u.ensures.residues p positive one;
      v_residues = c.blank_row-v.ensures.residues p positive;
      s_residues = c.blank_row-s.ensures.residues p positive;
      t_residues = c.row_of-t.ensures.residues p positive one;
      remainders = remainders_start w p a b c.number-number.ensures.whole c.requires.first c.requires.second c.row_of-first.result c.row_of-second.result
          (trim o c.row_of-u.result) (trim o c.blank_row-v.result) (trim o c.blank_row-s.result) (trim o c.row_of-t.result)
          first_row first second_row second c.requires.not_both_zero
          (unit_row p c.row_of-u.result c.row_of-u.ensures.places) (zero_row p c.blank_row-v.result c.blank_row-v.ensures.blank)
          (zero_row p c.blank_row-s.result c.blank_row-s.ensures.blank) (unit_row p c.row_of-t.result c.row_of-t.ensures.places);
    }

pub next_factor-next_u-requires : goal.next_factor-next_u-requires
next_factor-next_u-requires g c =
    let p = c.args.p in
    let h = c.euclid.invariant in
    let o = mod_ops p in
    let width : g.row.W ≤ MAX_POLY = c.requires.width in
    let fits : g.row.W * 1 < 2 ^ 63 = omega arith in
    let some : 0 < c.euclid.n = omega (arith, c.euclid-test.true) in
    let R = h.remainders in
    let steps = c.saturating_sub-steps.ensures in
    let room = remainders_room g.row.W p c.args.a.now c.args.b.now c.number-number.ensures.whole c.requires.first c.requires.second
    c.euclid.first c.euclid.second c.euclid.m c.euclid.n (trim o c.euclid.u) (trim o c.euclid.v) (trim o c.euclid.s) (trim o c.euclid.t) R
    some c.requires.room.0 c.requires.room.1 in (
      fits,
      (
        width,
        (
          c.requires.sizes,
          (
            h.u_residues,
            (
              h.v_residues,
              (
                c.divided-quotient.ensures.residues.0,
                (omega (arith, steps, R.first_row.fits, some), (λ k l. c.divided-quotient.ensures.short k (omega (arith, steps)), omega (arith, room.0, steps))),
              ),
            ),
          ),
        ),
      ),
    )

pub next_factor-next_s-requires : goal.next_factor-next_s-requires
next_factor-next_s-requires g c =
    let p = c.args.p in
    let h = c.euclid.invariant in
    let o = mod_ops p in
    let width : g.row.W ≤ MAX_POLY = c.requires.width in
    let fits : g.row.W * 1 < 2 ^ 63 = omega arith in
    let some : 0 < c.euclid.n = omega (arith, c.euclid-test.true) in
    let R = h.remainders in
    let steps = c.saturating_sub-steps.ensures in
    let room = remainders_room g.row.W p c.args.a.now c.args.b.now c.number-number.ensures.whole c.requires.first c.requires.second
    c.euclid.first c.euclid.second c.euclid.m c.euclid.n (trim o c.euclid.u) (trim o c.euclid.v) (trim o c.euclid.s) (trim o c.euclid.t) R
    some c.requires.room.0 c.requires.room.1 in (
      fits,
      (
        width,
        (
          c.requires.sizes,
          (
            h.s_residues,
            (
              h.t_residues,
              (
                c.divided-quotient.ensures.residues.0,
                (omega (arith, steps, R.first_row.fits, some), (λ k l. c.divided-quotient.ensures.short k (omega (arith, steps)), omega (arith, room.1, steps))),
              ),
            ),
          ),
        ),
      ),
    )

pub euclid-preserved : goal.euclid-preserved
euclid-preserved g c =
    let p = c.args.p in
    let w = g.row.W in
    let h = c.euclid.invariant in
    let o = mod_ops p in
    let m = c.euclid.m in
    let n = c.euclid.n in
    let above : 1 < p = omega (arith, c.number-number.ensures.small, c.number-number.ensures.value) in
    let trimmed = c.trimmed_len-n.ensures.trimmed p in
    let q = trim o c.divided-quotient.result.0 in
    let rest = c.divided-quotient.result.1 in
    let r = c.trimmed_len-n.result in
    let by : IsDivision (residues p) (take m c.euclid.first) (take n c.euclid.second) q (take r rest) =
    subst (λ xs. IsDivision (residues p) (take m c.euclid.first) (take n c.euclid.second) q xs) (sym trimmed) c.divided-quotient.ensures.division in
    record {
      u_count = h.v_count;
      v_count = c.next_factor-next_u.ensures.len;
      s_count = h.t_count;
      t_count = c.next_factor-next_s.ensures.len;
      u_residues = h.v_residues;
      v_residues = c.next_factor-next_u.ensures.residues;
      s_residues = h.t_residues;
      t_residues = c.next_factor-next_s.ensures.residues;
      remainders = remainders_step w p c.args.a.now c.args.b.now c.number-number.ensures.whole c.requires.first c.requires.second
          c.euclid.first c.euclid.second m n (trim o c.euclid.u) (trim o c.euclid.v) (trim o c.euclid.s) (trim o c.euclid.t) h.remainders
          (omega (arith, c.euclid-test.true)) q rest r (trim o c.next_factor-next_u.result) (trim o c.next_factor-next_s.result)
          (record {
            count = c.divided-quotient.ensures.len.1;
            residues = c.divided-quotient.ensures.residues.1;
            fits = omega (arith, c.trimmed_len-n.ensures.fits, c.divided-quotient.ensures.len);
            trimmed = trimmed;
          })
          by c.next_factor-next_u.ensures.difference c.next_factor-next_s.ensures.difference above;
    }

ended : (g : Over) (c : goal.After-made_monic g) → c.euclid.n ≡ 0
ended g c = omega (arith, c.euclid-test.false)

last : (g : Over) (c : goal.After-made_monic g) → IsMonicMultiple c.args.p
    (line_of c.args.p (take c.euclid.m c.euclid.first) (trim (mod_ops c.args.p) c.euclid.u) (trim (mod_ops c.args.p) c.euclid.s)) c.made_monic.result
last g c = multiple_of_line c.args.p (take c.euclid.m c.euclid.first) (trim (mod_ops c.args.p) c.euclid.u) (trim (mod_ops c.args.p) c.euclid.s)
    (record { g = c.trimmed.result; u = c.trimmed-2.result; w = c.trimmed-3.result }) c.made_monic.result
    (c.trimmed.ensures.prime, c.trimmed-2.ensures.prime, c.trimmed-3.ensures.prime)
    (c.trimmed.ensures.coefficients ∙ sym c.euclid.invariant.remainders.first_row.trimmed)
    c.trimmed-2.ensures.coefficients c.trimmed-3.ensures.coefficients c.made_monic.ensures.multiple

pub made_monic-requires-clause-not_zero : goal.made_monic-requires-clause-not_zero
made_monic-requires-clause-not_zero g c =
    let o = mod_ops c.args.p in
    let R = c.euclid.invariant.remainders in
    λ e. last_not_zero g.row.W c.args.p c.args.a.now c.args.b.now c.number-number.ensures.whole c.requires.first c.requires.second
    c.euclid.first c.euclid.second c.euclid.m c.euclid.n (trim o c.euclid.u) (trim o c.euclid.v) (trim o c.euclid.s) (trim o c.euclid.t)
    R (omega (arith, c.euclid-test.false)) (R.first_row.trimmed ∙ sym c.trimmed.ensures.coefficients ∙ e)

pub returns-clause-gcd : goal.returns-clause-gcd
returns-clause-gcd g c =
    let o = mod_ops c.args.p in
    last_gcd g.row.W c.args.p c.args.a.now c.args.b.now c.number-number.ensures.whole c.requires.first c.requires.second
    c.euclid.first c.euclid.second c.euclid.m c.euclid.n (trim o c.euclid.u) (trim o c.euclid.v) (trim o c.euclid.s) (trim o c.euclid.t)
    c.euclid.invariant.remainders (ended g c) c.made_monic.result (last g c)

pub returns-clause-identity : goal.returns-clause-identity
returns-clause-identity g c =
    let o = mod_ops c.args.p in
    last_identity g.row.W c.args.p c.args.a.now c.args.b.now c.number-number.ensures.whole c.requires.first c.requires.second
    c.euclid.first c.euclid.second c.euclid.m c.euclid.n (trim o c.euclid.u) (trim o c.euclid.v) (trim o c.euclid.s) (trim o c.euclid.t)
    c.euclid.invariant.remainders (ended g c) c.made_monic.result (last g c)

pub returns-clause-first_short : goal.returns-clause-first_short
returns-clause-first_short g c =
    let o = mod_ops c.args.p in
    last_first g.row.W c.args.p c.args.a.now c.args.b.now c.number-number.ensures.whole c.requires.first c.requires.second
    c.euclid.first c.euclid.second c.euclid.m c.euclid.n (trim o c.euclid.u) (trim o c.euclid.v) (trim o c.euclid.s) (trim o c.euclid.t)
    c.euclid.invariant.remainders (ended g c) c.made_monic.result (last g c)

pub returns-clause-second_short : goal.returns-clause-second_short
returns-clause-second_short g c =
    let o = mod_ops c.args.p in
    last_second g.row.W c.args.p c.args.a.now c.args.b.now c.number-number.ensures.whole c.requires.first c.requires.second
    c.euclid.first c.euclid.second c.euclid.m c.euclid.n (trim o c.euclid.u) (trim o c.euclid.v) (trim o c.euclid.s) (trim o c.euclid.t)
    c.euclid.invariant.remainders (ended g c) c.made_monic.result (last g c)
