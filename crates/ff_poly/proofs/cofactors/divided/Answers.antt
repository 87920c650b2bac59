use Rattle.std.proofs.Common.{◌*◌, ◌^◌, ◌<◌, ◌≤◌, arith}
use Rattle.ff_poly.specs.declared.TheConstants.{MAX_POLY}
use Rattle.ff_poly.proofs.EuclidRows.{row_length, row_past, row_leading, row_polynomial, remainder_of_rows}
use Rattle.ff_poly.proofs.cofactors.divided.Goals as goal

pub divide-requires : goal.divide-requires
divide-requires g c =
    let w = g.row.W in
    let p = c.args.p in
    let width : g.row.W ≤ MAX_POLY = c.requires.width in
    let fits : g.row.W * 1 < 2 ^ 63 = omega arith in
    let above : 1 < p = omega (arith, c.number-number.ensures.small, c.number-number.ensures.value) in
    let long = row_length w p c.args.n c.args.second.now c.requires.second in (
      fits,
      (
        width,
        (
          c.requires.sizes,
          (
            (omega (arith, long, c.requires.not_zero), omega (arith, long, c.requires.second.fits)),
            (
              row_leading w p c.args.n c.args.second.now c.requires.second above c.requires.not_zero,
              (
                (row_polynomial w p c.args.n c.args.second.now c.requires.second above).0,
                (
                  omega (arith, long, c.saturating_sub.ensures, c.requires.first.fits, c.requires.second.fits),
                  (
                    c.requires.first.residues,
                    (
                      λ k h. row_past w p c.args.m c.args.first.now c.requires.first k (omega (arith, long, c.saturating_sub.ensures)),
                      c.blank_row-quotient.ensures.blank,
                    ),
                  ),
                ),
              ),
            ),
          ),
        ),
      ),
    )

pub returns-clause-len : goal.returns-clause-len
returns-clause-len g c = (c.divide.ensures.long, c.divide.ensures.len)

pub returns-clause-short : goal.returns-clause-short
returns-clause-short g c k l = c.divide.ensures.short k (omega (arith, c.saturating_sub.ensures))

pub returns-clause-division : goal.returns-clause-division
returns-clause-division g c =
    let p = c.args.p in
    let above : 1 < p = omega (arith, c.number-number.ensures.small, c.number-number.ensures.value) in
    remainder_of_rows g.row.W p c.args.m c.args.n c.args.first.now c.args.second.now c.divide.new.quotient c.divide.new.rest
    above c.requires.not_zero c.requires.first c.requires.second c.divide.ensures.residues c.divide.ensures.rest
    c.divide.ensures.smaller c.divide.ensures.division
