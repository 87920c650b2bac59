use Rattle.std.proofs.Common.{length, ap, arith}
use Rattle.ff_roots.proofs.GeneralRoots.{constant_no_root}
use Rattle.ff_roots.proofs.RootInsertion.{nothing_rises, nothing_contained}
use Rattle.ff_roots.proofs.general.roots.Goals as goal

pub returns-then-coefficients-lt2 : goal.returns-then-coefficients-lt2
returns-then-coefficients-lt2 c =
    let F = c.args.field.now in
    record {
      rising = (nothing_rises F c.new-list.result c.new-list.ensures).rising;
      exactly = λ v. (
        λ m. absurd (nothing_contained c.new-list.result c.new-list.ensures v m),
        λ r. absurd (constant_no_root F c.prime-prime.ensures.whole.finite c.args.g.now
            c.requires.polynomial c.requires.not_zero
            (omega (arith, c.if-coefficients-lt2.true, ap length c.coefficients.ensures.value)) v r),
      );
    }

pub returns-in-Some : goal.returns-in-Some
returns-in-Some c =
    let h = c.conjugate_roots.ensures in
    let same = c.in-Some.ensures.roots in
    record {
      rising = h.rising;
      exactly = λ v. (
        λ m. (same v).0 ((h.exactly v).0 m),
        λ r. (h.exactly v).1 ((same v).1 r),
      );
    }
