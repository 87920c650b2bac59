use Rattle.std.proofs.Common.{◌≡◌, ◌+◌, sym, ◌∙◌, subst, arith, add-one}
use Rattle.alg_model.specs.Polynomials.{poly_power}
use Rattle.alg_model.specs.Factors.{IsDivision}
use Rattle.alg_model.specs.Maps.{field_values, degree_of}
use Rattle.alg_splitting.specs.PrivateSearch.{variable}
use Rattle.alg_splitting.proofs.FrobeniusModulo.{variable_polynomial, frobenius_start, frobenius_remainder, frobenius_next}
use Rattle.ff_roots.specs.PrivatePowers.{ArePowers}
use Rattle.ff_roots.proofs.PowerLists.{no_powers, one_more_power}
use Rattle.ff_roots.proofs.frobenius.frobenius_powers.Goals as goal

pub powers-init : goal.powers-init
powers-init c =
    let F = c.args.field.now in
    let W = c.prime-p.ensures.whole.finite in
    let g = c.args.g.now in
    let D = c.divrem-first.ensures.division in
    record {
      done = no_powers F g c.args.powers.now c.requires.none;
      polynomial = D.remainder;
      short = D.smaller;
      next = frobenius_remainder F W g c.requires.polynomial 0 (variable F) c.divrem-first.result.0
          c.divrem-first.result.1 (variable_polynomial F W)
          (frobenius_start F W g c.requires.polynomial)
          (subst (λ a. IsDivision (field_values F) a g c.divrem-first.result.0
          c.divrem-first.result.1) c.variable.ensures.value D);
    }

pub powers-preserved : goal.powers-preserved
powers-preserved c =
    let F = c.args.field.now in
    let W = c.prime-p.ensures.whole.finite in
    let g = c.args.g.now in
    let i = c.powers._i in
    let a = c.powers.power in
    let h = c.powers.invariant in
    let D = c.powmod-next.ensures.power in
    record {
      done = subst (ArePowers F g (i + 1)) (sym c.push.ensures)
          (one_more_power F g i c.powers.powers a h.done h.polynomial h.short h.next);
      polynomial = D.1.remainder;
      short = D.1.smaller;
      next = rw add-one (frobenius_next F W g c.requires.polynomial i a D.0 c.powmod-next.result
          h.polynomial h.next
          (subst (λ n. IsDivision (field_values F) (poly_power (field_values F).ops a n) g D.0
          c.powmod-next.result) (c.number.ensures.value ∙ c.prime-p.ensures.value) D.1));
    }

pub returns-clause-powers : goal.returns-clause-powers
returns-clause-powers c =
    let all : c.powers._i ≡ degree_of c.args.field.now = omega arith in
    subst (λ n. ArePowers c.args.field.now c.args.g.now n c.powers.powers) all
    c.powers.invariant.done
