use Rattle.std.proofs.Common.{◌≡◌, ◌+◌, length, refl, sym, subst, arith, true, false}
use Rattle.std.specs.Prelude.{None}
use Rattle.std.proofs.lemmas.List.Elements.{All-nil}
use Rattle.alg_model.specs.Factors.{IsPolynomial}
use Rattle.alg_model.specs.Maps.{field_values}
use Rattle.alg_model.specs.Lattices.{field_at}
use Rattle.alg_choices.specs.Fitting.{Narrows}
use Rattle.alg_choices.proofs.Searching.{narrows_all, selects_other}
use Rattle.lat_choice.specs.PrivateNeeded.{IsNeeded}
use Rattle.lat_choice.proofs.narrowing.narrowed.Goals as goal
use Rattle.lat_choice.proofs.narrowing.narrowed.Goals.{then-is_needed, else-is_needed}

pub loop-d-init : goal.loop-d-init
loop-d-init c =
    let L = c.args.lattice.now in
    let E = c.args.from in
    let F = c.args.into in
    record {
      polynomial = subst (IsPolynomial (field_values (field_at L.rows F)))
          (sym c.default-polynomial.ensures)
          (All-nil (field_values (field_at L.rows F)).Valid, refl);
      narrows = subst (Narrows L E F (IsNeeded L E F) 0 None) (sym c.default-polynomial.ensures)
          (narrows_all c.fields-d-end.ensures.whole c.requires.fields c.requires.alike);
    }

pub loop-d-preserved : goal.loop-d-preserved
loop-d-preserved c =
    let L = c.args.lattice.now in
    let E = c.args.from in
    let F = c.args.into in
    let P = IsPolynomial (field_values (field_at L.rows F)) in
    let N = Narrows L E F (IsNeeded L E F) (c.loop-d.d + 1) None in
    elim c.if-is_needed.branch [
      | then-is_needed w ↦ record {
        polynomial = subst P (sym w.polynomial-is) w.narrowed_by-polynomial.ensures.polynomial;
        narrows = subst N (sym w.polynomial-is) w.narrowed_by-polynomial.ensures.narrows;
      }
      | else-is_needed w ↦ record {
        polynomial = subst P (sym w.polynomial-is) c.loop-d.invariant.polynomial;
        narrows = subst N (sym w.polynomial-is) (selects_other c.fields-d-end.ensures.whole c.requires.fields
            c.requires.alike c.loop-d.invariant.narrows
            (λ need x f. let h : c.is_needed.result ≡ true = c.is_needed.ensures.1 need in
            let e : c.is_needed.result ≡ false = w.if-is_needed.false in cc));
      }
    ]

pub returns-clause-narrows : goal.returns-clause-narrows
returns-clause-narrows c =
    let L = c.args.lattice.now in
    let E = c.args.from in
    let F = c.args.into in
    let all : c.loop-d.d ≡ length L.rows = omega arith in
    subst (λ i. Narrows L E F (IsNeeded L E F) i None c.loop-d.polynomial) all
    c.loop-d.invariant.narrows
