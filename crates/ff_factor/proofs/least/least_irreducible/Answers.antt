use Rattle.std.proofs.Common.{◌≡◌, ℕ, ◌+◌, ◌-◌, ◌^◌, ◌<◌, ◌≤◌, List, length, replicate, All, ap, sym, ◌∙◌, subst, arith, rules, IsTrue}
use Rattle.std.proofs.lemmas.List.{length-replicate}
use Rattle.std.proofs.lemmas.List.Elements.{All-replicate}
use Rattle.alg_model.specs.Coefficients.{residues}
use Rattle.alg_model.specs.Factors.{IsMonic, IsIrreducible}
use Rattle.alg_model.specs.Roots.{IsLeastIrreducible}
use Rattle.ff_factor.specs.PrivateCounting.{number}
use Rattle.ff_factor.proofs.LeastPolynomials.{candidate, candidate_monic, NoneBefore, none_before_first, none_before_next, not_last, least_found}
use Rattle.ff_factor.proofs.least.least_irreducible.Goals as goal

pub loop-candidate-init : goal.loop-candidate-init
loop-candidate-init c =
    let z : c.zeros-lower.result.items ≡ replicate c.args.d 0 = c.zeros-lower.ensures in
    record {
      size = ap length z ∙ length-replicate {A = ℕ} c.args.d 0;
      residues = subst (All (λ x. x < c.args.p)) (sym z) (All-replicate (λ x. x < c.args.p) c.args.d 0
          (omega (arith, c.number-number.ensures.small, c.number-number.ensures.value)));
      prime = c.monic-candidate.ensures.prime;
      coefficients = c.monic-candidate.ensures.coefficients ∙ ap candidate c.as_slice.ensures.value;
      none = subst (λ l. NoneBefore c.args.p c.args.d (candidate l)) (sym z)
          (none_before_first c.args.p c.args.d c.number-number.ensures.whole c.requires.0);
    }

pub is_irreducible-requires-clause-monic : goal.is_irreducible-requires-clause-monic
is_irreducible-requires-clause-monic c =
    let i = c.loop-candidate.invariant in
    subst (λ f. IsMonic (residues c.loop-candidate.candidate.prime) f) (sym i.coefficients)
    (candidate_monic c.loop-candidate.candidate.prime c.loop-candidate.lower.items)

moved : (p q : ℕ) (f g : List ℕ) → q ≡ p → f ≡ g → IsIrreducible (residues p) g → IsIrreducible (residues q) f
moved p q f g e h i = subst (λ r. IsIrreducible (residues r) f) (sym e) (subst (IsIrreducible (residues p)) (sym h) i)

pub step-requires-clause-not_last : goal.step-requires-clause-not_last
step-requires-clause-not_last c =
    let v = c.loop-candidate.invariant in
    not_last c.args.p c.args.d c.number-number.ensures.whole c.requires.0 c.loop-candidate.lower.items v.size v.residues
    (λ i. let t : IsTrue c.is_irreducible.result = c.is_irreducible.ensures.1
    (moved c.args.p c.loop-candidate.candidate.prime c.loop-candidate.candidate.coefficients (candidate c.loop-candidate.lower.items) v.prime v.coefficients i) in search rules)
    v.none

pub loop-candidate-smaller : goal.loop-candidate-smaller
loop-candidate-smaller c =
    let v = c.loop-candidate.invariant in
    let n : number c.args.p c.step.new.lower.items ≡ number c.args.p c.loop-candidate.lower.items + 1 = c.step.ensures.next in
    let b : number c.args.p c.loop-candidate.lower.items + 1 < c.args.p ^ length c.loop-candidate.lower.items =
    not_last c.args.p c.args.d c.number-number.ensures.whole c.requires.0 c.loop-candidate.lower.items v.size v.residues
    (λ i. let t : IsTrue c.is_irreducible.result = c.is_irreducible.ensures.1
    (moved c.args.p c.loop-candidate.candidate.prime c.loop-candidate.candidate.coefficients (candidate c.loop-candidate.lower.items) v.prime v.coefficients i) in search rules)
    v.none in
    let e : c.args.p ^ length c.loop-candidate.lower.items ≡ c.args.p ^ c.args.d = ap (λ k. c.args.p ^ k) v.size in
    omega (arith, n, b, e)

pub loop-candidate-preserved : goal.loop-candidate-preserved
loop-candidate-preserved c =
    let v = c.loop-candidate.invariant in
    let s : length c.step.new.lower.items ≡ c.args.d = c.step.ensures.len ∙ v.size in
    record {
      size = s;
      residues = c.step.ensures.residues;
      prime = c.monic-candidate-in-loop-candidate.ensures.prime;
      coefficients = c.monic-candidate-in-loop-candidate.ensures.coefficients ∙ ap candidate c.as_slice-in-loop-candidate.ensures.value;
      none = none_before_next c.args.p c.args.d c.number-number.ensures.whole c.requires.0 c.loop-candidate.lower.items v.size v.residues
          (λ i. let t : IsTrue c.is_irreducible.result = c.is_irreducible.ensures.1
          (moved c.args.p c.loop-candidate.candidate.prime c.loop-candidate.candidate.coefficients (candidate c.loop-candidate.lower.items) v.prime v.coefficients i) in search rules)
          v.none c.step.new.lower.items s c.step.ensures.residues c.step.ensures.next;
    }

pub returns-clause-least : goal.returns-clause-least
returns-clause-least c =
    let v = c.loop-candidate.invariant in
    let t : IsTrue c.is_irreducible.result = search rules in
    let i : IsIrreducible (residues c.args.p) (candidate c.loop-candidate.lower.items) =
    moved c.loop-candidate.candidate.prime c.args.p (candidate c.loop-candidate.lower.items) c.loop-candidate.candidate.coefficients (sym v.prime) (sym v.coefficients)
    (c.is_irreducible.ensures.0 t) in
    subst (IsLeastIrreducible c.args.p c.args.d) (sym v.coefficients)
    (least_found c.args.p c.args.d c.number-number.ensures.whole c.requires.0 c.loop-candidate.lower.items v.size i v.none)
