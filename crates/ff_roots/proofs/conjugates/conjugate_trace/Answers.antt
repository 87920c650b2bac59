use Rattle.std.proofs.Common.{◌≡◌, ◌+◌, ◌^◌, length, ap, sym, ◌∙◌, subst, arith, add-one, All}
use Rattle.std.proofs.lemmas.List.{length-replicate}
use Rattle.alg_model.specs.Coefficients.{power}
use Rattle.alg_model.specs.Polynomials.{evaluate, trim}
use Rattle.alg_model.specs.Maps.{field_values, degree_of, generator, constants}
use Rattle.alg_splitting.specs.PrivateSearch.{IsConjugateSumAtRoots, IsFrobeniusAtRoots}
use Rattle.alg_splitting.proofs.ValueLaws.{values_set, values_ring}
use Rattle.alg_splitting.proofs.PolynomialValues.{value_of_trim}
use Rattle.alg_splitting.proofs.RootPowers.{powers_of_generator}
use Rattle.alg_splitting.proofs.RootTraces.{sum_next, trace_from_sum}
use Rattle.ff_field.proofs.SmallFieldLaws.{first_conjugate, next_conjugate}
use Rattle.ff_polyx.proofs.ValuePlaces.{refill_whole}
use Rattle.ff_roots.proofs.BlankValues.{blank_valid, blank_sum}
use Rattle.ff_roots.proofs.conjugates.conjugate_trace.Goals as goal

pub conjugates-init : goal.conjugates-init
conjugates-init c =
    let E = c.args.source.now in
    let F = c.args.field.now in
    let W = c.prime-prime.ensures.whole.finite in
    let V = c.degree.ensures.whole.finite in
    let n = c.degree.result in
    let places = c.zeros-places.ensures in
    record {
      len = ap length places ∙ length-replicate n (field_values F).ops.zero ∙ c.degree.ensures.value;
      values = subst (All (field_values F).Valid) (sym places) (blank_valid F W n);
      multiple = c.copy-multiple.ensures ∙ sym (first_conjugate F W c.args.factor.now c.requires.factor);
      multiple_valid = subst (field_values F).Valid (sym c.copy-multiple.ensures) c.requires.factor;
      power = c.generator-power.ensures.value ∙ sym (first_conjugate E V (generator E)
          (subst (field_values E).Valid c.generator-power.ensures.value
          c.generator-power.ensures.valid));
      power_valid = c.generator-power.ensures.valid;
      sum = subst (IsConjugateSumAtRoots F (constants F E.polynomial) c.args.factor.now 0) (sym places)
          (blank_sum F W n (constants F E.polynomial) c.args.factor.now c.requires.factor);
    }

pub conjugates-preserved : goal.conjugates-preserved
conjugates-preserved c =
    let E = c.args.source.now in
    let F = c.args.field.now in
    let W = c.prime-prime.ensures.whole.finite in
    let V = c.degree.ensures.whole.finite in
    let o = (field_values F).ops in
    let f = constants F E.polynomial in
    let i = c.conjugates._i in
    let h = c.conjugates.invariant in
    let items = c.conjugates.places.items in
    let ws = c.add_residue_multiples.new.places in
    let b = c.conjugates.power in
    let a = c.args.factor.now in
    let vb = h.power_valid in
    let whole = refill_whole items ws (c.add_residue_multiples.ensures.len
    ∙ ap length c.as_mut_slice.ensures.value) in
    let powered : IsFrobeniusAtRoots F f i (constants F b) =
    subst (λ y. IsFrobeniusAtRoots F f i (constants F y)) (sym h.power)
    (powers_of_generator E F V W c.requires.prime i) in
    record {
      len = ap length whole ∙ c.add_residue_multiples.ensures.len
          ∙ ap length c.as_mut_slice.ensures.value ∙ h.len;
      values = subst (All (field_values F).Valid) (sym whole) c.add_residue_multiples.ensures.places;
      multiple = c.frob-multiple.ensures.value ∙ ap (λ x. power o x F.characteristic) h.multiple
          ∙ next_conjugate F W i a c.requires.factor;
      multiple_valid = c.frob-multiple.ensures.valid;
      power = c.frob-power.ensures.value
          ∙ ap (λ x. power (field_values E).ops x E.characteristic) h.power
          ∙ next_conjugate E V i (generator E) (subst (field_values E).Valid c.generator-power.ensures.value
          c.generator-power.ensures.valid);
      power_valid = c.frob-power.ensures.valid;
      sum = subst (IsConjugateSumAtRoots F f a (i + 1)) (sym whole)
          (rw add-one (sum_next F W f a c.requires.factor i items (constants F b) ws h.sum powered
          (λ v r. c.add_residue_multiples.ensures.sum v r.0
          ∙ ap (λ xs. o.add (evaluate o xs v) (o.mul c.conjugates.multiple
          (evaluate o (constants F c.digits.result.now) v))) c.as_mut_slice.ensures.value
          ∙ ap (λ m. o.add (evaluate o items v) (o.mul m
          (evaluate o (constants F c.digits.result.now) v))) h.multiple
          ∙ ap (λ ds. o.add (evaluate o items v) (o.mul (power o a (F.characteristic ^ i))
          (evaluate o (constants F ds) v))) c.digits.ensures.value)));
    }

pub of_values-requires-clause-values : goal.of_values-requires-clause-values
of_values-requires-clause-values c =
    subst (All (field_values c.args.field.now).Valid) (sym c.as_slice.ensures.value)
    c.conjugates.invariant.values

pub returns-clause-trace : goal.returns-clause-trace
returns-clause-trace c =
    let E = c.args.source.now in
    let F = c.args.field.now in
    let W = c.prime-prime.ensures.whole.finite in
    let o = (field_values F).ops in
    let f = constants F E.polynomial in
    let a = c.args.factor.now in
    let items = c.conjugates.places.items in
    let h = c.conjugates.invariant in
    let all : c.conjugates._i ≡ degree_of F = omega arith in
    λ v r. ap (λ w. evaluate o w v) (c.of_values.ensures.coefficients
    ∙ ap (trim o) c.as_slice.ensures.value)
    ∙ value_of_trim (values_set F) (values_ring F W) v r.0 items h.values
    ∙ trace_from_sum F W f a c.requires.factor items
    (subst (λ n. IsConjugateSumAtRoots F f a n items) all h.sum) v r
