use Rattle.std.proofs.Common.{◌≡◌, ◌+◌, ◌-◌, ◌<◌, [], length, slice_index_or, refl, ap, sym, ◌∙◌, subst, arith, add-one, All}
use Rattle.std.proofs.lemmas.List.{length-replicate, get_or_read_under}
use Rattle.alg_model.specs.Coefficients.{power}
use Rattle.alg_model.specs.Polynomials.{evaluate, trim}
use Rattle.alg_model.specs.Maps.{field_values, degree_of}
use Rattle.alg_splitting.specs.PrivateSearch.{IsConjugateSumAtRoots, IsFrobeniusAtRoots}
use Rattle.alg_splitting.proofs.ValueLaws.{values_set, values_ring}
use Rattle.alg_splitting.proofs.PolynomialValues.{value_of_trim}
use Rattle.alg_splitting.proofs.FrobeniusModulo.{frobenius_at_roots}
use Rattle.alg_splitting.proofs.RootTraces.{sum_next, trace_from_sum}
use Rattle.ff_field.proofs.SmallFieldLaws.{first_conjugate, next_conjugate}
use Rattle.ff_polyx.proofs.ValuePlaces.{refill_whole}
use Rattle.ff_roots.proofs.BlankValues.{blank_valid, blank_sum}
use Rattle.ff_roots.proofs.frobenius.trace_of.Goals as goal

pub conjugates-init : goal.conjugates-init
conjugates-init c =
    let F = c.args.field.now in
    let W = c.prime-prime.ensures.whole.finite in
    let g = c.args.g.now in
    let n = length c.coefficients.result.now - 1 in
    let places = c.zeros-places.ensures in
    record {
      len = omega (
        arith,
        ap length places,
        length-replicate n (field_values F).ops.zero,
        ap length c.coefficients.ensures.value,
        c.requires.not_constant,
      );
      values = subst (All (field_values F).Valid) (sym places) (blank_valid F W n);
      multiple = c.copy-multiple.ensures ∙ sym (first_conjugate F W c.args.factor.now c.requires.factor);
      multiple_valid = subst (field_values F).Valid (sym c.copy-multiple.ensures) c.requires.factor;
      sum = subst (IsConjugateSumAtRoots F g c.args.factor.now 0) (sym places)
          (blank_sum F W n g c.args.factor.now c.requires.factor);
    }

pub add_multiples-requires-clause-values : goal.add_multiples-requires-clause-values
add_multiples-requires-clause-values c =
    let F = c.args.field.now in
    let powers = c.args.powers.now in
    let i = c.conjugates.i in
    let read = get_or_read_under powers i (length powers) c.index-powers-i.result [] c.index-powers-i.is
    c.conjugates-test.true refl in
    subst (All (field_values F).Valid) (sym (c.coefficients-in-conjugates.ensures.value ∙ read))
    (c.requires.powers.polynomials i (omega (arith, c.requires.powers.count))).0

pub add_multiples-requires-clause-room : goal.add_multiples-requires-clause-room
add_multiples-requires-clause-room c =
    let powers = c.args.powers.now in
    let i = c.conjugates.i in
    let read = get_or_read_under powers i (length powers) c.index-powers-i.result [] c.index-powers-i.is
    c.conjugates-test.true refl in
    omega (
      arith,
      c.requires.powers.short i (omega (arith, c.requires.powers.count)),
      ap length (c.coefficients-in-conjugates.ensures.value ∙ read),
      ap length c.as_mut_slice.ensures.value,
      c.conjugates.invariant.len,
    )

pub conjugates-preserved : goal.conjugates-preserved
conjugates-preserved c =
    let F = c.args.field.now in
    let W = c.prime-prime.ensures.whole.finite in
    let o = (field_values F).ops in
    let g = c.args.g.now in
    let i = c.conjugates.i in
    let h = c.conjugates.invariant in
    let items = c.conjugates.places.items in
    let ws = c.add_multiples.new.places in
    let a = c.args.factor.now in
    let powers = c.args.powers.now in
    let b = c.coefficients-in-conjugates.result.now in
    let read = get_or_read_under powers i (length powers) c.index-powers-i.result [] c.index-powers-i.is
    c.conjugates-test.true refl in
    let whole = refill_whole items ws (c.add_multiples.ensures.len
    ∙ ap length c.as_mut_slice.ensures.value) in
    let below : i < degree_of F = omega (arith, c.requires.powers.count) in
    let powered : IsFrobeniusAtRoots F g i b = subst (IsFrobeniusAtRoots F g i)
    (sym (c.coefficients-in-conjugates.ensures.value ∙ read))
    (frobenius_at_roots F W g c.requires.polynomial i (slice_index_or powers i [])
    (c.requires.powers.polynomials i below) (c.requires.powers.powers i below)) in
    record {
      len = omega (
        arith,
        ap length whole,
        c.add_multiples.ensures.len,
        ap length c.as_mut_slice.ensures.value,
        h.len,
      );
      values = subst (All (field_values F).Valid) (sym whole) c.add_multiples.ensures.places;
      multiple = c.frob-multiple.ensures.value ∙ ap (λ x. power o x F.characteristic) h.multiple
          ∙ next_conjugate F W i a c.requires.factor;
      multiple_valid = c.frob-multiple.ensures.valid;
      sum = subst (IsConjugateSumAtRoots F g a (i + 1)) (sym whole)
          (rw add-one (sum_next F W g a c.requires.factor i items b ws h.sum powered
          (λ v r. c.add_multiples.ensures.sum v r.0
          ∙ ap (λ xs. o.add (evaluate o xs v) (o.mul c.conjugates.multiple (evaluate o b v)))
          c.as_mut_slice.ensures.value
          ∙ ap (λ m. o.add (evaluate o items v) (o.mul m (evaluate o b v))) h.multiple)));
    }

pub of_values-requires-clause-values : goal.of_values-requires-clause-values
of_values-requires-clause-values c =
    subst (All (field_values c.args.field.now).Valid) (sym c.as_slice.ensures.value)
    c.conjugates.invariant.values

pub returns-clause-trace : goal.returns-clause-trace
returns-clause-trace c =
    let F = c.args.field.now in
    let W = c.prime-prime.ensures.whole.finite in
    let o = (field_values F).ops in
    let g = c.args.g.now in
    let a = c.args.factor.now in
    let items = c.conjugates.places.items in
    let h = c.conjugates.invariant in
    let all : c.conjugates.i ≡ degree_of F = omega (arith, c.requires.powers.count) in
    λ v r. ap (λ w. evaluate o w v) (c.of_values.ensures.coefficients
    ∙ ap (trim o) c.as_slice.ensures.value)
    ∙ value_of_trim (values_set F) (values_ring F W) v r.0 items h.values
    ∙ trace_from_sum F W g a c.requires.factor items
    (subst (λ n. IsConjugateSumAtRoots F g a n items) all h.sum) v r
