use Rattle.std.proofs.Common.{◌≡◌, true, false, sym, ◌∙◌, subst}
use Rattle.lat_core.specs.declared.questions.Answer.TheVariants.{Lifted}
use Rattle.lat_core.specs.Answers.{LiftsTo}
use Rattle.lat_coerce.proofs.LiftedValues.{lifted_up, lifted_down, lifts_outside, lifts_nowhere}
use Rattle.lat_coerce.proofs.lifts.lift.Goals as goal

pub returns-in-Some : goal.returns-in-Some
returns-in-Some c = record {
  lifted = subst (λ s. LiftsTo c.args.lattice.now c.args.value.now c.args.to (Lifted s)) (sym c.tagged.ensures.tagged)
      (lifted_up c.args.lattice.now c.args.value.now c.args.to c.in-Some.map.now c.apply.result c.in-Some.ensures c.apply.ensures.value);
}

pub returns-in_default-map : goal.returns-in_default-map
returns-in_default-map c = record {
  lifted = lifts_nowhere c.args.lattice.now c.args.value.now c.args.to c.in_default.ensures c.in_default-map.ensures;
}

pub returns-in-None : goal.returns-in-None
returns-in-None c = record {
  lifted = lifts_outside c.args.lattice.now c.args.value.now c.args.to c.in-Some-map.map.now c.in_default.ensures c.in-Some-map.ensures
      (λ h. let e : false ≡ true = c.in-None.ensures.some.1 h in cc);
}

pub returns-in-Some-preimage : goal.returns-in-Some-preimage
returns-in-Some-preimage c = record {
  lifted = subst (λ s. LiftsTo c.args.lattice.now c.args.value.now c.args.to (Lifted s)) (sym c.tagged-in-Some-preimage.ensures.tagged)
      (lifted_down c.args.lattice.now c.args.value.now c.args.to c.in-Some-map.map.now c.in-Some-preimage.preimage c.in_default.ensures
      c.in-Some-map.ensures c.in-Some-preimage.ensures.valid c.in-Some-preimage.ensures.value);
}
