-- What a lift gives stays so in every later history.
use Rattle.std.proofs.Common.{◌≡◌, ◌≢◌, subst}
use Rattle.alg_model.specs.Lattices.{Lattice, Grows, IsCompatible}
use Rattle.lat_core.specs.declared.tagged.Tagged.{Tagged}
use Rattle.lat_core.specs.declared.questions.Answer.TheVariants.{Lifted, Refused}
use Rattle.lat_core.specs.declared.questions.CoerceFault.{CoerceFault}
use Rattle.lat_core.specs.Histories.{Leads, IsAfter}
use Rattle.lat_core.proofs.HistoryLaws.{history_one, history_keeps, leads_split, leads_keeps}
use Rattle.lat_coerce.proofs.LiftedValues.{answered_lift_stays}
use Rattle.lat_history.specs.Theorems.{SeenLiftStays}

-- a value is no refusal
value_is_given : (s : Tagged) (fault : CoerceFault) → Lifted s ≢ Refused fault
value_is_given s fault e = cc

-- **the value stays**
pub seen_lift_stays : SeenLiftStays
seen_lift_stays edition seen later L M t s j E a b h =
    let (K, first, rest) = leads_split seen later b.opening M b.leads in
    let before : IsAfter edition seen K = record {
      opening = b.opening;
      of_edition = b.of_edition;
      is_opening = b.is_opening;
      leads = first;
    } in
    let same : K ≡ L = history_one edition seen K L E before a in
    let compatible : IsCompatible L = (history_keeps edition seen L E a).0 in
    let after : IsCompatible M × Grows L M =
    leads_keeps later compatible (subst (λ (I : Lattice). Leads I later M) same rest) in
    answered_lift_stays L M t j (Lifted s) compatible after.0 after.1 h (value_is_given s _)
