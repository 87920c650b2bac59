use Rattle.std.proofs.Common.{◌<◌, length, subst, sym}
use Rattle.std.specs.Prelude.{slice_index}
use Rattle.lat_core.specs.Answers.{IsNumber}
use Rattle.lat_session.specs.PrivateCombining.{IsPrimeFieldOf}
use Rattle.lat_session.proofs.Questioned.{are_subfields, subfields_or_not}
use Rattle.lat_session.proofs.FittingPlays.{seen_compatible, seen_everywhere}
use Rattle.lat_session.proofs.CombinedValues.{first_subfield}
use Rattle.lat_session.proofs.combining.prime_field.Goals as goal

pub read-requires : goal.read-requires
read-requires g c = record { fits = (c.requires.0, c.requires.1.after, c.requires.2) }

pub unreachable-requires : goal.unreachable-requires
unreachable-requires g c = subfields_or_not (c.read.ensures.answer c.requires.0 c.requires.1.after) c.in_default.not-Numbers

pub bounds-numbers-0 : goal.bounds-numbers-0
bounds-numbers-0 g c = subst (λ ns. 0 < length ns) (sym c.numbers-numbers.ensures.value)
    (first_subfield (seen_compatible c.requires.1) c.args.number c.requires.2 c.in-Numbers.subfields
    (are_subfields (c.read.ensures.answer c.requires.0 c.requires.1.after) c.in-Numbers.is)).0

pub returns : goal.returns
returns g c = λ L s. subst (λ ns. IsPrimeFieldOf L c.args.number (slice_index ns 0)) (sym c.numbers-numbers.ensures.value)
    (first_subfield (seen_compatible s) c.args.number (seen_everywhere (λ M. IsNumber M c.args.number) c.requires L s) c.in-Numbers.subfields
    (are_subfields (c.read.ensures.answer L s.after) c.in-Numbers.is)).1
