-- Each question that fits a compatible lattice has an answer.
use Rattle.std.proofs.Common.{ℕ, List, length, ⊎_elim}
use Rattle.alg_model.specs.Maps.{generator, apply}
use Rattle.alg_model.specs.Lattices.{Lattice, field_at, IsCompatible}
use Rattle.alg_galois.proofs.FieldMinimals.{prime_minimals, subfield_minimals}
use Rattle.alg_compatible.proofs.Transfer.{field_finite}
use Rattle.lat_core.specs.declared.tagged.Tagged.{Tagged}
use Rattle.lat_core.specs.declared.questions.Question.{Question}
use Rattle.lat_core.specs.declared.questions.Question.TheVariants.{FieldNamed, FieldAt, Map, Lift, Common, Meet, Subfields, MinPoly, MinPolyOver, Count}
use Rattle.lat_core.specs.declared.questions.CoerceFault.TheVariants.{NotEmbedded}
use Rattle.lat_core.specs.declared.questions.Answer.{Answer}
use Rattle.lat_core.specs.declared.questions.Answer.TheVariants.{Unknown, Image, Is, Numbers, Poly, RelPoly, Counted, Refused}
use Rattle.lat_core.specs.SharedRows.{map_count}
use Rattle.lat_core.specs.Answers.{IsTaggedValue, Fits, known_field, AnswersNamed, AnswersMap, HasMeet, HasMinimalOver, Answers}
use Rattle.lat_core.specs.Answers.AnswersNamed.{named, unknown}
use Rattle.lat_core.specs.Answers.AnswersMap.{image, not_embedded as no_image}
use Rattle.lat_core.specs.Answers.HasMeet.{first_not_embedded, second_not_embedded}
use Rattle.lat_core.specs.Answers.HasMinimalOver.{minimal, not_embedded as no_subfield}
use Rattle.lat_core.specs.Answers.Answers.{field_named, field_number, map, lift, common, meets, subfields, minimal_polynomial, minimal_over, count}
use Rattle.lat_core.proofs.Decisions.{named_or_free}
use Rattle.lat_coerce.specs.Theorems.{QuestionHasAnswer}
use Rattle.lat_coerce.proofs.StoredPairs.{stored_or_not}
use Rattle.lat_coerce.proofs.Overfields.{common_exists}
use Rattle.lat_coerce.proofs.CommonSubfields.{meet_exists}
use Rattle.lat_coerce.proofs.StoredSubfields.{subfields_exist}
use Rattle.lat_coerce.proofs.LiftedValues.{lift_exists}

module _ {L : Lattice} (C : IsCompatible L) where
  named_exists : (name : List ℕ) → (answer : Answer) × AnswersNamed L name answer
  named_exists name = ⊎_elim
      (λ (n, h). (known_field L n, named h))
      (λ free. (Unknown, unknown free))
      (named_or_free L name)

  image_exists : (i j : ℕ) → (answer : Answer) × AnswersMap L i j answer
  image_exists i j = ⊎_elim
      (λ (m, s). (Image (apply (field_at L.rows j) m (generator (field_at L.rows i))), image s))
      (λ absent. (Refused (NotEmbedded i j), no_image absent))
      (stored_or_not L i j)

  over_exists : (t : Tagged) (over : ℕ) → IsTaggedValue L t
      → (answer : Answer) × HasMinimalOver L t over answer
  over_exists t over T = ⊎_elim
      (λ (m, s).
      let (g, h) = (subfield_minimals (field_at L.rows over) (field_at L.rows t.field)
      (field_finite L C.rows over (C.compatible.within s).0) (field_finite L C.rows t.field T.tag) m
      (C.compatible.embedding s) t.value T.value).exists in
      (RelPoly g, minimal s h))
      (λ absent. (Refused (NotEmbedded over t.field), no_subfield absent))
      (stored_or_not L over t.field)

  answer_of : (question : Question) → Fits L question → (answer : Answer) × Answers L question answer
  answer_of (FieldNamed name) h = let (x, a) = named_exists name in (x, field_named a)
  answer_of (FieldAt n) h = (known_field L n, field_number)
  answer_of (Map i j) h = let (x, a) = image_exists i j in (x, map a)
  answer_of (Lift t j) h = let (x, a) = lift_exists C h.0 in (x, lift a)
  answer_of (Common a b) h = let (x, c) = common_exists C {a = a} {b = b} in (x, common c)
  answer_of (Meet i j k) h = let (x, a) = meet_exists C i j k in (x, meets a)
  answer_of (Subfields k) h = let (numbers, a) = subfields_exist C k in (Numbers numbers, subfields a)
  answer_of (MinPoly t) h =
      let (g, a) = (prime_minimals (field_at L.rows t.field) (field_finite L C.rows t.field h.tag) t.value h.value).exists in
      (Poly (record { prime = (field_at L.rows t.field).characteristic; coefficients = g }), minimal_polynomial a)
  answer_of (MinPolyOver t over) h = let (x, a) = over_exists t over h.0 in (x, minimal_over a)
  answer_of Count h = (Counted (length L.rows) (map_count L), count)

-- **each question that fits has an answer**
pub question_has_answer : QuestionHasAnswer
question_has_answer L question C h = answer_of C question h
