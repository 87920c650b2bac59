-- A question that fits a compatible lattice has one answer.
use Rattle.std.proofs.Common.{◌≡◌, ◌⊎◌, ℕ, ◌≤◌, List, length, refl, sym, ap, ◌∙◌, ⊎_elim, subst, arith}
use Rattle.alg_model.specs.Maps.{generator, apply}
use Rattle.alg_model.specs.Roots.{IsMinimalOver}
use Rattle.alg_model.specs.Lattices.{Lattice, field_at, Stored, IsCompatible}
use Rattle.alg_galois.proofs.FieldMinimals.{prime_minimals, subfield_minimals}
use Rattle.alg_lattices.proofs.RisingLists.{rising_one}
use Rattle.alg_compatible.proofs.Transfer.{field_finite, stored_one}
use Rattle.lat_core.specs.declared.tagged.Tagged.{Tagged}
use Rattle.lat_core.specs.declared.questions.Question.{Question}
use Rattle.lat_core.specs.declared.questions.Answer.{Answer}
use Rattle.lat_core.specs.declared.questions.Answer.TheVariants.{Image, Is, Numbers, Poly, RelPoly}
use Rattle.lat_core.specs.Answers.{IsTaggedValue, Fits, known_field, AnswersNamed, AnswersMap, IsLowestCommon, HasCommon, MeetsIn, HasMeet, IsSubfields, HasMinimalOver, Answers}
use Rattle.lat_core.specs.Answers.AnswersNamed.{named, unknown}
use Rattle.lat_core.specs.Answers.AnswersMap.{image, not_embedded as no_image}
use Rattle.lat_core.specs.Answers.HasCommon.{first, second, other, none}
use Rattle.lat_core.specs.Answers.HasMeet.{first_not_embedded, second_not_embedded, meet}
use Rattle.lat_core.specs.Answers.HasMinimalOver.{minimal, not_embedded as no_subfield}
use Rattle.lat_core.specs.Answers.Answers.{field_named, field_number, map, lift, common, meets, subfields, minimal_polynomial, minimal_over, count}
use Rattle.lat_core.proofs.StepDetermined.{named_one}
use Rattle.lat_coerce.specs.Theorems.{QuestionHasOneAnswer}
use Rattle.lat_coerce.proofs.LiftedValues.{lift_one}

-- two numbers that are each at most the other
least_one : {m n : ℕ} → m ≤ n → n ≤ m → m ≡ n
least_one h k = omega arith

module _ {L : Lattice} (C : IsCompatible L) where
  names_one : {name : List ℕ} {x y : Answer} → AnswersNamed L name x → AnswersNamed L name y → x ≡ y
  names_one (named h) (named k) = ap (known_field L) (named_one C.rows h k)
  names_one (named {n = n} h) (unknown free) = absurd (free n h)
  names_one (unknown free) (named {n = n} k) = absurd (free n k)
  names_one (unknown free) (unknown also) = refl

  image_one : {i j : ℕ} {x y : Answer} → AnswersMap L i j x → AnswersMap L i j y → x ≡ y
  image_one {i} {j} (image s) (image r) =
      ap (λ m. Image (apply (field_at L.rows j) m (generator (field_at L.rows i)))) (stored_one s r)
  image_one (image {m = m} s) (no_image absent) = absurd (absent (m, s))
  image_one (no_image absent) (image {m = m} s) = absurd (absent (m, s))
  image_one (no_image absent) (no_image nor) = refl

  common_one : {a b : ℕ} {x y : Answer} → HasCommon L a b x → HasCommon L a b y → x ≡ y
  common_one (first h) (first k) = refl
  common_one (first h) (second absent k) = absurd (absent h)
  common_one (first h) (other absent nor k l) = absurd (absent h)
  common_one {a} (first h) (none absent) = absurd (absent a h.common)
  common_one (second absent h) (first k) = absurd (absent k)
  common_one (second absent h) (second nor k) = refl
  common_one (second absent h) (other n nor k l) = absurd (nor h)
  common_one {b = b} (second n h) (none absent) = absurd (absent b h.common)
  common_one (other absent nor h l) (first k) = absurd (absent k)
  common_one (other absent nor h l) (second n k) = absurd (nor k)
  common_one (other {g = g} absent nor h l) (other {g = f} n m k j) = ap Is (least_one (l f k) (j g h))
  common_one (other {g = g} absent nor h l) (none n) = absurd (n g h.common)
  common_one {a} (none absent) (first k) = absurd (absent a k.common)
  common_one {b = b} (none absent) (second n k) = absurd (absent b k.common)
  common_one (none absent) (other {g = g} n nor k l) = absurd (absent g k.common)
  common_one (none absent) (none nor) = refl

  meet_one : {i j k : ℕ} {x y : Answer} → HasMeet L i j k x → HasMeet L i j k y → x ≡ y
  meet_one (first_not_embedded absent) (first_not_embedded nor) = refl
  meet_one (first_not_embedded absent) (second_not_embedded s nor) = absurd (absent s)
  meet_one (first_not_embedded absent) (meet {a = a} A B h l) = absurd (absent (a, A))
  meet_one (second_not_embedded s absent) (first_not_embedded nor) = absurd (nor s)
  meet_one (second_not_embedded s absent) (second_not_embedded r nor) = refl
  meet_one (second_not_embedded s absent) (meet {b = b} A B h l) = absurd (absent (b, B))
  meet_one (meet {a = a} A B h l) (first_not_embedded absent) = absurd (absent (a, A))
  meet_one (meet {b = b} A B h l) (second_not_embedded s absent) = absurd (absent (b, B))
  meet_one {i} {j} {k} (meet {l = m} {a = a} {b = b} A B h l) (meet {l = n} {a = c} {b = d} E F g f) =
      let there = subst (λ z. MeetsIn L i j k n a z) (stored_one F B) (subst (λ z. MeetsIn L i j k n z d) (stored_one E A) g) in
      let here = subst (λ z. MeetsIn L i j k m c z) (stored_one B F) (subst (λ z. MeetsIn L i j k m z b) (stored_one A E) h) in
      ap Is (least_one (l n there) (f m here))

  subfields_one : {k : ℕ} {xs ys : List ℕ} → IsSubfields L k xs → IsSubfields L k ys → xs ≡ ys
  subfields_one {k} {xs} {ys} h g = rising_one xs ys h.rising g.rising
      (λ i. (λ c. (g.exactly i).1 ((h.exactly i).0 c), λ c. (h.exactly i).1 ((g.exactly i).0 c)))

  over_one : {t : Tagged} {over : ℕ} {x y : Answer} → IsTaggedValue L t → HasMinimalOver L t over x
      → HasMinimalOver L t over y → x ≡ y
  over_one {t} {over} T (minimal {m = m} {g = f} s h) (minimal {m = n} {g = g} r k) =
      let same = subst (λ z. IsMinimalOver (field_at L.rows over) (field_at L.rows t.field) z t.value g) (stored_one r s) k in
      ap RelPoly ((subfield_minimals (field_at L.rows over) (field_at L.rows t.field)
      (field_finite L C.rows over (C.compatible.within s).0) (field_finite L C.rows t.field T.tag) m
      (C.compatible.embedding s) t.value T.value).unique f g h same)
  over_one T (minimal {m = m} s h) (no_subfield absent) = absurd (absent (m, s))
  over_one T (no_subfield absent) (minimal {m = m} s h) = absurd (absent (m, s))
  over_one T (no_subfield absent) (no_subfield nor) = refl

  answer_one : (question : Question) {x y : Answer} → Fits L question → Answers L question x
      → Answers L question y → x ≡ y
  answer_one question fits (field_named h) (field_named k) = names_one h k
  answer_one question fits field_number field_number = refl
  answer_one question fits (map h) (map k) = image_one h k
  answer_one question fits (lift h) (lift k) = lift_one C h k
  answer_one question fits (common h) (common k) = common_one h k
  answer_one question fits (meets h) (meets k) = meet_one h k
  answer_one question fits (subfields h) (subfields k) = ap Numbers (subfields_one h k)
  answer_one question fits (minimal_polynomial {t = t} {g = f} h) (minimal_polynomial {g = g} k) =
      ap (λ z. Poly (record { prime = (field_at L.rows t.field).characteristic; coefficients = z }))
      ((prime_minimals (field_at L.rows t.field) (field_finite L C.rows t.field fits.tag) t.value fits.value).unique f g h k)
  answer_one question fits (minimal_over h) (minimal_over k) = over_one fits.0 h k
  answer_one question fits count count = refl

-- **a question that fits has one answer**
pub question_has_one_answer : QuestionHasOneAnswer
question_has_one_answer L question answer also C fits h k = answer_one C question fits h k
