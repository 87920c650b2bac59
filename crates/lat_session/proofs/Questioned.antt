-- What the answer to a question is.
use Rattle.std.proofs.Common.{◌≡◌, ℕ, List, refl, subst}
use Rattle.alg_model.specs.Maps.{Field}
use Rattle.alg_model.specs.Lattices.{Lattice, field_at}
use Rattle.lat_core.specs.declared.tagged.Tagged.{Tagged}
use Rattle.lat_core.specs.declared.questions.Question.TheVariants.{FieldNamed, FieldAt, Lift, Common, Subfields}
use Rattle.lat_core.specs.declared.questions.CoerceFault.{CoerceFault}
use Rattle.lat_core.specs.declared.questions.Answer.{Answer}
use Rattle.lat_core.specs.declared.questions.Answer.TheVariants.{Known, Unknown, Lifted, Is, Numbers, Refused}
use Rattle.lat_core.specs.Step.{IsNamed}
use Rattle.lat_core.specs.Answers.{known_field, LiftsTo, HasCommon, IsSubfields, Answers}
use Rattle.lat_core.specs.Answers.AnswersNamed.{named, unknown}
use Rattle.lat_core.specs.Answers.LiftsTo.{up, down, not_in_image, not_embedded}
use Rattle.lat_core.specs.Answers.HasCommon.{first, second, other, none}
use Rattle.lat_core.specs.Answers.Answers.{field_named, field_number, lift, common, subfields}
use Rattle.lat_session.specs.Outcomes.{IsFieldWord, name_at}

-- the field of a number, with its name
pub at_number : {L : Lattice} {n : ℕ} {answer : Answer} → Answers L (FieldAt n) answer
    → answer ≡ known_field L n
at_number field_number = refl

pub name_is : {L : Lattice} {n number : ℕ} {answer : Answer} {called : List ℕ} {field : Field}
    → Answers L (FieldAt n) answer → answer ≡ Known number called field → called ≡ name_at L n
name_is {L} {n} {number} {answer} {called} {field} a e =
    let is : answer ≡ known_field L n = at_number a in cc

pub field_is : {L : Lattice} {n number : ℕ} {answer : Answer} {called : List ℕ} {field : Field}
    → Answers L (FieldAt n) answer → answer ≡ Known number called field → field ≡ field_at L.rows n
field_is {L} {n} {number} {answer} {called} {field} a e =
    let is : answer ≡ known_field L n = at_number a in cc

-- ---- the field of a name
pub named_known : {L : Lattice} {name : List ℕ} {answer : Answer} {n : ℕ} {called : List ℕ}
    {field : Field} → Answers L (FieldNamed name) answer → answer ≡ Known n called field
    → IsNamed L n name
named_known {L} {name} {n = n} (field_named (named {n = m} h)) e =
    let same : m ≡ n = cc in subst (λ k. IsNamed L k name) same h
named_known (field_named (unknown free)) e = cc

pub not_named : {L : Lattice} {name : List ℕ} {answer : Answer} → Answers L (FieldNamed name) answer
    → answer ≡ Unknown → ¬ IsFieldWord L name
not_named (field_named (named h)) e w = cc
not_named (field_named (unknown free)) e (n, h) = free n h

pub named_or_not : {L : Lattice} {name : List ℕ} {answer : Answer}
    → Answers L (FieldNamed name) answer
    → ((n : ℕ) (called : List ℕ) (field : Field) → answer ≡ Known n called field → ⊥)
    → (answer ≡ Unknown → ⊥) → ⊥
named_or_not (field_named (named h)) k u = k _ _ _ refl
named_or_not (field_named (unknown free)) k u = u refl

-- ---- a value in another field
pub lifts : {L : Lattice} {t : Tagged} {j : ℕ} {answer : Answer} → Answers L (Lift t j) answer
    → LiftsTo L t j answer
lifts (lift a) = a

pub lifts_or_not : {L : Lattice} {t : Tagged} {j : ℕ} {answer : Answer} → Answers L (Lift t j) answer
    → ((u : Tagged) → answer ≡ Lifted u → ⊥)
    → ((fault : CoerceFault) → answer ≡ Refused fault → ⊥) → ⊥
lifts_or_not (lift (up s)) k u = k _ refl
lifts_or_not (lift (down n s h)) k u = k _ refl
lifts_or_not (lift (not_in_image n s h)) k u = u _ refl
lifts_or_not (lift (not_embedded n h)) k u = u _ refl

-- ---- the common field
pub is_common : {L : Lattice} {a b : ℕ} {answer : Answer} → Answers L (Common a b) answer
    → HasCommon L a b answer
is_common (common h) = h

pub common_or_not : {L : Lattice} {a b : ℕ} {answer : Answer} → Answers L (Common a b) answer
    → ((n : ℕ) → answer ≡ Is n → ⊥) → ((fault : CoerceFault) → answer ≡ Refused fault → ⊥) → ⊥
common_or_not (common (first h)) k u = k _ refl
common_or_not (common (second n h)) k u = k _ refl
common_or_not (common (other n m h l)) k u = k _ refl
common_or_not (common (none n)) k u = u _ refl

-- ---- the stored subfields
pub are_subfields : {L : Lattice} {k : ℕ} {answer : Answer} {numbers : List ℕ}
    → Answers L (Subfields k) answer → answer ≡ Numbers numbers → IsSubfields L k numbers
are_subfields {L} {k} {numbers = numbers} (subfields {numbers = ns} h) e =
    let same : ns ≡ numbers = cc in subst (IsSubfields L k) same h

pub subfields_or_not : {L : Lattice} {k : ℕ} {answer : Answer} → Answers L (Subfields k) answer
    → ((numbers : List ℕ) → answer ≡ Numbers numbers → ⊥) → ⊥
subfields_or_not (subfields h) k = k _ refl
