-- Questions about a lattice, and their answers.
--     IsTaggedValue L t       t names a field of L, and is a value of it
--     Fits L question         the numbers of a question are those of fields, and its values theirs
--     AnswersNamed, AnswersMap, LiftsTo, HasCommon, HasMeet, IsSubfields, HasMinimalOver
--                             the answer to one kind of question each, by one constructor a case
--                             in the order in which they are decided
--     Answers L question answer     the answer to a question that fits
use Rattle.std.specs.Prelude.{◌≡◌, ◌↔◌, ℕ, ◌<◌, ◌≤◌, List, length, slice_index_or, AllPairs, Contains}
use Rattle.alg_model.specs.Maps.{field_values, degree_of, generator, apply, IsMeet}
use Rattle.alg_model.specs.Roots.{IsMinimal, IsMinimalOver}
use Rattle.alg_model.specs.Lattices.{Lattice, no_row, field_at, Stored}
use Rattle.lat_core.specs.declared.tagged.Tagged.{Tagged}
use Rattle.lat_core.specs.declared.questions.Question.{Question}
use Rattle.lat_core.specs.declared.questions.Question.TheVariants.{FieldNamed, FieldAt, Map, Lift, Common, Meet, Subfields, MinPoly, MinPolyOver, Count}
use Rattle.lat_core.specs.declared.questions.CoerceFault.TheVariants.{NotEmbedded, NotInImage, NoCommonField}
use Rattle.lat_core.specs.declared.questions.Answer.{Answer}
use Rattle.lat_core.specs.declared.questions.Answer.TheVariants.{Known, Unknown, Image, Lifted, Is, Numbers, Poly, RelPoly, Counted, Refused}
use Rattle.lat_core.specs.SharedRows.{map_count}
use Rattle.lat_core.specs.Step.{IsNamed, IsFreeName}

-- t is tagged with the number of a field, and is a value of that field
pub record IsTaggedValue (L : Lattice) (t : Tagged) : Type 0 where
  pub tag : t.field < length L.rows
  pub value : (field_values (field_at L.rows t.field)).Valid t.value

module _ (L : Lattice) where
  abbrev pub IsNumber : ℕ → Type 0
  IsNumber n = n < length L.rows

  abbrev pub Fits : Question → Type 0
  Fits (FieldNamed name) = Unit {0}
  Fits (FieldAt n) = IsNumber n
  Fits (Map i j) = IsNumber i × IsNumber j
  Fits (Lift t j) = IsTaggedValue L t × IsNumber j
  Fits (Common a b) = IsNumber a × IsNumber b
  Fits (Meet i j k) = IsNumber i × IsNumber j × IsNumber k
  Fits (Subfields k) = IsNumber k
  Fits (MinPoly t) = IsTaggedValue L t
  Fits (MinPolyOver t over) = IsTaggedValue L t × IsNumber over
  Fits Count = Unit {0}

  -- some map is stored for the pair
  abbrev pub IsStoredPair : ℕ → ℕ → Type 0
  IsStoredPair i j = (m : List (List ℕ)) × Stored L i j m

  -- field n, with its name
  abbrev pub known_field : ℕ → Answer
  known_field n =
      Known n (slice_index_or L.rows n no_row).name (slice_index_or L.rows n no_row).field

  pub data AnswersNamed (name : List ℕ) : Answer → Type 0 where
    named : {n : ℕ} → IsNamed L n name → AnswersNamed name (known_field n)
    unknown : IsFreeName L name → AnswersNamed name Unknown

  -- the image of i's generator
  pub data AnswersMap (i j : ℕ) : Answer → Type 0 where
    image : {m : List (List ℕ)} → Stored L i j m
        → AnswersMap i j (Image (apply (field_at L.rows j) m (generator (field_at L.rows i))))
    not_embedded : ¬ IsStoredPair i j → AnswersMap i j (Refused (NotEmbedded i j))

  -- w is a value of j that the map m of j into i sends to v
  pub record IsSentTo (j i : ℕ) (m : List (List ℕ)) (w v : List ℕ) : Type 0 where
    pub value : (field_values (field_at L.rows j)).Valid w
    pub image : apply (field_at L.rows i) m w ≡ v

  -- up along the map from t's field to j, else back along the map from j
  pub data LiftsTo (t : Tagged) (j : ℕ) : Answer → Type 0 where
    up : {m : List (List ℕ)} → Stored L t.field j m
        → LiftsTo t j (Lifted (record { field = j; value = apply (field_at L.rows j) m t.value }))
    down : {m : List (List ℕ)} {w : List ℕ} → ¬ IsStoredPair t.field j → Stored L j t.field m
        → IsSentTo j t.field m w t.value
        → LiftsTo t j (Lifted (record { field = j; value = w }))
    not_in_image : {m : List (List ℕ)} → ¬ IsStoredPair t.field j → Stored L j t.field m
        → ((w : List ℕ) → ¬ IsSentTo j t.field m w t.value)
        → LiftsTo t j (Refused NotInImage)
    not_embedded : ¬ IsStoredPair t.field j → ¬ IsStoredPair j t.field
        → LiftsTo t j (Refused (NotEmbedded t.field j))

  -- a and b have maps into g
  abbrev pub IsCommon : ℕ → ℕ → ℕ → Type 0
  IsCommon a b g = IsStoredPair a g × IsStoredPair b g

  -- and no such field has a lower degree
  pub record IsLowestCommon (a b g : ℕ) : Type 0 where
    pub common : IsCommon a b g
    pub lowest : (h : ℕ) → IsCommon a b h
        → degree_of (field_at L.rows g) ≤ degree_of (field_at L.rows h)

  -- of those of lowest degree a, else b, else the one of least number
  pub data HasCommon (a b : ℕ) : Answer → Type 0 where
    first : IsLowestCommon a b a → HasCommon a b (Is a)
    second : ¬ IsLowestCommon a b a → IsLowestCommon a b b → HasCommon a b (Is b)
    other : {g : ℕ} → ¬ IsLowestCommon a b a → ¬ IsLowestCommon a b b → IsLowestCommon a b g
        → ((h : ℕ) → IsLowestCommon a b h → g ≤ h) → HasCommon a b (Is g)
    none : ((g : ℕ) → ¬ IsCommon a b g) → HasCommon a b (Refused (NoCommonField a b))

  -- what a value of i and a value of j both have as their image in k comes from one value of l
  pub record MeetsIn (i j k l : ℕ) (a b : List (List ℕ)) : Type 0 where
    pub into_first : List (List ℕ)
    pub into_second : List (List ℕ)
    pub first_stored : Stored L l i into_first
    pub second_stored : Stored L l j into_second
    pub meets : IsMeet (field_at L.rows i) (field_at L.rows j) (field_at L.rows k)
        (field_at L.rows l) into_first into_second a b

  -- the first such l
  pub data HasMeet (i j k : ℕ) : Answer → Type 0 where
    first_not_embedded : ¬ IsStoredPair i k → HasMeet i j k (Refused (NotEmbedded i k))
    second_not_embedded : IsStoredPair i k → ¬ IsStoredPair j k
        → HasMeet i j k (Refused (NotEmbedded j k))
    meet : {l : ℕ} {a b : List (List ℕ)} → Stored L i k a → Stored L j k b → MeetsIn i j k l a b
        → ((m : ℕ) → MeetsIn i j k m a b → l ≤ m) → HasMeet i j k (Is l)

  -- the numbers of the stored subfields of k
  pub record IsSubfields (k : ℕ) (numbers : List ℕ) : Type 0 where
    pub rising : AllPairs (λ a b. a < b) numbers
    pub exactly : (i : ℕ) → Contains numbers i ↔ IsStoredPair i k

  -- over the named field, through its stored map
  pub data HasMinimalOver (t : Tagged) (over : ℕ) : Answer → Type 0 where
    minimal : {m g : List (List ℕ)} → Stored L over t.field m
        → IsMinimalOver (field_at L.rows over) (field_at L.rows t.field) m t.value g
        → HasMinimalOver t over (RelPoly g)
    not_embedded : ¬ IsStoredPair over t.field
        → HasMinimalOver t over (Refused (NotEmbedded over t.field))

  pub data Answers : Question → Answer → Type 0 where
    field_named : {name : List ℕ} {answer : Answer} → AnswersNamed name answer
        → Answers (FieldNamed name) answer
    field_number : {n : ℕ} → Answers (FieldAt n) (known_field n)
    map : {i j : ℕ} {answer : Answer} → AnswersMap i j answer → Answers (Map i j) answer
    lift : {t : Tagged} {j : ℕ} {answer : Answer} → LiftsTo t j answer → Answers (Lift t j) answer
    common : {a b : ℕ} {answer : Answer} → HasCommon a b answer → Answers (Common a b) answer
    meets : {i j k : ℕ} {answer : Answer} → HasMeet i j k answer → Answers (Meet i j k) answer
    subfields : {k : ℕ} {numbers : List ℕ} → IsSubfields k numbers
        → Answers (Subfields k) (Numbers numbers)
    minimal_polynomial : {t : Tagged} {g : List ℕ}
        → IsMinimal (field_at L.rows t.field) t.value g
        → Answers (MinPoly t)
        (Poly (record { prime = (field_at L.rows t.field).characteristic; coefficients = g }))
    minimal_over : {t : Tagged} {over : ℕ} {answer : Answer} → HasMinimalOver t over answer
        → Answers (MinPolyOver t over) answer
    count : Answers Count (Counted (length L.rows) (map_count L))
