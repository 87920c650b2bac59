-- What a request to embed a field is answered, from what a program finds.
use Rattle.std.proofs.Common.{◌≡◌, ◌≢◌, ℕ, ◌+◌, ◌-◌, ◌%◌, ◌<◌, ◌≤◌, List, [], length, sym, ap, ap₂, ◌∙◌, subst, arith, Option, Some, None, Bool, true, false, ◌↔◌, Result, Ok, Err}
use Rattle.std.specs.Prelude.{IsTrue}
use Rattle.std.specs.Result.{IfOk, OnErr}
use Rattle.std.specs.FinMap.{get, len}
use Rattle.std.proofs.lemmas.Nat.Gcd.{dvd_of_mod-eq-zero, mod-eq-zero_of_dvd}
use Rattle.alg_model.specs.Maps.{degree_of, generator, apply}
use Rattle.alg_model.specs.Lattices.{Lattice, field_at, Stored, IsCompatible}
use Rattle.alg_model.specs.Candidates.{IsSent, IsCandidate, IsChoice, AreMissing}
use Rattle.alg_compatible.specs.Theorems.{AreFields}
use Rattle.alg_compatible.proofs.Laws.{filling_exists_law, missing_one_law}
use Rattle.alg_choices.specs.Fitting.{AreGiven}
use Rattle.alg_choices.proofs.Laws.{stored_law, only_law}
use Rattle.ff_embed.specs.SmallEmbeddings.{FieldMap}
use Rattle.lat_core.specs.SharedRows.{IsBetween}
use Rattle.lat_core.specs.declared.tagged.Sending.{Sending}
use Rattle.lat_core.specs.declared.replies.StepRefusal.TheVariants.{DifferentCharacteristic, DegreeDoesNotDivide, WrongField, NoCompatibleRoot, TooManyFields}
use Rattle.lat_core.specs.declared.replies.Reply.TheVariants.{Embedded, Refused}
use Rattle.lat_core.specs.Step.{IsWrongTag, ArePrescribed, prescribed_values, AreEmbeddable, EmbedsField}
use Rattle.lat_insert.specs.PrivateEmbedding.{AddsMaps, IsMissingCount, FillsBy}
use Rattle.lat_insert.proofs.Insertions.{filled_more, stored_fills, stored_misses_none}

-- three facts of what a call gives are three of the same
pub if_all_three : {T X : Type 0} {P Q R S : T → Type 0} (r : Result T X)
    → ((t : T) → P t → Q t → R t → S t) → IfOk r P → IfOk r Q → IfOk r R → IfOk r S
if_all_three (Ok t) f p q s = f t p q s
if_all_three (Err e) f p q s = tt

-- what holds of an error, and so something else
pub on_err_weaker : {T X P Q : Type 0} (r : Result T X) → (P → Q) → OnErr r P → OnErr r Q
on_err_weaker (Ok x) f p = tt
on_err_weaker (Err e) f p = f p

-- room for as many fields as degrees are missing
pub room_for : {L : Lattice} {E F n : ℕ} → IsMissingCount L E F n → length L.rows + n ≤ L.edition.room
    → (degrees : List ℕ) → AreMissing L E F degrees → length L.rows + length degrees ≤ L.edition.room
room_for {L} {E} {F} (others, missing, count) room degrees also =
    let same : others ≡ degrees = missing_one_law L E F others degrees missing also in
    omega (arith, room, count, ap length same)

-- ---- what speaks against an embedding
module _ {L : Lattice} {E F : ℕ} {sending : Option Sending} {p q : ℕ}
    (e : p ≡ (field_at L.rows E).characteristic) (d : q ≡ (field_at L.rows F).characteristic) where
  -- two characteristics
  pub apart_reply : p ≢ q → EmbedsField L E F sending (Refused (DifferentCharacteristic p q)) L
  apart_reply apart =
      subst (λ a. EmbedsField L E F sending (Refused (DifferentCharacteristic a q)) L) (sym e)
      (subst (λ b. EmbedsField L E F sending (Refused (DifferentCharacteristic (field_at L.rows E).characteristic b)) L) (sym d)
      (EmbedsField.different_characteristic (λ same. apart (e ∙ same ∙ sym d))))

  module _ (same : p ≡ q) {m n : ℕ} (g : m ≡ degree_of (field_at L.rows E))
      (h : n ≡ degree_of (field_at L.rows F)) where
    -- a degree that doesn't divide
    pub degree_reply : n % m ≢ 0 → EmbedsField L E F sending (Refused (DegreeDoesNotDivide m n)) L
    degree_reply apart =
        subst (λ a. EmbedsField L E F sending (Refused (DegreeDoesNotDivide a n)) L) (sym g)
        (subst (λ b. EmbedsField L E F sending (Refused (DegreeDoesNotDivide (degree_of (field_at L.rows E)) b)) L) (sym h)
        (EmbedsField.degree_does_not_divide (sym e ∙ same ∙ d)
        (λ k. apart (ap₂ ◌%◌ h g ∙ mod-eq-zero_of_dvd (degree_of (field_at L.rows E)) k))))

    -- a prescribed value that is none of its field
    pub tag_reply : n % m ≡ 0 → {s : Sending} {number : ℕ} → sending ≡ Some s → IsWrongTag L E F s number
        → EmbedsField L E F sending (Refused (WrongField number)) L
    tag_reply zero_left is w = EmbedsField.wrong_field (sym e ∙ same ∙ d)
        (dvd_of_mod-eq-zero (degree_of (field_at L.rows E)) (sym (ap₂ ◌%◌ h g) ∙ zero_left)) is w

-- ---- a pair that is stored, and one that isn't
module _ {L : Lattice} {E F : ℕ} (C : IsCompatible L) (A : AreFields L E F)
    {sending : Option Sending} (fit : AreEmbeddable L E F sending) where
  -- where a map is stored that sends what is prescribed, nothing is to be added
  pub sent_reply : {m : List (List ℕ)} → Stored L E F m
      → IsSent (field_at L.rows F) m (prescribed_values sending)
      → EmbedsField L E F sending
      (Embedded (apply (field_at L.rows F) m (generator (field_at L.rows E))) 0 0) L
  sent_reply {m} s h =
      EmbedsField.embedded {degrees = []} fit (stored_misses_none C A s) (let r = C.rows.room in omega (arith, r))
      (stored_law L E F (prescribed_values sending) m C A s h) (stored_fills C A s) (omega arith)

  -- where one is stored that doesn't, there is no candidate
  pub unsent_reply : {m : List (List ℕ)} → Stored L E F m
      → ¬ IsSent (field_at L.rows F) m (prescribed_values sending)
      → EmbedsField L E F sending (Refused NoCompatibleRoot) L
  unsent_reply {m} s fails =
      EmbedsField.no_candidate {degrees = []} fit (stored_misses_none C A s) (let r = C.rows.room in omega (arith, r))
      (λ v c. fails (only_law L E F (prescribed_values sending) m v C A s c))

  -- where none is stored, the choice adds maps
  pub adds_maps : {degrees v : List ℕ} → get L.maps (E, F) ≡ None → AreMissing L E F degrees
      → length L.rows + length degrees ≤ L.edition.room → IsChoice L E F (prescribed_values sending) v
      → AddsMaps L E F sending
  adds_maps {degrees} {v} new missing room choice =
      let (M, D) = filling_exists_law L E F (prescribed_values sending) v C A choice.candidate in
      let more : len L.maps < len M.maps = filled_more C A choice.candidate D new in (
        Embedded v (length degrees) (len M.maps - len L.maps),
        M,
        EmbedsField.embedded fit missing room choice D (omega (arith, more)),
        omega (arith, more),
      )

  -- the same of a map that is found, which sends what is prescribed or not
  module _ {e : FieldMap} (s : Stored L E F e.images × IsBetween L.rows E F e) (b : Bool)
      (t : IsTrue b ↔ IsSent e.target e.images (prescribed_values sending)) where
    pub stored_sent : b ≡ true → {v : List ℕ} → v ≡ apply e.target e.images (generator e.source)
        → EmbedsField L E F sending (Embedded v 0 0) L
    stored_sent found {v} is =
        subst (λ w. EmbedsField L E F sending (Embedded w 0 0) L) (sym (is ∙ ap₂ (λ K I. apply K e.images (generator I)) s.1.target s.1.source))
        (sent_reply s.0 (subst (λ K. IsSent K e.images (prescribed_values sending)) s.1.target (t.0 found)))

    pub stored_unsent : b ≡ false → EmbedsField L E F sending (Refused NoCompatibleRoot) L
    stored_unsent missed = unsent_reply s.0 (λ h.
        let found : b ≡ true = t.1 (subst (λ K. IsSent K e.images (prescribed_values sending)) (sym s.1.target) h) in cc)

  -- what is prescribed is a value of each field
  pub given : AreGiven L E F (prescribed_values sending)
  given = pair sending fit.prescribed
    where
      pair : (s : Option Sending) → ArePrescribed L E F s → AreGiven L E F (prescribed_values s)
      pair None h = tt
      pair (Some s) h = (h.0.value, h.1.value)

  -- too little room, no candidate, and the choice by which the lattice is filled
  module _ {n : ℕ} (missing : IsMissingCount L E F n) where
    pub full_reply : {have : ℕ} → have ≡ length L.rows → L.edition.room < length L.rows + n
        → EmbedsField L E F sending (Refused (TooManyFields have n)) L
    full_reply is over =
        let (degrees, m, count) = missing in
        subst (λ h. EmbedsField L E F sending (Refused (TooManyFields h n)) L) (sym is)
        (subst (λ k. EmbedsField L E F sending (Refused (TooManyFields (length L.rows) k)) L) count
        (EmbedsField.full fit m (omega (arith, over, count))))

    pub none_reply : length L.rows + n ≤ L.edition.room
        → ((v : List ℕ) → ¬ IsCandidate L E F (prescribed_values sending) v)
        → EmbedsField L E F sending (Refused NoCompatibleRoot) L
    none_reply room none =
        let (degrees, m, count) = missing in EmbedsField.no_candidate fit m (omega (arith, room, count)) none

    pub choice_adds : length L.rows + n ≤ L.edition.room → get L.maps (E, F) ≡ None → {v : List ℕ}
        → IsChoice L E F (prescribed_values sending) v → AddsMaps L E F sending
    choice_adds room new choice =
        let (degrees, m, count) = missing in adds_maps new m (omega (arith, room, count)) choice

    pub choice_reply : length L.rows + n ≤ L.edition.room → {v : List ℕ} {M : Lattice} {made linked : ℕ}
        → IsChoice L E F (prescribed_values sending) v → FillsBy L E F v M made linked
        → EmbedsField L E F sending (Embedded v made linked) M
    choice_reply room {v} {M} {made} {linked} choice D =
        let (degrees, m, count) = missing in
        let (others, k, made_count) = D.made_count in
        let one : others ≡ degrees = missing_one_law L E F others degrees k m in
        subst (λ x. EmbedsField L E F sending (Embedded v x linked) M) (ap length (sym one) ∙ made_count)
        (EmbedsField.embedded fit m (omega (arith, room, count)) choice D.filled D.linked_count)
