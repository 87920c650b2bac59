-- Lifts: what they are in terms of an embedding, that they have one answer, that they lead back, and
-- that their answers stay.
use Rattle.std.proofs.Common.{◌≡◌, ◌≢◌, ◌↔◌, ◌⊎◌, ℕ, ◌^◌, ◌<◌, ◌≤◌, List, length, refl, sym, ap, ◌∙◌, inl, inr, ⊎_elim, subst, arith, None}
use Rattle.std.specs.FinMap.{get}
use Rattle.std.proofs.lemmas.Bool.{cases_eq}
use Rattle.alg_model.specs.Coefficients.{power}
use Rattle.alg_model.specs.Maps.{Field, IsFiniteField, field_values, degree_of, apply, comp, identity_map, IsEmbedding}
use Rattle.alg_model.specs.Lattices.{Lattice, field_at, Stored, Grows, IsCompatible}
use Rattle.alg_rings.proofs.Decisions.{lists_equal_or_not}
use Rattle.alg_galois.proofs.Embeddings.{apply_valid, apply_comp, apply_identity, embedding_injective}
use Rattle.alg_galois.proofs.Meets.{subfield_is_fixed}
use Rattle.alg_compatible.proofs.Transfer.{stored_one}
use Rattle.alg_compatible.proofs.Additions.{to_grows}
use Rattle.ff_embed.specs.SmallEmbeddings.{FieldMap, IsInImage}
use Rattle.lat_core.specs.declared.tagged.Tagged.{Tagged}
use Rattle.lat_core.specs.declared.questions.CoerceFault.TheVariants.{NotEmbedded, NotInImage}
use Rattle.lat_core.specs.declared.questions.Answer.{Answer}
use Rattle.lat_core.specs.declared.questions.Answer.TheVariants.{Lifted, Refused}
use Rattle.lat_core.specs.SharedRows.{IsBetween}
use Rattle.lat_core.specs.Answers.{IsTaggedValue, IsStoredPair, IsSentTo, LiftsTo}
use Rattle.lat_core.specs.Answers.LiftsTo.{up, down, not_in_image, not_embedded}
use Rattle.lat_coerce.specs.Theorems.{LiftGivesValue, LiftLeadsBack, AnsweredLiftStays}
use Rattle.lat_coerce.proofs.StoredPairs.{missing_pair, stored_or_not, source_finite, target_finite, target_within, degree_rises}

abbrev pub tagged : ℕ → List ℕ → Tagged
tagged j w = record { field = j; value = w }

-- ---- by an embedding between the fields of two numbers
module _ (L : Lattice) (i j : ℕ) (e : FieldMap) (between : IsBetween L.rows i j e) where
  -- a value of the one field is one of the source
  pub value_of_source : (w : List ℕ) → (field_values (field_at L.rows i)).Valid w
      → (field_values e.source).Valid w
  value_of_source w = subst (λ K. (field_values K).Valid w) (sym between.source)

  -- what it sends to v, and that it sends nothing there
  pub sent : (w v : List ℕ) → (field_values e.source).Valid w → apply e.target e.images w ≡ v
      → IsSentTo L i j e.images w v
  sent w v valid h = record {
    value = subst (λ K. (field_values K).Valid w) between.source valid;
    image = ap (λ K. apply K e.images w) (sym between.target) ∙ h;
  }

  pub none_sent : (v : List ℕ) → ¬ IsInImage e v → (w : List ℕ) → ¬ IsSentTo L i j e.images w v
  none_sent v outside w s = outside (w, value_of_source w s.value, ap (λ K. apply K e.images w) between.target ∙ s.image)

-- ---- what the calls tell of a lift
module _ (L : Lattice) (t : Tagged) (j : ℕ) where
  pub lifted_up : (e : FieldMap) (v : List ℕ)
      → Stored L t.field j e.images × IsBetween L.rows t.field j e
      → v ≡ apply e.target e.images t.value → LiftsTo L t j (Lifted (tagged j v))
  lifted_up e v (s, between) h = subst (λ w. LiftsTo L t j (Lifted (tagged j w)))
      (sym (h ∙ ap (λ K. apply K e.images t.value) between.target)) (up s)

  pub lifted_down : (e : FieldMap) (w : List ℕ) → get L.maps (t.field, j) ≡ None
      → Stored L j t.field e.images × IsBetween L.rows j t.field e
      → (field_values e.source).Valid w → apply e.target e.images w ≡ t.value
      → LiftsTo L t j (Lifted (tagged j w))
  lifted_down e w absent (s, between) valid h =
      down (missing_pair L t.field j absent) s (sent L j t.field e between w t.value valid h)

  pub lifts_outside : (e : FieldMap) → get L.maps (t.field, j) ≡ None
      → Stored L j t.field e.images × IsBetween L.rows j t.field e
      → ¬ IsInImage e t.value → LiftsTo L t j (Refused NotInImage)
  lifts_outside e absent (s, between) outside =
      not_in_image (missing_pair L t.field j absent) s (none_sent L j t.field e between t.value outside)

  pub lifts_nowhere : get L.maps (t.field, j) ≡ None → get L.maps (j, t.field) ≡ None
      → LiftsTo L t j (Refused (NotEmbedded t.field j))
  lifts_nowhere absent none = not_embedded (missing_pair L t.field j absent) (missing_pair L j t.field none)

module _ {L : Lattice} (C : IsCompatible L) where
  -- ---- what is sent to a value
  -- only one value is
  sent_one : {i j : ℕ} {m : List (List ℕ)} {w u v : List ℕ} → Stored L j i m
      → IsSentTo L j i m w v → IsSentTo L j i m u v → w ≡ u
  sent_one {i} {j} {m} {w} {u} s a b = embedding_injective (field_at L.rows j) (field_at L.rows i)
      (source_finite C s) (target_finite C s) m (C.compatible.embedding s) w u a.value b.value (a.image ∙ sym b.image)

  -- and it can be told whether one is
  sent_or_not : {i j : ℕ} {m : List (List ℕ)} {v : List ℕ} → Stored L j i m
      → (field_values (field_at L.rows i)).Valid v
      → ((w : List ℕ) × IsSentTo L j i m w v) ⊎ ((w : List ℕ) → ¬ IsSentTo L j i m w v)
  sent_or_not {i} {j} {m} {v} s valid = ⊎_elim
      (λ e. let (w, value, image) = fixed.0 e in inl (w, record { value = value; image = image }))
      (λ apart. inr (λ w h. apart (fixed.1 (w, h.value, h.image))))
      (lists_equal_or_not cases_eq _ _)
    where
      fixed : (power (field_values (field_at L.rows i)).ops v ((field_at L.rows i).characteristic ^ degree_of (field_at L.rows j)) ≡ v)
          ↔ ((w : List ℕ) × (field_values (field_at L.rows j)).Valid w × (apply (field_at L.rows i) m w ≡ v))
      fixed = subfield_is_fixed (field_at L.rows j) (field_at L.rows i) (source_finite C s) (target_finite C s)
          m (C.compatible.embedding s) v valid

  -- ---- one answer
  pub lift_exists : {t : Tagged} {j : ℕ} → IsTaggedValue L t → (answer : Answer) × LiftsTo L t j answer
  lift_exists {t} {j} T = ⊎_elim
      (λ (m, s). (Lifted (tagged j (apply (field_at L.rows j) m t.value)), up s))
      (λ absent. ⊎_elim
      (λ (m, s). ⊎_elim
      (λ (w, h). (Lifted (tagged j w), down absent s h))
      (λ none. (Refused NotInImage, not_in_image absent s none))
      (sent_or_not s T.value))
      (λ nor. (Refused (NotEmbedded t.field j), not_embedded absent nor))
      (stored_or_not L j t.field))
      (stored_or_not L t.field j)

  pub lift_one : {t : Tagged} {j : ℕ} {x y : Answer} → LiftsTo L t j x → LiftsTo L t j y → x ≡ y
  lift_one {t} {j} (up {m = m} s) (up {m = n} r) =
      ap (λ k. Lifted (tagged j (apply (field_at L.rows j) k t.value))) (stored_one s r)
  lift_one (up {m = m} s) (down absent r h) = absurd (absent (m, s))
  lift_one (up {m = m} s) (not_in_image absent r h) = absurd (absent (m, s))
  lift_one (up {m = m} s) (not_embedded absent nor) = absurd (absent (m, s))
  lift_one (down absent s h) (up {m = m} r) = absurd (absent (m, r))
  lift_one {t} {j} (down {m = m} {w = w} absent s h) (down {m = n} {w = u} nor r k) =
      ap (λ v. Lifted (tagged j v)) (sent_one r (subst (λ x. IsSentTo L j t.field x w t.value) (stored_one s r) h) k)
  lift_one {t} {j} (down {w = w} absent s h) (not_in_image nor r none) =
      absurd (none w (subst (λ x. IsSentTo L j t.field x w t.value) (stored_one s r) h))
  lift_one (down {m = m} absent s h) (not_embedded nor none) = absurd (none (m, s))
  lift_one (not_in_image absent s h) (up {m = m} r) = absurd (absent (m, r))
  lift_one {t} {j} (not_in_image absent s none) (down {w = w} nor r k) =
      absurd (none w (subst (λ x. IsSentTo L j t.field x w t.value) (stored_one r s) k))
  lift_one (not_in_image absent s h) (not_in_image nor r k) = refl
  lift_one (not_in_image {m = m} absent s h) (not_embedded nor none) = absurd (none (m, s))
  lift_one (not_embedded absent nor) (up {m = m} r) = absurd (absent (m, r))
  lift_one (not_embedded absent nor) (down {m = m} none r k) = absurd (nor (m, r))
  lift_one (not_embedded absent nor) (not_in_image {m = m} none r k) = absurd (nor (m, r))
  lift_one (not_embedded absent nor) (not_embedded none nothing) = refl

  -- ---- there and back
  gives_value : {t s : Tagged} {j : ℕ} → IsTaggedValue L t → LiftsTo L t j (Lifted s)
      → (s.field ≡ j) × IsTaggedValue L s
  gives_value {t} {j = j} T (up {m = m} r) = (
    refl,
    record {
      tag = (C.compatible.within r).1;
      value = apply_valid (field_at L.rows t.field) (field_at L.rows j) (source_finite C r) (target_finite C r) m
          (C.compatible.embedding r) t.value T.value;
    },
  )
  gives_value T (down absent r h) = (refl, record { tag = (C.compatible.within r).0; value = h.value })

  -- along a map and along the map back
  around : {i j : ℕ} {m n : List (List ℕ)} {v : List ℕ} → Stored L i j m → Stored L j i n
      → (field_values (field_at L.rows i)).Valid v
      → apply (field_at L.rows i) n (apply (field_at L.rows j) m v) ≡ v
  around {i} {j} {m} {n} {v} r b valid =
      sym (apply_comp (field_at L.rows i) (field_at L.rows j) (field_at L.rows i) (source_finite C r) (target_finite C r)
      (source_finite C r) m n (C.compatible.embedding r) (C.compatible.embedding b) v valid)
      ∙ ap (λ k. apply (field_at L.rows i) k v)
      (stored_one (C.compatible.transitive r b) (C.compatible.identity i (C.compatible.within r).0))
      ∙ apply_identity (field_at L.rows i) (source_finite C r) v valid

  goes_back : {t s : Tagged} {j : ℕ} → IsTaggedValue L t → LiftsTo L t j (Lifted s)
      → LiftsTo L s t.field (Lifted t)
  goes_back {t} {j = j} T (up {m = m} r) = ⊎_elim
      (λ (n, b). subst (λ v. LiftsTo L (tagged j (apply (field_at L.rows j) m t.value)) t.field (Lifted (tagged t.field v)))
      (around r b T.value) (up b))
      (λ absent. down absent r (record { value = T.value; image = refl }))
      (stored_or_not L j t.field)
  goes_back {t} {j = j} T (down {w = w} absent r h) =
      subst (λ v. LiftsTo L (tagged j w) t.field (Lifted (tagged t.field v))) h.image (up r)

-- ---- in a lattice that has grown
module _ {L M : Lattice} (C : IsCompatible L) (D : IsCompatible M) (G : Grows L M) where
  field_stays : {i : ℕ} → i < length L.rows → field_at M.rows i ≡ field_at L.rows i
  field_stays {i} h = (to_grows G).rows i h

  -- where one map alone is stored, the map back can't be added, since the degrees differ
  none_added : {i j : ℕ} {m : List (List ℕ)} → ¬ IsStoredPair L i j → Stored L j i m
      → ¬ IsStoredPair M i j
  none_added {i} {j} {m} absent s p =
      let (n, back, there, again) = C.compatible.inverse s equal in absent (n, back)
    where
      equal : degree_of (field_at L.rows j) ≡ degree_of (field_at L.rows i)
      equal = omega (
        arith,
        degree_rises D p,
        degree_rises D (m, G.maps s),
        ap degree_of (field_stays (C.compatible.within s).0),
        ap degree_of (field_stays (C.compatible.within s).1),
      )

  lift_stays : {t : Tagged} {j : ℕ} {x : Answer} → LiftsTo L t j x
      → x ≢ Refused (NotEmbedded t.field j) → LiftsTo M t j x
  lift_stays {t} {j} (up {m = m} s) apart = subst (λ K. LiftsTo M t j (Lifted (tagged j (apply K m t.value))))
      (field_stays (C.compatible.within s).1) (up (G.maps s))
  lift_stays {t} {j} (down {m = m} {w = w} absent s h) apart = down (none_added absent s) (G.maps s) (record {
    value = subst (λ K. (field_values K).Valid w) (sym (field_stays (C.compatible.within s).0)) h.value;
    image = ap (λ K. apply K m w) (field_stays (C.compatible.within s).1) ∙ h.image;
  })
  lift_stays {t} {j} (not_in_image {m = m} absent s none) apart = not_in_image (none_added absent s) (G.maps s)
      (λ w k. none w (record {
        value = subst (λ K. (field_values K).Valid w) (field_stays (C.compatible.within s).0) k.value;
        image = ap (λ K. apply K m w) (sym (field_stays (C.compatible.within s).1)) ∙ k.image;
      }))
  lift_stays (not_embedded absent nor) apart = absurd (apart refl)

-- ---- the laws
pub lift_gives_value : LiftGivesValue
lift_gives_value L t s j C T h = gives_value C T h

-- **a lift and back is the identity**
pub lift_leads_back : LiftLeadsBack
lift_leads_back L t s j answer C T h back = lift_one C back (goes_back C T h)

-- **answers of lifts stay**
pub answered_lift_stays : AnsweredLiftStays
answered_lift_stays L M t j answer C D G h apart = lift_stays C D G h apart
