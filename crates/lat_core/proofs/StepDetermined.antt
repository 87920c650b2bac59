-- A request to a compatible lattice has at most one reply, and leaves at most one lattice.
use Rattle.std.proofs.Common.{◌≡◌, ⊎_elim, ℕ, ◌+◌, List, length, refl, sym, ap, ◌∙◌, subst, arith, Option, Some, true}
use Rattle.std.specs.Ordering.{nat_cmp}
use Rattle.std.proofs.lemmas.Bool.{cases_order}
use Rattle.std.specs.FinMap.{len}
use Rattle.alg_model.specs.Coefficients.{residues}
use Rattle.alg_model.specs.Factors.{IsLeastFactor}
use Rattle.alg_model.specs.Lattices.{Edition, Lattice, no_row, field_at, IsRows, IsCompatible}
use Rattle.alg_model.specs.Candidates.{embedding_by, IsChoice, AreMissing}
use Rattle.alg_model.specs.Filling.{IsFilled}
use Rattle.alg_compatible.proofs.Laws.{choice_one_law, missing_one_law, filling_one_law, declaring_one_law}
use Rattle.alg_compatible.proofs.Choices.{not_before}
use Rattle.ff_field.specs.SmallFields.{IsFirstTooLarge}
use Rattle.lat_core.specs.declared.tagged.Sending.{Sending}
use Rattle.lat_core.specs.declared.requests.Request.TheVariants.{Declare, Embed, Sync}
use Rattle.lat_core.specs.declared.replies.StepRefusal.{StepRefusal}
use Rattle.lat_core.specs.declared.replies.StepRefusal.TheVariants.{CoefficientTooLarge, NameTaken, Reducible, TooManyFields, WrongField}
use Rattle.lat_core.specs.declared.replies.Reply.{Reply}
use Rattle.lat_core.specs.declared.replies.Reply.TheVariants.{Declared, Embedded, Refused}
use Rattle.lat_core.specs.Step.{IsNamed, IsWellFormed, IsMalformed, declared_row, Declares, IsWrongTag, ArePrescribed, prescribed_values, EmbedsField, Embeds}
use Rattle.lat_core.specs.Step.IsMalformed.{not_in_table, degree_out_of_range, coefficient_too_large, not_monic}
use Rattle.lat_core.specs.Step.IsWrongTag.{of_value, of_image}
use Rattle.lat_core.specs.Step.Declares.{malformed, already, taken, reducible, full, declared}
use Rattle.lat_core.specs.Step.EmbedsField.{different_characteristic, degree_does_not_divide, wrong_field, full as no_room, no_candidate, embedded}
use Rattle.lat_core.specs.Step.Embeds.{unknown_source, unknown_target, known}
use Rattle.lat_core.specs.Theorems.{RequestHasOneReply}
use Rattle.lat_core.proofs.Decisions.{first_of_all_below}

-- ---- names
-- names differ, so a name is that of one field
pub named_one : {L : Lattice} → IsRows L.edition L.rows → {m n : ℕ} {name : List ℕ}
    → IsNamed L m name → IsNamed L n name → m ≡ n
named_one {L} R {m} {n} h k = ⊎_elim
    (λ e. e)
    (λ apart. ⊎_elim
    (λ l. absurd (R.names_differ m n no_row l k.within (h.named ∙ sym k.named)))
    (λ l. absurd (R.names_differ n m no_row l h.within (k.named ∙ sym h.named)))
    apart)
    (cases_order m n)

-- ---- declared polynomials
first_too_large_one : (p : ℕ) (f : List ℕ) (m n : ℕ) → IsFirstTooLarge p f m
    → IsFirstTooLarge p f n → m ≡ n
first_too_large_one p f m n h k = ⊎_elim
    (λ e. e)
    (λ apart. ⊎_elim
    (λ l. absurd (let a = k.first m l in let b = h.too_large in omega (arith, a, b)))
    (λ l. absurd (let a = h.first n l in let b = k.too_large in omega (arith, a, b)))
    apart)
    (cases_order m n)

malformed_one : {edition : Edition} {p : ℕ} {f : List ℕ} {r s : StepRefusal}
    → IsMalformed edition p f r → IsMalformed edition p f s → r ≡ s
malformed_one (not_in_table a) (not_in_table b) = refl
malformed_one (not_in_table a) (degree_out_of_range c d) = absurd (a c)
malformed_one (not_in_table a) (coefficient_too_large c d h) = absurd (a c)
malformed_one (not_in_table a) (not_monic c d h n) = absurd (a c)
malformed_one (degree_out_of_range c d) (not_in_table a) = absurd (a c)
malformed_one (degree_out_of_range c d) (degree_out_of_range e g) = refl
malformed_one (degree_out_of_range c d) (coefficient_too_large e g h) = absurd (d g)
malformed_one (degree_out_of_range c d) (not_monic e g h n) = absurd (d g)
malformed_one (coefficient_too_large c d h) (not_in_table a) = absurd (a c)
malformed_one (coefficient_too_large c d h) (degree_out_of_range e g) = absurd (g d)
malformed_one {p = p} {f = f} (coefficient_too_large {place = m} c d h) (coefficient_too_large {place = n} e g k) =
    ap CoefficientTooLarge (first_too_large_one p f m n h k)
malformed_one {p = p} {f = f} (coefficient_too_large {place = m} c d h) (not_monic e g k n) = absurd (first_of_all_below p f m h k)
malformed_one (not_monic c d h n) (not_in_table a) = absurd (a c)
malformed_one (not_monic c d h n) (degree_out_of_range e g) = absurd (g d)
malformed_one {p = p} {f = f} (not_monic c d h n) (coefficient_too_large {place = m} e g k) = absurd (first_of_all_below p f m k h)
malformed_one (not_monic c d h n) (not_monic e g k m) = refl

not_both : {edition : Edition} {p : ℕ} {f : List ℕ} {r : StepRefusal}
    → IsMalformed edition p f r → IsWellFormed edition p f → ⊥
not_both (not_in_table a) w = a w.characteristic
not_both (degree_out_of_range c d) w = d w.in_range
not_both {p = p} {f = f} (coefficient_too_large {place = m} c d h) w = first_of_all_below p f m h w.coefficients
not_both (not_monic c d h n) w = n w.monic

least_factor_one : (p : ℕ) (f g h : List ℕ) → IsLeastFactor (residues p) nat_cmp f g
    → IsLeastFactor (residues p) nat_cmp f h → g ≡ h
least_factor_one p f g h a b = not_before g h (b.least g a.factor) (a.least h b.factor)

-- ---- declaring
Same : Reply → Lattice → Reply → Lattice → Type 0
Same reply M other N = (reply ≡ other) × (M ≡ N)

declares_one : {L : Lattice} {name : List ℕ} {p : ℕ} {f : List ℕ} {reply other : Reply}
    {M N : Lattice} → IsCompatible L → Declares L name p f reply M → Declares L name p f other N
    → Same reply M other N
unfolding Same
declares_one C (malformed a) (malformed b) = (ap Refused (malformed_one a b), refl)
declares_one C (malformed a) (already w h e) = absurd (not_both a w)
declares_one C (malformed a) (taken w h e) = absurd (not_both a w)
declares_one C (malformed a) (reducible w free g) = absurd (not_both a w)
declares_one C (malformed a) (full w free i over) = absurd (not_both a w)
declares_one C (malformed a) (declared w free i room D) = absurd (not_both a w)
declares_one C (already w h e) (malformed a) = absurd (not_both a w)
declares_one C (already w h e) (already v k d) = (ap (λ n. Declared n true) (named_one C.rows h k), refl)
declares_one {L} {name} {p} {f} C (already w h e) (taken v k d) =
    absurd (d (subst (λ n. field_at L.rows n ≡ (declared_row name p f).field) (named_one C.rows h k) e))
declares_one C (already {n = n} w h e) (reducible v free g) = absurd (free n h)
declares_one C (already {n = n} w h e) (full v free i over) = absurd (free n h)
declares_one C (already {n = n} w h e) (declared v free i room D) = absurd (free n h)
declares_one C (taken w h e) (malformed a) = absurd (not_both a w)
declares_one {L} {name} {p} {f} C (taken w h e) (already v k d) =
    absurd (e (subst (λ n. field_at L.rows n ≡ (declared_row name p f).field) (named_one C.rows k h) d))
declares_one C (taken w h e) (taken v k d) = (ap (λ n. Refused (NameTaken n)) (named_one C.rows h k), refl)
declares_one C (taken {n = n} w h e) (reducible v free g) = absurd (free n h)
declares_one C (taken {n = n} w h e) (full v free i over) = absurd (free n h)
declares_one C (taken {n = n} w h e) (declared v free i room D) = absurd (free n h)
declares_one C (reducible w free g) (malformed a) = absurd (not_both a w)
declares_one C (reducible w free g) (already {n = n} v k d) = absurd (free n k)
declares_one C (reducible w free g) (taken {n = n} v k d) = absurd (free n k)
declares_one {p = p} {f = f} C (reducible {g = g} w free h) (reducible {g = k} v also l) =
    (ap (λ c. Refused (Reducible (record { prime = p; coefficients = c }))) (least_factor_one p f g k h l), refl)
declares_one C (reducible {g = g} w free h) (full v also i over) = absurd (i.no_factor g h.factor)
declares_one C (reducible {g = g} w free h) (declared v also i room D) = absurd (i.no_factor g h.factor)
declares_one C (full w free i over) (malformed a) = absurd (not_both a w)
declares_one C (full w free i over) (already {n = n} v k d) = absurd (free n k)
declares_one C (full w free i over) (taken {n = n} v k d) = absurd (free n k)
declares_one C (full w free i over) (reducible {g = g} v also h) = absurd (i.no_factor g h.factor)
declares_one C (full w free i over) (full v also j above) = (refl, refl)
declares_one C (full w free i over) (declared v also j room D) = absurd (omega (arith, over, room))
declares_one C (declared w free i room D) (malformed a) = absurd (not_both a w)
declares_one C (declared w free i room D) (already {n = n} v k d) = absurd (free n k)
declares_one C (declared w free i room D) (taken {n = n} v k d) = absurd (free n k)
declares_one C (declared w free i room D) (reducible {g = g} v also h) = absurd (i.no_factor g h.factor)
declares_one C (declared w free i room D) (full v also j over) = absurd (omega (arith, over, room))
declares_one {L} {name} {p} {f} {M = M} {N = N} C (declared w free i room D) (declared v also j space E) =
    (refl, declaring_one_law L M N (declared_row name p f) C D E)

-- ---- embedding
wrong_tag_one : {L : Lattice} {E F : ℕ} {s : Sending} {m n : ℕ} → IsWrongTag L E F s m
    → IsWrongTag L E F s n → m ≡ n
wrong_tag_one (of_value a) (of_value b) = refl
wrong_tag_one (of_value a) (of_image b c) = absurd (a b)
wrong_tag_one (of_image a b) (of_value c) = absurd (c a)
wrong_tag_one (of_image a b) (of_image c d) = refl

wrong_not_prescribed : {L : Lattice} {E F : ℕ} {sending : Option Sending} {s : Sending} {n : ℕ}
    → sending ≡ Some s → IsWrongTag L E F s n → ArePrescribed L E F sending → ⊥
wrong_not_prescribed {L} {E} {F} {s = s} e w p = at_pair w (subst (ArePrescribed L E F) e p)
  where
    at_pair : {n : ℕ} → IsWrongTag L E F s n → ArePrescribed L E F (Some s) → ⊥
    at_pair (of_value a) q = a q.0
    at_pair (of_image a b) q = b q.1

same_pair : {s t : Sending} {sending : Option Sending} → sending ≡ Some s → sending ≡ Some t → s ≡ t
same_pair e d = cc

missing_counts : {L : Lattice} {E F : ℕ} {ds es : List ℕ} → AreMissing L E F ds → AreMissing L E F es
    → length ds ≡ length es
missing_counts {L} {E} {F} {ds} {es} h k = ap length (missing_one_law L E F ds es h k)

embedded_one : {L : Lattice} {E F : ℕ} (sending : Option Sending) {v w : List ℕ} {M N : Lattice}
    (d e k l : ℕ) → IsChoice L E F (prescribed_values sending) v
    → IsChoice L E F (prescribed_values sending) w → IsFilled L E F (embedding_by L E F v) M
    → IsFilled L E F (embedding_by L E F w) N → d ≡ e → len M.maps ≡ len L.maps + k
    → len N.maps ≡ len L.maps + l → Same (Embedded v d k) M (Embedded w e l) N
unfolding Same
embedded_one {L} {E} {F} sending {v} {w} {M} {N} d e k l c b P Q same m n =
    let image : v ≡ w = choice_one_law L E F (prescribed_values sending) v w c b in
    let lattice : M ≡ N = filling_one_law L M N E F (embedding_by L E F w) (subst (λ x. IsFilled L E F (embedding_by L E F x) M) image P) Q in
    let counts : len M.maps ≡ len N.maps = ap (λ x. len x.maps) lattice in
    let linked : k ≡ l = omega (arith, m, n, counts) in
    (λ i. Embedded (image i) (same i) (linked i), lattice)

module _ {L : Lattice} {E F : ℕ} {sending : Option Sending} where
  embeds_field_one : {reply other : Reply} {M N : Lattice} → EmbedsField L E F sending reply M
      → EmbedsField L E F sending other N → Same reply M other N
  unfolding Same
  embeds_field_one (different_characteristic a) (different_characteristic b) = (refl, refl)
  embeds_field_one (different_characteristic a) (degree_does_not_divide c d) = absurd (a c)
  embeds_field_one (different_characteristic a) (wrong_field c d e w) = absurd (a c)
  embeds_field_one (different_characteristic a) (no_room fit m over) = absurd (a fit.characteristic)
  embeds_field_one (different_characteristic a) (no_candidate fit m room none) = absurd (a fit.characteristic)
  embeds_field_one (different_characteristic a) (embedded fit m room c f n) = absurd (a fit.characteristic)
  embeds_field_one (degree_does_not_divide c d) (different_characteristic a) = absurd (a c)
  embeds_field_one (degree_does_not_divide c d) (degree_does_not_divide e g) = (refl, refl)
  embeds_field_one (degree_does_not_divide c d) (wrong_field e g s w) = absurd (d g)
  embeds_field_one (degree_does_not_divide c d) (no_room fit m over) = absurd (d fit.degrees)
  embeds_field_one (degree_does_not_divide c d) (no_candidate fit m room none) = absurd (d fit.degrees)
  embeds_field_one (degree_does_not_divide c d) (embedded fit m room b f n) = absurd (d fit.degrees)
  embeds_field_one (wrong_field c d e w) (different_characteristic a) = absurd (a c)
  embeds_field_one (wrong_field c d e w) (degree_does_not_divide g h) = absurd (h d)
  embeds_field_one (wrong_field {s = s} {number = m} c d e w) (wrong_field {s = t} {number = n} g h k u) =
      (ap (λ x. Refused (WrongField x)) (wrong_tag_one w (subst (λ x. IsWrongTag L E F x n) (same_pair k e) u)), refl)
  embeds_field_one (wrong_field c d e w) (no_room fit m over) = absurd (wrong_not_prescribed e w fit.prescribed)
  embeds_field_one (wrong_field c d e w) (no_candidate fit m room none) = absurd (wrong_not_prescribed e w fit.prescribed)
  embeds_field_one (wrong_field c d e w) (embedded fit m room b f n) = absurd (wrong_not_prescribed e w fit.prescribed)
  embeds_field_one (no_room fit m over) (different_characteristic a) = absurd (a fit.characteristic)
  embeds_field_one (no_room fit m over) (degree_does_not_divide c d) = absurd (d fit.degrees)
  embeds_field_one (no_room fit m over) (wrong_field c d e w) = absurd (wrong_not_prescribed e w fit.prescribed)
  embeds_field_one (no_room fit m over) (no_room fit' m' over') =
      (ap (λ n. Refused (TooManyFields (length L.rows) n)) (missing_counts m m'), refl)
  embeds_field_one (no_room fit m over) (no_candidate fit' m' room none) = absurd (omega (arith, over, room, missing_counts m m'))
  embeds_field_one (no_room fit m over) (embedded fit' m' room c f n) = absurd (omega (arith, over, room, missing_counts m m'))
  embeds_field_one (no_candidate fit m room none) (different_characteristic a) = absurd (a fit.characteristic)
  embeds_field_one (no_candidate fit m room none) (degree_does_not_divide c d) = absurd (d fit.degrees)
  embeds_field_one (no_candidate fit m room none) (wrong_field c d e w) = absurd (wrong_not_prescribed e w fit.prescribed)
  embeds_field_one (no_candidate fit m room none) (no_room fit' m' over) = absurd (omega (arith, over, room, missing_counts m m'))
  embeds_field_one (no_candidate fit m room none) (no_candidate fit' m' room' none') = (refl, refl)
  embeds_field_one (no_candidate fit m room none) (embedded {v = v} fit' m' room' c f n) = absurd (none v c.candidate)
  embeds_field_one (embedded fit m room c f n) (different_characteristic a) = absurd (a fit.characteristic)
  embeds_field_one (embedded fit m room c f n) (degree_does_not_divide b d) = absurd (d fit.degrees)
  embeds_field_one (embedded fit m room c f n) (wrong_field b d e w) = absurd (wrong_not_prescribed e w fit.prescribed)
  embeds_field_one (embedded fit m room c f n) (no_room fit' m' over) = absurd (omega (arith, over, room, missing_counts m m'))
  embeds_field_one (embedded {v = v} fit m room c f n) (no_candidate fit' m' room' none) = absurd (none v c.candidate)
  embeds_field_one (embedded {linked = k} fit m room c f n) (embedded {linked = l} fit' m' room' c' f' n') =
      embedded_one sending _ _ k l c c' f f' (missing_counts m m') n n'

embeds_one : {L : Lattice} {from into : List ℕ} {sending : Option Sending} {reply other : Reply}
    {M N : Lattice} → IsCompatible L → Embeds L from into sending reply M
    → Embeds L from into sending other N → Same reply M other N
unfolding Same
embeds_one C (unknown_source a) (unknown_source b) = (refl, refl)
embeds_one C (unknown_source a) (unknown_target {E = E} h b) = absurd (a E h)
embeds_one C (unknown_source a) (known {E = E} h k e) = absurd (a E h)
embeds_one C (unknown_target {E = E} h b) (unknown_source a) = absurd (a E h)
embeds_one C (unknown_target h a) (unknown_target k b) = (refl, refl)
embeds_one C (unknown_target h a) (known {F = F} g k e) = absurd (a F k)
embeds_one C (known {E = E} h k e) (unknown_source a) = absurd (a E h)
embeds_one C (known {F = F} h k e) (unknown_target g a) = absurd (a F k)
embeds_one {L} {sending = sending} {other = other} {N = N} C (known {E = E} {F = F} h k e) (known {E = G} {F = H} i j f) =
    embeds_field_one e (subst (λ x. EmbedsField L x F sending other N) (named_one C.rows i h)
    (subst (λ x. EmbedsField L G x sending other N) (named_one C.rows j k) f))

-- **a request has at most one reply, and leaves at most one lattice**
pub reply_one : RequestHasOneReply
unfolding Same
reply_one L (Declare name p f) reply other M N C a b = declares_one C a b
reply_one L (Embed from into sending) reply other M N C a b = embeds_one C a b
reply_one L Sync reply other M N C (a, b) (c, d) = (a ∙ sym c, b ∙ sym d)
