-- What a request leaves is compatible and has grown; a refusal leaves what was there.
use Rattle.std.proofs.Common.{◌≡◌, ℕ, ◌+◌, ◌≤◌, List, length, refl, sym, ap, ◌∙◌, subst, arith, length-append, Option, None}
use Rattle.std.proofs.lemmas.List.{take_all}
use Rattle.alg_model.specs.Lattices.{Lattice, Grows, IsCompatible}
use Rattle.alg_compatible.specs.Theorems.{AreFields}
use Rattle.alg_compatible.proofs.Laws.{declaring_law, declaring_rows_law, filling_law, filling_rows_law, missing_one_law, plain_law}
use Rattle.lat_core.specs.Names.{IsDeclaredName}
use Rattle.lat_core.specs.declared.tagged.Sending.{Sending}
use Rattle.lat_core.specs.declared.requests.Request.TheVariants.{Declare, Embed, Sync}
use Rattle.lat_core.specs.declared.replies.StepRefusal.{StepRefusal}
use Rattle.lat_core.specs.declared.replies.StepRefusal.TheVariants.{NoCompatibleRoot}
use Rattle.lat_core.specs.declared.replies.Reply.{Reply}
use Rattle.lat_core.specs.declared.replies.Reply.TheVariants.{Refused}
use Rattle.lat_core.specs.Step.{declared_row, Declares, prescribed_values, EmbedsField, Embeds}
use Rattle.lat_core.specs.Step.Declares.{malformed, already, taken, reducible, full, declared}
use Rattle.lat_core.specs.Step.EmbedsField.{different_characteristic, degree_does_not_divide, wrong_field, full as no_room, no_candidate, embedded}
use Rattle.lat_core.specs.Step.Embeds.{unknown_source, unknown_target, known}
use Rattle.lat_core.specs.Theorems.{RequestKeepsCompatible, RefusalChangesNothing, PlainEmbeddingIsFound}
use Rattle.lat_core.proofs.StepExists.{declared_is_row}

-- a lattice grows into itself
pub grows_itself : (L : Lattice) → Grows L L
grows_itself L = record { edition = refl; rows = take_all (length L.rows) L.rows (omega arith); maps = λ h. h }

Keeps : Lattice → Lattice → Type 0
Keeps L M = IsCompatible M × Grows L M

same_kept : {L : Lattice} → IsCompatible L → Keeps L L
unfolding Keeps
same_kept {L} C = (C, grows_itself L)

declares_keeps : {L : Lattice} {name : List ℕ} {p : ℕ} {f : List ℕ} {reply : Reply} {M : Lattice}
    → IsCompatible L → IsDeclaredName name → Declares L name p f reply M → Keeps L M
unfolding Keeps
declares_keeps C proper (malformed h) = same_kept C
declares_keeps C proper (already w h e) = same_kept C
declares_keeps C proper (taken w h e) = same_kept C
declares_keeps C proper (reducible w free h) = same_kept C
declares_keeps C proper (full w free i over) = same_kept C
declares_keeps {L} {name} {p} {f} {M = M} C proper (declared w free i room D) =
    let row = declared_is_row C proper w i in
    let (compatible, grows) = declaring_law L M (declared_row name p f) C row
    (λ e. let d : 2 ≤ _ = w.in_range.0 in omega (arith, d, e)) D in
    let rows = declaring_rows_law L M (declared_row name p f) C row D
    (λ n h e. free n (record { within = h; named = e })) (omega (arith, room)) in
    (record { rows = rows; compatible = compatible }, grows)

embeds_field_keeps : {L : Lattice} {E F : ℕ} {sending : Option Sending} {reply : Reply} {M : Lattice}
    → IsCompatible L → AreFields L E F → EmbedsField L E F sending reply M → Keeps L M
unfolding Keeps
embeds_field_keeps C A (different_characteristic apart) = same_kept C
embeds_field_keeps C A (degree_does_not_divide same fails) = same_kept C
embeds_field_keeps C A (wrong_field same divides e w) = same_kept C
embeds_field_keeps C A (no_room fit missing over) = same_kept C
embeds_field_keeps C A (no_candidate fit missing room none) = same_kept C
embeds_field_keeps {L} {E} {F} {sending} {M = M} C A (embedded {degrees = degrees} {v = v} fit missing room choice filled count) =
    let (compatible, grows) = filling_law L M E F (prescribed_values sending) v C A choice.candidate filled in
    let same : filled.rows.degrees ≡ degrees = missing_one_law L E F filled.rows.degrees degrees filled.rows.missing missing in
    let long : length M.rows ≡ length L.rows + length filled.rows.made = ap length filled.rows.appended ∙ length-append L.rows filled.rows.made in
    let fits : length M.rows ≤ L.edition.room = omega (arith, long, filled.rows.count, ap length same, room) in (
      record {
        rows = filling_rows_law L M E F (prescribed_values sending) v C A choice.candidate filled
            (subst (λ e. length M.rows ≤ e.room) (sym filled.edition) fits);
        compatible = compatible;
      },
      grows,
    )

embeds_keeps : {L : Lattice} {from into : List ℕ} {sending : Option Sending} {reply : Reply}
    {M : Lattice} → IsCompatible L → Embeds L from into sending reply M → Keeps L M
unfolding Keeps
embeds_keeps C (unknown_source free) = same_kept C
embeds_keeps C (unknown_target h free) = same_kept C
embeds_keeps C (known h k a) = embeds_field_keeps C (record { source = h.within; target = k.within }) a

-- **what a request leaves is compatible and has grown**
pub request_keeps : RequestKeepsCompatible
unfolding Keeps
request_keeps L (Declare name p f) reply M C proper a = declares_keeps C proper a
request_keeps L (Embed from into sending) reply M C proper a = embeds_keeps C a
request_keeps L Sync reply M C proper (e, same) = subst (λ N. IsCompatible N × Grows L N) (sym same) (same_kept C)

module _ {L : Lattice} (refusal : StepRefusal) where
  declares_refused : {name : List ℕ} {p : ℕ} {f : List ℕ} {reply : Reply} {M : Lattice}
      → Declares L name p f reply M → reply ≡ Refused refusal → M ≡ L
  declares_refused (malformed h) e = refl
  declares_refused (already w h same) e = refl
  declares_refused (taken w h apart) e = refl
  declares_refused (reducible w free h) e = refl
  declares_refused (full w free i over) e = refl
  declares_refused (declared w free i room D) e = cc

  embeds_field_refused : {E F : ℕ} {sending : Option Sending} {reply : Reply} {M : Lattice}
      → EmbedsField L E F sending reply M → reply ≡ Refused refusal → M ≡ L
  embeds_field_refused (different_characteristic apart) e = refl
  embeds_field_refused (degree_does_not_divide same fails) e = refl
  embeds_field_refused (wrong_field same divides pair w) e = refl
  embeds_field_refused (no_room fit missing over) e = refl
  embeds_field_refused (no_candidate fit missing room none) e = refl
  embeds_field_refused (embedded fit missing room choice filled count) e = cc

  embeds_refused : {from into : List ℕ} {sending : Option Sending} {reply : Reply} {M : Lattice}
      → Embeds L from into sending reply M → reply ≡ Refused refusal → M ≡ L
  embeds_refused (unknown_source free) e = refl
  embeds_refused (unknown_target h free) e = refl
  embeds_refused (known h k a) e = embeds_field_refused a e

-- **a refusal changes nothing**
pub refusal_changes_nothing : RefusalChangesNothing
refusal_changes_nothing L (Declare name p f) refusal M a = declares_refused refusal a refl
refusal_changes_nothing L (Embed from into sending) refusal M a = embeds_refused refusal a refl
refusal_changes_nothing L Sync refusal M (e, same) = same

module _ {L : Lattice} (C : IsCompatible L) where
  field_found : {E F : ℕ} {reply : Reply} {M : Lattice} → AreFields L E F
      → EmbedsField L E F None reply M → reply ≡ Refused NoCompatibleRoot → ⊥
  field_found A (different_characteristic apart) e = cc
  field_found A (degree_does_not_divide same fails) e = cc
  field_found A (wrong_field same divides pair w) e = cc
  field_found A (no_room fit missing over) e = cc
  field_found {E} {F} A (no_candidate fit missing room none) e =
      let (v, c) = plain_law L E F C A fit.characteristic fit.degrees in none v c
  field_found A (embedded fit missing room choice filled count) e = cc

  embedding_found : {from into : List ℕ} {reply : Reply} {M : Lattice}
      → Embeds L from into None reply M → reply ≡ Refused NoCompatibleRoot → ⊥
  embedding_found (unknown_source free) e = cc
  embedding_found (unknown_target h free) e = cc
  embedding_found (known h k a) e = field_found (record { source = h.within; target = k.within }) a e

-- **where nothing is prescribed, a candidate is never missing**
pub plain_embedding_found : PlainEmbeddingIsFound
plain_embedding_found L from into M C a = embedding_found C a refl
