-- What an insertion adds is forced.
use Rattle.std.proofs.Common.{◌≡◌, ℕ, ◌+◌, List, length, refl, sym, ap, ◌∙◌, subst, Option}
use Rattle.std.proofs.lemmas.List.Elements.{Contains-get_or}
use Rattle.alg_model.specs.Lattices.{Lattice, IsCompatible}
use Rattle.alg_model.specs.Candidates.{embedding_by, IsChoice}
use Rattle.alg_compatible.specs.Theorems.{AreFields}
use Rattle.alg_compatible.proofs.Filling.{place_of, made_at}
use Rattle.alg_compatible.proofs.Laws.{fields_law, maps_law}
use Rattle.lat_core.specs.declared.tagged.Sending.{Sending}
use Rattle.lat_core.specs.declared.replies.Reply.{Reply}
use Rattle.lat_core.specs.declared.replies.Reply.TheVariants.{Embedded}
use Rattle.lat_core.specs.Step.{IsNamed, prescribed_values, EmbedsField, Embeds}
use Rattle.lat_core.specs.Step.EmbedsField.{different_characteristic, degree_does_not_divide, wrong_field, full, no_candidate, embedded}
use Rattle.lat_core.specs.Step.Embeds.{unknown_source, unknown_target, known}
use Rattle.lat_core.specs.SharedRows.{map_count}
use Rattle.lat_core.proofs.StepDetermined.{named_one}
use Rattle.lat_insert.specs.PrivateEmbedding.{FillsBy}
use Rattle.lat_insert.specs.Theorems.{IsInsertion, MadeFieldsAreForced, LinkedMapsAreForced}
use Rattle.lat_insert.proofs.Insertions.{inserted}

-- M is L filled by the choice v; so many fields are made and pairs linked
pub record FillsByChoice (L : Lattice) (E F : ℕ) (v : List ℕ) (M : Lattice) (made linked : ℕ)
    : Type 0 where
  pub sending : Option Sending
  pub fields : AreFields L E F
  pub choice : IsChoice L E F (prescribed_values sending) v
  pub fills : FillsBy L E F v M made linked

field_fills : {L : Lattice} {E F : ℕ} {sending : Option Sending} {reply : Reply} {M : Lattice}
    {v : List ℕ} {made linked : ℕ} → AreFields L E F → EmbedsField L E F sending reply M
    → reply ≡ Embedded v made linked → FillsByChoice L E F v M made linked
field_fills A (different_characteristic apart) e = cc
field_fills A (degree_does_not_divide same fails) e = cc
field_fills A (wrong_field same divides pair w) e = cc
field_fills A (full fit missing over) e = cc
field_fills A (no_candidate fit missing room none) e = cc
field_fills {L} {E} {F} {sending} {M = M} {v} {made} {linked} A
    (embedded {degrees} {v = w} {linked = l} fit missing room choice filled count) e =
    let same : w ≡ v = cc in
    let fields : length degrees ≡ made = cc in
    let pairs : l ≡ linked = cc in
    subst (λ x. FillsByChoice L E F x M made linked) same (record {
      sending = sending;
      fields = A;
      choice = choice;
      fills = record {
        filled = filled;
        made_count = (degrees, missing, fields);
        linked_count = count ∙ ap (λ n. map_count L + n) pairs;
      };
    })

named_fills : {L : Lattice} {E F : ℕ} {from into : List ℕ} {sending : Option Sending} {reply : Reply}
    {M : Lattice} {v : List ℕ} {made linked : ℕ} → IsCompatible L → IsNamed L E from
    → IsNamed L F into → Embeds L from into sending reply M → reply ≡ Embedded v made linked
    → FillsByChoice L E F v M made linked
named_fills C s t (unknown_source free) e = cc
named_fills C s t (unknown_target h free) e = cc
named_fills {L} {E} {F} {M = M} {v} {made} {linked} C s t (known {E = D} {F = G} h k a) e =
    let first : D ≡ E = named_one C.rows h s in
    let second : G ≡ F = named_one C.rows k t in
    subst (λ x. FillsByChoice L E x v M made linked) second
    (subst (λ x. FillsByChoice L x G v M made linked) first
    (field_fills (record { source = h.within; target = k.within }) a e))

-- **an insertion fills the lattice by the choice**
pub insertion_fills : {L : Lattice} {E F : ℕ} {v : List ℕ} {M : Lattice} → IsCompatible L
    → (I : IsInsertion L E F v M) → FillsByChoice L E F v M I.made I.linked
insertion_fills C I = named_fills C I.source I.target I.step refl

-- **each field that is added is forced**
pub made_fields_forced : MadeFieldsAreForced
made_fields_forced L M N E F v C I K G chosen i above below =
    let B = insertion_fills C I in
    let H = inserted C B.fields B.choice.candidate B.fills.filled in
    let p = place_of H i above below in
    let (j, m, s, d) = fields_law L N E F (embedding_by L E F v) C K G chosen _
    ((B.fills.filled.rows.missing.exactly _).0 (Contains-get_or B.fills.filled.rows.degrees p.place 0 p.below)) in
    (j, m, s, d ∙ sym (made_at H p).polynomial.of_degree)

-- **and so is each map**
pub linked_maps_forced : LinkedMapsAreForced
linked_maps_forced L M N E F v C I K G same chosen made =
    let B = insertion_fills C I in
    maps_law L M N E F (prescribed_values B.sending) v C B.fields B.choice.candidate B.fills.filled K G same chosen made
