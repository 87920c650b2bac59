-- Which fields are embedded where nothing is prescribed.
use Rattle.std.proofs.Common.{◌≡◌, ℕ, ◌-◌, ◌≤◌, List, length, refl, ◌∙◌, arith, Option, None}
use Rattle.std.specs.FinMap.{len}
use Rattle.alg_model.specs.Lattices.{Lattice}
use Rattle.alg_compatible.specs.Theorems.{AreFields}
use Rattle.alg_compatible.proofs.Laws.{plain_law, choice_law, filling_law, filling_exists_law}
use Rattle.lat_core.specs.Step.{IsNamed, AreEmbeddable, EmbedsField, Embeds}
use Rattle.lat_core.specs.Step.EmbedsField.{different_characteristic, degree_does_not_divide, wrong_field, full, no_candidate, embedded}
use Rattle.lat_core.specs.Step.Embeds.{unknown_source, unknown_target, known}
use Rattle.lat_core.specs.declared.requests.Request.TheVariants.{Embed}
use Rattle.lat_core.specs.declared.replies.Reply.{Reply}
use Rattle.lat_core.specs.declared.replies.Reply.TheVariants.{Embedded}
use Rattle.lat_core.specs.declared.tagged.Sending.{Sending}
use Rattle.lat_core.proofs.StepDetermined.{reply_one}
use Rattle.lat_core.proofs.StepExists.{maps_not_fewer}
use Rattle.lat_insert.specs.Theorems.{AreEmbeddableNames, EmbeddableIsEmbedded, EmbeddableHasReply, OnlyEmbeddableIsEmbedded, EmbeddingIsStored}
use Rattle.lat_insert.proofs.Insertions.{chosen_stored}
use Rattle.lat_insert.proofs.ForcedAdditions.{insertion_fills}

-- **what is embeddable is embedded, and this is a reply**
pub embeddable_has_reply : EmbeddableHasReply
embeddable_has_reply L from into C D =
    let A : AreFields L D.E D.F = record { source = D.source.within; target = D.target.within } in
    let (w, c) = plain_law L D.E D.F C A D.characteristic D.degrees in
    let (v, h) = choice_law L D.E D.F None w C A c in
    let (M, filled) = filling_exists_law L D.E D.F None v C A h.candidate in
    let more : len L.maps ≤ len M.maps = maps_not_fewer (filling_law L M D.E D.F None v C A h.candidate filled).1 in
    let linked = len M.maps - len L.maps in
    let fit : AreEmbeddable L D.E D.F None = record { characteristic = D.characteristic; degrees = D.degrees; prescribed = tt } in (
      Embedded v (length D.missing) linked,
      M,
      known D.source D.target (embedded fit D.are_missing D.room h filled (omega (arith, more))),
      (v, length D.missing, linked, refl),
    )

-- **so it is the reply**
pub embeddable_embedded : EmbeddableIsEmbedded
embeddable_embedded L from into reply M C D step =
    let (other, N, s, (v, made, linked, is)) = embeddable_has_reply L from into C D in
    (v, made, linked, (reply_one L (Embed from into None) reply other M N C step s).0 ∙ is)

-- **and nothing else is embedded**
named_embeddable : {L : Lattice} {E F : ℕ} {from into : List ℕ} {sending : Option Sending}
    {reply : Reply} {M : Lattice} {v : List ℕ} {made linked : ℕ} → IsNamed L E from
    → IsNamed L F into → EmbedsField L E F sending reply M → reply ≡ Embedded v made linked
    → AreEmbeddableNames L from into
named_embeddable h k (different_characteristic apart) e = cc
named_embeddable h k (degree_does_not_divide same fails) e = cc
named_embeddable h k (wrong_field same divides pair w) e = cc
named_embeddable h k (full fit missing over) e = cc
named_embeddable h k (no_candidate fit missing room none) e = cc
named_embeddable {E = E} {F} h k (embedded {degrees} fit missing room choice filled count) e = record {
  E = E;
  F = F;
  source = h;
  target = k;
  characteristic = fit.characteristic;
  degrees = fit.degrees;
  missing = degrees;
  are_missing = missing;
  room = room;
}

was_embeddable : {L : Lattice} {from into : List ℕ} {sending : Option Sending} {reply : Reply}
    {M : Lattice} {v : List ℕ} {made linked : ℕ} → Embeds L from into sending reply M
    → reply ≡ Embedded v made linked → AreEmbeddableNames L from into
was_embeddable (unknown_source free) e = cc
was_embeddable (unknown_target h free) e = cc
was_embeddable (known h k a) e = named_embeddable h k a e

pub only_embeddable : OnlyEmbeddableIsEmbedded
only_embeddable L from into reply M step (v, made, linked, e) = was_embeddable step e

-- **the embedding that is answered is stored**
pub embedding_stored : EmbeddingIsStored
embedding_stored L M E F v C I =
    let B = insertion_fills C I in
    chosen_stored C B.fields B.choice.candidate B.fills.filled
