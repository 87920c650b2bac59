-- Each request to a compatible lattice has a reply.
use Rattle.std.proofs.Common.{◌≡◌, ◌≢◌, ◌⊎◌, inl, inr, ⊎_elim, ℕ, ◌+◌, ◌-◌, ◌≤◌, List, [], ◌∷◌, length, slice_index, refl, ap, arith, true, false, Option, Some, None, is_some}
use Rattle.std.specs.FinMap.{len, get}
use Rattle.std.proofs.lemmas.Bool.{cases_lt, cases_eq}
use Rattle.alg_model.specs.Maps.{Field, degree_of}
use Rattle.alg_model.specs.Factors.{IsIrreducible}
use Rattle.alg_model.specs.Coefficients.{residues}
use Rattle.alg_model.specs.Lattices.{Lattice, field_at, Grows, IsRow, IsCompatible}
use Rattle.alg_model.specs.Candidates.{IsCandidate, AreMissing}
use Rattle.alg_rings.proofs.Decisions.{divides_or_not, lists_equal_or_not, both_or_not}
use Rattle.alg_compatible.specs.Theorems.{AreFields}
use Rattle.alg_compatible.proofs.Laws.{missing_law, choice_law, filling_exists_law, filling_law, declaring_exists_law}
use Rattle.alg_compatible.proofs.Tables.{pair_total}
use Rattle.lat_core.specs.Names.{IsDeclaredName}
use Rattle.lat_core.specs.declared.tagged.Sending.{Sending}
use Rattle.lat_core.specs.declared.requests.Request.TheVariants.{Declare, Embed, Sync}
use Rattle.lat_core.specs.declared.replies.StepRefusal.TheVariants.{NameTaken, Reducible, TooManyFields, UnknownField, WrongField, NoCompatibleRoot}
use Rattle.lat_core.specs.declared.replies.Reply.{Reply}
use Rattle.lat_core.specs.declared.replies.Reply.TheVariants.{Declared, Embedded, Synced, Refused}
use Rattle.lat_core.specs.Step.{IsWellFormed, declared_row, Declares, prescribed_values, AreEmbeddable, EmbedsField, Embeds}
use Rattle.lat_core.specs.Theorems.{RequestHasReply}
use Rattle.lat_core.proofs.Decisions.{named_or_free, malformed_or_well_formed, irreducible_or_factored, prime_of, wrong_or_prescribed, candidate_or_none}
use Rattle.lat_core.proofs.MapCounts.{not_smaller}

-- ---- what a lattice that grows keeps
-- no pair is lost
pub maps_not_fewer : {L M : Lattice} → Grows L M → len L.maps ≤ len M.maps
maps_not_fewer {L} {M} G = not_smaller pair_total L.maps M.maps (λ q h. kept q (get L.maps q) refl h)
  where
    kept : (q : ℕ × ℕ) (found : Option (List (List ℕ))) → get L.maps q ≡ found
        → is_some (get L.maps q) ≡ true → is_some (get M.maps q) ≡ true
    kept q (Some m) e h = ap is_some ((G.maps {i = q.0} {j = q.1} (record { found = e })).found)
    kept q None e h = absurd (let f : is_some (get L.maps q) ≡ false = ap is_some e in cc)

-- ---- declaring
-- a first byte that is a letter isn't `_`
pub declared_name_byte : (name : List ℕ) → IsDeclaredName name → slice_index name 0 ≢ 95
declared_name_byte [] h e = absurd h
declared_name_byte (b ∷ bs) (letter, rest, short) e = ⊎_elim
    (λ (low, high). omega (arith, low, high, e))
    (λ (low, high). omega (arith, low, high, e))
    letter

-- a field that is declared is a row of the edition
pub declared_is_row : {L : Lattice} {name : List ℕ} {p : ℕ} {f : List ℕ} → IsCompatible L
    → IsDeclaredName name → IsWellFormed L.edition p f → IsIrreducible (residues p) f
    → IsRow L.edition (length L.rows) (declared_row name p f)
declared_is_row {name = name} {p = p} C proper w irreducible = record {
  field = record { characteristic = prime_of C.rows.of_edition p w.characteristic; monic = w.monic; irreducible = irreducible };
  characteristic = w.characteristic;
  degree = w.in_range.1;
  name = inl (declared_name_byte name proper);
}

-- two fields are one or not
pub fields_equal_or_not : (K L : Field) → (K ≡ L) ⊎ ¬ (K ≡ L)
fields_equal_or_not K L = ⊎_elim
    (λ (e, f). inl (λ i. record { characteristic = e i; polynomial = f i }))
    (λ apart. inr (λ e. apart (ap (λ M. M.characteristic) e, ap (λ M. M.polynomial) e)))
    (both_or_not (cases_eq K.characteristic L.characteristic) (lists_equal_or_not cases_eq K.polynomial L.polynomial))

abbrev HasReply : Lattice → (Reply → Lattice → Type 0) → Type 0
HasReply L Answers = (reply : Reply) × (M : Lattice) × Answers reply M

declares_exists : {L : Lattice} (name : List ℕ) (p : ℕ) (f : List ℕ) → IsCompatible L
    → IsDeclaredName name → HasReply L (Declares L name p f)
declares_exists {L} name p f C proper = ⊎_elim
    (λ (refusal, h). (Refused refusal, L, Declares.malformed h))
    (λ w. ⊎_elim
    (λ (n, h). ⊎_elim
    (λ e. (Declared n true, L, Declares.already w h e))
    (λ apart. (Refused (NameTaken n), L, Declares.taken w h apart))
    (fields_equal_or_not (field_at L.rows n) (declared_row name p f).field))
    (λ free. ⊎_elim
    (λ irreducible. ⊎_elim
    (λ over. (Refused (TooManyFields (length L.rows) 1), L, Declares.full w free irreducible over))
    (λ room. let (M, D) = declaring_exists_law L (declared_row name p f) C (declared_is_row C proper w irreducible) in
    (Declared (length L.rows) false, M, Declares.declared w free irreducible room D))
    (cases_lt L.edition.room (length L.rows + 1)))
    (λ (g, h). (Refused (Reducible (record { prime = p; coefficients = g })), L, Declares.reducible w free h))
    (irreducible_or_factored C.rows.of_edition p f w))
    (named_or_free L name))
    (malformed_or_well_formed L.edition p f)

-- ---- embedding
embedded_exists : {L : Lattice} {E F : ℕ} (sending : Option Sending) (degrees v : List ℕ)
    → IsCompatible L → AreFields L E F → AreEmbeddable L E F sending → AreMissing L E F degrees
    → length L.rows + length degrees ≤ L.edition.room
    → IsCandidate L E F (prescribed_values sending) v → HasReply L (EmbedsField L E F sending)
embedded_exists {L} {E} {F} sending degrees v C A fit missing room c =
    let (u, h) = choice_law L E F (prescribed_values sending) v C A c in
    let (M, filled) = filling_exists_law L E F (prescribed_values sending) u C A h.candidate in
    let grows : Grows L M = (filling_law L M E F (prescribed_values sending) u C A h.candidate filled).1 in
    let more : len L.maps ≤ len M.maps = maps_not_fewer grows in (
      Embedded u (length degrees) (len M.maps - len L.maps),
      M,
      EmbedsField.embedded fit missing room h filled (omega (arith, more)),
    )

embeds_field_exists : {L : Lattice} {E F : ℕ} (sending : Option Sending) → IsCompatible L
    → AreFields L E F → HasReply L (EmbedsField L E F sending)
embeds_field_exists {L} {E} {F} sending C A = ⊎_elim
    (λ same. ⊎_elim
    (λ divides. ⊎_elim
    (λ (s, number, e, w). (Refused (WrongField number), L, EmbedsField.wrong_field same divides e w))
    (λ prescribed. fitting (record { characteristic = same; degrees = divides; prescribed = prescribed }) (missing_law L E F C))
    (wrong_or_prescribed L E F sending))
    (λ fails. (_, L, EmbedsField.degree_does_not_divide same fails))
    (divides_or_not (degree_of (field_at L.rows E)) (degree_of (field_at L.rows F))))
    (λ apart. (_, L, EmbedsField.different_characteristic apart))
    (cases_eq (field_at L.rows E).characteristic (field_at L.rows F).characteristic)
  where
    fitting : AreEmbeddable L E F sending → ((degrees : List ℕ) × AreMissing L E F degrees)
        → HasReply L (EmbedsField L E F sending)
    fitting fit (degrees, missing) = ⊎_elim
        (λ over. (Refused (TooManyFields (length L.rows) (length degrees)), L, EmbedsField.full fit missing over))
        (λ room. ⊎_elim
        (λ (v, c). embedded_exists sending degrees v C A fit missing room c)
        (λ none. (Refused NoCompatibleRoot, L, EmbedsField.no_candidate fit missing room none))
        (candidate_or_none C A fit.characteristic (prescribed_values sending)))
        (cases_lt L.edition.room (length L.rows + length degrees))

embeds_exists : {L : Lattice} (from into : List ℕ) (sending : Option Sending) → IsCompatible L
    → HasReply L (Embeds L from into sending)
embeds_exists {L} from into sending C = ⊎_elim
    (λ (E, h). ⊎_elim
    (λ (F, k). let (reply, M, a) = embeds_field_exists sending C (record { source = h.within; target = k.within }) in
    (reply, M, Embeds.known h k a))
    (λ free. (Refused (UnknownField into), L, Embeds.unknown_target h free))
    (named_or_free L into))
    (λ free. (Refused (UnknownField from), L, Embeds.unknown_source free))
    (named_or_free L from)

-- **each request to a compatible lattice has a reply**
pub reply_exists : RequestHasReply
reply_exists L (Declare name p f) C proper = declares_exists name p f C proper
reply_exists L (Embed from into sending) C proper = embeds_exists from into sending C
reply_exists L Sync C proper = (Synced, L, (refl, refl))
