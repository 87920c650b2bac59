-- The laws, each from its lemma; the statements and what they say are in specs/Theorems.antt.
use Rattle.std.proofs.Common.{ℕ, ◌≤◌, List, length, Option, sym, subst}
use Rattle.alg_model.specs.Lattices.{Lattice, Row, IsRows, IsCompatible}
use Rattle.alg_model.specs.Candidates.{embedding_by, IsCandidate}
use Rattle.alg_model.specs.Filling.{AreRowsAfter}
use Rattle.alg_lattices.proofs.MissingDegrees as Theory
use Rattle.alg_compatible.specs.Theorems.{AreFields, EditionsAreEditions, OpeningIsCompatible, DeclaringKeepsCompatible, DeclaringKeepsRows, FillingKeepsCompatible, FillingKeepsRows, FillingIsByRules, PlainEmbeddingExists, ChoiceExists, ChoiceIsUnique, MissingDegreesExist, MissingDegreesAreUnique, AddedFieldsAreForced, AddedMapsAreForced, StoredPairChangesNothing, OpeningIsDetermined, DeclaringIsDetermined, FillingIsDetermined, FillingExists, OpeningExists, DeclaringExists}
use Rattle.alg_compatible.proofs.FiniteFields.{embedding_laws, frobenius_laws}
use Rattle.alg_compatible.proofs.Transfer.{lattice_decided, to_theory}
use Rattle.alg_compatible.proofs.Insertions.{to_list, from_list}
use Rattle.alg_compatible.proofs.Candidates.{to_candidate, plain_candidate}
use Rattle.alg_compatible.proofs.Choices as Choosing
use Rattle.alg_compatible.proofs.Filling.{Inserted}
use Rattle.alg_compatible.proofs.Filling as Filling
use Rattle.alg_compatible.proofs.Determined as Determined
use Rattle.alg_compatible.proofs.Existence as Existence
use Rattle.alg_compatible.proofs.Beginnings as Beginnings
use Rattle.alg_compatible.proofs.Editions as Editions
use Rattle.alg_compatible.proofs.Rules as Rules
use Rattle.alg_compatible.proofs.RowsAfter as RowsAfter
use Rattle.alg_compatible.proofs.Additions as Additions
use Rattle.alg_compatible.proofs.Declaring.{Declares}
use Rattle.alg_compatible.proofs.Declaring as Declaring

-- an insertion by a candidate
inserted : {L : Lattice} {rows : List Row} {E F : ℕ} {sending : Option (List ℕ × List ℕ)}
    {v : List ℕ}
    → IsCompatible L → AreFields L E F → IsCandidate L E F sending v → AreRowsAfter L E F rows
    → Inserted L E F (embedding_by L E F v) rows
inserted C A c R = record {
  before = C.rows;
  compatible = C.compatible;
  source = A.source;
  target = A.target;
  candidate = to_candidate C.rows A.source A.target c;
  after = R;
}

pub editions_law : EditionsAreEditions
editions_law = (Editions.first_is_edition, Editions.second_is_edition)

pub opening_law : OpeningIsCompatible
opening_law L e O =
    let R : IsRows L.edition L.rows = Editions.opening_rows e O in
    record { rows = R; compatible = Declaring.opening_is_compatible R O }

pub declaring_law : DeclaringKeepsCompatible
declaring_law L M row C R n D =
    let H : Declares L row M = record { rows = C.rows; compatible = C.compatible; finite = R.field; degree = n; is_declared = D } in
    (Declaring.declaring_compatible H, Declaring.declaring_grows H)

pub declaring_rows_law : DeclaringKeepsRows
declaring_rows_law L M row C R D names room = RowsAfter.declared_rows C.rows D R names room

pub filling_law : FillingKeepsCompatible
filling_law L M E F sending v C A c D =
    (Filling.filling_compatible (inserted C A c D.rows) D, Filling.filling_grows (inserted C A c D.rows) D)

pub filling_rows_law : FillingKeepsRows
filling_rows_law L M E F sending v C A c D room = subst (λ e. IsRows e M.rows) (sym D.edition)
    (RowsAfter.inserted_rows (inserted C A c D.rows) (subst (λ e. length M.rows ≤ e.room) D.edition room))

pub rules_law : FillingIsByRules
rules_law L rows E F sending v C A c R i k m = Rules.stored_by_rules (inserted C A c R)

pub plain_law : PlainEmbeddingExists
plain_law L E F C A e d = plain_candidate C.rows C.compatible E F A.source A.target e d

pub choice_law : ChoiceExists
choice_law L E F sending w C A c = Choosing.choice_exists L C.rows C.compatible E F A.source A.target sending c

pub choice_one_law : ChoiceIsUnique
choice_one_law L E F sending v w c d = Choosing.choice_one c d

pub missing_law : MissingDegreesExist
missing_law L E F C =
    let (ds, a) = Theory.missing_list embedding_laws frobenius_laws
    (to_theory L C.rows C.compatible) (lattice_decided L) E F in
    (ds, from_list a)

pub missing_one_law : MissingDegreesAreUnique
missing_one_law L E F ds es h k = Theory.missing_list_one ds es (to_list h) (to_list k)

pub fields_law : AddedFieldsAreForced
fields_law L M E F phi C K G chosen d m = Additions.fields_forced C.rows C.compatible K.rows K.compatible G chosen m

pub maps_law : AddedMapsAreForced
maps_law L N M E F sending v C A c D K G same chosen made =
    Additions.maps_forced (inserted C A c D.rows) D K.rows K.compatible G same chosen made

pub stored_pair_law : StoredPairChangesNothing
stored_pair_law L M E F sending v m C A c D h =
    let (rows, same) = Additions.stored_pair_changes_nothing (inserted C A c D.rows) D h in
    λ i. record { edition = D.edition i; rows = rows i; maps = Determined.same_maps M L same i }

pub opening_one_law : OpeningIsDetermined
opening_one_law = Determined.opening_one

pub declaring_one_law : DeclaringIsDetermined
declaring_one_law L M N row C P Q = Determined.declared_one C.rows M N P Q

pub filling_one_law : FillingIsDetermined
filling_one_law L M N E F phi P Q = Determined.filled_one M N P Q

pub filling_exists_law : FillingExists
filling_exists_law L E F sending v C A c =
    let (rows, R) = Existence.rows_exist C.rows C.compatible E F A.target (embedding_by L E F v) (to_candidate C.rows A.source A.target c) in
    Existence.lattice_filled (inserted C A c R)

pub opening_exists_law : OpeningExists
opening_exists_law = Beginnings.opening_exists

pub declaring_exists_law : DeclaringExists
declaring_exists_law L row C R = Beginnings.declared_exists C.rows C.compatible row R
