-- What a program finds: a map where one is stored, and the choice as the first of the candidates.
use Rattle.std.proofs.Common.{◌≡◌, ◌↔◌, ℕ, ◌<◌, List, length, get_or, Option, Some, None, AllPairs, refl, sym, subst}
use Rattle.std.specs.Prelude.{MatchOption, IsTrue, is_some}
use Rattle.std.specs.Borrow.{Bor}
use Rattle.std.specs.List.{Contains}
use Rattle.std.specs.FinMap.{get}
use Rattle.alg_model.specs.Roots.{IsBefore}
use Rattle.alg_model.specs.Lattices.{Lattice, Stored}
use Rattle.alg_model.specs.Candidates.{IsCandidate, IsChoice}
use Rattle.alg_choices.proofs.Searching.{choice_from_list}
use Rattle.ff_embed.specs.SmallEmbeddings.{FieldMap}
use Rattle.lat_core.specs.SharedRows.{IsBetween}

-- what is found for two fields: none where no map is stored, and else the map
abbrev pub IsFound : Lattice → ℕ → ℕ → Option (Bor FieldMap) → Type 0
IsFound L i j r = MatchOption r (get L.maps (i, j) ≡ None)
    (λ e. Stored L i j e.now.images × IsBetween L.rows i j e.now)

-- there is one exactly where one is stored
pub stored_where_found : (L : Lattice) (i j : ℕ) (r : Option (Bor FieldMap)) → IsFound L i j r
    → IsTrue (is_some r) ↔ ((m : List (List ℕ)) × Stored L i j m)
stored_where_found L i j None none = (
  λ t. cc,
  λ (m, s). let e : get L.maps (i, j) ≡ Some m = s.found in cc,
)
stored_where_found L i j (Some e) (s, b) = (λ t. (e.now.images, s), λ x. refl)

-- it is stored, and goes from the one field to the other
pub found_is_stored : (L : Lattice) (i j : ℕ) (r : Option (Bor FieldMap)) (e : Bor FieldMap)
    → IsFound L i j r → r ≡ Some e → Stored L i j e.now.images × IsBetween L.rows i j e.now
found_is_stored L i j r e h is = subst (IsFound L i j) is h

-- the first of the rising list of the candidates is the choice
pub first_is_choice : {L : Lattice} {E F : ℕ} {sending : Option (List ℕ × List ℕ)}
    (vs : List (List ℕ)) (r : List ℕ) → AllPairs IsBefore vs
    → ((v : List ℕ) → Contains vs v ↔ IsCandidate L E F sending v) → 0 < length vs
    → r ≡ get_or vs 0 r → IsChoice L E F sending r
first_is_choice {L} {E} {F} {sending} vs r rising exactly filled is =
    subst (IsChoice L E F sending) (sym is) (choice_from_list vs rising exactly r filled)
