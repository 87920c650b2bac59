-- What a program must show to have filled a lattice of finite fields.
--     Shows L E F phi M      each map of M is one that phi adds or an old one, and each pair that can be reached has some map
use Rattle.std.proofs.Common.{◌≡◌, ◌↔◌, ℕ, List}
use Prim.Native.Nat.{◌∣◌}
use Rattle.alg_model.specs.Maps.{degree_of}
use Rattle.alg_model.specs.Lattices.{Lattice, Stored, field_at}
use Rattle.alg_model.specs.Filling.{IsMapInto, IsStoredAfter, IsFilled}
use Rattle.alg_lattices.specs.Filling as TheoryFilling
use Rattle.alg_lattices.proofs.Storing as Theory
use Rattle.alg_lattices.proofs.Filling.{setting}
use Rattle.alg_compatible.proofs.FiniteFields.{finite_fields, embedding_laws}
use Rattle.alg_compatible.proofs.Transfer.{lattice_decided, to_theory}
use Rattle.alg_compatible.proofs.Insertions.{insertion_of, from_into, to_stored}
use Rattle.alg_compatible.proofs.Filling.{Inserted, is_insertion, fields}

-- some map is stored for the pair
abbrev pub IsStoredPair : Lattice → ℕ → ℕ → Type 0
IsStoredPair M i k = (n : List (List ℕ)) × Stored M i k n

-- what the program shows of the maps of M
pub record Shows (L : Lattice) (E F : ℕ) (phi : List (List ℕ)) (M : Lattice) : Type 0 where
  pub only : {i k : ℕ} {m : List (List ℕ)} → Stored M i k m → IsStoredAfter L E F phi M.rows i k m
  pub old : {i k : ℕ} {m : List (List ℕ)} → Stored L i k m → IsStoredPair M i k
  -- two fields with maps into F, where the degrees divide
  pub members : {i j : ℕ} {a b : List (List ℕ)} → IsMapInto L E F phi M.rows i a
      → IsMapInto L E F phi M.rows j b
      → degree_of (field_at M.rows i) ∣ degree_of (field_at M.rows j) → IsStoredPair M i j
  -- and such a pair followed by an old map
  pub overfields : {i j k : ℕ} {a b m : List (List ℕ)} → IsMapInto L E F phi M.rows i a
      → IsMapInto L E F phi M.rows j b
      → degree_of (field_at M.rows i) ∣ degree_of (field_at M.rows j) → Stored L j k m
      → IsStoredPair M i k

-- **a lattice with the rows afterwards that shows this is filled**
pub filled_by_showing : {L : Lattice} {E F : ℕ} {phi : List (List ℕ)} {M : Lattice}
    → Inserted L E F phi M.rows → M.edition ≡ L.edition
    → Shows L E F phi M → IsFilled L E F phi M
filled_by_showing {L} {E} {F} {phi} {M} H e P = record { edition = e; rows = H.after; maps = (P.only, λ h. exactly.1 (to_stored (fields H) h)) }
  where
    shows : Theory.Shows finite_fields (insertion_of L E F phi M.rows) (Stored M)
    shows = record {
      only = λ h. to_stored (fields H) (P.only h);
      old = λ h. P.old h;
      members = λ (a, h) (b, k) d. P.members (from_into h) (from_into k) d;
      overfields = λ (a, h) (b, k) d n. P.overfields (from_into h) (from_into k) d n;
    }

    exactly : {i k : ℕ} {m : List (List ℕ)}
        → Stored M i k m ↔ TheoryFilling.IsStoredAfter finite_fields (insertion_of L E F phi M.rows) i k m
    exactly = Theory.stores_exactly (setting embedding_laws (to_theory L H.before H.compatible) (lattice_decided L) (is_insertion H)) shows
