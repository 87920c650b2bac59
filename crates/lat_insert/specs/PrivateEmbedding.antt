-- What the steps of an insertion tell one another. No public clause cites this module.
--     AddsMaps L E F sending         embedding field E into field F adds maps
--     IsMissingCount L E F n         n degrees are missing
--     FillsBy L E F v M made linked  M is L filled by the map that sends the generator of E to v;
--                                    so many fields are made and pairs linked
use Rattle.std.specs.Prelude.{◌≡◌, ℕ, ◌+◌, List, length, Option}
use Rattle.alg_model.specs.Lattices.{Lattice}
use Rattle.alg_model.specs.Candidates.{embedding_by, AreMissing}
use Rattle.alg_model.specs.Filling.{IsFilled}
use Rattle.lat_core.specs.SharedRows.{map_count}
use Rattle.lat_core.specs.Step.{EmbedsField}
use Rattle.lat_core.specs.declared.tagged.Sending.{Sending}
use Rattle.lat_core.specs.declared.replies.Reply.{Reply}
use Rattle.lat_insert.specs.Insertions.{AddsToLattice}

abbrev pub AddsMaps : Lattice → ℕ → ℕ → Option Sending → Type 0
AddsMaps L E F sending = (reply : Reply) × (M : Lattice) × EmbedsField L E F sending reply M
    × AddsToLattice reply

abbrev pub IsMissingCount : Lattice → ℕ → ℕ → ℕ → Type 0
IsMissingCount L E F n = (degrees : List ℕ) × AreMissing L E F degrees × (length degrees ≡ n)

pub record FillsBy (L : Lattice) (E F : ℕ) (v : List ℕ) (M : Lattice) (made linked : ℕ) : Type 0
  where
    pub filled : IsFilled L E F (embedding_by L E F v) M
    pub made_count : IsMissingCount L E F made
    pub linked_count : map_count M ≡ map_count L + linked
