-- The editions of the lattice.
--     edition_of e     what the edition allows
use Rattle.alg_model.specs.Lattices as lattices
use Rattle.lat_core.specs.declared.editions.Edition.{Edition}
use Rattle.lat_core.specs.declared.editions.Edition.TheVariants.{One, Two}

-- its characteristics, its greatest degree, and room for 200 fields
abbrev pub edition_of : Edition → lattices.Edition
edition_of One = lattices.first_edition
edition_of Two = lattices.second_edition
