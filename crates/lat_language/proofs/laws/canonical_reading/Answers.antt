-- The canonical text spells its script.
use Rattle.lat_language.proofs.PrintedScripts.{canonical_spells}
use Rattle.lat_language.proofs.laws.canonical_reading.Goals as goal

pub returns : goal.returns
returns c = record { spells = canonical_spells }
