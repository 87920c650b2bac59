-- How a session keeps its variables. No public clause cites this module.
--     tagged_code, variables_code     how a proof tells values of these types apart
--     variables_of entries            the finite map of a table's entries
use Rattle.std.specs.Prelude.{ℕ, List, map, refl}
use Rattle.std.specs.FinMap.{from_entries, code}
use Rattle.std.specs.Coded.{Coded, code_by, coded×, coded_ℕ, coded_list}
use Rattle.arrayvec.specs.ArrayVec.{ArrayVec}
use Rattle.lat_core.specs.declared.tagged.Tagged.{Tagged}
use Rattle.lat_session.specs.Variables.{Variables}

abbrev pub tagged_code : Coded Tagged
tagged_code = code_by (ℕ × List ℕ) (coded× coded_ℕ (coded_list coded_ℕ)) (λ t. (t.field, t.value))
    (λ p. record { field = p.0; value = p.1 }) (λ _. refl)

abbrev pub variables_code : Coded Variables
variables_code = code (coded_list coded_ℕ) tagged_code

-- a name is kept as the list of its bytes
abbrev pub variables_of : List (ArrayVec ℕ × Tagged) → Variables
variables_of es = from_entries (map {B = List ℕ × Tagged} (λ e. (e.0.items, e.1)) es)
