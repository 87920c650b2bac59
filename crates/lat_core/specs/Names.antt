-- Names of fields.
--     IsNameByte b            a letter, a digit or `_`
--     IsDeclaredName text     a letter and then letters, digits or `_`, 1 to 32 bytes in all
--     IsMadeName text         `_` and a number from 0 to 199
--     IsFieldName text        one of the two
use Rattle.std.specs.Prelude.{◌≡◌, ◌⊎◌, ℕ, ◌<◌, List, [], ◌∷◌, length, All}
use Rattle.std.specs.Char.{IsAsciiAlphabetic, IsAsciiAlphanumeric}
use Rattle.alg_model.specs.Lattices.{made_name}
use Rattle.lat_core.specs.declared.TheConstants.{MAX_FIELDS}
use Rattle.lat_core.specs.declared.names.TheConstants.{MAX_NAME}

abbrev pub IsNameByte : ℕ → Type 0
IsNameByte b = IsAsciiAlphanumeric b ⊎ (b ≡ 95)

abbrev pub IsDeclaredName : List ℕ → Type 0
IsDeclaredName [] = ⊥
IsDeclaredName (b ∷ bs) = IsAsciiAlphabetic b × All IsNameByte bs × (length bs < MAX_NAME)

abbrev pub IsMadeName : List ℕ → Type 0
IsMadeName text = (n : ℕ) × (n < MAX_FIELDS) × (text ≡ made_name n)

abbrev pub IsFieldName : List ℕ → Type 0
IsFieldName text = IsDeclaredName text ⊎ IsMadeName text
