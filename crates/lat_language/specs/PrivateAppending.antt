-- What is appended to a text. No public clause cites this module.
use Rattle.std.specs.Prelude.{◌≡◌, ℕ, zero, suc, List, [], ◌∷◌, ◌++◌, flat_map, decimal}
use Rattle.lat_language.specs.Commands.{digits_text}
use Rattle.lat_language.specs.Texts.{values_text, listed_text}
use Rattle.lat_language.specs.declared.appending.Piece.{Piece}
use Rattle.lat_language.specs.declared.appending.Piece.TheVariants.{Text, Number, LongNumber, Numbers, Values, Listed}

-- what stands before the item at this place of a list
abbrev pub separator : ℕ → ℕ → List ℕ
separator byte zero = []
separator byte (suc place) = byte ∷ []

abbrev pub piece_text : Piece → List ℕ
piece_text (Text text) = text.now
piece_text (Number n) = decimal n
piece_text (LongNumber n) = decimal n
piece_text (Numbers c) = digits_text c.now
piece_text (Values values) = values_text values.now
piece_text (Listed numbers) = listed_text numbers.now

abbrev pub pieces_text : List Piece → List ℕ
pieces_text pieces = flat_map piece_text pieces

-- new is old with something appended
pub record Extends (old new : List ℕ) : Type 0 where
  pub part : List ℕ
  pub is : new ≡ old ++ part
