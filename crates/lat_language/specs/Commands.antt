-- The commands of the language, each by the words of its line.
--     digits_text c, op_text op     how a coefficient list and an operation are written
--     Word, word_text w             a word of a command's line, and its bytes
--     IsWord w                      its operand is one of the grammar
--     form_of c                     the words of a command, one row a command
--     command_words c               their bytes
--     SpellsCommand words c         the words are those of the command
use Rattle.std.specs.Prelude.{◌≡◌, ℕ, ◌<◌, ◌^◌, List, [], ◌∷◌, map, All, codes, decimal}
use Rattle.std.specs.List.{join_with_byte}
use Rattle.lat_core.specs.Names.{IsDeclaredName, IsFieldName}
use Rattle.lat_core.specs.Digits.{AreDigits}
use Rattle.lat_language.specs.declared.commands.Op.{Op}
use Rattle.lat_language.specs.declared.commands.Op.TheVariants.{First, Second, Third}
use Rattle.lat_language.specs.declared.commands.Command.{Command}
use Rattle.lat_language.specs.declared.commands.Command.TheVariants as command

-- the numbers in decimal, joined by single commas; 44 is the comma
unfoldable pub digits_text : List ℕ → List ℕ
digits_text c = join_with_byte 44 (map decimal c)

abbrev pub op_text : Op → List ℕ
op_text First = codes "first"
op_text Second = codes "second"
op_text Third = codes "third"

-- a fixed word, or an operand: a declared name, a field word, a number below a bound, a coefficient
-- list, an operation
pub data Word : Type 0 where
  Fixed : List ℕ → Word
  Name : List ℕ → Word
  FieldWord : List ℕ → Word
  Number : ℕ → ℕ → Word
  Coefficients : List ℕ → Word
  Operation : Op → Word

-- the bytes of the word; a number is written in decimal
abbrev pub word_text : Word → List ℕ
word_text (Fixed text) = text
word_text (Name name) = name
word_text (FieldWord name) = name
word_text (Number bound n) = decimal n
word_text (Coefficients c) = digits_text c
word_text (Operation op) = op_text op

-- the operand is one of the grammar
abbrev pub IsWord : Word → Type 0
IsWord (Fixed text) = Unit {0}
IsWord (Name name) = IsDeclaredName name
IsWord (FieldWord name) = IsFieldName name
IsWord (Number bound n) = n < bound
IsWord (Coefficients c) = AreDigits c
IsWord (Operation op) = Unit {0}

-- the line of each command, word by word
abbrev pub form_of : Command → List Word
form_of (command.Field name p poly) =
    Fixed (codes "field") ∷ Name name ∷ Number (2 ^ 32) p ∷ Coefficients poly ∷ []
form_of (command.Embed from into) =
    Fixed (codes "embed") ∷ FieldWord from ∷ Fixed (codes "into") ∷ FieldWord into ∷ []
form_of (command.EmbedSending from into value image) =
    Fixed (codes "embed") ∷ FieldWord from ∷ Fixed (codes "into") ∷ FieldWord into
    ∷ Fixed (codes "sending") ∷ Name value ∷ Fixed (codes "to") ∷ Name image ∷ []
form_of command.Sync = Fixed (codes "sync") ∷ []
form_of (command.Let r field digits) =
    Fixed (codes "let") ∷ Name r ∷ FieldWord field ∷ Coefficients digits ∷ []
form_of (command.Add r left right) = Fixed (codes "add") ∷ Name r ∷ Name left ∷ Name right ∷ []
form_of (command.Mul r left right) = Fixed (codes "mul") ∷ Name r ∷ Name left ∷ Name right ∷ []
form_of (command.Inv r value) = Fixed (codes "inv") ∷ Name r ∷ Name value ∷ []
form_of (command.Pow r value exponent) =
    Fixed (codes "pow") ∷ Name r ∷ Name value ∷ Number (2 ^ 64) exponent ∷ []
form_of (command.Frob r value) = Fixed (codes "frob") ∷ Name r ∷ Name value ∷ []
form_of (command.Trace r value) = Fixed (codes "trace") ∷ Name r ∷ Name value ∷ []
form_of (command.Norm r value) = Fixed (codes "norm") ∷ Name r ∷ Name value ∷ []
form_of (command.Lift r value to) =
    Fixed (codes "lift") ∷ Name r ∷ Name value ∷ FieldWord to ∷ []
form_of (command.Apply r op value) =
    Fixed (codes "apply") ∷ Name r ∷ Operation op ∷ Name value ∷ []
form_of (command.Show value) = Fixed (codes "show") ∷ Name value ∷ []
form_of (command.Map from into) = Fixed (codes "map") ∷ FieldWord from ∷ FieldWord into ∷ []
form_of (command.Meet first second within) =
    Fixed (codes "meet") ∷ FieldWord first ∷ FieldWord second ∷ Fixed (codes "in")
    ∷ FieldWord within ∷ []
form_of (command.Common first second) =
    Fixed (codes "common") ∷ FieldWord first ∷ FieldWord second ∷ []
form_of (command.MinPoly value) = Fixed (codes "minpoly") ∷ Name value ∷ []
form_of (command.MinPolyOver value over) =
    Fixed (codes "minpoly") ∷ Name value ∷ Fixed (codes "over") ∷ FieldWord over ∷ []
form_of (command.List field) = Fixed (codes "list") ∷ FieldWord field ∷ []
form_of command.Count = Fixed (codes "count") ∷ []

-- the words of a command, in bytes
abbrev pub command_words : Command → List (List ℕ)
command_words c = map word_text (form_of c)

-- the words are those of the command, whose operands are those of the grammar
abbrev pub SpellsCommand : List (List ℕ) → Command → Type 0
SpellsCommand words c = (words ≡ command_words c) × All IsWord (form_of c)
