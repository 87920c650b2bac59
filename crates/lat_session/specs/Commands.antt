-- What the words of a command name.
--     operands c              the variables that it reads, in the order of the words
--     field_words c           the fields that it looks up, in the order of the words
--     result_name c           the name under which it stores what it computes
--     request_of variables c  the change that it asks for
--     IsProperCommand c       it declares a field under a declared name, if it declares one
use Rattle.std.specs.Prelude.{ℕ, List, [], ◌∷◌, Option, Some, None}
use Rattle.std.specs.Option.{option_map, option_and_then}
use Rattle.std.specs.FinMap.{get}
use Rattle.lat_core.specs.declared.tagged.Sending.{Sending}
use Rattle.lat_core.specs.declared.requests.Request.{Request}
use Rattle.lat_core.specs.declared.requests.Request.TheVariants as requests
use Rattle.lat_core.specs.Names.{IsDeclaredName}
use Rattle.lat_language.specs.declared.commands.Command.{Command}
use Rattle.lat_language.specs.declared.commands.Command.TheVariants.{Field, Embed, EmbedSending, Sync, Let, Add, Mul, Inv, Pow, Frob, Trace, Norm, Lift, Apply, Show, Map, Meet, Common, MinPoly, MinPolyOver, Count}
use Rattle.lat_language.specs.declared.commands.Command.TheVariants as commands
use Rattle.lat_session.specs.Variables.{Variables}

-- the variables that are read
abbrev pub operands : Command → List (List ℕ)
operands (EmbedSending from into value image) = value ∷ image ∷ []
operands (Add result left right) = left ∷ right ∷ []
operands (Mul result left right) = left ∷ right ∷ []
operands (Inv result value) = value ∷ []
operands (Pow result value exponent) = value ∷ []
operands (Frob result value) = value ∷ []
operands (Trace result value) = value ∷ []
operands (Norm result value) = value ∷ []
operands (Lift result value to) = value ∷ []
operands (Apply result op value) = value ∷ []
operands (Show value) = value ∷ []
operands (MinPoly value) = value ∷ []
operands (MinPolyOver value over) = value ∷ []
operands _ = []

-- the fields that are looked up; those of a change are left to its request
abbrev pub field_words : Command → List (List ℕ)
field_words (Let result field digits) = field ∷ []
field_words (Lift result value to) = to ∷ []
field_words (Map from into) = from ∷ into ∷ []
field_words (Meet first second within) = first ∷ second ∷ within ∷ []
field_words (Common first second) = first ∷ second ∷ []
field_words (MinPolyOver value over) = over ∷ []
field_words (commands.List field) = field ∷ []
field_words _ = []

-- the name of the result
abbrev pub result_name : Command → Option (List ℕ)
result_name (Let result field digits) = Some result
result_name (Add result left right) = Some result
result_name (Mul result left right) = Some result
result_name (Inv result value) = Some result
result_name (Pow result value exponent) = Some result
result_name (Frob result value) = Some result
result_name (Trace result value) = Some result
result_name (Norm result value) = Some result
result_name (Lift result value to) = Some result
result_name (Apply result op value) = Some result
result_name _ = None

-- the values of two variables as a prescribed pair
abbrev pub sending_of : Variables → List ℕ → List ℕ → Option Sending
sending_of variables value image = option_and_then
    (λ v. option_map (λ w. record { value = v; image = w }) (get variables image))
    (get variables value)

-- the change; an embedding that names no variable where it should asks for none
abbrev pub request_of : Variables → Command → Option Request
request_of variables (Field name p poly) = Some (requests.Declare name p poly)
request_of variables (Embed from into) = Some (requests.Embed from into None)
request_of variables (EmbedSending from into value image) =
    option_map (λ s. requests.Embed from into (Some s)) (sending_of variables value image)
request_of variables Sync = Some requests.Sync
request_of variables _ = None

-- names that begin with `_` are the lattice's own
abbrev pub IsProperCommand : Command → Type 0
IsProperCommand (Field name p poly) = IsDeclaredName name
IsProperCommand _ = Unit {0}
