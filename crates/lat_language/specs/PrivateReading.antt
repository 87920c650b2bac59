-- How the words of a line are read. No public clause cites this module.
--     Spelled text word        the text is that of the word, which is one of the grammar
--     name_of text, ..         the operand that a text is, if it is one
--     verb_of text             the verb that a text is, if it is one
--     command_of words         the command that the words are, if they are one
use Rattle.std.specs.Prelude.{ℕ, ◌^◌, if◌then◌else◌, Option, Some, None, option_and_then, List, [], ◌∷◌, find, codes}
use Rattle.std.specs.Str.{bytes_eq}
use Rattle.lat_language.specs.declared.commands.Op.{Op}
use Rattle.lat_language.specs.declared.commands.Op.TheVariants.{First, Second, Third}
use Rattle.lat_language.specs.declared.commands.Command.{Command}
use Rattle.lat_language.specs.declared.commands.Command.TheVariants as command
use Rattle.lat_language.specs.declared.verbs.TheConstants.{VERBS}
use Rattle.lat_language.specs.declared.verbs.Verb.{Verb}
use Rattle.lat_language.specs.declared.verbs.Verb.TheVariants as verb
use Rattle.lat_language.specs.PrivateDecisions.{found, decide_name, decide_field_word, decide_number, decide_digits}

-- the operand that a text is, if it is one
unfoldable pub name_of : List ℕ → Option (List ℕ)
name_of text = found (decide_name text)

unfoldable pub field_of : List ℕ → Option (List ℕ)
field_of text = found (decide_field_word text)

unfoldable pub number_of : ℕ → List ℕ → Option ℕ
number_of bound text = found (decide_number text bound)

unfoldable pub digits_of : List ℕ → Option (List ℕ)
digits_of text = found (decide_digits text)

abbrev pub op_of : List ℕ → Option Op
op_of text =
    if bytes_eq text (codes "first") then Some First
    else if bytes_eq text (codes "second") then Some Second
    else if bytes_eq text (codes "third") then Some Third
    else None

-- whether a word is this one
abbrev pub fixed_of : List ℕ → List ℕ → Option (Unit {0})
fixed_of fixed text = if bytes_eq text fixed then Some tt else None

-- the first words of the commands
abbrev pub verb_text : Verb → List ℕ
verb_text verb.Field = codes "field"
verb_text verb.Embed = codes "embed"
verb_text verb.Sync = codes "sync"
verb_text verb.Let = codes "let"
verb_text verb.Add = codes "add"
verb_text verb.Mul = codes "mul"
verb_text verb.Inv = codes "inv"
verb_text verb.Pow = codes "pow"
verb_text verb.Frob = codes "frob"
verb_text verb.Trace = codes "trace"
verb_text verb.Norm = codes "norm"
verb_text verb.Lift = codes "lift"
verb_text verb.Apply = codes "apply"
verb_text verb.Show = codes "show"
verb_text verb.Map = codes "map"
verb_text verb.Meet = codes "meet"
verb_text verb.Common = codes "common"
verb_text verb.MinPoly = codes "minpoly"
verb_text verb.List = codes "list"
verb_text verb.Count = codes "count"

-- the verb with this text
abbrev pub verb_of : List ℕ → Option Verb
verb_of text = find (λ v. bytes_eq text (verb_text v)) VERBS

-- what is made of operands, where all of them are there
abbrev pub one : {A : Type 0} → (A → Command) → Option A → Option Command
one make (Some a) = Some (make a)
one make None = None

abbrev pub two : {A B : Type 0} → (A → B → Command) → Option A → Option B → Option Command
two make (Some a) b = one (make a) b
two make None b = None

abbrev pub three : {A B C : Type 0} → (A → B → C → Command) → Option A → Option B → Option C
    → Option Command
three make (Some a) b c = two (make a) b c
three make None b c = None

abbrev pub four : {A B C D : Type 0} → (A → B → C → D → Command) → Option A → Option B → Option C
    → Option D → Option Command
four make (Some a) b c d = three (make a) b c d
four make None b c d = None

-- what is made of operands, where a fixed word is there
abbrev pub behind : Option (Unit {0}) → Option Command → Option Command
behind (Some there) made = made
behind None made = None

-- the command of a verb and its operands, by their number
abbrev pub no_operands : Verb → Option Command
no_operands verb.Sync = Some command.Sync
no_operands verb.Count = Some command.Count
no_operands _ = None

abbrev pub one_operand : Verb → List ℕ → Option Command
one_operand verb.Show a = one command.Show (name_of a)
one_operand verb.MinPoly a = one command.MinPoly (name_of a)
one_operand verb.List a = one command.List (field_of a)
one_operand _ a = None

abbrev pub two_operands : Verb → List ℕ → List ℕ → Option Command
two_operands verb.Inv a b = two command.Inv (name_of a) (name_of b)
two_operands verb.Frob a b = two command.Frob (name_of a) (name_of b)
two_operands verb.Trace a b = two command.Trace (name_of a) (name_of b)
two_operands verb.Norm a b = two command.Norm (name_of a) (name_of b)
two_operands verb.Map a b = two command.Map (field_of a) (field_of b)
two_operands verb.Common a b = two command.Common (field_of a) (field_of b)
two_operands _ a b = None

-- `embed FIELD into FIELD`
abbrev pub embed_plain : List ℕ → List ℕ → List ℕ → Option Command
embed_plain a b c =
    behind (fixed_of (codes "into") b) (two command.Embed (field_of a) (field_of c))

-- `minpoly VAR over FIELD`
abbrev pub minpoly_over : List ℕ → List ℕ → List ℕ → Option Command
minpoly_over a b c =
    behind (fixed_of (codes "over") b) (two command.MinPolyOver (name_of a) (field_of c))

abbrev pub three_operands : Verb → List ℕ → List ℕ → List ℕ → Option Command
three_operands verb.Field a b c =
    three command.Field (name_of a) (number_of (2 ^ 32) b) (digits_of c)
three_operands verb.Embed a b c = embed_plain a b c
three_operands verb.Let a b c = three command.Let (name_of a) (field_of b) (digits_of c)
three_operands verb.Add a b c = three command.Add (name_of a) (name_of b) (name_of c)
three_operands verb.Mul a b c = three command.Mul (name_of a) (name_of b) (name_of c)
three_operands verb.Pow a b c =
    three command.Pow (name_of a) (name_of b) (number_of (2 ^ 64) c)
three_operands verb.Lift a b c = three command.Lift (name_of a) (name_of b) (field_of c)
three_operands verb.Apply a b c = three command.Apply (name_of a) (op_of b) (name_of c)
three_operands verb.MinPoly a b c = minpoly_over a b c
three_operands _ a b c = None

-- `meet FIELD FIELD in FIELD`
abbrev pub meet_in : List ℕ → List ℕ → List ℕ → List ℕ → Option Command
meet_in a b c d =
    behind (fixed_of (codes "in") c) (three command.Meet (field_of a) (field_of b) (field_of d))

abbrev pub four_operands : Verb → List ℕ → List ℕ → List ℕ → List ℕ → Option Command
four_operands verb.Meet a b c d = meet_in a b c d
four_operands _ a b c d = None

-- `embed FIELD into FIELD sending VAR to VAR`
abbrev pub embed_sending : List ℕ → List ℕ → List ℕ → List ℕ → List ℕ → List ℕ → List ℕ
    → Option Command
embed_sending a b c d e f g =
    behind (fixed_of (codes "into") b) (behind (fixed_of (codes "sending") d)
    (behind (fixed_of (codes "to") f)
    (four command.EmbedSending (field_of a) (field_of c) (name_of e) (name_of g))))

abbrev pub seven_operands : Verb → List ℕ → List ℕ → List ℕ → List ℕ → List ℕ → List ℕ → List ℕ
    → Option Command
seven_operands verb.Embed a b c d e f g = embed_sending a b c d e f g
seven_operands _ a b c d e f g = None

abbrev pub operands_of : List (List ℕ) → Verb → Option Command
operands_of [] v = no_operands v
operands_of (a ∷ []) v = one_operand v a
operands_of (a ∷ b ∷ []) v = two_operands v a b
operands_of (a ∷ b ∷ c ∷ []) v = three_operands v a b c
operands_of (a ∷ b ∷ c ∷ d ∷ []) v = four_operands v a b c d
operands_of (a ∷ b ∷ c ∷ d ∷ e ∷ []) v = None
operands_of (a ∷ b ∷ c ∷ d ∷ e ∷ f ∷ []) v = None
operands_of (a ∷ b ∷ c ∷ d ∷ e ∷ f ∷ g ∷ []) v = seven_operands v a b c d e f g
operands_of (a ∷ b ∷ c ∷ d ∷ e ∷ f ∷ g ∷ h ∷ more) v = None

-- the command that the words are, if they are one
abbrev pub command_of : List (List ℕ) → Option Command
command_of [] = None
command_of (first ∷ operands) = option_and_then (operands_of operands) (verb_of first)
