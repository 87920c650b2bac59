-- Laws of generated scripts, each under a name.
--     AreSizes fields embeds       as many fields and embeddings as there may be
--     GeneratedLimits              how many there may be, as numbers
--     GeneratedSpells              its canonical text spells a generated script,
--     GeneratedFits                and is no longer than a script may be
--     Declares commands name       one of the commands declares a field of this name
--     EmbedsDeclared commands c    a command embeds one field that they declare into another
--     GeneratedEmbeds              a generated script embeds only fields that it declares
use Rattle.std.specs.Prelude.{◌≡◌, ℕ, ◌<◌, ◌≤◌, List, length, All, Contains}
use Rattle.lat_language.specs.declared.commands.Command.{Command}
use Rattle.lat_language.specs.declared.commands.Command.TheVariants.{Field, Embed}
use Rattle.lat_language.specs.declared.scripts.SessionScript.{SessionScript}
use Rattle.lat_language.specs.declared.scripts.Script.{Script}
use Rattle.lat_language.specs.declared.scripts.TheConstants.{MAX_SCRIPT}
use Rattle.lat_language.specs.Grammar.{Spells}
use Rattle.lat_language.specs.CanonicalText.{canonical_text}
use Rattle.lat_gen.specs.declared.scripts.TheConstants.{MAX_GENERATED_FIELDS, MAX_GENERATED_EMBEDS}
use Rattle.lat_gen.specs.Generated.{generated}

-- at least one field, and no more fields and embeddings than there may be
abbrev pub AreSizes : ℕ → ℕ → Type 0
AreSizes fields embeds =
    (0 < fields) × (fields ≤ MAX_GENERATED_FIELDS) × (embeds ≤ MAX_GENERATED_EMBEDS)

-- how many there may be
abbrev pub GeneratedLimits : Type 0
GeneratedLimits = (MAX_GENERATED_FIELDS ≡ 180) × (MAX_GENERATED_EMBEDS ≡ 2000)

-- the generated script is in the grammar
abbrev pub GeneratedSpells : Type 0
GeneratedSpells = (seed fields embeds : ℕ) → AreSizes fields embeds
    → Spells (canonical_text (generated seed fields embeds)) (generated seed fields embeds)

-- its canonical text is no longer than a script may be
abbrev pub GeneratedFits : Type 0
GeneratedFits = (seed fields embeds : ℕ) → AreSizes fields embeds
    → length (canonical_text (generated seed fields embeds)) ≤ MAX_SCRIPT

-- one of the commands declares a field of this name
abbrev pub Declares : List Command → List ℕ → Type 0
Declares commands name = (p : ℕ) × (poly : List ℕ) × Contains commands (Field name p poly)

-- the command embeds one declared field into another
abbrev pub EmbedsDeclared : List Command → Command → Type 0
EmbedsDeclared prologue c = (from into : List ℕ) × (c ≡ Embed from into)
    × Declares prologue from × Declares prologue into

-- each command of a session embeds fields that the prologue declares
abbrev pub OnlyEmbedsDeclared : Script → Type 0
OnlyEmbedsDeclared script =
    All (λ (s : SessionScript). All (EmbedsDeclared script.prologue) s.commands) script.sessions

-- that is so for each generated script
abbrev pub GeneratedEmbeds : Type 0
GeneratedEmbeds = (seed fields embeds : ℕ) → AreSizes fields embeds
    → OnlyEmbedsDeclared (generated seed fields embeds)
