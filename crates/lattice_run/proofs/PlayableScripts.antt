-- A script that bytes spell can be played: its commands are proper, and there are not too many. So
-- can a generated script.
use Rattle.std.proofs.Common.{ℕ, List, [], ◌∷◌, ◌^◌, arith}
use Rattle.std.specs.Prelude.{All, codes}
use Rattle.std.proofs.lemmas.List.Elements.{All-head, All-tail, All-weaker}
use Rattle.lat_language.specs.declared.commands.Command.{Command}
use Rattle.lat_language.specs.declared.commands.Command.TheVariants as command
use Rattle.lat_language.specs.declared.scripts.Script.{Script}
use Rattle.lat_language.specs.declared.scripts.SessionScript.{SessionScript}
use Rattle.lat_language.specs.Commands.{Fixed, Name, Number, Coefficients, IsWord}
use Rattle.lat_language.specs.Grammar.{Spells}
use Rattle.lat_language.specs.CanonicalText.{canonical_text}
use Rattle.lat_language.proofs.SpelledScripts.{IsGrammatical, IsGrammaticalSession, spelled_printable}
use Rattle.lat_gen.specs.Generated.{generated}
use Rattle.lat_gen.specs.Theorems.{AreSizes}
use Rattle.lat_gen.proofs.GeneratedScripts.{generated_spells}
use Rattle.lat_session.specs.Commands.{IsProperCommand}
use Rattle.lat_playing.specs.Plays.{IsPlayable}

-- a command of the grammar declares a field under a declared name
proper_command : (c : Command) → IsGrammatical c → IsProperCommand c
proper_command (command.Field name p poly) h =
    All-head IsWord (Name name) (Number (2 ^ 32) p ∷ Coefficients poly ∷ [])
    (All-tail IsWord (Fixed (codes "field")) (Name name ∷ Number (2 ^ 32) p ∷ Coefficients poly ∷ []) h)
proper_command (command.Embed from into) h = tt
proper_command (command.EmbedSending from into value image) h = tt
proper_command command.Sync h = tt
proper_command (command.Let r field digits) h = tt
proper_command (command.Add r left right) h = tt
proper_command (command.Mul r left right) h = tt
proper_command (command.Inv r value) h = tt
proper_command (command.Pow r value exponent) h = tt
proper_command (command.Frob r value) h = tt
proper_command (command.Trace r value) h = tt
proper_command (command.Norm r value) h = tt
proper_command (command.Lift r value to) h = tt
proper_command (command.Apply r op value) h = tt
proper_command (command.Show value) h = tt
proper_command (command.Map from into) h = tt
proper_command (command.Meet first second within) h = tt
proper_command (command.Common first second) h = tt
proper_command (command.MinPoly value) h = tt
proper_command (command.MinPolyOver value over) h = tt
proper_command (command.List field) h = tt
proper_command command.Count h = tt

-- **what bytes spell can be played**
pub spelled_playable : (bytes : List ℕ) (script : Script) → Spells bytes script → IsPlayable script
spelled_playable bytes script h =
    let p = spelled_printable bytes script h in
    record {
      prologue = All-weaker IsGrammatical IsProperCommand proper_command script.prologue p.prologue;
      sessions = All-weaker IsGrammaticalSession (λ (s : SessionScript). All IsProperCommand s.commands)
          (λ s g. All-weaker IsGrammatical IsProperCommand proper_command s.commands g.commands) script.sessions p.sessions;
      few = omega (arith, p.room);
      few_sessions = p.few;
    }

-- **a generated script can be played**
pub generated_playable : (seed fields embeds : ℕ) → AreSizes fields embeds
    → IsPlayable (generated seed fields embeds)
generated_playable seed fields embeds sizes =
    spelled_playable (canonical_text (generated seed fields embeds)) (generated seed fields embeds)
    (generated_spells seed fields embeds sizes)
