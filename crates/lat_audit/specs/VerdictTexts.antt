-- The lines that are printed of a text that is judged.
--     verdict_text v           the line of a verdict; there is none where memory was refused
--     dump_too_long_text n     the line for a text that has more bytes than this limit
use Rattle.std.specs.Prelude.{ℕ, List, [], ◌∷◌, ◌++◌, codes, decimal}
use Rattle.lat_language.specs.Texts.{listed_text}
use Rattle.lat_audit.specs.declared.verdicts.AuditVerdict.{AuditVerdict}
use Rattle.lat_audit.specs.declared.verdicts.AuditVerdict.TheVariants.{Good, BadText, BadField, BadMap, BadRule, NoMemory}

-- each number stands behind a space
abbrev pub verdict_text : AuditVerdict → List ℕ
verdict_text (Good L) = codes "good\n"
verdict_text (BadText line) = codes "bad text" ++ listed_text (line ∷ []) ++ codes "\n"
verdict_text (BadField i) = codes "bad field" ++ listed_text (i ∷ []) ++ codes "\n"
verdict_text (BadMap i j) = codes "bad map" ++ listed_text (i ∷ j ∷ []) ++ codes "\n"
verdict_text (BadRule rule i j k) =
    codes "bad rule" ++ listed_text (rule ∷ i ∷ j ∷ k ∷ []) ++ codes "\n"
verdict_text NoMemory = []

abbrev pub dump_too_long_text : ℕ → List ℕ
dump_too_long_text limit = codes "bad dump longer than " ++ decimal limit ++ codes " bytes\n"
