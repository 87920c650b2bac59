-- A text spells a script exactly where its lines are the script's.
use Rattle.lat_language.proofs.TakenLines.{taken_lines}
use Rattle.lat_language.proofs.TextsOfScripts.{spelled_is_text, text_is_spelled}
use Rattle.lat_language.proofs.laws.spelled_texts.Goals as goal

pub returns-clause-texts : goal.returns-clause-texts
returns-clause-texts c = λ bytes script. (spelled_is_text bytes script, text_is_spelled bytes script)

pub returns-clause-taken : goal.returns-clause-taken
returns-clause-taken c = taken_lines
