-- Generated scripts are in the grammar and within the limits, and embed only fields that they declare.
use Rattle.lat_gen.proofs.GeneratedScripts.{generated_spells, generated_embeds}
use Rattle.lat_gen.proofs.GeneratedTexts.{generated_fits}
use Rattle.lat_gen.proofs.laws.generated_scripts.Goals as goal

pub returns-clause-spells : goal.returns-clause-spells
returns-clause-spells c = generated_spells

pub returns-clause-fits : goal.returns-clause-fits
returns-clause-fits c = generated_fits

pub returns-clause-embeds : goal.returns-clause-embeds
returns-clause-embeds c = generated_embeds
