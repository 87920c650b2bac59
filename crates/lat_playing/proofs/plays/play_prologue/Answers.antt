-- The one player of a prologue plays all that it has.
use Rattle.std.proofs.Common.{◌∙◌, ap, [], ◌∷◌, ◌++◌}
use Rattle.lat_playing.proofs.PlayedScripts.{prologue_played}
use Rattle.lat_playing.proofs.plays.play_prologue.Goals as goal

pub returns-clause-played : goal.returns-clause-played
returns-clause-played g c =
    prologue_played _ c.args.book.now c.play_rest.new.book c.args.commands.now c.push.new.self.items c.play_rest.new.players.items c.in_ok-open_player.field-0
    c.requires.empty (c.in_ok-push.ensures.items ∙ ap (λ xs. xs ++ c.in_ok-open_player.field-0 ∷ []) c.new-players.ensures.items)
    c.in_ok-open_player.ensures.player c.in_ok-play_rest.ensures.advances
