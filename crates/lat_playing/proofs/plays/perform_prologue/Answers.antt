-- The book and the lines of a prologue.
use Rattle.std.proofs.Common.{◌≡◌, ◌++◌, [], drop, ap, subst, slice_index_or}
use Rattle.lat_core.specs.Editions.{edition_of}
use Rattle.lat_history.specs.Books.{History}
use Rattle.lat_session.specs.Outcomes.{operations_of}
use Rattle.lat_playing.specs.PrivatePlays.{HasPrologue}
use Rattle.lat_playing.specs.PrivateTranscripts.{player_blocks}
use Rattle.lat_playing.proofs.PlayedScripts.{performs_prologue}
use Rattle.lat_playing.proofs.plays.perform_prologue.Goals as goal

pub returns : goal.returns
returns g c =
    performs_prologue _ (edition_of c.args.edition) c.in_ok-book.book c.args.script.now c.in_ok-players.players.items
    (record { book = c.play_prologue.new.book; lines = c.in_ok-lines.lines })
    (ap (λ (h : History). h.edition) c.in_ok-book.ensures) (ap (λ (h : History). h.room) c.in_ok-book.ensures)
    (subst (λ commands. HasPrologue (operations_of c.args.ops.now.first c.args.ops.now.second c.args.ops.now.third) c.in_ok-book.book commands c.play_prologue.new.book c.in_ok-players.players.items) c.items.ensures c.in_ok-players.ensures.played)
    (λ p. subst (λ players. c.in_ok-lines.lines.items ≡ (slice_index_or players 0 p).text.items ++ player_blocks [] (drop 1 players)) c.deref.ensures.value
    (c.in_ok-lines.ensures p))
