-- The book and the lines of a play.
use Rattle.std.proofs.Common.{◌≡◌, ◌++◌, drop, ap, subst, slice_index_or}
use Rattle.lat_core.specs.Editions.{edition_of}
use Rattle.lat_history.specs.Books.{History}
use Rattle.lat_playing.specs.PrivateTranscripts.{player_blocks}
use Rattle.lat_playing.proofs.PlayedScripts.{performs}
use Rattle.lat_playing.proofs.plays.play_solo.Goals as goal

pub returns : goal.returns
returns g c =
    performs _ (edition_of c.args.edition) c.in_ok-book.book c.args.script.now c.in_ok-players.players.items
    (record { book = c.play_all.new.book; lines = c.in_ok-lines.lines })
    (ap (λ (h : History). h.edition) c.in_ok-book.ensures) (ap (λ (h : History). h.room) c.in_ok-book.ensures) c.in_ok-players.ensures
    (λ p. subst (λ players. c.in_ok-lines.lines.items ≡ (slice_index_or players 0 p).text.items ++ player_blocks c.args.script.now.sessions (drop 1 players)) c.deref.ensures.value
    (subst (λ sessions. c.in_ok-lines.lines.items ≡ (slice_index_or c.deref.result.now 0 p).text.items ++ player_blocks sessions (drop 1 c.deref.result.now)) c.items.ensures
    (c.in_ok-lines.ensures p)))
