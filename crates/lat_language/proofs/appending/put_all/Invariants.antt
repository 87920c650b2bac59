use Rattle.std.proofs.Common.{◌≡◌, ◌++◌, take}
use Rattle.lat_language.specs.PrivateAppending.{pieces_text}
use Rattle.lat_language.proofs.appending.put_all.Given as goal

-- the pieces so far are appended
abbrev pub invariant-loop-piece : goal.invariant-loop-piece
invariant-loop-piece l = l.out.items ≡ l.fn.out.items ++ pieces_text (take l.piece-index l.pieces)
