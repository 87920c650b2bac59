use Rattle.std.proofs.Common.{◌≡◌, ◌∷◌, ◌++◌, take, map}
use Rattle.std.specs.Prelude.{codes}
use Rattle.std.specs.List.{join_with_byte}
use Rattle.lat_language.specs.CanonicalText.{name_at}
use Rattle.lat_language.proofs.printing.add_schedule_line.Given as goal

-- the names so far are appended behind the word
abbrev pub invariant-loop-place : goal.invariant-loop-place
invariant-loop-place l = l.out.items ≡ l.fn.out.items
    ++ join_with_byte 32 (codes "schedule" ∷ map (name_at l.sessions) (take l.place-index l.places))
