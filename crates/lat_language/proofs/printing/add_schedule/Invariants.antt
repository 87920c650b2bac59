use Rattle.std.proofs.Common.{◌≡◌, ◌∷◌, ◌++◌, map}
use Rattle.std.specs.Prelude.{codes, flat_map}
use Rattle.std.specs.List.{range_with_len}
use Rattle.std.specs.Fork.{slice_chunk}
use Rattle.lat_language.specs.declared.scripts.TheConstants.{SCHEDULE_NAMES}
use Rattle.lat_language.specs.CanonicalText.{line_of, name_at}
use Rattle.lat_language.proofs.printing.add_schedule.Given as goal

-- the lines so far are appended
abbrev pub invariant-loop-n : goal.invariant-loop-n
invariant-loop-n l = l.out.items ≡ l.fn.out.items
    ++ flat_map line_of (map (λ n. codes "schedule" ∷ slice_chunk (map (name_at l.sessions) l.places) SCHEDULE_NAMES n) (range_with_len 0 l.n))
