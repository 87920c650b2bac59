use Rattle.std.proofs.Common.{◌≡◌, ◌++◌, take}
use Rattle.std.specs.Prelude.{flat_map}
use Rattle.lat_language.specs.CanonicalText.{line_of, session_lines}
use Rattle.lat_language.proofs.printing.add_sessions.Given as goal

-- the lines of the sessions so far are appended
abbrev pub invariant-loop-session : goal.invariant-loop-session
invariant-loop-session l = l.out.items
    ≡ l.fn.out.items ++ flat_map line_of (flat_map session_lines (take l.session-index l.sessions))
