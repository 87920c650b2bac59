-- How the closure is found. No public clause cites this module.
--     IsCommon s d g      g is the greatest common divisor of the members that d divides, or 0
use Rattle.std.specs.Prelude.{◌≡◌, ◌⊎◌, ℕ, List, Bool}
use Rattle.std.specs.Int.{◌∣◌}
use Rattle.ff_meet.specs.Degrees.{Holds, InClosure}

pub record IsCommon (s : List Bool) (d g : ℕ) : Type 0 where
  pub divides : (e : ℕ) → Holds s e → d ∣ e → g ∣ e
  pub greatest : (c : ℕ) → ((e : ℕ) → Holds s e → d ∣ e → c ∣ e) → c ∣ g
  pub made : (g ≡ 0) ⊎ InClosure s g
