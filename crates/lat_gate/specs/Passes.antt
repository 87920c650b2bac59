-- What clauses say of gates, passes and turns.
--     gate_id g          which gate it is
--     known p            what the pass knows
--     IsPassOf g p       the pass is of this gate
--     pass_of t          what the pass knew that the turn was taken with
--     taken t            the history at the take
--     machine_of t       the machine
--     with_machine t x   the turn with another machine
use Rattle.std.specs.Prelude.{◌≡◌, List}
use Rattle.atomic_table.specs.Seated.{TableId}
use Rattle.lat_gate.specs.Steps.{held_log}
use Rattle.lat_gate.specs.Seats.{Known, known_of}
use Rattle.lat_gate.specs.declared.machine.Machine.{Ghosts}
use Rattle.lat_gate.specs.declared.gate.Gate.{Gate}
use Rattle.lat_gate.specs.declared.pass.Pass.{Pass}
use Rattle.lat_gate.specs.declared.turn.Turn.{Turn}

module _ {M E : Type 0} where
  -- which gate it is
  abbrev pub gate_id : Gate M E → TableId
  gate_id gate = gate.table.shared.table_id

  -- what the pass knew that the turn was taken with
  abbrev pub pass_of : Turn M E → Known E
  pass_of t = known_of t.seat.table_id t.seat.me.0

  -- the history at the take
  abbrev pub taken : Turn M E → List E
  taken t = held_log t.seat.me.0.hand

  -- the machine
  abbrev pub machine_of : Turn M E → M
  machine_of t = t.machine

  -- the turn with another machine
  abbrev pub with_machine : Turn M E → M → Turn M E
  with_machine t x = record t { machine = x }

module _ {M E : Type 0} {g : Ghosts M E} where
  -- what the pass knows
  abbrev pub known : Pass M E g → Known E
  known p = known_of p.seat.table_id p.seat.me.0

  -- the pass is of this gate
  abbrev pub IsPassOf : Gate M E → Pass M E g → Type 0
  IsPassOf gate p = p.seat.table_id ≡ gate_id gate
