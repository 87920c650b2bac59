-- A turn whose machine was lent is the same turn: what it keeps of its seat has one proof.
use Rattle.std.proofs.Common.{◌≡◌, Option}
use Rattle.std.proofs.Props.{props}
use base.Stored.{Coded-set}
use Rattle.atomic_table.specs.Seated.{TableId, table_id_coded}
use Rattle.atomic_table.specs.Table.{Me}
use Rattle.atomic_table.specs.declared.shared.Seat.{Seat}
use Rattle.std.specs.Borrow.{Bor}
use Rattle.lat_gate.specs.Seats.{IsHeld}
use Rattle.lat_gate.specs.Passes.{gate_id}
use Rattle.lat_gate.specs.declared.gate.Gate.{Gate}
use Rattle.lat_gate.specs.declared.turn.Turn.{Turn}
use Rattle.lat_gate.specs.declared.view.View.{View}

TableId-set : (a b : TableId) → IsProp (a ≡ b)
TableId-set = Coded-set table_id_coded

module _ {M E : Type 0} where
  IsHeld-prop : (m : Me (Option M) (View E)) → IsProp (IsHeld m)
  IsHeld-prop m = hlevel props

  abbrev turn : (gate : Bor (Gate M E)) (seat : Seat (Option M) (View E)) → M
      → seat.table_id ≡ gate_id gate.now → IsHeld seat.me → Turn M E
  turn gate seat x p q = record {
    gate = gate;
    seat = seat;
    machine = x;
    of_gate = p;
    held = q;
  }

  -- two turns of one seat with one machine are one
  pub same_turn : (gate : Bor (Gate M E)) (seat : Seat (Option M) (View E)) (x : M)
      (p p' : seat.table_id ≡ gate_id gate.now) (q q' : IsHeld seat.me)
      → turn gate seat x p q ≡ turn gate seat x p' q'
  same_turn gate seat x p p' q q' = λ i. turn gate seat x
      (TableId-set seat.table_id (gate_id gate.now) p p' i) (IsHeld-prop seat.me q q' i)
