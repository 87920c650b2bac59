use Rattle.std.proofs.Common.{◌≡◌, ℕ, ◌+◌, ◌-◌, ◌%◌, ◌<◌, slice_index}
use Rattle.alg_model.specs.Values.{degree}
use Rattle.ff_poly.specs.declared.TheConstants.{MAX_DEGREE}
use Rattle.ff_residues.specs.SumRows.{IsRowOf}
use Rattle.ff_field.specs.PrivateTables.{IsTable, power_place}
use Rattle.ff_field.proofs.tables.power_rows.Given as goal

abbrev pub invariant-loop-i : goal.invariant-loop-i
invariant-loop-i l = record {
  table : IsTable l.p (degree l.f) l.i (λ i. power_place l.p l.f (degree l.f + i)) l.table;
  row : IsRowOf l.p MAX_DEGREE l.row;
  places : (k : ℕ) → k < degree l.f
      → slice_index l.row k ≡ power_place l.p l.f (degree l.f - 1 + l.i) k % l.p;
}
