use Rattle.std.proofs.Common.{◌≡◌, ◌+◌, [], length}
use Rattle.lat_audit.specs.Readings.{map_place}
use Rattle.lat_audit.specs.PrivateReadings.{IsRising, Continues}
use Rattle.lat_audit.proofs.readings.read_images.Given as goal

-- as many images as the number says, in order, and the lines of the maps so far are read
abbrev pub invariant-loop-number : goal.invariant-loop-number
invariant-loop-number l = record {
  images : length l.images.items ≡ l.number;
  rising : IsRising l.images.items;
  read : Continues (map_place l.rows l.count []) (length l.rows + 4) l.initial.lines.text.now
      (map_place l.rows l.count l.images.items) (length l.rows + l.number + 4) l.lines.text.now;
}
