-- The embedding that a root gives.
use Rattle.std.proofs.Common.{rules, ◌≡◌, subst}
use Rattle.std.specs.Prelude.{IfSome}
use Rattle.alg_model.specs.Maps.{degree_of, powers}
use Rattle.alg_model.specs.Lattices.{field_at}
use Rattle.lat_audit.proofs.ReadMaps.{map_read}
use Rattle.lat_audit.proofs.maps.by_root.Goals as goal

pub returns : goal.returns
returns c =
    let e = c.args.image.now in
    let fields = c.args.fields.now in
    let from : c.field_of-from.result.now ≡ field_at fields e.0.0 = search rules in
    let into : c.field_of-into.result.now ≡ field_at fields e.0.1 = search rules in
    let one : c.field_of-from.result.now.characteristic ≡ c.field_of-into.result.now.characteristic = search rules in
    map_read fields e.0.0 e.0.1 e.1 c.field_of-from.result.now c.field_of-into.result.now c.of_root.result from into one
    (search rules) c.of_root.ensures.source c.of_root.ensures.target
    (subst (λ v. IfSome c.of_root.result (λ map. map.images ≡ powers c.field_of-into.result.now v (degree_of c.field_of-from.result.now)))
    c.value.ensures c.of_root.ensures.images)
