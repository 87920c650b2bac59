-- What was judged is what the content holds.
use Rattle.std.proofs.Common.{rules, ◌≡◌, ◌<◌, List, length, sym, subst, ◌∙◌}
use Rattle.std.specs.Prelude.{All}
use Rattle.alg_model.specs.Lattices.{Lattice, Row, IsCompatible}
use Rattle.lat_core.specs.declared.rows.MapRow.{MapRow}
use Rattle.lat_audit.specs.declared.faults.Fault.{Fault}
use Rattle.lat_audit.specs.declared.faults.Fault.TheVariants.{NoMemory as memory_fault}
use Rattle.lat_audit.specs.Readings.{Image, Content, lattice_of}
use Rattle.lat_audit.specs.Verdicts.{None, IsReducible, IsWrongImage}
use Rattle.lat_audit.specs.PrivateContents.{IsContent}
use Rattle.lat_audit.specs.PrivateFaults.{IsImage, FieldFault, MapFault, AreMapsOf}
use Rattle.lat_audit.specs.PrivateReadings.{IsRising}
use Rattle.lat_audit.specs.PrivateRules.{IsOfEdition, HoldsMaps, KeepsRules, RuleFault}
use Rattle.lat_audit.specs.PrivateTables.{lattice_with}
use Rattle.lat_audit.specs.PrivateVerdicts.{ContentFault}
use Rattle.lat_audit.specs.PrivateVerdicts.ContentFault.{bad_field, bad_map, bad_rule}
use Rattle.lat_audit.proofs.ContentFields.{are_images, images_rise}
use Rattle.lat_audit.proofs.ContentLattices.{maps_within, maps_rise, lattice_made, never_wrong, content_of_edition, content_holds_maps, content_compatible}
use Rattle.lat_audit.proofs.verdicts.lattice_of.Goals as goal

-- the maps of a content
maps_of : (c : Content) (rows : List Row) (images : List Image) (maps : List MapRow) → rows ≡ c.rows
    → images ≡ c.images → AreMapsOf rows images maps → AreMapsOf c.rows c.images maps
maps_of c rows images maps r i are =
    subst (λ (xs : List Image). AreMapsOf c.rows xs maps) i (subst (λ (rs : List Row). AreMapsOf rs images maps) r are)

map_fault : (c : Content) (rows judged : List Row) (images : List Image) (f : Fault) → rows ≡ c.rows
    → judged ≡ c.rows → images ≡ c.images → None (IsReducible rows) → MapFault judged images f
    → ContentFault c f
map_fault c rows judged images f r j i fields h = bad_map
    (subst (λ (rs : List Row). None (IsReducible rs)) r fields)
    (subst (λ (xs : List Image). MapFault c.rows xs f) i (subst (λ (rs : List Row). MapFault rs images f) j h))

-- its table, and that its fields and maps have no fault
record IsJudged (c : Content) (table : Lattice) : Type 0 where
  lattice : table ≡ lattice_of c
  fields : None (IsReducible c.rows)
  images : None (IsWrongImage c)

judged : (c : Content) → IsContent c → (rows fields own : List Row) (images : List Image) (maps : List MapRow)
    (table : Lattice) → rows ≡ c.rows → fields ≡ rows → own ≡ fields → images ≡ c.images
    → None (IsReducible rows) → AreMapsOf own images maps → table ≡ lattice_with fields maps
    → IsJudged c table
judged c is rows fields own images maps table r f o i none are e =
    let M = maps_of c own images maps (o ∙ f ∙ r) i are in
    record {
      lattice = e ∙ (λ k. lattice_with ((f ∙ r) k) maps) ∙ lattice_made c is maps M;
      fields = subst (λ (rs : List Row). None (IsReducible rs)) r none;
      images = never_wrong c is maps M;
    }

pub returns-in_err-fields : goal.returns-in_err-fields
returns-in_err-fields c =
    let held : Content = record { rows = c.args.content.now.rows.items; images = c.args.content.now.images.items } in
    let fault : ContentFault held c.in_err-fields.field-0.0 =
    bad_field (subst (λ (rs : List Row). FieldFault rs c.in_err-fields.field-0.0)
    c.as_slice.ensures.value c.in_err-fields.ensures) in
    search rules

pub judge_maps-requires-clause-images : goal.judge_maps-requires-clause-images
judge_maps-requires-clause-images c =
    let held : Content = record { rows = c.args.content.now.rows.items; images = c.args.content.now.images.items } in
    let rows : c.as_slice-2.result.now ≡ held.rows =
    c.as_slice-2.ensures.value ∙ c.in_ok-fields.ensures.0 ∙ c.as_slice.ensures.value in
    subst (λ (xs : List Image). All (IsImage c.as_slice-2.result.now) xs) (sym c.as_slice-3.ensures.value)
    (subst (λ (rs : List Row). All (IsImage rs) held.images) (sym rows) (are_images held c.requires))

pub judge_maps-requires-clause-rising : goal.judge_maps-requires-clause-rising
judge_maps-requires-clause-rising c =
    let held : Content = record { rows = c.args.content.now.rows.items; images = c.args.content.now.images.items } in
    subst IsRising (sym c.as_slice-3.ensures.value) (images_rise held c.requires)

pub returns-in_err-maps : goal.returns-in_err-maps
returns-in_err-maps c =
    let held : Content = record { rows = c.args.content.now.rows.items; images = c.args.content.now.images.items } in
    let fields : c.in_ok-fields.fields.items ≡ held.rows = c.in_ok-fields.ensures.0 ∙ c.as_slice.ensures.value in
    let fault : ContentFault held c.in_err-maps.field-0.0 =
    map_fault held c.as_slice.result.now c.as_slice-2.result.now c.as_slice-3.result.now c.in_err-maps.field-0.0
    c.as_slice.ensures.value (c.as_slice-2.ensures.value ∙ fields) c.as_slice-3.ensures.value
    c.in_ok-fields.ensures.1 c.in_err-maps.ensures in
    search rules

pub new-requires-clause-within : goal.new-requires-clause-within
new-requires-clause-within c =
    let held : Content = record { rows = c.args.content.now.rows.items; images = c.args.content.now.images.items } in
    let fields : c.in_ok-fields.fields.items ≡ held.rows = c.in_ok-fields.ensures.0 ∙ c.as_slice.ensures.value in
    let maps = maps_of held c.as_slice-2.result.now c.as_slice-3.result.now c.in_ok-maps.maps.items
    (c.as_slice-2.ensures.value ∙ fields) c.as_slice-3.ensures.value c.in_ok-maps.ensures in
    subst (λ (rs : List Row). All (λ (m : MapRow). (m.from < length rs) × (m.into < length rs)) c.in_ok-maps.maps.items)
    (sym fields) (maps_within held c.requires c.in_ok-maps.maps.items maps)

pub new-requires-clause-rising : goal.new-requires-clause-rising
new-requires-clause-rising c =
    let held : Content = record { rows = c.args.content.now.rows.items; images = c.args.content.now.images.items } in
    let fields : c.in_ok-fields.fields.items ≡ held.rows = c.in_ok-fields.ensures.0 ∙ c.as_slice.ensures.value in
    let maps = maps_of held c.as_slice-2.result.now c.as_slice-3.result.now c.in_ok-maps.maps.items
    (c.as_slice-2.ensures.value ∙ fields) c.as_slice-3.ensures.value c.in_ok-maps.ensures in
    maps_rise held c.requires c.in_ok-maps.maps.items maps

pub returns-in_err-table : goal.returns-in_err-table
returns-in_err-table c =
    let held : Content = record { rows = c.args.content.now.rows.items; images = c.args.content.now.images.items } in
    let fault : ContentFault held memory_fault = bad_field tt in
    search rules

pub judge_rules-requires-clause-edition : goal.judge_rules-requires-clause-edition
judge_rules-requires-clause-edition c =
    let held : Content = record { rows = c.args.content.now.rows.items; images = c.args.content.now.images.items } in
    let all : IsJudged held c.in_ok-table.table =
    judged held c.requires c.as_slice.result.now c.in_ok-fields.fields.items c.as_slice-2.result.now
    c.as_slice-3.result.now c.in_ok-maps.maps.items c.in_ok-table.table c.as_slice.ensures.value
    c.in_ok-fields.ensures.0 c.as_slice-2.ensures.value c.as_slice-3.ensures.value c.in_ok-fields.ensures.1
    c.in_ok-maps.ensures c.in_ok-table.ensures in
    subst IsOfEdition (sym all.lattice) (content_of_edition held c.requires all.fields all.images)

pub judge_rules-requires-clause-maps : goal.judge_rules-requires-clause-maps
judge_rules-requires-clause-maps c =
    let held : Content = record { rows = c.args.content.now.rows.items; images = c.args.content.now.images.items } in
    let all : IsJudged held c.in_ok-table.table =
    judged held c.requires c.as_slice.result.now c.in_ok-fields.fields.items c.as_slice-2.result.now
    c.as_slice-3.result.now c.in_ok-maps.maps.items c.in_ok-table.table c.as_slice.ensures.value
    c.in_ok-fields.ensures.0 c.as_slice-2.ensures.value c.as_slice-3.ensures.value c.in_ok-fields.ensures.1
    c.in_ok-maps.ensures c.in_ok-table.ensures in
    subst HoldsMaps (sym all.lattice) (content_holds_maps held c.requires all.fields all.images)

pub returns-in_err-judge_rules : goal.returns-in_err-judge_rules
returns-in_err-judge_rules c =
    let held : Content = record { rows = c.args.content.now.rows.items; images = c.args.content.now.images.items } in
    let all : IsJudged held c.in_ok-table.table =
    judged held c.requires c.as_slice.result.now c.in_ok-fields.fields.items c.as_slice-2.result.now
    c.as_slice-3.result.now c.in_ok-maps.maps.items c.in_ok-table.table c.as_slice.ensures.value
    c.in_ok-fields.ensures.0 c.as_slice-2.ensures.value c.as_slice-3.ensures.value c.in_ok-fields.ensures.1
    c.in_ok-maps.ensures c.in_ok-table.ensures in
    let fault : ContentFault held c.in_err-judge_rules.field-0.0 =
    bad_rule all.fields all.images (subst (λ (L : Lattice). RuleFault L c.in_err-judge_rules.field-0.0)
    all.lattice c.in_err-judge_rules.ensures) in
    search rules

pub into_lattice-requires : goal.into_lattice-requires
into_lattice-requires c =
    let held : Content = record { rows = c.args.content.now.rows.items; images = c.args.content.now.images.items } in
    let all : IsJudged held c.in_ok-table.table =
    judged held c.requires c.as_slice.result.now c.in_ok-fields.fields.items c.as_slice-2.result.now
    c.as_slice-3.result.now c.in_ok-maps.maps.items c.in_ok-table.table c.as_slice.ensures.value
    c.in_ok-fields.ensures.0 c.as_slice-2.ensures.value c.as_slice-3.ensures.value c.in_ok-fields.ensures.1
    c.in_ok-maps.ensures c.in_ok-table.ensures in
    subst IsCompatible (sym all.lattice) (content_compatible held c.requires all.fields all.images
    (subst KeepsRules all.lattice c.in_ok-judge_rules.ensures))

pub returns-in_err-into_lattice : goal.returns-in_err-into_lattice
returns-in_err-into_lattice c =
    let held : Content = record { rows = c.args.content.now.rows.items; images = c.args.content.now.images.items } in
    let fault : ContentFault held memory_fault = bad_field tt in
    search rules

pub returns : goal.returns
returns c =
    let held : Content = record { rows = c.args.content.now.rows.items; images = c.args.content.now.images.items } in
    let all : IsJudged held c.in_ok-table.table =
    judged held c.requires c.as_slice.result.now c.in_ok-fields.fields.items c.as_slice-2.result.now
    c.as_slice-3.result.now c.in_ok-maps.maps.items c.in_ok-table.table c.as_slice.ensures.value
    c.in_ok-fields.ensures.0 c.as_slice-2.ensures.value c.as_slice-3.ensures.value c.in_ok-fields.ensures.1
    c.in_ok-maps.ensures c.in_ok-table.ensures in
    let same : c.in_ok-into_lattice.field-0 ≡ lattice_of held = c.in_ok-into_lattice.ensures ∙ all.lattice in
    let compatible : IsCompatible (lattice_of held) =
    content_compatible held c.requires all.fields all.images
    (subst KeepsRules all.lattice c.in_ok-judge_rules.ensures) in
    (same, subst IsCompatible (sym same) compatible, all.fields, all.images)
