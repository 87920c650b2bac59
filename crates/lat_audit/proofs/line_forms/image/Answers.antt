-- The words of a line are those of one image.
use Rattle.std.proofs.Common.{true, false, refl, sym, subst}
use Rattle.lat_audit.specs.Dumps.{map_line}
use Rattle.lat_audit.specs.Readings as readings
use Rattle.lat_audit.specs.Readings.{IsNextImage}
use Rattle.lat_audit.specs.PrivateReadings.{ended}
use Rattle.std.proofs.Common.{◌≡◌}
use Rattle.lat_audit.proofs.ReadRows.{no_line, no_source, no_target, no_value, not_behind, image_read}
use Rattle.lat_audit.proofs.line_forms.image.Goals as goal

pub returns-in_default : goal.returns-in_default
returns-in_default c = no_line c.args.rows.now c.args.images.now c.args.line.now c.requires.rows c.in_default.ensures

pub returns-in_default-number_below : goal.returns-in_default-number_below
returns-in_default-number_below c = no_source c.args.rows.now c.args.images.now c.args.line.now c.in-Some.source.now c.in-Some.target.now c.in-Some.digits.now
    c.in-Some.ensures c.requires.rows c.in_default-number_below.ensures

pub returns-in_default-number_below-2 : goal.returns-in_default-number_below-2
returns-in_default-number_below-2 c = no_target c.args.rows.now c.args.images.now c.args.line.now c.in-Some.source.now c.in-Some.target.now c.in-Some.digits.now
    c.in-Some.ensures c.requires.rows c.in_default-number_below-2.ensures

pub returns-in_default-value : goal.returns-in_default-value
returns-in_default-value c = no_value c.args.rows.now c.args.images.now c.args.line.now c.in-Some.source.now c.in-Some.target.now c.in-Some.digits.now
    c.in-Some.ensures c.requires.rows c.in-Some-number_below-2.into c.row_at.result.now c.in-Some-number_below-2.ensures.0 c.in-Some-number_below-2.ensures.1
    c.row_at.ensures c.in_default-value.ensures

pub returns-then-rises : goal.returns-then-rises
returns-then-rises c = subst (λ (e : readings.Image). IsNextImage c.args.rows.now c.args.images.now e × (ended c.args.line.now ≡ map_line e.0 e.1)) (sym c.new.ensures)
    (image_read c.args.rows.now c.args.images.now c.args.line.now c.in-Some.source.now c.in-Some.target.now c.in-Some.digits.now
    c.in-Some.ensures c.requires.rows c.in-Some-number_below.from c.in-Some-number_below-2.into c.row_at.result.now c.in-Some-value.value
    c.in-Some-number_below.ensures.0 c.in-Some-number_below-2.ensures.0 c.in-Some-number_below.ensures.1 c.in-Some-number_below-2.ensures.1
    c.row_at.ensures c.in-Some-value.ensures.0 c.in-Some-value.ensures.1 (c.if-rises.ensures.0 refl))

pub returns-else-rises : goal.returns-else-rises
returns-else-rises c = not_behind c.args.rows.now c.args.images.now c.args.line.now c.in-Some.source.now c.in-Some.target.now c.in-Some.digits.now
    c.in-Some.ensures c.requires.rows c.in-Some-number_below.from c.in-Some-number_below-2.into
    c.in-Some-number_below.ensures.0 c.in-Some-number_below-2.ensures.0 c.in-Some-number_below.ensures.1 c.in-Some-number_below-2.ensures.1
    (λ all. let no : false ≡ true = c.if-rises.ensures.1 all in cc)
