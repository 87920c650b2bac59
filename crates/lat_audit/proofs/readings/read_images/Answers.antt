-- One more map.
use Rattle.std.proofs.Common.{rules, ◌≡◌, ◌+◌, [], ◌∷◌, ◌++◌, length, sym, subst, refl}
use Rattle.std.specs.Prelude.{All}
use Rattle.std.proofs.lemmas.List.Quantifiers.{all_pairs_push}
use Rattle.lat_audit.specs.Readings.{Image, map_place}
use Rattle.lat_audit.specs.PrivateReadings.{Stops, IsBefore, IsRising}
use Rattle.lat_audit.proofs.ReadLines.{more_images, no_more_images}
use Rattle.lat_audit.proofs.readings.read_images.Goals as goal

pub returns-in_err-image : goal.returns-in_err-image
returns-in_err-image c =
    let stop : Stops (map_place c.args.rows.now c.args.count []) (length c.args.rows.now + 4) c.args.lines.now.text.now c.in_err-image.field-0.0 =
    no_more_images c.args.rows.now c.args.count c.loop-number.number (length c.args.rows.now + c.loop-number.number + 4) c.loop-number.images.items c.as_slice.result.now c.args.lines.now.text.now c.loop-number.lines.text.now
    c.loop-number.invariant.images c.loop-number-test.true c.as_slice.ensures.value refl c.loop-number.invariant.read c.in_err-image.field-0.0 c.in_err-image.ensures in
    search rules

pub loop-number-preserved : goal.loop-number-preserved
loop-number-preserved c =
    let pushed : c.push.new.self.items ≡ c.loop-number.images.items ++ c.in_ok-image.image ∷ [] = c.in_ok-push.ensures.items in
    let counted = c.loop-number.invariant.images in
    let behind : All (λ (e : Image). IsBefore e.0 c.in_ok-image.image.0) c.loop-number.images.items =
    subst (λ s. All (λ (e : Image). IsBefore e.0 c.in_ok-image.image.0) s) c.as_slice.ensures.value c.in_ok-image.ensures.0.rising in
    record {
      images = search rules;
      rising = subst IsRising (sym pushed) (all_pairs_push (λ a b. IsBefore a.0 b.0) c.loop-number.images.items c.in_ok-image.image c.loop-number.invariant.rising behind);
      read = more_images c.args.rows.now c.args.count c.loop-number.number (length c.args.rows.now + c.loop-number.number + 4) c.loop-number.images.items c.as_slice.result.now c.args.lines.now.text.now c.loop-number.lines.text.now
          c.loop-number.invariant.images c.loop-number-test.true c.as_slice.ensures.value refl c.loop-number.invariant.read
          c.push.new.self.items c.in_ok-image.image c.read_image.new.lines.text.now pushed c.in_ok-image.ensures.1;
    }
