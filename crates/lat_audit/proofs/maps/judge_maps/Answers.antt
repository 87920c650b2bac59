-- One more map, and the first image that gives none.
use Rattle.std.proofs.Common.{ℕ, Option, ◌≡◌, [], ◌∷◌, ◌++◌, sym, ap, ◌∙◌, subst}
use Rattle.std.specs.Prelude.{MatchOption}
use Rattle.alg_model.specs.Lattices.{pair_cmp, field_at}
use Rattle.alg_model.specs.Candidates.{map_sending}
use Rattle.ff_embed.specs.SmallEmbeddings.{FieldMap}
use Rattle.lat_core.specs.SharedRows.{IsBetween}
use Rattle.lat_core.specs.declared.rows.MapRow.{MapRow}
use Rattle.lat_audit.specs.Verdicts.{IsFirst, IsWrongImage, IsGeneratorImage}
use Rattle.lat_audit.proofs.ReadMaps.{first_wrong, more_maps}
use Rattle.lat_audit.proofs.maps.judge_maps.Goals as goal

pub returns-in_default : goal.returns-in_default
returns-in_default c =
    let rows = c.args.fields.now in
    let e = c.image-item.result in
    let none = subst (λ (r : Option FieldMap). MatchOption r (¬ IsGeneratorImage rows e.0.0 e.0.1 e.1)
    (λ m. IsGeneratorImage rows e.0.0 e.0.1 e.1 × IsBetween rows e.0.0 e.0.1 m
    × (m.images ≡ map_sending (field_at rows e.0.0) (field_at rows e.0.1) e.1)))
    c.in_default.is c.in_ok-map.ensures in
    subst (λ (q : ℕ × ℕ). IsFirst pair_cmp (IsWrongImage (record { rows = rows; images = c.args.images.now })) q) (sym c.pair-from.ensures)
    (first_wrong rows c.args.images.now c.loop-image.image-index c.image-item.result c.loop-image-test.true c.image-item.is
    c.requires.rising c.loop-image.invariant.roots none)

pub loop-image-preserved : goal.loop-image-preserved
loop-image-preserved c =
    let rows = c.args.fields.now in
    let e = c.image-item.result in
    let found = subst (λ (r : Option FieldMap). MatchOption r (¬ IsGeneratorImage rows e.0.0 e.0.1 e.1)
    (λ m. IsGeneratorImage rows e.0.0 e.0.1 e.1 × IsBetween rows e.0.0 e.0.1 m
    × (m.images ≡ map_sending (field_at rows e.0.0) (field_at rows e.0.1) e.1)))
    c.in-Some.is c.in_ok-map.ensures in
    more_maps rows c.args.images.now c.loop-image.image-index c.image-item.result c.loop-image-test.true c.image-item.is
    c.loop-image.maps.items c.push.new.self.items (record { from = c.pair-from.result.0; into = c.pair-from.result.1; map = c.in-Some.map })
    c.loop-image.invariant
    (c.in_ok-push.ensures.items ∙ ap (λ (m : MapRow). c.loop-image.maps.items ++ m ∷ []) c.in_ok-of_stored.ensures)
    (ap (λ (p : ℕ × ℕ). p.0) c.pair-from.ensures) (ap (λ (p : ℕ × ℕ). p.1) c.pair-from.ensures)
    found.0 found.1 found.2
