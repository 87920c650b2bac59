-- A candidate is a root, and its embedding the one by which the lattice is filled.
use Rattle.std.proofs.Common.{◌≡◌, None, is_some, false, sym, ap, ap₂, ◌∙◌, subst}
use Rattle.alg_model.specs.Maps.{degree_of, constants, powers}
use Rattle.alg_model.specs.Roots.{IsRoot}
use Rattle.alg_model.specs.Lattices.{field_at}
use Rattle.alg_model.specs.Filling.{IsFilled}
use Rattle.lat_insert.proofs.Insertions.{candidate_root}
use Rattle.lat_insert.proofs.Replies.{if_all_three}
use Rattle.lat_insert.proofs.embedding.filled_by.Goals as goal

pub fill-requires-clause-candidate : goal.fill-requires-clause-candidate
fill-requires-clause-candidate c = (
  None,
  c.args.image.now,
  c.requires.candidate,
  c.in-Some.ensures.images
      ∙ ap₂ (λ K I. powers K c.args.image.now (degree_of I)) (ap (λ r. r.field) (c.target.view_is ∙ c.field-target.ensures.value))
      (ap (λ r. r.field) (c.source.view_is ∙ c.field-source.ensures.value)),
)

pub unreachable-requires : goal.unreachable-requires
unreachable-requires c =
    let root = candidate_root c.field-source.ensures.whole c.requires.fields c.requires.candidate in
    let moved = subst (λ I. IsRoot c.target.inside.field (constants c.target.inside.field I.polynomial) c.args.image.now)
    (sym (ap (λ r. r.field) (c.source.view_is ∙ c.field-source.ensures.value)))
    (subst (λ K. IsRoot K (constants K (field_at c.args.lattice.now.rows c.args.from).polynomial) c.args.image.now)
    (sym (ap (λ r. r.field) (c.target.view_is ∙ c.field-target.ensures.value))) root) in
    let found = c.of_root.ensures.some.1 moved in
    let missed : is_some c.of_root.result ≡ false = ap is_some c.in-None.is in
    cc

pub returns : goal.returns
returns c = if_all_three c.fill.result (λ f filled made linked. record {
  filled = subst (λ I. IsFilled c.args.lattice.now c.args.from c.args.into I f.lattice) (c.in-Some.ensures.images
      ∙ ap₂ (λ K I. powers K c.args.image.now (degree_of I)) (ap (λ r. r.field) (c.target.view_is ∙ c.field-target.ensures.value))
      (ap (λ r. r.field) (c.source.view_is ∙ c.field-source.ensures.value))) filled;
  made_count = (filled.rows.degrees, filled.rows.missing, sym (made filled.rows.degrees filled.rows.missing));
  linked_count = linked;
}) c.fill.ensures.filled c.fill.ensures.made c.fill.ensures.linked
