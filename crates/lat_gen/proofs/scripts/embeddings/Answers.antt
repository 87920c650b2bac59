-- One embedding more, which goes to the position or not.
use Rattle.std.proofs.Common.{◌≡◌, ◌/◌, ◌%◌, [], ◌∷◌, ◌++◌, length, map, eqb, eq-eqb, sym, ap, ap₂, ◌∙◌, arith}
use Rattle.std.specs.Prelude.{filter}
use Rattle.std.specs.List.{range_with_len}
use Rattle.std.proofs.lemmas.Bool.{ne_eqb}
use Rattle.lat_gen.specs.PrivateDraws.{embedded_at, embedded_fields}
use Rattle.lat_gen.proofs.GeneratedCommands.{taken_more, passed_more}
use Rattle.lat_gen.proofs.scripts.embeddings.Goals as goal
use Rattle.lat_gen.proofs.scripts.embeddings.Goals.{then-k-position+in_ok-push, else-k-position}

pub loop-k-preserved : goal.loop-k-preserved
loop-k-preserved c = elim c.if-k-position.branch [
  | then-k-position+in_ok-push w ↦
      w.commands-is ∙ w.in_ok-push.ensures.ok ∙ ap₂ (λ cs x. cs ++ x ∷ []) c.loop-k.invariant w.embed.ensures
      ∙ sym (taken_more (embedded_at c.args.fields.now) (λ k. eqb (k % 4) c.args.position) c.loop-k.k (eq-eqb (c.loop-k.k % 4) c.args.position w.if-k-position.true))
  | else-k-position w ↦
      w.commands-is ∙ c.loop-k.invariant
      ∙ sym (passed_more (embedded_at c.args.fields.now) (λ k. eqb (k % 4) c.args.position) c.loop-k.k (ne_eqb (c.loop-k.k % 4) c.args.position w.if-k-position.false))
]

pub returns : goal.returns
unfolding embedded_fields
returns c =
    let test = c.loop-k-test.false in
    let end = c.loop-k.auto.k-end in
    let last : c.loop-k.k ≡ length c.args.fields.now / 2 = omega arith in
    c.loop-k.invariant ∙ ap (λ n. map (embedded_at c.args.fields.now) (filter (λ k. eqb (k % 4) c.args.position) (range_with_len 0 n))) last
