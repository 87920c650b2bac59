-- One command more, and all of them.
use Rattle.std.proofs.Common.{◌≡◌, [], ◌∷◌, ◌++◌, length, map, sym, ap, ap₂, ◌∙◌, arith}
use Rattle.std.specs.Prelude.{slice_index_or}
use Rattle.std.specs.List.{range_with_len}
use Rattle.std.proofs.lemmas.List.FromFn.{map-range_with_len_more}
use Rattle.lat_gen.specs.Generated.{declaration}
use Rattle.lat_gen.specs.PrivateDraws.{declared_fields}
use Rattle.lat_gen.proofs.scripts.prologue.Goals as goal

pub loop-k-preserved : goal.loop-k-preserved
loop-k-preserved c =
    c.in_ok-push.ensures.ok ∙ ap₂ (λ cs x. cs ++ x ∷ []) c.loop-k.invariant c.declare.ensures
    ∙ sym (map-range_with_len_more (λ k. declaration k (slice_index_or c.args.polynomials.now k 0)) 0 c.loop-k.k c.loop-k.k (omega arith))

pub returns : goal.returns
unfolding declared_fields
returns c =
    let test = c.loop-k-test.false in
    let end = c.loop-k.auto.k-end in
    let last : c.loop-k.k ≡ length c.args.polynomials.now = omega arith in
    c.loop-k.invariant ∙ ap (λ n. map (λ k. declaration k (slice_index_or c.args.polynomials.now k 0)) (range_with_len 0 n)) last
