use Rattle.std.proofs.Common.{◌∙◌, subst}
use Rattle.alg_model.specs.Roots.{IsMinimalOver}
use Rattle.ff_minpoly.proofs.minimal.over_in.Goals as goal

pub returns : goal.returns
returns c =
    let a = c.args.a.now in
    let m = c.as_mut_slice.result.now in
    let g = c.by_images.result in
    subst (λ n. IsMinimalOver c.args.map.now.source c.args.map.now.target n a g)
    (c.as_mut_slice.ensures.value ∙ c.images_of-images.ensures.images)
    (subst (λ F. IsMinimalOver c.args.map.now.source F m a g) c.requires.target
    (subst (λ E. IsMinimalOver E c.args.target.now m a g) c.requires.source c.by_images.ensures))
