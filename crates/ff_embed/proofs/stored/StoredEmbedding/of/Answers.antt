use Rattle.std.proofs.Common.{ap, sym, ◌∙◌, subst}
use Rattle.ff_poly.specs.Polynomial.{Polynomial}
use Rattle.ff_matrix.specs.ModularMatrix.{ModularMatrix}
use Rattle.ff_embed.specs.PrivateMaps.{IsKept}
use Rattle.ff_embed.proofs.KeptMaps.{kept_at}
use Rattle.ff_embed.proofs.stored.StoredEmbedding.of.Goals as goal

pub invariant_of-result : goal.invariant_of-result
invariant_of-result c =
    let e = c.args.map.now in
    let m = c.images.result.now in
    let l = c.inverse.result.now in
    let kept : IsKept e m l = record {
      small = c.images.ensures.whole;
      matrix_prime = c.images.ensures.prime;
      matrix_rows = c.images.ensures.rows;
      inverse_prime = c.inverse.ensures.prime;
      inverse_rows = c.inverse.ensures.rows;
      back = c.inverse.ensures.back;
      undone = c.inverse.ensures.undone;
    } in
    let a = c.in_ok-of.field-0 in
    let b = c.in_ok-of-2.field-0 in
    kept_at e c.copy.result c.copy-2.result a b
    (ap (λ (f : Polynomial). f.prime) c.copy.ensures.same ∙ c.source_poly.ensures.prime)
    (ap (λ (f : Polynomial). f.coefficients) c.copy.ensures.same
    ∙ c.source_poly.ensures.coefficients)
    (ap (λ (f : Polynomial). f.prime) c.copy-2.ensures.same ∙ c.target_poly.ensures.prime)
    (ap (λ (f : Polynomial). f.coefficients) c.copy-2.ensures.same
    ∙ c.target_poly.ensures.coefficients)
    (ap (λ (x : ModularMatrix). x.matrix.columns) c.in_ok-of.ensures.same ∙ c.images.ensures.columns)
    (subst (λ x. IsKept e x b) (sym c.in_ok-of.ensures.same)
    (subst (IsKept e m) (sym c.in_ok-of-2.ensures.same) kept))
