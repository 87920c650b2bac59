use Rattle.alg_model.specs.Coefficients.{mod_ops}
use Rattle.alg_model.specs.Polynomials.{product}
use Rattle.ff_poly.proofs.Convolutions.{product_cut}
use Rattle.ff_poly.proofs.products.product_in.Goals as goal

pub returns-clause-product : goal.returns-clause-product
returns-clause-product g c =
    let p = c.args.p in
    c.poly_of_places.ensures.coefficients (product (mod_ops p) c.args.a.now c.args.b.now)
    (product_cut p c.saturating_sub-len.result c.args.a.now c.args.b.now c.product_places-places.result c.saturating_sub-len.ensures c.product_places-places.ensures.places)
