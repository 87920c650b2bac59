use Rattle.std.proofs.Common.{◌∙◌, sym}
use Rattle.alg_model.specs.Polynomials.{product}
use Rattle.alg_rings.proofs.Lists.{product_at}
use Rattle.alg_rings.proofs.Trims.{trim_at}
use Rattle.alg_rings.proofs.Residues.{poly_product_mod, convolution_mod}
use Rattle.alg_rings.proofs.convolution_law.Goals as goal

pub returns-clause-rings : goal.returns-clause-rings
returns-clause-rings g c = λ o R f h k. trim_at o R.zero_test (product o f h) k ∙ product_at R f h k

pub returns-clause-residues : goal.returns-clause-residues
returns-clause-residues g c = λ p f h k. poly_product_mod p f h k ∙ sym (convolution_mod p f h k)
