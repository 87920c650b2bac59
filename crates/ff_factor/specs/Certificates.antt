-- Berlekamp's criterion as a certificate: f of degree n is irreducible if it is coprime to its
-- derivative, and the map v -> v^p - v on the polynomials modulo f has rank n - 1.
--     berlekamp_column o p f k     x^(k p) - x^k modulo f, as a column of deg f places
--     berlekamp_matrix o p f       columns 1 to n - 1 of the matrix of v -> v^p - v on 1, x, ..,
--         x^(n - 1); column 0 is zero
--     HasShape f cert              the parts of cert are over the prime of f and of the right sizes
--     Certifies f cert             cert shows both
--     IsVerdict f v                irreducible with a certificate, or the least factor and its
--         cofactor: what `judge` says
use Rattle.std.specs.Prelude.{◌≡◌, ℕ, ◌-◌, ◌*◌, ◌≤◌, List, [], ◌∷◌, length, map}
use Rattle.std.specs.List.{range_with_len}
use Rattle.std.specs.Ordering.{nat_cmp}
use Rattle.alg_model.specs.Coefficients.{Ops, residues, mod_ops}
use Rattle.alg_model.specs.Factors.{IsIrreducible, IsLeastFactor}
use Rattle.alg_model.specs.Polynomials.{poly_power, poly_difference, poly_sum, poly_product, derivative}
use Rattle.alg_model.specs.Values.{degree, remainder}
use Rattle.alg_model.specs.Matrices.{Matrix, matrix_product, identity_matrix}
use Rattle.ff_poly.specs.Polynomial.{Polynomial}
use Rattle.ff_poly.specs.declared.TheConstants.{MAX_DEGREE}
use Rattle.ff_factor.specs.declared.certificates.Cert.{Cert}
use Rattle.ff_factor.specs.declared.verdicts.Verdict.{Verdict}
use Rattle.ff_factor.specs.declared.verdicts.Verdict.TheVariants.{Irreducible, Reducible}

module _ {A : Type 0} (o : Ops A) (p : ℕ) (f : List A) where
  abbrev pub berlekamp_column : ℕ → List A
  berlekamp_column k =
      let x = o.zero ∷ o.one ∷ [] in
      remainder o f (poly_difference o (poly_power o x (k * p)) (poly_power o x k))

  abbrev pub berlekamp_matrix : Matrix A
  berlekamp_matrix = record
      { rows = degree f; columns = map berlekamp_column (range_with_len 1 (degree f - 1)) }

pub record HasShape (f : Polynomial) (cert : Cert) : Type 0 where
  pub primes : (cert.u.prime ≡ f.prime) × (cert.w.prime ≡ f.prime) × (cert.left.prime ≡ f.prime)
  pub short : (length cert.u.coefficients ≤ MAX_DEGREE) × (length cert.w.coefficients ≤ MAX_DEGREE)
  pub columns : length cert.left.matrix.columns ≡ degree f.coefficients

pub record Certifies (f : Polynomial) (cert : Cert) : Type 0 where
  pub shape : HasShape f cert
  -- u * f + w * f' = 1
  pub separable : let o = mod_ops f.prime in
      poly_sum o (poly_product o cert.u.coefficients f.coefficients)
      (poly_product o cert.w.coefficients (derivative o f.coefficients)) ≡ 1 ∷ []
  -- left * matrix = identity
  pub left_inverse : let o = mod_ops f.prime in
      matrix_product o cert.left.matrix (berlekamp_matrix o f.prime f.coefficients)
      ≡ identity_matrix o (degree f.coefficients - 1)

abbrev pub IsVerdict : Polynomial → Verdict → Type 0
IsVerdict f (Irreducible cert) = IsIrreducible (residues f.prime) f.coefficients × Certifies f cert
IsVerdict f (Reducible factor cofactor) = (factor.prime ≡ f.prime) × (cofactor.prime ≡ f.prime)
    × IsLeastFactor (residues f.prime) nat_cmp f.coefficients factor.coefficients
    × (poly_product (mod_ops f.prime) factor.coefficients cofactor.coefficients ≡ f.coefficients)
