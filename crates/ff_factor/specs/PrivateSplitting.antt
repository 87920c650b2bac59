-- What the clauses of splitting and factoring speak of. Only contracts of functions that aren't
-- public cite this module.
--     IsFinding f s            a proper factor, or a certificate that there is none
--     IsNonzeroKernelColumn p m x     a column that isn't zero and that m sends to zero
--     IsLeastNegativeRoot p f c     c is the least residue with f(-c) = 0 modulo p
--     IsCofactor c f g q       f = q * g, both smaller than f
--     IsPowerOfVariable f k c  c are coefficients of x^(k p) modulo f, no more than deg f
--     ArePlacesOfPower f e xs  the numbers xs are the deg f coefficients of x^e modulo f
--     Collects f old new       the irreducible factors of f were put into an ordered list
use Rattle.std.specs.Prelude.{◌≡◌, ◌≢◌, ℕ, ◌+◌, ◌*◌, ◌<◌, ◌≤◌, List, [], ◌∷◌, length, All}
use Rattle.std.specs.List.Sorted.{IsSorted}
use Rattle.std.specs.Ordering.{nat_cmp}
use Rattle.alg_model.specs.Coefficients.{Carrier, residues, mod_ops}
use Rattle.alg_model.specs.Polynomials.{poly_product, poly_power, evaluate}
use Rattle.alg_model.specs.Values.{degree, remainder}
use Rattle.alg_model.specs.Factors.{IsPolynomial, IsMonic, IsProperFactor, IsIrreducible, order_by}
use Rattle.alg_model.specs.Matrices.{Matrix, IsColumn, matrix_apply, zero_column}
use Rattle.alg_divisors.specs.Factorization.{IsFactorization}
use Rattle.ff_poly.specs.Polynomial.{Polynomial}
use Rattle.ff_factor.specs.Certificates.{Certifies}
use Rattle.ff_factor.specs.FactorLists.{AreOver, coefficients_of}
use Rattle.ff_factor.specs.declared.splitting.Finding.{Finding}
use Rattle.ff_factor.specs.declared.splitting.Finding.TheVariants.{Irreducible, Divisor}

abbrev pub IsFinding : Polynomial → Finding → Type 0
IsFinding f (Irreducible cert) = Certifies f cert × IsIrreducible (residues f.prime) f.coefficients
IsFinding f (Divisor g) = (g.prime ≡ f.prime)
    × IsProperFactor (residues f.prime) f.coefficients g.coefficients

pub record IsNonzeroKernelColumn (p : ℕ) (m : Matrix ℕ) (x : List ℕ) : Type 0 where
  pub column : IsColumn (residues p) (length m.columns) x
  pub sent : matrix_apply (mod_ops p) m x ≡ zero_column (mod_ops p) m.rows
  pub not_zero : x ≢ zero_column (mod_ops p) (length m.columns)

pub record IsLeastNegativeRoot (p : ℕ) (f : List ℕ) (c : ℕ) : Type 0 where
  pub residue : c < p
  pub root : evaluate (mod_ops p) f ((mod_ops p).neg c) ≡ 0
  pub first : (d : ℕ) → d < c → evaluate (mod_ops p) f ((mod_ops p).neg d) ≢ 0

pub record IsCofactor {A : Type 0} (c : Carrier A) (f g q : List A) : Type 0 where
  pub polynomial : IsPolynomial c q
  pub monic : IsMonic c q
  pub not_constant : 1 < length q
  pub lengths : length q + length g ≡ length f + 1
  pub product : poly_product c.ops q g ≡ f

pub record IsPowerOfVariable (f : Polynomial) (k : ℕ) (c : List ℕ) : Type 0 where
  pub residues : All (λ x. x < f.prime) c
  pub short : length c ≤ degree f.coefficients
  pub power : let o = mod_ops f.prime in
      remainder o f.coefficients c
      ≡ remainder o f.coefficients (poly_power o (0 ∷ 1 ∷ []) (k * f.prime))

abbrev pub ArePlacesOfPower : Polynomial → ℕ → List ℕ → Type 0
ArePlacesOfPower f e xs = let o = mod_ops f.prime in
    xs ≡ remainder o f.coefficients (poly_power o (0 ∷ 1 ∷ []) e)

pub record Collects (f : Polynomial) (old new : List Polynomial) : Type 0 where
  pub primes : AreOver f.prime new
  pub grows : length old < length new
  pub room : length new + 1 ≤ length old + length f.coefficients
  pub sorted : IsSorted (order_by nat_cmp) (coefficients_of old)
      → IsSorted (order_by nat_cmp) (coefficients_of new)
  pub factors : (g : List ℕ) → IsPolynomial (residues f.prime) g
      → IsFactorization (residues f.prime) g (coefficients_of old)
      → IsFactorization (residues f.prime) (poly_product (mod_ops f.prime) f.coefficients g)
      (coefficients_of new)
