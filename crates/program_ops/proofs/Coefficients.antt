-- The coefficients of x^p - x: how a row of zeros becomes them, and that they are those of a
-- polynomial over the residues.
use Rattle.std.specs.Prelude.{◌≡◌, ℕ, zero, suc, ◌+◌, ◌-◌, ◌<◌, List, [], ◌∷◌, ◌++◌, length, replicate, take, set, All}
use Rattle.std.proofs.Common.{refl, ap, ap₂, sym, subst, ◌∙◌, arith}
use Rattle.std.proofs.Math.Seq.{take-set-lt, take-suc-set}
use Rattle.std.proofs.lemmas.List.{take-replicate, length-replicate, length-set}
use Rattle.std.proofs.lemmas.List.Elements.{All-nil, All-cons, All-append, All-replicate}
use Rattle.alg_model.specs.Coefficients.{mod_ops}
use Rattle.alg_model.specs.Polynomials.{cons_trimmed, trim}
use Rattle.ff_poly.specs.Polynomial.{Polynomial}
use Rattle.program_ops.specs.Tables.{polynomial_over, artin_schreier}

-- the polynomial over p with the coefficients for p
pub polynomial_is : (f : Polynomial) (c : ℕ → List ℕ) (p : ℕ) → f.prime ≡ p
    → f.coefficients ≡ c p → f ≡ polynomial_over c p
polynomial_is f c p d e = ap₂ (λ q g. record { prime = q; coefficients = g }) d e

module _ (p : ℕ) (l : 1 < p) where
  again : suc (suc (p - 2)) ≡ p
  again = omega (arith, l)

  -- p - 1 at place 1 and 1 at place p
  pub row_taken : (w : ℕ) → p < w
      → take (p + 1) (set (set (replicate w 0) 1 (p - 1)) p 1) ≡ artin_schreier p
  row_taken w h =
      let n : length (set (replicate w 0) 1 (p - 1)) ≡ w = length-set (replicate w 0) 1 (p - 1)
      ∙ length-replicate w 0 in
      let s : p + 1 ≡ suc p = omega arith in
      ap (λ k. take k (set (set (replicate w 0) 1 (p - 1)) p 1)) s
      ∙ take-suc-set (set (replicate w 0) 1 (p - 1)) p 1 (subst (λ k. p < k) (sym n) h)
      ∙ ap (λ r. r ++ (1 ∷ [])) (take-set-lt p (replicate w 0) 1 (p - 1) l
      ∙ ap (λ r. set r 1 (p - 1)) (take-replicate p w 0 (omega (arith, h))))
      ∙ ap (λ k. set (replicate k 0) 1 (p - 1) ++ (1 ∷ [])) (sym again)

  -- each is below p
  pub are_residues : All (λ x. x < p) (artin_schreier p)
  are_residues = All-cons (λ x. x < p) 0 ((p - 1) ∷ (replicate (p - 2) 0 ++ (1 ∷ [])))
      (omega (arith, l))
      (All-cons (λ x. x < p) (p - 1) (replicate (p - 2) 0 ++ (1 ∷ [])) (omega (arith, l))
      (All-append (λ x. x < p) (replicate (p - 2) 0) (1 ∷ [])
      (All-replicate (λ x. x < p) (p - 2) 0 (omega (arith, l)))
      (All-cons (λ x. x < p) 1 [] l (All-nil (λ x. x < p)))))

module _ (p : ℕ) where
  kept : (x n : ℕ) → cons_trimmed (mod_ops p) x (replicate n 0 ++ (1 ∷ []))
      ≡ x ∷ (replicate n 0 ++ (1 ∷ []))
  kept x zero = refl
  kept x (suc n) = refl

  power_kept : (n : ℕ) → trim (mod_ops p) (replicate n 0 ++ (1 ∷ [])) ≡ replicate n 0 ++ (1 ∷ [])
  power_kept zero = refl
  power_kept (suc n) = ap (cons_trimmed (mod_ops p) 0) (power_kept n) ∙ kept 0 n

  -- the last isn't 0
  pub trimmed_itself : trim (mod_ops p) (artin_schreier p) ≡ artin_schreier p
  trimmed_itself = ap (λ f. cons_trimmed (mod_ops p) 0 (cons_trimmed (mod_ops p) (p - 1) f))
      (power_kept (p - 2)) ∙ ap (cons_trimmed (mod_ops p) 0) (kept (p - 1) (p - 2))

-- what a function that writes the row knows of it
pub row_is : (p n w : ℕ) (zs : List ℕ) → n ≡ p → 1 < n → n < w → zs ≡ replicate w 0
    → take (p + 1) (set (set zs 1 (n - 1)) n 1) ≡ artin_schreier p
row_is p n w zs e l h z = ap (λ r. take (p + 1) (set (set r 1 (n - 1)) n 1)) z
    ∙ ap (λ k. take (k + 1) (set (set (replicate w 0) 1 (n - 1)) n 1)) (sym e)
    ∙ row_taken n l w h ∙ ap artin_schreier e

-- what stands before the zeros are residues
pub row_residues : (p n : ℕ) (row : List ℕ) → n ≡ p → 1 < n → take (p + 1) row ≡ artin_schreier p
    → All (λ x. x < p) (take (n + 1) row)
row_residues p n row e l t = subst (All (λ x. x < p))
    (sym t ∙ ap (λ k. take (k + 1) row) (sym e)) (are_residues p (subst (λ k. 1 < k) e l))

-- the polynomial with the row's coefficients
pub row_polynomial : (f : Polynomial) (p q n : ℕ) (row : List ℕ) → q ≡ p → n ≡ q
    → take (q + 1) row ≡ artin_schreier q → f.prime ≡ q
    → f.coefficients ≡ trim (mod_ops q) (take (n + 1) row) → f ≡ polynomial_over artin_schreier p
row_polynomial f p q n row d e t a b = polynomial_is f artin_schreier p (a ∙ d)
    (b ∙ ap (λ k. trim (mod_ops q) (take (k + 1) row)) e ∙ ap (trim (mod_ops q)) t
    ∙ trimmed_itself q ∙ ap artin_schreier d)
