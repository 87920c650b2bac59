use Rattle.std.proofs.Common.{◌≡◌, ◌+◌, ◌-◌, ◌%◌, ◌<◌, ◌≤◌, All, length, take, slice_index, ap, ap₂, sym, ◌∙◌, subst, rules, arith, length-take, get_or-take}
use Rattle.alg_model.specs.Polynomials.{convolution}
use Rattle.alg_model.specs.Maps.{degree_of}
use Rattle.alg_rings.proofs.Residues.{nat_ops}
use Rattle.ff_residues.specs.SumRows.{residue_at, row_sum, shifted_sum}
use Rattle.ff_field.proofs.RowProducts.{shifted_is_product, product_by_rows}
use Rattle.ff_field.proofs.modulus.Modulus.product_row.Goals as goal

pub returns-clause-places : goal.returns-clause-places
returns-clause-places g c k l =
    let K = c.args.self.now in
    let p = c.args.self.now.characteristic in
    let n = degree_of c.args.self.now in
    let a = c.args.a.now in
    let b = c.args.b.now in
    let w = g.row.W in
    let list = c.between_zeros-list.result in
    let rows = c.rows.result.now in
    let hs = take (c.degree.result - 1) c.row-high.result in
    let m : k < w = omega (arith, c.requires.fits) in
    let la : length a ≤ w = omega (arith, c.requires.first.1, c.requires.fits) in
    let q1 : c.shifted_row-low.result.prime ≡ p = c.shifted_row-low.ensures.prime ∙ c.prime-p.ensures.value in
    let product_at : (j : _) → shifted_sum (length a) a list (w + j) ≡ convolution nat_ops a b j =
    λ j. shifted_is_product w j a b list la c.between_zeros-list.ensures.before c.between_zeros-list.ensures.digits in
    let low : residue_at c.shifted_row-low.result k ≡ convolution nat_ops a b k % p =
    c.shifted_row-low.ensures.sums k m ∙ ap₂ (λ s q. s % q) (product_at k) c.prime-p.ensures.value in
    let long : length hs ≡ n - 1 = length-take (c.degree.result - 1) c.row-high.result
    ∙ omega (arith, c.degree.ensures.value, c.row-high.ensures.len, c.requires.fits) in
    let high : (j : _) → j < n - 1 → slice_index hs j ≡ convolution nat_ops a b (n + j) % p =
    λ j h. let jw : j < w = omega (arith, c.requires.fits) in
    let jt : j < c.degree.result - 1 = omega (arith, c.degree.ensures.value) in
    let start : w + c.degree.result + j ≡ w + (n + j) = omega (arith, c.degree.ensures.value) in
    get_or-take (c.degree.result - 1) c.row-high.result j 0 jt ∙ c.row-high.ensures.row j
    ∙ c.shifted_row.ensures.sums j jw
    ∙ ap (λ i. shifted_sum (length a) a list i % c.prime-p.result) start
    ∙ ap₂ (λ s q. s % q) (product_at (n + j)) c.prime-p.ensures.value in
    c.row.ensures.row k ∙ c.add_rows.ensures.sums k m
    ∙ ap₂ (λ s q. (s + row_sum (length hs) hs rows k) % q) low q1
    ∙ sym (product_by_rows K c.prime-p.ensures.whole.finite rows c.rows.ensures a b c.requires.first
    c.requires.second hs long high k l)

pub shifted_row-requires : goal.shifted_row-requires
shifted_row-requires g c =
    let p = c.prime-p.result in
    let value = c.prime-p.ensures.value in
    let positive : 0 < p = omega (arith, c.number-number.ensures.small, c.number-number.ensures.value) in
    let factors : All (λ x. x < p) c.args.a.now =
    subst (λ q. All (λ x. x < q) c.args.a.now) (sym value) c.requires.first.0 in
    let residues : All (λ x. x < p) c.between_zeros-list.result =
    c.between_zeros-list.ensures.residues p positive
    (subst (λ q. All (λ x. x < q) c.args.b.now) (sym value) c.requires.second.0) in (
      search rules,
      (
        c.requires.width,
        (
          factors,
          (
            omega (arith, c.requires.first.1, c.requires.fits),
            (
              omega (arith, c.requires.fits, c.requires.width, c.degree.ensures.value),
              residues,
            ),
          ),
        ),
      ),
    )

pub shifted_row-low-requires : goal.shifted_row-low-requires
shifted_row-low-requires g c =
    let p = c.prime-p.result in
    let value = c.prime-p.ensures.value in
    let positive : 0 < p = omega (arith, c.number-number.ensures.small, c.number-number.ensures.value) in
    let factors : All (λ x. x < p) c.args.a.now =
    subst (λ q. All (λ x. x < q) c.args.a.now) (sym value) c.requires.first.0 in
    let residues : All (λ x. x < p) c.between_zeros-list.result =
    c.between_zeros-list.ensures.residues p positive
    (subst (λ q. All (λ x. x < q) c.args.b.now) (sym value) c.requires.second.0) in (
      search rules,
      (
        c.requires.width,
        (
          factors,
          (
            omega (arith, c.requires.first.1, c.requires.fits),
            (
              omega (arith, c.requires.fits, c.requires.width, c.degree.ensures.value),
              residues,
            ),
          ),
        ),
      ),
    )
