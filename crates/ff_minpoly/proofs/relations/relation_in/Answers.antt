use Rattle.std.proofs.Common.{◌≡◌, ℕ, ◌+◌, ◌*◌, ◌<◌, ◌≤◌, All, [], ◌∷◌, ◌++◌, length, slice_index, slice_index_or, refl, ap, sym, ◌∙◌, subst, arith}
use Rattle.std.proofs.lemmas.List.{get_or_default, length-append}
use Rattle.std.proofs.lemmas.List.Elements.{All-append, All-nil, All-cons}
use native.Mathlib.Nat.{zero-mul}
use Rattle.alg_model.specs.Coefficients.{power}
use Rattle.alg_model.specs.Maps.{Field, field_values, degree_of}
use Rattle.ff_residues.proofs.ResidueLists.{below_at}
use Rattle.ff_field.specs.SmallFields.{IsSmallField}
use Rattle.ff_poly.specs.declared.TheConstants.{MAX_DEGREE}
use Rattle.ff_minpoly.specs.declared.TheConstants.{MAX_ROW}
use Rattle.ff_polyx.proofs.FieldCarriers.{ring}
use Rattle.ff_minpoly.specs.PrivateSpans.{IsTable, IsSpan}
use Rattle.ff_minpoly.specs.PrivateRelations.{product_place}
use Rattle.ff_minpoly.proofs.Spans.{empty_span, reduced_same}
use Rattle.ff_minpoly.proofs.Products.{Grows, products_start, products_next, first_place_is, product_places, power_reduced, power_grows, relation_found}
use Rattle.ff_minpoly.proofs.relations.relation_in.Goals as goal

pub loop-j-init : goal.loop-j-init
loop-j-init g c =
    let K = c.args.field.now in
    let block = c.args.block.now in
    let R = ring K c.prime-p.ensures.whole in
    let none : 0 ≡ 0 * length block = sym (zero-mul (length block)) in
    let n = c.degree.result in
    let wide : n ≤ g.row.W = omega (arith, c.requires.width, c.degree.ensures.value) in
    record {
      room = subst (λ q. q ≤ degree_of K) none (omega arith);
      len = refl;
      table = subst (λ q. IsTable g.row.W c.prime-p.result n q c.args.rows.now c.new-pivots.result) none
          (subst (λ q. IsTable g.row.W c.prime-p.result n 0 c.args.rows.now q) (sym c.new-pivots.ensures)
          (subst (λ q. IsTable g.row.W q n 0 c.args.rows.now []) (sym c.prime-p.ensures.value)
          (record { rows_are = c.requires.rows; within = λ k d l. absurd (omega arith); few = omega arith })));
      span = subst (λ q. IsSpan g.row.W c.prime-p.result n q (product_place K block c.args.a.now) c.args.rows.now c.new-pivots.result) none
          (subst (λ q. IsSpan g.row.W c.prime-p.result n 0 (product_place K block c.args.a.now) c.args.rows.now q) (sym c.new-pivots.ensures)
          (empty_span g.row.W c.prime-p.result n (product_place K block c.args.a.now) c.args.rows.now wide));
      products = products_start K R block c.args.a.now c.requires.value c.requires.values c.requires.one c.requires.some;
      least = λ t l. absurd (omega arith);
    }

pub returns-in_default : goal.returns-in_default
returns-in_default g c =
    let K = c.args.field.now in
    let block = c.args.block.now in
    let a = c.args.a.now in
    let R = ring K c.prime-p.ensures.whole in
    let p = c.prime-p.result in
    let n = c.degree.result in
    let j = c.loop-j.j in
    let row = c.reduced-row.result in
    let S = c.loop-j.invariant.products in
    let first : c.digits.result.now ≡ slice_index_or c.loop-j.block 0 [] =
    c.digits.ensures.value
    ∙ get_or_default c.loop-j.block 0 c.index-block-0.result [] (omega (arith, S.count, c.requires.some)) in
    let long : length c.digits.result.now ≡ n =
    ap length first ∙ (S.values 0 [] (omega (arith, S.count, c.requires.some))).1 ∙ sym c.degree.ensures.value in
    let D = power_reduced K R block a c.requires.value c.requires.values c.requires.one c.requires.some
    g.row.W p n j c.loop-j.rows c.loop-j.pivots c.items.result.now c.digits.result.now row c.loop-j.block S
    c.items.ensures.value first long c.loop-j.invariant.span c.reduced-row.ensures.reduced in
    relation_found K block a g.row.W p n j c.loop-j.pivots row c.coefficients.result.items
    c.prime-p.ensures.value c.degree.ensures.value D (c.in_default.ensures.none refl)
    c.coefficients.ensures.count (c.coefficients.ensures.residues p c.reduced-row.ensures.row.1)
    c.coefficients.ensures.places c.loop-j.invariant.least

next : (j d : ℕ) → (j + 1) * d ≡ j * d + d
next j d = grind arith

positive : (K : Field) → IsSmallField K → (p : ℕ) → p ≡ K.characteristic → 0 < p
positive K W p e = let l : 1 < K.characteristic = W.finite.characteristic.above_one in omega arith

pub insert-requires : goal.insert-requires
insert-requires g c =
    let K = c.args.field.now in
    let block = c.args.block.now in
    let a = c.args.a.now in
    let R = ring K c.prime-p.ensures.whole in
    let p = c.prime-p.result in
    let n = c.degree.result in
    let j = c.loop-j.j in
    let row = c.reduced-row.result in
    let S = c.loop-j.invariant.products in
    let first : c.digits.result.now ≡ slice_index_or c.loop-j.block 0 [] =
    c.digits.ensures.value
    ∙ get_or_default c.loop-j.block 0 c.index-block-0.result [] (omega (arith, S.count, c.requires.some)) in
    let long : length c.digits.result.now ≡ n =
    ap length first ∙ (S.values 0 [] (omega (arith, S.count, c.requires.some))).1 ∙ sym c.degree.ensures.value in
    let D = power_reduced K R block a c.requires.value c.requires.values c.requires.one c.requires.some
    g.row.W p n j c.loop-j.rows c.loop-j.pivots c.items.result.now c.digits.result.now row c.loop-j.block S
    c.items.ensures.value first long c.loop-j.invariant.span c.reduced-row.ensures.reduced in
    let within : c.in-Some.pivot < n = c.in-Some.ensures.some.0 in
    let above : 0 < p = positive K c.prime-p.ensures.whole p c.prime-p.ensures.value in
    let G : Grows K block a j = power_grows K block a g.row.W p n j c.in-Some.pivot c.loop-j.rows c.loop-j.pivots row
    c.prime-p.ensures.value c.degree.ensures.value c.requires.dependent c.loop-j.invariant.least c.loop-j.invariant.span D
    within (below_at p row c.in-Some.pivot above c.reduced-row.ensures.row.1) c.in-Some.ensures.some.1 in
    let more : (j + 1) * length block ≡ j * length block + length block = next j (length block) in
    let few = c.loop-j.invariant.table.few in
    let fits : degree_of K ≤ MAX_DEGREE = c.prime-p.ensures.whole.fits in
    let wide = c.requires.width.1 in
    let narrow : g.row.W ≤ MAX_ROW = c.requires.width.0 in (
      omega (arith, narrow),
      (
        narrow,
        (
          c.loop-j.invariant.table.rows_are,
          (
            (
              omega (arith, more, G.room, few, c.requires.some, c.requires.height, c.loop-j.invariant.len),
              omega (arith, more, G.room, few, c.requires.some, fits),
            ),
            (
              c.reduced-row.ensures.row,
              (
                (
                  omega (arith, within, fits, c.degree.ensures.value),
                  omega (arith, within),
                  omega (arith, more, G.room, c.requires.some, c.degree.ensures.value, wide),
                ),
                c.in-Some.ensures.some.1,
              ),
            ),
          ),
        ),
      ),
    )

pub add_others-requires : goal.add_others-requires
add_others-requires g c =
    let K = c.args.field.now in
    let block = c.args.block.now in
    let a = c.args.a.now in
    let R = ring K c.prime-p.ensures.whole in
    let p = c.prime-p.result in
    let n = c.degree.result in
    let j = c.loop-j.j in
    let row = c.reduced-row.result in
    let S = c.loop-j.invariant.products in
    let first : c.digits.result.now ≡ slice_index_or c.loop-j.block 0 [] =
    c.digits.ensures.value
    ∙ get_or_default c.loop-j.block 0 c.index-block-0.result [] (omega (arith, S.count, c.requires.some)) in
    let long : length c.digits.result.now ≡ n =
    ap length first ∙ (S.values 0 [] (omega (arith, S.count, c.requires.some))).1 ∙ sym c.degree.ensures.value in
    let D = power_reduced K R block a c.requires.value c.requires.values c.requires.one c.requires.some
    g.row.W p n j c.loop-j.rows c.loop-j.pivots c.items.result.now c.digits.result.now row c.loop-j.block S
    c.items.ensures.value first long c.loop-j.invariant.span c.reduced-row.ensures.reduced in
    let within : c.in-Some.pivot < n = c.in-Some.ensures.some.0 in
    let above : 0 < p = positive K c.prime-p.ensures.whole p c.prime-p.ensures.value in
    let G : Grows K block a j = power_grows K block a g.row.W p n j c.in-Some.pivot c.loop-j.rows c.loop-j.pivots row
    c.prime-p.ensures.value c.degree.ensures.value c.requires.dependent c.loop-j.invariant.least c.loop-j.invariant.span D
    within (below_at p row c.in-Some.pivot above c.reduced-row.ensures.row.1) c.in-Some.ensures.some.1 in
    let more : (j + 1) * length block ≡ j * length block + length block = next j (length block) in
    let fits : degree_of K ≤ MAX_DEGREE = c.prime-p.ensures.whole.fits in
    let wide = c.requires.width.1 in
    let narrow : g.row.W ≤ MAX_ROW = c.requires.width.0 in
    let T = c.loop-j.invariant.table in
    let few : length c.loop-j.pivots ≤ c.loop-j.j * length c.args.block.now = T.few in
    let long : length (c.loop-j.pivots ++ c.in-Some.pivot ∷ []) ≡ length c.loop-j.pivots + 1 =
    length-append c.loop-j.pivots (c.in-Some.pivot ∷ []) in (
      omega (arith, narrow),
      (
        narrow,
        (
          (
            omega (arith, more, G.room, S.count, c.degree.ensures.value, wide),
            omega (arith, more, G.room, S.count, c.requires.height, c.loop-j.invariant.len, c.insert.ensures.len),
            omega (arith, more, G.room, S.count, fits),
          ),
          (
            omega (arith, c.degree.ensures.value, fits),
            (
              λ k d l. let v = c.loop-j.invariant.products.values k d l in (
                v.1 ∙ sym c.degree.ensures.value,
                subst (λ q. All (λ x. x < q) (slice_index_or c.loop-j.block k d)) (sym c.prime-p.ensures.value) v.0,
              ),
              (
                omega (arith, S.count, c.requires.some),
                record {
                  rows_are = c.insert.ensures.rows;
                  within = subst (All (λ x. x < n)) (sym c.insert.ensures.pivots)
                      (All-append (λ x. x < n) c.loop-j.pivots (c.in-Some.pivot ∷ []) T.within
                      (All-cons (λ x. x < n) c.in-Some.pivot [] c.in-Some.ensures.some.0 (All-nil (λ x. x < n))));
                  few = omega (arith, long, few, ap length c.insert.ensures.pivots);
                },
              ),
            ),
          ),
        ),
      ),
    )

pub loop-j-preserved : goal.loop-j-preserved
loop-j-preserved g c =
    let K = c.args.field.now in
    let block = c.args.block.now in
    let a = c.args.a.now in
    let R = ring K c.prime-p.ensures.whole in
    let p = c.prime-p.result in
    let n = c.degree.result in
    let j = c.loop-j.j in
    let row = c.reduced-row.result in
    let S = c.loop-j.invariant.products in
    let first : c.digits.result.now ≡ slice_index_or c.loop-j.block 0 [] =
    c.digits.ensures.value
    ∙ get_or_default c.loop-j.block 0 c.index-block-0.result [] (omega (arith, S.count, c.requires.some)) in
    let long : length c.digits.result.now ≡ n =
    ap length first ∙ (S.values 0 [] (omega (arith, S.count, c.requires.some))).1 ∙ sym c.degree.ensures.value in
    let D = power_reduced K R block a c.requires.value c.requires.values c.requires.one c.requires.some
    g.row.W p n j c.loop-j.rows c.loop-j.pivots c.items.result.now c.digits.result.now row c.loop-j.block S
    c.items.ensures.value first long c.loop-j.invariant.span c.reduced-row.ensures.reduced in
    let within : c.in-Some.pivot < n = c.in-Some.ensures.some.0 in
    let above : 0 < p = positive K c.prime-p.ensures.whole p c.prime-p.ensures.value in
    let G : Grows K block a j = power_grows K block a g.row.W p n j c.in-Some.pivot c.loop-j.rows c.loop-j.pivots row
    c.prime-p.ensures.value c.degree.ensures.value c.requires.dependent c.loop-j.invariant.least c.loop-j.invariant.span D
    within (below_at p row c.in-Some.pivot above c.reduced-row.ensures.row.1) c.in-Some.ensures.some.1 in
    let more : (j + 1) * length block ≡ j * length block + length block = next j (length block) in
    let m = j * length block in
    let w = g.row.W in
    let col = product_place K block a in
    let count : length c.loop-j.block ≡ length block = S.count in
    let total : m + length c.loop-j.block ≡ (j + 1) * length block = omega (arith, more, count) in
    let inserted : IsSpan w p n (m + 1) col c.insert.new.rows c.insert.new.pivots =
    c.insert.ensures.inserted n m col refl within c.loop-j.invariant.span
    (reduced_same w p n m col c.loop-j.pivots (slice_index (power (field_values K).ops a j)) (col m) (slice_index row)
    (λ k l. first_place_is K R block a c.requires.value c.requires.values c.requires.one c.requires.some j k) D) in
    record {
      room = G.room;
      len = c.add_others.ensures.len ∙ c.insert.ensures.len ∙ c.loop-j.invariant.len;
      table = subst (λ q. IsTable w p n q c.add_others.new.rows c.add_others.new.pivots) total
          c.add_others.ensures.table;
      span = subst (λ q. IsSpan w p n q col c.add_others.new.rows c.add_others.new.pivots) total
          (c.add_others.ensures.added col inserted
          (λ i k li lk. product_places K R block a c.requires.value c.requires.values c.requires.one c.requires.some
          j i k c.loop-j.block S (omega (arith, count))));
      products = products_next K R block a c.requires.value c.requires.values c.requires.one c.requires.some
          j c.loop-j.block c.multiply_all.new.block S c.multiply_all.ensures.len c.multiply_all.ensures.values
          c.multiply_all.ensures.products;
      least = G.least;
    }
