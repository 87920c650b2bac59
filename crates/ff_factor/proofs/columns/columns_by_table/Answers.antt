use Rattle.std.proofs.Common.{◌≡◌, ◌+◌, ◌-◌, ◌*◌, ◌≤◌, [], ◌∷◌, ◌++◌, length, replicate, map, ap, ap₂, sym, ◌∙◌, arith, subst, zero-mul}
use Rattle.std.specs.List.{range_with_len}
use Rattle.std.proofs.lemmas.List.FromFn.{map-range_with_len_more, length-map-range_with_len}
use Rattle.alg_model.specs.Coefficients.{mod_ops, residues}
use Rattle.alg_model.specs.Polynomials.{poly_power}
use Rattle.alg_model.specs.Values.{degree, remainder}
use Rattle.alg_model.specs.Matrices.{IsColumn}
use Rattle.ff_factor.specs.Certificates.{berlekamp_column}
use Rattle.ff_factor.proofs.PowersOfVariable.{places_of_one, power_column, power_from_remainder, next_column}
use Rattle.ff_factor.proofs.columns.columns_by_table.Goals as goal

pub loop-k-init : goal.loop-k-init
loop-k-init c =
    let f = c.args.f.now in
    let one : c.of_slice-power.result ≡ 1 ∷ replicate (degree f.coefficients - 1) 0 =
    c.of_slice-power.ensures ∙ c.deref.ensures.0 ∙ c.places_of_one.ensures ∙ ap (λ xs. 1 ∷ replicate (length xs - 1 - 1) 0) c.coefficients.ensures.value in
    record {
      last = one ∙ places_of_one f c.prime-prime.ensures.whole c.requires.monic c.requires.not_constant
          ∙ ap (λ e. remainder (mod_ops f.prime) f.coefficients (poly_power (mod_ops f.prime) (0 ∷ 1 ∷ []) e)) (sym (zero-mul f.prime));
      counted = ap length c.new-columns.ensures;
      columns = c.new-columns.ensures;
    }

pub apply-power-requires : goal.apply-power-requires
apply-power-requires c =
    let f = c.args.f.now in
    let t = c.power_table-table.ensures in
    let power = c.loop-k.power in
    let long : length c.power_table-table.result.matrix.columns ≡ degree f.coefficients = ap length t.columns
    ∙ length-map-range_with_len (λ j. remainder (mod_ops f.prime) f.coefficients (poly_power (mod_ops f.prime) (0 ∷ 1 ∷ []) j)) f.prime (degree f.coefficients) in
    subst (λ n. IsColumn (residues c.power_table-table.result.prime) n power) (sym long)
    (subst (λ q. IsColumn (residues q) (degree f.coefficients) power) (sym t.prime)
    (power_column f c.prime-prime.ensures.whole c.requires.monic c.requires.not_constant ((c.loop-k.k - 1) * f.prime) power c.loop-k.invariant.last))

pub gap_column-requires-clause-power : goal.gap_column-requires-clause-power
gap_column-requires-clause-power c =
    let f = c.args.f.now in
    let t = c.power_table-table.ensures in
    power_from_remainder f c.prime-prime.ensures.whole c.requires.monic c.requires.not_constant c.loop-k.k c.numbers.result.now
    (c.numbers.ensures.value
    ∙ next_column f c.prime-prime.ensures.whole c.requires.monic c.requires.not_constant c.loop-k.k c.power_table-table.result c.loop-k.power c.apply-power.result
    c.loop-k.auto.k t.prime t.rows t.columns c.loop-k.invariant.last c.apply-power.ensures.value)

pub loop-k-preserved : goal.loop-k-preserved
loop-k-preserved c =
    let f = c.args.f.now in
    let t = c.power_table-table.ensures in
    let column = berlekamp_column (mod_ops f.prime) f.prime f.coefficients in
    let k = c.loop-k.k in
    let first : 1 ≤ k = c.loop-k.auto.k in
    let more : k - 1 + 1 ≡ k + 1 - 1 = omega arith in
    let at : 1 + (k - 1) ≡ k = omega arith in
    let now : k ≡ k + 1 - 1 = omega arith in
    record {
      last = next_column f c.prime-prime.ensures.whole c.requires.monic c.requires.not_constant k c.power_table-table.result c.loop-k.power c.apply-power.result
          first t.prime t.rows t.columns c.loop-k.invariant.last c.apply-power.ensures.value
          ∙ ap (λ j. remainder (mod_ops f.prime) f.coefficients (poly_power (mod_ops f.prime) (0 ∷ 1 ∷ []) (j * f.prime))) now;
      counted = omega (arith, c.push.ensures.len, c.loop-k.invariant.counted);
      columns =
          c.push.ensures.items ∙ ap₂ (λ xs x. xs ++ x ∷ []) c.loop-k.invariant.columns c.gap_column.ensures.value
          ∙ sym (map-range_with_len_more column 1 (k - 1) k at) ∙ ap (λ j. map column (range_with_len 1 j)) more;
    }
