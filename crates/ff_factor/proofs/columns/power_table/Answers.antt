use Rattle.std.proofs.Common.{ℕ, List, ◌+◌, ◌-◌, [], ◌∷◌, length, map, get_or, All, sym, ◌∙◌, subst, refl, arith}
use Rattle.std.specs.List.{range_with_len}
use Rattle.std.proofs.lemmas.List.FromFn.{length-map-range_with_len, get_or-map-range_with_len}
use Rattle.std.proofs.lemmas.List.Elements.{All-from_get_or}
use Rattle.alg_model.specs.Coefficients.{mod_ops, residues}
use Rattle.alg_model.specs.Polynomials.{poly_power}
use Rattle.alg_model.specs.Values.{degree, remainder}
use Rattle.alg_model.specs.Matrices.{IsColumn}
use Rattle.ff_factor.proofs.PowersOfVariable.{power_column}
use Rattle.ff_factor.proofs.columns.power_table.Goals as goal

pub of_columns-requires-clause-residues : goal.of_columns-requires-clause-residues
of_columns-requires-clause-residues c =
    let f = c.args.f.now in
    let whole = c.prime.ensures.whole in
    let power : ℕ → List ℕ = λ j. remainder (mod_ops f.prime) f.coefficients (poly_power (mod_ops f.prime) (0 ∷ 1 ∷ []) j) in
    let v : All (IsColumn (residues f.prime) (length f.coefficients - 1)) (map power (range_with_len f.prime (degree f.coefficients))) =
    All-from_get_or (IsColumn (residues f.prime) (length f.coefficients - 1)) (map power (range_with_len f.prime (degree f.coefficients))) []
    (λ i l. power_column f whole c.requires.monic c.requires.not_constant (f.prime + i) (get_or (map power (range_with_len f.prime (degree f.coefficients))) i [])
    (get_or-map-range_with_len power f.prime (degree f.coefficients) i (f.prime + i) []
    (omega (arith, length-map-range_with_len power f.prime (degree f.coefficients))) refl)) in
    let columns = c.as_slice.ensures.value ∙ c.power_columns-columns.ensures.columns in
    subst (λ q. All (IsColumn (residues q) (length c.coefficients.result.now - 1)) c.as_slice.result.now) (sym c.prime.ensures.value)
    (subst (λ xs. All (IsColumn (residues f.prime) (length xs - 1)) c.as_slice.result.now) (sym c.coefficients.ensures.value)
    (subst (λ cs. All (IsColumn (residues f.prime) (length f.coefficients - 1)) cs) (sym columns) v))
