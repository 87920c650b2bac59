-- Polynomials over a field F whose roots are the values to which the generator of a field E may be
-- sent.
--     Extends E F sub into v         sending the generator of E to v is an embedding which, after
--                                    sub, is into
--     IsRestriction E F sub into g   g is zero at a value exactly if it extends so
--     prescription F a b             the digits of a as coefficients, less b
--     IsPrescription E F a b g       g is zero at a value exactly if sending the generator of E to
--                                    it sends a to b
use Rattle.std.specs.Prelude.{◌≡◌, ◌↔◌, ℕ, List}
use Rattle.alg_model.specs.Polynomials.{trim, evaluate}
use Rattle.alg_model.specs.Maps.{Field, field_values, generator, constants, apply, comp, IsEmbedding}
use Rattle.alg_model.specs.Candidates.{map_sending}
use Rattle.alg_fields.specs.Fixed.{less_constant}

-- sub is a map into E, and into one from the same field into F
pub record Extends (E F : Field) (sub into : List (List ℕ)) (v : List ℕ) : Type 0 where
  pub embedding : IsEmbedding E F (map_sending E F v)
  pub generator : apply F (map_sending E F v) (generator E) ≡ v
  pub followed : comp F sub (map_sending E F v) ≡ into

-- g, with coefficients in F, is zero exactly at the values that extend `into` along `sub`
pub record IsRestriction (E F : Field) (sub into : List (List ℕ)) (g : List (List ℕ)) : Type 0 where
  pub exactly : (v : List ℕ) → (field_values F).Valid v
      → (evaluate (field_values F).ops g v ≡ (field_values F).ops.zero) ↔ Extends E F sub into v

-- a_0 + a_1 x + .. less b, for the digits a_0, a_1, .. of a value a
abbrev pub prescription : Field → List ℕ → List ℕ → List (List ℕ)
prescription F a b =
    less_constant (field_values F).ops (trim (field_values F).ops (constants F a)) b

-- g, with coefficients in F, is zero exactly at the values whose maps send a to b
pub record IsPrescription (E F : Field) (a b : List ℕ) (g : List (List ℕ)) : Type 0 where
  pub exactly : (v : List ℕ) → (field_values F).Valid v
      → (evaluate (field_values F).ops g v ≡ (field_values F).ops.zero)
      ↔ (apply F (map_sending E F v) a ≡ b)
