-- What the parts of a command that computes with one value have come to.
use Rattle.std.proofs.Common.{◌≡◌, ℕ, List, ◌∷◌, sym, ap, ◌∙◌, subst}
use Rattle.std.specs.Prelude.{Ok, Err}
use Rattle.alg_model.specs.Coefficients.{power}
use Rattle.alg_model.specs.Maps.{Field, field_values}
use Rattle.alg_model.specs.Lattices.{field_at}
use Rattle.lat_core.specs.declared.tagged.Tagged.{Tagged}
use Rattle.lat_core.specs.declared.outcomes.SessionRefusal.{SessionRefusal}
use Rattle.lat_core.specs.declared.outcomes.SessionRefusal.TheVariants.{UnknownVariable, ZeroInverse}
use Rattle.lat_core.specs.Histories.{Knowledge}
use Rattle.lat_language.specs.declared.commands.Op.{Op}
use Rattle.lat_language.specs.declared.commands.Command.{Command}
use Rattle.lat_language.specs.declared.commands.Command.TheVariants.{Inv, Pow, Frob, Apply}
use Rattle.lat_session.specs.Variables.{Variables, Holds, IsVariable}
use Rattle.lat_session.specs.Commands.{operands}
use Rattle.lat_session.specs.Outcomes.{IsFirstUnknown, tagged, Operations, Computes}
use Rattle.lat_session.specs.Outcomes.IsFirstUnknown.{here}
use Rattle.lat_session.specs.Outcomes.Inverts.{zero as no_inverse, value as inverted}
use Rattle.lat_session.specs.Outcomes.Computes.{of_inv, of_pow, of_frob, of_apply}
use Rattle.lat_session.specs.Playing.{FitSeen}
use Rattle.lat_session.specs.PrivatePlaying.{OverSeen, Results, ComesBy, ComesTo}
use Rattle.lat_session.specs.PrivatePlaying.IsUnknown.{variable}
use Rattle.lat_session.specs.PrivatePlaying.Results.{unknown, computed}

-- the first operand is no variable
pub first_unknown : (k : Knowledge) (variables : Variables) (value : List ℕ)
    (refusal : SessionRefusal) (command : List ℕ → Command) (rest : List (List ℕ))
    → ((name : List ℕ) → operands (command name) ≡ value ∷ rest)
    → (refusal ≡ UnknownVariable value) × (¬ IsVariable variables value)
    → ComesTo k variables command (Err refusal)
first_unknown k variables value refusal command rest reads (e, n) = λ operations name L s.
    subst (λ r. Results operations L variables (command name) (Err r)) (sym e)
    (unknown (variable (subst (λ names. IsFirstUnknown (IsVariable variables) names value) (sym (reads name)) (here n))))

-- the value of a variable is one of the field that was read
pub operand_valid : {k : Knowledge} {variables : Variables} {value : List ℕ} {t : Tagged} {K : Field}
    → (F : FitSeen k variables) → Holds variables value t
    → OverSeen k (λ L. K ≡ field_at L.rows t.field) → (field_values K).Valid t.value
operand_valid {t = t} F h is = subst (λ G. (field_values G).Valid t.value) (sym (is F.lattice F.seen)) (F.fit.values h).value

module _ (k : Knowledge) (variables : Variables) (value : List ℕ) (t : Tagged) (K : Field) (v : List ℕ)
    (h : Holds variables value t) (is : OverSeen k (λ L. K ≡ field_at L.rows t.field)) where
  pub comes_power : (exponent : ℕ) → v ≡ power (field_values K).ops t.value exponent
      → ComesTo k variables (λ name. Pow name value exponent) (Ok (tagged t.field v))
  comes_power exponent made = λ operations name L s. computed
      (subst (λ w. Computes operations L variables (Pow name value exponent) (Ok (tagged t.field w)))
      (sym (made ∙ ap (λ G. power (field_values G).ops t.value exponent) (is L s))) (of_pow h))

  pub comes_frobenius : v ≡ power (field_values K).ops t.value K.characteristic
      → ComesTo k variables (λ name. Frob name value) (Ok (tagged t.field v))
  comes_frobenius made = λ operations name L s. computed
      (subst (λ w. Computes operations L variables (Frob name value) (Ok (tagged t.field w)))
      (sym (made ∙ ap (λ G. power (field_values G).ops t.value G.characteristic) (is L s))) (of_frob h))

  pub comes_apply : (operations : Operations) (op : Op) → v ≡ operations op K t.value
      → ComesBy operations k variables (λ name. Apply name op value) (Ok (tagged t.field v))
  comes_apply operations op made = λ name L s. computed
      (subst (λ w. Computes operations L variables (Apply name op value) (Ok (tagged t.field w)))
      (sym (made ∙ ap (λ G. operations op G t.value) (is L s))) (of_apply h))

  pub comes_inverse : (field_values K).Valid v
      → (field_values K).ops.mul t.value v ≡ (field_values K).ops.one
      → ComesTo k variables (λ name. Inv name value) (Ok (tagged t.field v))
  comes_inverse valid made = λ operations name L s. computed (of_inv h (inverted
      (subst (λ G. (field_values G).Valid v) (is L s) valid)
      (subst (λ G. (field_values G).ops.mul t.value v ≡ (field_values G).ops.one) (is L s) made)))

pub comes_nothing : (k : Knowledge) (variables : Variables) (value : List ℕ) (t : Tagged) (K : Field)
    → Holds variables value t → OverSeen k (λ L. K ≡ field_at L.rows t.field)
    → t.value ≡ (field_values K).ops.zero
    → ComesTo k variables (λ name. Inv name value) (Err ZeroInverse)
comes_nothing k variables value t K h is z = λ operations name L s. computed (of_inv h (no_inverse
    (subst (λ G. t.value ≡ (field_values G).ops.zero) (is L s) z)))
