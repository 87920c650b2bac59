-- What a command computes is a value of the lattice, so that the variables fit it again.
use Rattle.std.proofs.Common.{◌≡◌, ◌⊎◌, inl, inr, ⊎_elim, ℕ, zero, suc, ◌+◌, ◌-◌, ◌<◌, ◌≤◌, List, length, replicate, refl, sym, ap, ◌∙◌, subst, cond, true, false, Bool, Option, Some, is_some, slice_index_or, arith, length-append, length-take, get_or-take}
use Rattle.std.specs.Prelude.{All, Ok}
use Rattle.std.proofs.lemmas.List.{length-replicate}
use Rattle.std.proofs.lemmas.List.Elements.{All-append, All-replicate}
use Rattle.std.proofs.lemmas.Bool.{cases_lt}
use Rattle.std.specs.Ordering.{eq_by_cmp}
use Rattle.std.specs.Cmp.Lexicographic.{nat_list_cmp_total}
use Rattle.std.specs.FinMap.{get, len, insert, contains_key, get-insert, len-insert}
use Rattle.alg_model.specs.Coefficients.{Ops, Carrier, power, mod_ops}
use Rattle.alg_model.specs.Fields.{IsRing}
use Rattle.alg_model.specs.Values.{padded}
use Rattle.alg_model.specs.Maps.{Field, IsFiniteField, field_values, degree_of, apply}
use Rattle.alg_model.specs.Lattices.{Lattice, no_row, field_at, Stored, Grows, IsCompatible}
use Rattle.alg_galois.proofs.Fields.{modulus_of, field_is}
use Rattle.alg_galois.proofs.Embeddings.{apply_valid}
use Rattle.lat_core.specs.declared.tagged.Tagged.{Tagged}
use Rattle.lat_core.specs.declared.outcomes.Outcome.{Outcome}
use Rattle.lat_core.specs.declared.questions.Answer.TheVariants.{Lifted}
use Rattle.lat_core.specs.Answers.{IsTaggedValue, LiftsTo}
use Rattle.lat_core.specs.Answers.LiftsTo.{up, down}
use Rattle.lat_language.specs.declared.commands.Command.{Command}
use Rattle.lat_session.specs.declared.TheConstants.{MAX_VARIABLES}
use Rattle.lat_session.specs.Variables.{name_cmp, Variables, IsVariable, IsFullFor, AreVariables}
use Rattle.lat_session.specs.Outcomes.{tagged, Reads, Combines, Inverts, IsInPrimeField, Lifts, Operations, KeepsValues, Computes, HasOutcome}
use Rattle.lat_session.specs.Outcomes.Reads.{value as digits_value}
use Rattle.lat_session.specs.Outcomes.Combines.{value as combined}
use Rattle.lat_session.specs.Outcomes.Inverts.{value as inverted}
use Rattle.lat_session.specs.Outcomes.Lifts.{value as lifted}
use Rattle.lat_session.specs.Outcomes.Computes.{of_let, of_add, of_mul, of_inv, of_pow, of_frob, of_trace, of_norm, of_lift, of_apply}
use Rattle.lat_session.specs.Theorems.{OutcomeKeepsVariables}
use Rattle.lat_session.specs.Outcomes.HasOutcome.{unknown_variable, unknown_field, asked, shown, refused, full, stored}

power_valid : {A : Type 0} {c : Carrier A} → IsRing c → (a : A) → c.Valid a → (n : ℕ)
    → c.Valid (power c.ops a n)
power_valid R a v zero = R.one_valid
power_valid R a v (suc n) = R.mul_valid _ _ (power_valid R a v n) v

-- digits with zeros after them
padded_valid : (p n : ℕ) (xs : List ℕ) → 0 < p → All (λ x. x < p) xs → length xs ≤ n
    → All (λ x. x < p) (padded (mod_ops p) n xs) × (length (padded (mod_ops p) n xs) ≡ n)
padded_valid p n xs positive small few = (
  All-append (λ x. x < p) xs (replicate (n - length xs) 0) small
      (All-replicate (λ x. x < p) (n - length xs) 0 positive),
  omega (arith, few, length-append xs (replicate (n - length xs) 0), length-replicate {A = ℕ} (n - length xs) 0),
)

module _ {L : Lattice} (C : IsCompatible L) where
  finite : (i : ℕ) → i < length L.rows → IsFiniteField (field_at L.rows i)
  finite i h = (C.rows.row i h).field

  ring : (i : ℕ) → i < length L.rows → IsRing (field_values (field_at L.rows i))
  ring i h = (field_is (field_at L.rows i).characteristic (finite i h).characteristic
      (field_at L.rows i).polynomial (modulus_of (field_at L.rows i) (finite i h))).ring

  -- the image of a value is a value
  stored_value : {i j : ℕ} {m : List (List ℕ)} (v : List ℕ) → Stored L i j m
      → (field_values (field_at L.rows i)).Valid v
      → (field_values (field_at L.rows j)).Valid (apply (field_at L.rows j) m v)
  stored_value {i} {j} {m} v s h = apply_valid (field_at L.rows i) (field_at L.rows j)
      (finite i (C.compatible.within s).0) (finite j (C.compatible.within s).1) m
      (C.compatible.embedding s) v h

  -- and so is what a lift answers
  pub lift_value : {t u : Tagged} {j : ℕ} → IsTaggedValue L t → LiftsTo L t j (Lifted u)
      → IsTaggedValue L u
  lift_value T (up s) = record { tag = (C.compatible.within s).1; value = stored_value _ s T.value }
  lift_value T (down n s h) = record { tag = (C.compatible.within s).0; value = h.value }

  -- ---- what is computed
  reads_value : {i : ℕ} {digits : List ℕ} {t : Tagged} → i < length L.rows
      → Reads L i digits (Ok t) → IsTaggedValue L t
  reads_value {i} {digits} h (digits_value few small) = record {
    tag = h;
    value = padded_valid (field_at L.rows i).characteristic (degree_of (field_at L.rows i)) digits
        (let above : 1 < (field_at L.rows i).characteristic = (finite i h).characteristic.above_one in omega (arith, above))
        small few;
  }

  combines_value : {operation : Ops (List ℕ) → List ℕ → List ℕ → List ℕ} {a b t : Tagged}
      → ((K : Field) (v w : List ℕ) → IsRing (field_values K) → (field_values K).Valid v
      → (field_values K).Valid w → (field_values K).Valid (operation (field_values K).ops v w))
      → IsTaggedValue L a → IsTaggedValue L b → Combines L operation a b (Ok t) → IsTaggedValue L t
  combines_value closed A B (combined {g = g} {v = v} {w = w} h l r) =
      let V = lift_value A l in
      let W = lift_value B r in
      record { tag = V.tag; value = closed (field_at L.rows g) v w (ring g V.tag) V.value W.value }

  inverts_value : {t u : Tagged} → IsTaggedValue L t → Inverts L t (Ok u) → IsTaggedValue L u
  inverts_value T (inverted valid e) = record { tag = T.tag; value = valid }

  prime_value : {i : ℕ} {v : List ℕ} {c : Tagged} → IsInPrimeField L i v c → IsTaggedValue L c
  prime_value P = record { tag = (C.compatible.within P.stored).0; value = P.image.value }

  lifts_value : {t u : Tagged} {j : ℕ} → IsTaggedValue L t → Lifts L t j (Ok u) → IsTaggedValue L u
  lifts_value T (lifted l) = lift_value T l

  in_field : (t : Tagged) (v : List ℕ) → IsTaggedValue L t
      → (field_values (field_at L.rows t.field)).Valid v → IsTaggedValue L (tagged t.field v)
  in_field t v T h = record { tag = T.tag; value = h }

  pub computed_value : {operations : Operations} {variables : Variables} {command : Command}
      {t : Tagged} → KeepsValues operations → AreVariables L variables
      → Computes operations L variables command (Ok t) → IsTaggedValue L t
  computed_value keeps V (of_let named r) = reads_value named.within r
  computed_value keeps V (of_add h k c) = combines_value (λ K v w R. R.add_valid v w) (V.values h) (V.values k) c
  computed_value keeps V (of_mul h k c) = combines_value (λ K v w R. R.mul_valid v w) (V.values h) (V.values k) c
  computed_value keeps V (of_inv h i) = inverts_value (V.values h) i
  computed_value keeps V (of_pow {t = t} {exponent = n} h) = in_field t (power (field_values (field_at L.rows t.field)).ops t.value n) (V.values h)
      (power_valid (ring t.field (V.values h).tag) t.value (V.values h).value n)
  computed_value keeps V (of_frob {t = t} h) = in_field t (power (field_values (field_at L.rows t.field)).ops t.value (field_at L.rows t.field).characteristic) (V.values h)
      (power_valid (ring t.field (V.values h).tag) t.value (V.values h).value (field_at L.rows t.field).characteristic)
  computed_value keeps V (of_trace h p) = prime_value p
  computed_value keeps V (of_norm h p) = prime_value p
  computed_value keeps V (of_lift h named l) = lifts_value (V.values h) l
  computed_value keeps V (of_apply {op = op} {t = t} h) = in_field t _ (V.values h)
      (keeps op (field_at L.rows t.field) t.value (finite t.field (V.values h).tag) (V.values h).value)

-- ---- the variables afterwards
-- what is found once t is set
found_after : (b : Bool) (t u : Tagged) (o : Option Tagged) → cond b (Some t) o ≡ Some u
    → (u ≡ t) ⊎ (o ≡ Some u)
found_after true t u o e = inl (let s : t ≡ u = cc in sym s)
found_after false t u o e = inr e

count_after : (b : Bool) (n m : ℕ) → n ≡ cond b m (m + 1) → m ≤ MAX_VARIABLES
    → (b ≡ false → m < MAX_VARIABLES) → n ≤ MAX_VARIABLES
count_after true n m e h new = omega (arith, e, h)
count_after false n m e h new = omega (arith, e, new refl)

no_variable : (variables : Variables) (name : List ℕ) → contains_key variables name ≡ false
    → ¬ IsVariable variables name
no_variable variables name e (t, h) = let some : is_some (get variables name) ≡ true = ap is_some h.found in cc

set_fits : {L : Lattice} {variables : Variables} {t : Tagged} {name : List ℕ}
    → AreVariables L variables → IsTaggedValue L t → ¬ IsFullFor variables name
    → AreVariables L (insert variables name t)
set_fits {L} {variables} {t} {name} V T free = record {
  values = λ {name = n} {t = u} h. ⊎_elim
      (λ same. subst (IsTaggedValue L) (sym same) T)
      (λ old. V.values {name = n} (record { found = old }))
      (found_after (eq_by_cmp name_cmp n name) t u (get variables n)
      (sym (get-insert nat_list_cmp_total variables name t n) ∙ h.found));
  room = count_after (contains_key variables name) (len (insert variables name t)) (len variables)
      (len-insert nat_list_cmp_total variables name t) V.room
      (λ new. ⊎_elim (λ h. h) (λ h. absurd (free (record { new = no_variable variables name new; full = h })))
      (cases_lt (len variables) MAX_VARIABLES));
}

-- **after an outcome they are variables again**
pub outcome_fits : {operations : Operations} {L : Lattice} {variables after : Variables}
    {command : Command} {outcome : Outcome} → KeepsValues operations → IsCompatible L
    → AreVariables L variables → HasOutcome operations L variables command outcome after
    → AreVariables L after
outcome_fits keeps C V (unknown_variable h) = V
outcome_fits keeps C V (unknown_field known h) = V
outcome_fits keeps C V (asked q a s) = V
outcome_fits keeps C V (shown e h) = V
outcome_fits keeps C V (refused c) = V
outcome_fits keeps C V (full c n f) = V
outcome_fits keeps C V (stored c n free) = set_fits V (computed_value C keeps V c) free

pub outcome_keeps_variables : OutcomeKeepsVariables
outcome_keeps_variables operations L variables after command outcome keeps C V h =
    outcome_fits keeps C V h

-- and in each lattice that grows from this one
row_kept : {L M : Lattice} (i : ℕ) → Grows L M → i < length L.rows
    → (i < length M.rows) × (field_at M.rows i ≡ field_at L.rows i)
row_kept {L} {M} i G h = (
  omega (arith, h, length-take (length L.rows) M.rows, ap length G.rows),
  ap (λ r. r.field) (sym (get_or-take (length L.rows) M.rows i no_row h) ∙ ap (λ rows. slice_index_or rows i no_row) G.rows),
)

pub grown_fits : {L M : Lattice} {variables : Variables} → Grows L M → AreVariables L variables
    → AreVariables M variables
grown_fits {L} {M} G V = record {
  values = λ {name} {t} h.
      let T = V.values h in
      let (within, same) = row_kept t.field G T.tag in
      record { tag = within; value = subst (λ K. (field_values K).Valid t.value) (sym same) T.value };
  room = V.room;
}
