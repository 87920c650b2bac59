-- Lists that are changed place after place.
use Rattle.std.proofs.Common.{◌≡◌, ℕ, ◌+◌, ◌<◌, ◌≤◌, List, length, slice_index, slice_set, ap, sym, ◌∙◌, ⊎_elim, refl, arith}
use Rattle.std.proofs.lemmas.Bool.{cases_lt, cases_eq}
use Rattle.std.proofs.lemmas.List.{get_or_past, get_or-set_same, get_or-set_other, length-set}

-- of n places those below i have new numbers, and the others those of the old list
pub record ChangedBelow (n : ℕ) (new : ℕ → ℕ) (old now : List ℕ) (i : ℕ) : Type 0 where
  pub long : length now ≡ n
  pub done : (k : ℕ) → k < i → slice_index now k ≡ new k
  pub rest : (k : ℕ) → i ≤ k → slice_index now k ≡ slice_index old k

pub nothing_changed : (n : ℕ) (new : ℕ → ℕ) (old : List ℕ) → length old ≡ n → ChangedBelow n new old old 0
nothing_changed n new old long = record { long = long; done = λ k l. absurd (omega arith); rest = λ k l. refl }

-- one place more
pub one_changed : (n : ℕ) (new : ℕ → ℕ) (old now : List ℕ) (i v : ℕ) → i < n → v ≡ new i
    → ChangedBelow n new old now i → ChangedBelow n new old (slice_set now i v) (i + 1)
one_changed n new old now i v within is h = record {
  long = length-set now i v ∙ h.long;
  done = λ k l. ⊎_elim
      (λ e. ap (λ m. slice_index (slice_set now i v) m) e ∙ get_or-set_same now i v 0 (omega (arith, h.long)) ∙ is ∙ ap new (sym e))
      (λ d. get_or-set_other now i k v 0 (omega arith) ∙ h.done k (omega arith))
      (cases_eq k i);
  rest = λ k l. get_or-set_other now i k v 0 (omega arith) ∙ h.rest k (omega arith);
}

-- all places are new, where the new numbers past the end are zero
pub all_changed : (n : ℕ) (new : ℕ → ℕ) (old now : List ℕ) (i : ℕ) → n ≤ i → ((k : ℕ) → n ≤ k → new k ≡ 0)
    → ChangedBelow n new old now i → (k : ℕ) → slice_index now k ≡ new k
all_changed n new old now i past zero h k = ⊎_elim
    (λ l. h.done k (omega arith))
    (λ l. get_or_past now k 0 (omega (arith, h.long)) ∙ sym (zero k l))
    (cases_lt k n)
