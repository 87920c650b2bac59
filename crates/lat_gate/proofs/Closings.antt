-- What the rule of a gate says once the gate is closed.
use Rattle.std.proofs.Common.{◌≡◌, ℕ, ◌<◌, true, length, List, sym, ap, ◌∙◌, subst, Option, Some}
use Rattle.std.specs.Prelude.{Contains}
use mathlib.Core.Option.{some, some-injective}
use lib.ListN.{get_elem?}
use Rattle.atomic_table.specs.Table.{Final, Seen}
use Rattle.lat_gate.specs.History.{of_number, BeginsWith}
use Rattle.lat_gate.specs.Rule.{Terms, free, held, IsDealt, Has, HasNumber, Stands, Kept}
use Rattle.lat_gate.specs.declared.view.Hand.TheVariants.{Idle}
use Rattle.lat_gate.specs.Seats.{is_idle}
use Rattle.lat_gate.specs.declared.view.View.{View}
use Rattle.lat_gate.proofs.Hands.{idle_hand, some_number}
use Rattle.lat_gate.proofs.Keeps.{alone}
use Rattle.lat_gate.proofs.Meets.{apart_seats}

-- the last seat: it is idle, and has every number
pub record IsLast {E : Type 0} (v : View E) : Type 0 where
  pub idle : v.hand ≡ Idle
  pub number : HasNumber v.own
  pub every : (n : ℕ) → IsDealt v.passes n → Has v.own n

-- the seat of an idle pass that has every number
pub last_seat : {E : Type 0} (v : View E) → is_idle v.hand ≡ true → 0 < length v.own
    → ((n : ℕ) → IsDealt v.passes n → Has v.own n) → IsLast v
last_seat v idle nonempty every = record { idle = idle_hand v.hand idle; number = some_number v.own nonempty; every = every }

module _ {M E : Type 0} (gate : Terms M E) where
  -- the machine x of a closed gate, as a seat with the view v knows it
  pub record Closes (v : View E) (x : M) : Type 0 where
    pub setting : gate.setting_of x ≡ v.setting
    pub begins : BeginsWith (gate.entries x) v.told
    pub own : (n : ℕ) (mine : List E) → Contains v.own (n, mine)
        → of_number gate.number n (gate.entries x) ≡ mine
    pub others : (n : ℕ) → ¬ IsDealt v.passes n
        → of_number gate.number n (gate.entries x) ≡ of_number gate.number n v.opening

  -- a seat that has every number is the only one with a number, so that none holds the turn
  closes : (id : ℕ) (v : View E) (words : List ℕ) (slots : List (Option M))
      → Final (Seen (Kept gate) id v) words slots → IsLast v
      → (x : M) × (get_elem? slots 0 ≡ some (Some x)) × Closes v x
  closes id v words slots final last =
      let s = final.0 in let r = final.1.0 in let at = final.1.1 in
      let mine = r.each id v last.number.0 last.number.1.0 at last.number.1.1 in
      elim r.phase as (λ p. Stands gate r.now p s
      → (x : M) × (get_elem? slots 0 ≡ some (Some x)) × Closes v x) [
        | free ↦ λ st. let x = st.1.0 in let has = st.1.2 in (
          x,
          final.4 0 (Some x) st.1.1,
          record {
            setting = st.1.3 ∙ sym mine.setting_is;
            begins = subst (λ (l : List E). BeginsWith l v.told) (sym has) (r.told id v at).0;
            own = λ n list c. ap (of_number gate.number n) has ∙ (r.each id v n list at c).own;
            others = λ n out. ap (of_number gate.number n) has
                ∙ r.others n (subst (λ (k : ℕ). ¬ IsDealt k n) mine.passes_are out)
                ∙ ap (of_number gate.number n) (sym mine.opening_is);
          },
        )
        | held i ↦ λ st. let w = st.1.0 in let theirs = st.1.3 in let n = theirs.0 in
            let f = r.each i w n theirs.1.0 st.1.1 theirs.1.1 in
            let also = last.every n (subst (λ (k : ℕ). IsDealt k n) (sym mine.passes_are) f.dealt) in
            absurd (alone gate s r i id w v n
            (λ same. apart_seats s.views r.now i id w v st.1.1 at st.1.2 last.idle (sym same)) st.1.1 at theirs.1 also)
      ] r.stands

  module _ (id : ℕ) (v : View E) (words : List ℕ) (slots : List (Option M)) (slot : Option M) where
    -- the slot of a closed gate has such a machine
    pub closed_slot : Final (Seen (Kept gate) id v) words slots → IsLast v
        → get_elem? slots 0 ≡ some slot → (x : M) × (slot ≡ Some x) × Closes v x
    closed_slot final last at = let done = closes id v words slots final last in
        (done.0, some-injective slot (Some done.0) (sym at ∙ done.1), done.2)

    -- the machine in it is such a one
    pub closed_machine : Final (Seen (Kept gate) id v) words slots → IsLast v
        → get_elem? slots 0 ≡ some slot → (y : M) → slot ≡ Some y → Closes v y
    closed_machine final last at y is = let found = closed_slot final last at in
        let same : found.0 ≡ y = let a : slot ≡ Some found.0 = found.1 in cc in subst (Closes v) same found.2
