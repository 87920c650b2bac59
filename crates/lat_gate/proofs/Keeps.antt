-- The steps on the word of a gate keep its rule.
use Rattle.std.proofs.Common.{◌≡◌, ◌≢◌, ◌⊎◌, ℕ, ◌+◌, ◌*◌, ◌%◌, ◌≤◌, ◌<◌, eqb, List, [], ◌∷◌, ◌++◌, drop, length, get_or, set, sym, refl, ap, ◌∙◌, subst, inl, inr, ⊎_elim, arith, length-set, get_or-set_same, append-nil, Option, Some}
use Rattle.std.specs.Prelude.{Contains}
use mathlib.Core.Option.{none, some, some-injective}
use mathlib.Core.Option as maybe
use lib.Seq.{set-get_or}
use prog.Atomic.{either}
use Rattle.atomic_table.specs.Table.{State, Me, Act, keeps, takes, gives, step, stepped, carried_after, Valid, Allows}
use Rattle.atomic_table.proofs.Lists.{at_set, set_here, set_again, exchanged}
use Rattle.lat_gate.specs.History.{of_number, BeginsWith}
use Rattle.lat_gate.specs.Rule.{Terms, Own, Phase, free, held, IsDealt, Has, HasNumber, times, Sits, Stands, Fits, Kept}
use Rattle.lat_gate.specs.Steps.{holding, held_log, newer, grown, settled, looked, tried, gave_back}
use Rattle.lat_gate.specs.declared.view.Hand.{Hand}
use Rattle.lat_gate.specs.declared.view.Hand.TheVariants.{Idle, Holds}
use Rattle.lat_gate.specs.declared.view.View.{View}
use Rattle.lat_gate.proofs.Histories.{begins_with_itself, begins_still, begins_length, begin_alike, drop_front, of_number-append, of_number_same}
use Rattle.lat_gate.proofs.Holders.{contains_head, contains_only, get_here, times_some, holders_set, two_holders}

abbrev pub St : Type 0 → Type 0 → Type 0
St M E = State (Option M) (View E)

abbrev pub Seated : Type 0 → Type 0 → Type 0
Seated M E = Me (Option M) (View E)

module _ {M E : Type 0} (gate : Terms M E) where
  -- a number of a seat is no other seat's
  pub alone : (s : St M E) → Kept gate s → (i j : ℕ) (v w : View E) (n : ℕ) → j ≢ i
      → Sits s.views i v → Sits s.views j w → Has v.own n → Has w.own n → ⊥
  alone s r i j v w n ne at_v at_w c d =
      let both = two_holders n s.views i j v w ne at_v at_w in let one = r.once n in
      let p = times_some n c.0 v.own c.1 in let q = times_some n d.0 w.own d.1 in omega arith

  -- what a view has of a number it has under other own lists too
  pub refit : (now : List E) (v w : View E) (n : ℕ) (mine : List E) → w.setting ≡ v.setting
      → w.opening ≡ v.opening → w.passes ≡ v.passes → Fits gate now v n mine
      → Fits gate now w n mine
  refit now v w n mine a b c f = record {
    setting_is = a ∙ f.setting_is;
    opening_is = b ∙ f.opening_is;
    passes_are = c ∙ f.passes_are;
    dealt = f.dealt;
    own = f.own;
  }

  -- A step of the seat id, whose view v becomes w with the same numbers. The current list becomes `now`,
  -- which is the old one and entries of these numbers alone.
  record Change (s : St M E) (r : Kept gate s) (id : ℕ) (v w : View E) (now more : List E)
      : Type 0 where
    at : Sits s.views id v
    longer : now ≡ r.now ++ more
    only : (n : ℕ) → ¬ Has v.own n → of_number gate.number n more ≡ []
    told : BeginsWith now w.told × BeginsWith now w.noted
    fits : (n : ℕ) (mine : List E) → Contains w.own (n, mine) → Fits gate now w n mine
    same : (n : ℕ) → times n w.own ≡ times n v.own

  -- such a step keeps the rule
  changed : (s : St M E) (r : Kept gate s) (id : ℕ) (v w : View E) (now more : List E)
      → Change s r id v w now more
      → (ws : List ℕ) (hs : List (maybe.Option (Option M))) (phase : Phase) → length ws ≡ 1
      → Stands gate now phase record { words = ws; homes = hs; views = set s.views id w }
      → ((i : ℕ) (u : View E) → Sits (set s.views id w) i u → (u.hand ≡ Idle) ⊎ (phase ≡ held i))
      → Kept gate record { words = ws; homes = hs; views = set s.views id w }
  changed s r id v w now more d ws hs phase wide stands hands =
      let kept : (n : ℕ) → ¬ Has v.own n → of_number gate.number n now ≡ of_number gate.number n r.now =
      λ n lacks. of_number_same gate.number n now r.now more d.longer (d.only n lacks) in
      let still : (front : List E) → BeginsWith r.now front → BeginsWith now front = λ front b.
      subst (λ (l : List E). BeginsWith l front) (sym d.longer) (begins_still r.now front more b) in
      record {
        now = now;
        phase = phase;
        wide = wide;
        stands = stands;
        hands = hands;
        told = λ i u e. ⊎_elim
            (λ (t : (i ≡ id) × (w ≡ u)).
            subst (λ (x : View E). BeginsWith now x.told × BeginsWith now x.noted) t.1 d.told)
            (λ (t : (i ≢ id) × Sits s.views i u). let b = r.told i u t.1 in
            (still u.told b.0, still u.noted b.1))
            (at_set s.views id i w u e);
        each = λ i u n mine e c. ⊎_elim
            (λ (t : (i ≡ id) × (w ≡ u)).
            subst (λ (x : View E). Contains x.own (n, mine) → Fits gate now x n mine) t.1 (d.fits n mine) c)
            (λ (t : (i ≢ id) × Sits s.views i u). let f = r.each i u n mine t.1 c in
            record {
              setting_is = f.setting_is;
              opening_is = f.opening_is;
              passes_are = f.passes_are;
              dealt = f.dealt;
              own = kept n (λ has. alone s r id i v u n t.0 d.at t.1 has (mine, c)) ∙ f.own;
            })
            (at_set s.views id i w u e);
        once = λ n. omega (arith, r.once n, holders_set n s.views id v w d.at, d.same n);
        others = λ n out. kept n (λ has. out (r.each id v n has.0 d.at has.1).dealt) ∙ r.others n out;
      }

  -- a step that changes nothing
  unmoved : (s : St M E) → Kept gate s → (id : ℕ) (slots : List (ℕ × Option M)) (v : View E)
      → Sits s.views id v → Kept gate (stepped s 0 (get_or s.words 0 0) id slots v keeps)
  unmoved s r id slots v at =
      subst (λ (ws : List ℕ). Kept gate record { words = ws; homes = s.homes; views = set s.views id v })
      (sym (set-get_or s.words 0 0))
      (subst (λ (vs : List (View E)). Kept gate record { words = s.words; homes = s.homes; views = vs })
      (sym (set_again s.views id v at)) r)

  -- the word is at least twice the length of a beginning of the current list
  word_bound : (s : St M E) (r : Kept gate s) (front : List E) → BeginsWith r.now front
      → 2 * length front ≤ get_or s.words 0 0
  word_bound s r front b =
      let short = begins_length r.now front b in
      elim r.phase as (λ p. Stands gate r.now p s → 2 * length front ≤ get_or s.words 0 0) [
        | free ↦ λ st. let is = st.0 in omega arith
        | held i ↦ λ st. let is = st.0 in omega arith
      ] r.stands

  -- a load keeps the rule
  pub looks : (slots id : ℕ) (me : Seated M E)
      → Allows (Kept gate) slots id me 0 (λ y. y) (looked (step slots 0 0 0 none) me)
  looks slots id me s r wide at small =
      let told = r.told id me.0 at in (
        me.0,
        keeps,
        tt,
        unmoved s r id me.1 me.0 at,
        (
          refl,
          word_bound s r me.0.told told.0,
          λ le. begin_alike r.now me.0.told me.0.noted told.0 told.1 le,
        ),
      )

  -- the word becomes k, and the seat me can go on as `then` says
  abbrev Goes : St M E → ℕ → Seated M E → (ℕ → Seated M E → Type 0) → ℕ → Type 0
  Goes s id me then k = (w : View E) × (a : Act (Option M)) × Valid s.homes me.1 a
      × Kept gate (stepped s 0 k id me.1 w a) × then (get_or s.words 0 0) (w, carried_after me.1 a)

  abbrev tries : ℕ → ℕ → ℕ → Seated M E → ℕ → Seated M E → Type 0
  tries slots old new me = tried gate.entries gate.number gate.setting_of (step slots 0 old new none) me

  -- the machine is at home, and the seat takes it
  taken : (slots : ℕ) (s : St M E) (r : Kept gate s) (id : ℕ) (v : View E) (old new : ℕ)
      → Sits s.views id v → HasNumber v.own → get_or s.words 0 0 ≡ old → new ≡ old + 1
      → ((i : ℕ) (u : View E) → Sits s.views i u → u.hand ≡ Idle) → Stands gate r.now free s
      → Goes s id (v, []) (tries slots old new (v, [])) new
  taken slots s r id v old new at number is next idle st =
      let x = st.1.0 in let has = st.1.2 in let w : View E = holding v (gate.entries x) in
      let own : (n : ℕ) (mine : List E) → Contains v.own (n, mine) → Fits gate r.now v n mine =
      λ n mine c. r.each id v n mine at c in
      let long : 0 < length s.words = let one = r.wide in omega arith in
      let word : get_or (set s.words 0 new) 0 0 ≡ 2 * length r.now + 1 =
      get_or-set_same s.words 0 new 0 long ∙ (let even = st.0 in omega arith) in
      let told = r.told id v at in
      let change : Change s r id v w r.now [] = record {
        at = at;
        longer = sym (append-nil r.now);
        only = λ n lacks. refl;
        told = told;
        fits = λ n mine c. refit r.now v w n mine refl refl refl (own n mine c);
        same = λ n. refl;
      } in (
        w,
        takes 0 (Some x),
        st.1.1,
        changed s r id v w r.now [] change (set s.words 0 new) (set s.homes 0 none) (held id)
            (length-set s.words 0 new ∙ r.wide)
            (word, (w, get_here s.views id v w at, ap Holds has, number))
            (λ i u e. ⊎_elim (λ (t : (i ≡ id) × (w ≡ u)). inr (ap held (sym t.0)))
            (λ (t : (i ≢ id) × Sits s.views i u). inl (idle i u t.1)) (at_set s.views id i w u e)),
        (
          (λ _. (
            x,
            refl,
            st.1.3 ∙ sym (own number.0 number.1.0 number.1.1).setting_is,
            subst (λ (l : List E). BeginsWith l v.told) (sym has) told.0,
            λ n mine c. ap (of_number gate.number n) has ∙ (own n mine c).own,
          )),
          λ miss. absurd (miss is),
        ),
      )

  -- a compare-exchange from an even word to the next keeps the rule, and takes the machine
  pub takes_turn : (slots id : ℕ) (me : Seated M E) (v : View E) (old new : ℕ) → me ≡ (v, [])
      → HasNumber v.own → old % 2 ≡ 0 → new ≡ old + 1
      → Allows (Kept gate) slots id me 0 (λ y. either (eqb y old) new y) (tries slots old new me)
  takes_turn slots id me v old new me_is number even next =
      subst (λ (m : Seated M E). Allows (Kept gate) slots id m 0 (λ y. either (eqb y old) new y)
      (tries slots old new m)) (sym me_is)
      (λ s r wide at small. let Taken = Goes s id (v, []) (tries slots old new (v, [])) in
      exchanged (get_or s.words 0 0) old new Taken
      (λ hit. elim r.phase as (λ p. Stands gate r.now p s
      → ((i : ℕ) (u : View E) → Sits s.views i u → (u.hand ≡ Idle) ⊎ (p ≡ held i)) → Taken new) [
        | free ↦ λ st hands. taken slots s r id v old new at number hit next
            (λ i u e. ⊎_elim (λ (t : u.hand ≡ Idle). t) (λ (t : free ≡ held i). absurd cc) (hands i u e)) st
        | held i ↦ λ st hands. let odd = st.0 in absurd (omega arith)
      ] r.stands r.hands)
      (λ miss. (v, keeps, tt, unmoved s r id [] v at, ((λ hit. absurd (miss hit)), λ _. refl))))

  -- the seat that holds a history has the turn, and holds the current list
  its_turn : (s : St M E) (r : Kept gate s) (id : ℕ) (v : View E) (log : List E) → Sits s.views id v
      → v.hand ≡ Holds log → (r.phase ≡ held id) × (r.now ≡ log)
  its_turn s r id v log at holds = ⊎_elim
      (λ (t : v.hand ≡ Idle). absurd cc)
      (λ (t : r.phase ≡ held id). (
        t,
        let st = subst (λ (p : Phase). Stands gate r.now p s) t r.stands in
            let same : st.1.0 ≡ v = some-injective st.1.0 v (sym st.1.1 ∙ at) in
            let hand : st.1.0.hand ≡ Holds r.now = st.1.2 in cc,
      ))
      (r.hands id v at)

  -- What the holder of the turn gives back: the machine x, whose history is the one that it was taken
  -- with and more entries of the seat's one number k.
  pub record Gives (v : View E) (x : M) (k : ℕ) (mine log more : List E) : Type 0 where
    pub own : v.own ≡ (k, mine) ∷ []
    pub holds : v.hand ≡ Holds log
    pub longer : gate.entries x ≡ log ++ more
    pub only : (n : ℕ) → n ≢ k → of_number gate.number n more ≡ []
    pub setting : gate.setting_of x ≡ v.setting

  module _
      (s : St M E)
      (r : Kept gate s)
      (id : ℕ)
      (v : View E)
      (x : M)
      (k : ℕ)
      (mine log more : List E)
      (at : Sits s.views id v)
      (d : Gives v x k mine log more)
    where
      abbrev now : List E
      now = gate.entries x

      abbrev w : View E
      w = settled gate.number v now

      abbrev only_own : Own E
      only_own = (k, mine) ∷ []

      abbrev new_own : List E
      new_own = mine ++ of_number gate.number k (newer v now)

      own_is : w.own ≡ (k, new_own) ∷ []
      own_is = ap (grown gate.number (newer v now)) d.own

      first : Fits gate r.now v k mine
      first = r.each id v k mine at (subst (λ (o : Own E). Contains o (k, mine)) (sym d.own) (contains_head (k, mine) []))

      longer_now : now ≡ r.now ++ more
      longer_now = d.longer ∙ ap (λ (l : List E). l ++ more) (sym (its_turn s r id v log at d.holds).1)

      newer_is : newer v now ≡ more
      newer_is = ap (λ (h : Hand E). drop (length (held_log h)) now) d.holds
          ∙ ap (drop (length log)) d.longer ∙ drop_front log more

      new_own_is : of_number gate.number k now ≡ new_own
      new_own_is = ap (of_number gate.number k) longer_now ∙ of_number-append gate.number k r.now more
          ∙ ap (λ (l : List E). l ++ of_number gate.number k more) first.own
          ∙ ap (λ (l : List E). mine ++ of_number gate.number k l) (sym newer_is)

      has_number : (n : ℕ) → n ≡ k → Has v.own n
      has_number n e = (
        mine,
        subst (λ (o : Own E). Contains o (n, mine)) (sym d.own)
            (subst (λ (j : ℕ). Contains only_own (j, mine)) (sym e) (contains_head (k, mine) [])),
      )

      settles : Change s r id v w now more
      settles = record {
        at = at;
        longer = longer_now;
        only = λ n lacks. d.only n (λ e. lacks (has_number n e));
        told = (
          begins_with_itself now,
          subst (λ (l : List E). BeginsWith l v.noted) (sym longer_now) (begins_still r.now v.noted more (r.told id v at).1),
        );
        fits = λ n m c.
            let is = contains_only (n, m) (k, new_own) (subst (λ (l : Own E). Contains l (n, m)) own_is c) in
            let same : k ≡ n = ap (λ (o : ℕ × List E). o.0) is in
            record {
              setting_is = first.setting_is;
              opening_is = first.opening_is;
              passes_are = first.passes_are;
              dealt = subst (λ (j : ℕ). IsDealt gate.passes j) same first.dealt;
              own = ap (λ (j : ℕ). of_number gate.number j now) (sym same) ∙ new_own_is ∙ ap (λ (o : ℕ × List E). o.1) is;
            };
        same = λ n. ap (times n) own_is ∙ sym (ap (times n) d.own);
      }

      -- then the gate is free, and every seat is idle
      all_idle : (i : ℕ) (u : View E) → Sits (set s.views id w) i u
          → (u.hand ≡ Idle) ⊎ (free ≡ held i)
      all_idle i u e = ⊎_elim
          (λ (t : (i ≡ id) × (w ≡ u)). inl (ap (λ (z : View E). z.hand) (sym t.1)))
          (λ (t : (i ≢ id) × Sits s.views i u). ⊎_elim
          (λ (h : u.hand ≡ Idle). inl h)
          (λ (h : r.phase ≡ held i).
          let is : held i ≡ held id = sym h ∙ (its_turn s r id v log at d.holds).0 in
          let same : i ≡ id = cc in absurd (t.0 same))
          (r.hands i u t.1))
          (at_set s.views id i w u e)

  -- a swap to twice the number of entries keeps the rule, and gives the machine back
  pub gives_back : (slots id : ℕ) (me : Seated M E) (v : View E) (x : M) (k : ℕ)
      (mine log more : List E) (new : ℕ) → slots ≡ 1 → me ≡ (v, (0, Some x) ∷ [])
      → Gives v x k mine log more → new ≡ 2 * length (gate.entries x)
      → Allows (Kept gate) slots id me 0 (λ _. new)
      (gave_back gate.entries gate.number (step slots 0 new 0 none) me)
  gives_back slots id me v x k mine log more new one_slot me_is d word =
      subst (λ (m : Seated M E). Allows (Kept gate) slots id m 0 (λ _. new)
      (gave_back gate.entries gate.number (step slots 0 new 0 none) m)) (sym me_is)
      (λ s r wide at small.
      let w : View E = settled gate.number v (gate.entries x) in
      let long : 0 < length s.words = let one = r.wide in omega arith in
      let change : Change s r id v w (gate.entries x) more = settles s r id v x k mine log more at d in
      let first : Fits gate r.now v k mine = first s r id v x k mine log more at d in (
        w,
        gives,
        tt,
        changed s r id v w (gate.entries x) more change (set s.words 0 new) (set s.homes 0 (some (Some x))) free
            (length-set s.words 0 new ∙ r.wide) (
              get_or-set_same s.words 0 new 0 long ∙ word,
              (x, set_here s.homes 0 (some (Some x)) (omega arith), refl, d.setting ∙ first.setting_is),
            )
            (all_idle s r id v x k mine log more at d),
        refl,
      ))
