-- Views that are made, cut and joined keep the rule of a gate.
use Rattle.std.proofs.Common.{◌≡◌, ◌≢◌, ◌⊎◌, ℕ, ◌*◌, ◌≤◌, List, [], ◌∷◌, ◌++◌, map, take, drop, length, get_or, set, sym, refl, ap, ◌∙◌, subst, inl, ⊎_elim, arith, Option, Some}
use Rattle.std.specs.Prelude.{Contains}
use Rattle.std.proofs.lemmas.List.Elements.{Contains-append_cases}
use mathlib.Core.Option.{some, some-injective, some-ne-none}
use lib.ListN.{get_elem?}
use Rattle.atomic_table.specs.Table.{Splits, Joins, opening}
use Rattle.atomic_table.proofs.Lists.{at_set, at_snoc, set_else, at_longer}
use Rattle.lat_gate.specs.History.{of_number, BeginsWith}
use Rattle.lat_gate.specs.Rule.{Terms, Phase, free, held, IsDealt, HasNumber, times, numbered, Sits, Stands, Fits, Kept}
use Rattle.lat_gate.specs.Steps.{first_view, others, first_alone, both, spent}
use Rattle.lat_gate.specs.declared.view.Hand.TheVariants.{Idle, Holds}
use Rattle.lat_gate.specs.declared.view.View.{View}
use Rattle.lat_gate.proofs.Histories.{begins_with_itself, of_longer, of_shorter}
use Rattle.lat_gate.proofs.Holders.{contains_cases, contains_head, contains_tail, contains_none, times-append, times_cut, holders_set, holders_push, numbered_once, numbered_contains}
use Rattle.lat_gate.proofs.Keeps.{St, refit}

module _ {A : Type 0} where
  -- what the first element is, the list contains
  in_first : (l : List A) (x : A) → Contains (take 1 l) x → Contains l x
  in_first [] x c = c
  in_first (y ∷ l) x c = ⊎_elim
      (λ (e : y ≡ x). subst (λ (z : A). Contains (z ∷ l) x) (sym e) (contains_head x l))
      (λ (none : Contains [] x). absurd (contains_none x none)) (contains_cases x y [] c)

  -- what the others contain, the list contains
  in_others : (l : List A) (x : A) → Contains (drop 1 l) x → Contains l x
  in_others [] x c = c
  in_others (y ∷ l) x c = contains_tail x y l c

-- What holds of each place and its element, and of the new elements there, holds after a change.
module _
    {V : Type 0}
    (P : ℕ → V → Type 0)
    (views : List V)
    (old : (i : ℕ) (u : V) → get_elem? views i ≡ some u → P i u)
  where
    after_set : (id : ℕ) (w : V) → P id w
        → (i : ℕ) (u : V) → get_elem? (set views id w) i ≡ some u → P i u
    after_set id w here i u e = ⊎_elim
        (λ (t : (i ≡ id) × (w ≡ u)). subst (λ (x : V). P i x) t.1 (subst (λ (j : ℕ). P j w) (sym t.0) here))
        (λ (t : (i ≢ id) × (get_elem? views i ≡ some u)). old i u t.1)
        (at_set views id i w u e)

    -- an element is cut in two
    after_cut : (id : ℕ) (left right : V) → P id left → ((i : ℕ) → P i right)
        → (i : ℕ) (u : V) → get_elem? (set views id left ++ right ∷ []) i ≡ some u → P i u
    after_cut id left right to_left to_right i u e = ⊎_elim
        (λ (t : get_elem? (set views id left) i ≡ some u). after_set id left to_left i u t)
        (λ (t : right ≡ u). subst (λ (x : V). P i x) t (to_right i))
        (at_snoc (set views id left) right u i e)

    -- two elements are joined, and something is left of the second
    after_join : (id other : ℕ) (joined gone : V) → P id joined → ((i : ℕ) → P i gone)
        → (i : ℕ) (u : V) → get_elem? (set (set views id joined) other gone) i ≡ some u → P i u
    after_join id other joined gone to_joined to_gone i u e = ⊎_elim
        (λ (t : (i ≡ other) × (gone ≡ u)). subst (λ (x : V). P i x) t.1 (to_gone i))
        (λ (t : (i ≢ other) × (get_elem? (set views id joined) i ≡ some u)). after_set id joined to_joined i u t.1)
        (at_set (set views id joined) other i gone u e)

-- a seat that holds the turn is not an idle one
pub apart_seats : {E : Type 0} (views : List (View E)) (now : List E) (i j : ℕ) (u v : View E)
    → Sits views i u → Sits views j v → u.hand ≡ Holds now → v.hand ≡ Idle → i ≢ j
apart_seats views now i j u v e d holds idle same =
    let is : u ≡ v = some-injective u v (sym e ∙ subst (λ (k : ℕ). Sits views k v) (sym same) d) in absurd cc

module _ {M E : Type 0} (gate : Terms M E) where
  -- the holder of the turn keeps its place, where it stays among the views
  still_stands : (s : St M E) (views : List (View E)) (now : List E)
      → ((i : ℕ) (v : View E) → Sits s.views i v → v.hand ≡ Holds now → Sits views i v)
      → (phase : Phase) → Stands gate now phase s
      → Stands gate now phase record { words = s.words; homes = s.homes; views = views }
  still_stands s views now stays free st = st
  still_stands s views now stays (held i) st = (st.0, (st.1.0, stays i st.1.0 st.1.1 st.1.2, st.1.2, st.1.3))

  -- an idle seat may give its first number to a new seat
  pub splits : (id : ℕ) (v : View E) → v.hand ≡ Idle
      → Splits (Kept gate) id v (others v) (first_alone v)
  splits id v idle s r at =
      let left : View E = others v in let right : View E = first_alone v in
      let first : List (View E) = set s.views id left in
      record {
        now = r.now;
        phase = r.phase;
        wide = r.wide;
        stands = still_stands s (first ++ right ∷ []) r.now
            (λ i u e holds. at_longer first (right ∷ []) i u
            (set_else s.views id i left (apart_seats s.views r.now i id u v e at holds idle) ∙ e))
            r.phase r.stands;
        hands = after_cut (λ i u. (u.hand ≡ Idle) ⊎ (r.phase ≡ held i)) s.views r.hands id left right
            (inl idle) (λ i. inl idle);
        told = after_cut (λ i u. BeginsWith r.now u.told × BeginsWith r.now u.noted) s.views r.told id left right
            (r.told id v at) (λ i. r.told id v at);
        each = λ i u n mine e. after_cut (λ i u. Contains u.own (n, mine) → Fits gate r.now u n mine) s.views
            (λ j w d. r.each j w n mine d) id left right
            (λ c. refit gate r.now v left n mine refl refl refl (r.each id v n mine at (in_others v.own (n, mine) c)))
            (λ i c. refit gate r.now v right n mine refl refl refl (r.each id v n mine at (in_first v.own (n, mine) c)))
            i u e;
        once = λ n. omega (
          arith,
          r.once n,
          holders_push n first right,
          holders_set n s.views id v left at,
          times_cut n v.own,
        );
        others = r.others;
      }

  -- an idle seat with a number may take the numbers of another
  pub joins : (id : ℕ) (v : View E) (other : ℕ) (w : View E) → v.hand ≡ Idle → w.hand ≡ Idle
      → HasNumber v.own → Joins (Kept gate) id v other w (both v w) spent
  joins id v other w idle idle_too number s r at apart at_changed =
      let b : View E = both v w in let first : List (View E) = set s.views id b in
      let at_other : Sits s.views other w = sym (set_else s.views id other b apart) ∙ at_changed in
      let mine = r.each id v number.0 number.1.0 at number.1.1 in
      let told_v = r.told id v at in let told_w = r.told other w at_other in
      record {
        now = r.now;
        phase = r.phase;
        wide = r.wide;
        stands = still_stands s (set first other spent) r.now
            (λ i u e holds.
            set_else first other i spent (apart_seats s.views r.now i other u w e at_other holds idle_too)
            ∙ set_else s.views id i b (apart_seats s.views r.now i id u v e at holds idle) ∙ e)
            r.phase r.stands;
        hands = after_join (λ i u. (u.hand ≡ Idle) ⊎ (r.phase ≡ held i)) s.views r.hands id other b spent
            (inl idle) (λ i. inl refl);
        told = after_join (λ i u. BeginsWith r.now u.told × BeginsWith r.now u.noted) s.views r.told id other b spent (
          of_longer (BeginsWith r.now) v.told w.told told_v.0 told_w.0,
          of_shorter (BeginsWith r.now) v.told w.told told_v.0 told_w.0,
        )
            (λ i. ((r.now, refl), (r.now, refl)));
        each = λ i u n own e. after_join (λ i u. Contains u.own (n, own) → Fits gate r.now u n own) s.views
            (λ j x d. r.each j x n own d) id other b spent
            (λ c. ⊎_elim
            (λ (d : Contains v.own (n, own)). refit gate r.now v b n own refl refl refl (r.each id v n own at d))
            (λ (d : Contains w.own (n, own)). let f = r.each other w n own at_other d in
            refit gate r.now w b n own (mine.setting_is ∙ sym f.setting_is) (mine.opening_is ∙ sym f.opening_is)
            (mine.passes_are ∙ sym f.passes_are) f)
            (Contains-append_cases v.own w.own (n, own) c))
            (λ i c. absurd (contains_none (n, own) c))
            i u e;
        once = λ n. omega (
          arith,
          r.once n,
          holders_set n s.views id v b at,
          holders_set n first other w spent at_changed,
          times-append n v.own w.own,
        );
        others = r.others;
      }

  -- the table at the start: one seat has every number, and the machine has no entry of these
  pub opens : (words : List ℕ) (slots : List (Option M)) (x : M)
      → words ≡ 2 * length gate.opening ∷ [] → slots ≡ Some x ∷ [] → gate.entries x ≡ gate.opening → gate.setting_of x ≡ gate.setting
      → ((n : ℕ) → IsDealt gate.passes n → of_number gate.number n gate.opening ≡ [])
      → Kept gate (opening words slots (first_view gate.setting gate.opening gate.passes))
  opens words slots x words_are slots_are has fixed unused =
      let v : View E = first_view gate.setting gate.opening gate.passes in
      let only : (i : ℕ) (u : View E) → Sits (v ∷ []) i u → v ≡ u = λ i u e. ⊎_elim
      (λ (t : Sits [] i u). absurd (some-ne-none u (sym t))) (λ (t : v ≡ u). t) (at_snoc [] v u i e) in
      record {
        now = gate.opening;
        phase = free;
        wide = ap length words_are;
        stands = (
          ap (λ (l : List ℕ). get_or l 0 0) words_are,
          (x, ap (λ (l : List (Option M)). get_elem? (map some l) 0) slots_are, has, fixed),
        );
        hands = λ i u e. inl (ap (λ (z : View E). z.hand) (sym (only i u e)));
        told = λ i u e. subst (λ (z : View E). BeginsWith gate.opening z.told × BeginsWith gate.opening z.noted)
            (only i u e) (begins_with_itself gate.opening, begins_with_itself gate.opening);
        each = λ i u n mine e.
            subst (λ (z : View E). Contains z.own (n, mine) → Fits gate gate.opening z n mine) (only i u e)
            (λ c. let t = numbered_contains 1 gate.passes n mine c in
            let dealt : IsDealt gate.passes n = (t.0, let h = t.1 in omega arith) in
            record {
              setting_is = refl;
              opening_is = refl;
              passes_are = refl;
              dealt = dealt;
              own = unused n dealt ∙ sym t.2;
            });
        once = λ n. let one : times n (numbered {E = E} 1 gate.passes) ≤ 1 = numbered_once E n 1 gate.passes in
            omega arith;
        others = λ n out. refl;
      }
