-- What the pass knows after a turn.
use Rattle.std.proofs.Common.{◌≡◌, ◌≢◌, ℕ, List, [], ◌∷◌, ◌++◌, map, drop, length, sym, ap, ◌∙◌, subst, append-nil, cond, eq-eqb}
use Rattle.std.specs.Prelude.{Contains}
use Rattle.atomic_table.specs.Seated.{TableId}
use Rattle.lat_gate.specs.History.{of_number}
use Rattle.lat_gate.specs.Rule.{Own, Has}
use Rattle.lat_gate.specs.Steps.{held_log, newer, grown, settled}
use Rattle.lat_gate.specs.Seats.{Known, known_of, published, informed}
use Rattle.lat_gate.specs.declared.view.View.{View}
use Rattle.lat_gate.proofs.Histories.{drop_front, of_number_other}
use Rattle.lat_gate.proofs.Holders.{contains_only}
use Rattle.lat_gate.proofs.Hands.{one_number}

module _ {E : Type 0} where
  -- the number that one pair has is its own
  its_number : (own : Own E) (n k : ℕ) (mine : List E) → own ≡ (n, mine) ∷ [] → Has own k → k ≡ n
  its_number own n k mine is h = let o : ℕ × List E = (k, h.0) in
      sym (ap (λ (p : ℕ × List E). p.0) (contains_only o (n, mine) (subst (λ (l : Own E). Contains l o) is h.1)))

  -- a seat with one number has no other
  pub only_number : (own : Own E) (n k : ℕ) (mine : List E) → own ≡ (n, mine) ∷ [] → k ≢ n
      → ¬ Has own k
  only_number own n k mine is ne h = ne (its_number own n k mine is h)

  -- a list that is another and one entry more is so by one entry alone
  pub last_entry : (log more : List E) (d e : E) → more ≡ log ++ d ∷ [] → more ≡ log ++ e ∷ []
      → d ≡ e
  last_entry log more d e p q =
      let ends : d ∷ [] ≡ e ∷ [] =
      sym (drop_front log (d ∷ [])) ∙ ap (drop (length log)) (sym p ∙ q) ∙ drop_front log (e ∷ []) in cc

  module _ (number : E → ℕ) where
    -- an entry of a number that a pass has is of no number that the pass lacks
    pub of_number_entry : (own : Own E) (e : E) → Has own (number e)
        → (n : ℕ) → ¬ Has own n → of_number number n (e ∷ []) ≡ []
    of_number_entry own e has n lacks = of_number_other number n e (λ is. lacks (subst (Has own) is has))

    of_number_self : (n : ℕ) (e : E) → number e ≡ n → of_number number n (e ∷ []) ≡ e ∷ []
    of_number_self n e is = ap (λ t. cond t (e ∷ []) []) (eq-eqb (number e) n is)

    abbrev with_own : TableId → View E → List E → Own E → Known E
    with_own id v log own = record (known_of id v) { own = own; seen = log }

    -- after one entry more the pass has published it
    pub settled_published : (id : TableId) (v : View E) (log : List E) (e : E) → length v.own ≡ 1
        → log ≡ held_log v.hand ++ e ∷ [] → Has v.own (number e)
        → known_of id (settled number v log) ≡ published (known_of id v) log e
    settled_published id v log e one longer has =
        let o = one_number v.own one in let n = o.0 in let mine = o.1.0 in
        let is : v.own ≡ (n, mine) ∷ [] = o.1.1 in
        let more : newer v log ≡ e ∷ [] =
        ap (drop (length (held_log v.hand))) longer ∙ drop_front (held_log v.hand) (e ∷ []) in
        let gained : of_number number n (newer v log) ≡ e ∷ [] =
        ap (of_number number n) more ∙ of_number_self n e (its_number v.own n (number e) mine is has) in
        let left : grown number (newer v log) v.own ≡ (n, mine ++ e ∷ []) ∷ [] =
        ap (grown number (newer v log)) is ∙ ap (λ (l : List E). (n, mine ++ l) ∷ []) gained in
        let right : map (λ (p : ℕ × List E). (p.0, p.1 ++ e ∷ [])) v.own ≡ (n, mine ++ e ∷ []) ∷ [] =
        ap (map (λ (p : ℕ × List E). (p.0, p.1 ++ e ∷ []))) is in
        ap (with_own id v log) (left ∙ sym right)

    -- with no entry more it has seen the history
    pub settled_informed : (id : TableId) (v : View E) (log : List E) → length v.own ≡ 1
        → log ≡ held_log v.hand
        → known_of id (settled number v log) ≡ informed (known_of id v) (held_log v.hand)
    settled_informed id v log one same =
        let o = one_number v.own one in let n = o.0 in let mine = o.1.0 in
        let is : v.own ≡ (n, mine) ∷ [] = o.1.1 in
        let none : newer v log ≡ [] = ap (drop (length (held_log v.hand))) (same ∙ sym (append-nil (held_log v.hand)))
        ∙ drop_front (held_log v.hand) [] in
        let left : grown number (newer v log) v.own ≡ v.own = ap (grown number (newer v log)) is
        ∙ ap (λ (l : List E). (n, mine ++ of_number number n l) ∷ []) none
        ∙ ap (λ (l : List E). (n, l) ∷ []) (append-nil mine) ∙ sym is in
        ap (with_own id v log) left ∙ ap (λ (l : List E). with_own id v l v.own) same
