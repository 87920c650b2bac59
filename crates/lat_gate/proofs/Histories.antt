-- Histories that begin with others, and the entries of one number in them.
use Rattle.std.proofs.Common.{◌≡◌, ◌≢◌, ℕ, ◌≤◌, eqb, ne_eqb, List, [], ◌∷◌, ◌++◌, cond, drop, length, sym, refl, ap, ◌∙◌, arith, append-nil, append_assoc, length-append, true, false, if◌then◌else◌}
use Rattle.std.specs.Prelude.{nat_le}
use Rattle.std.proofs.lemmas.List.Elements.{filter-append}
use Rattle.lat_gate.specs.History.{of_number, BeginsWith, longer, shorter}

module _ {E : Type 0} where
  -- a history begins with itself
  pub begins_with_itself : (log : List E) → BeginsWith log log
  begins_with_itself log = ([], sym (append-nil log))

  -- with more entries it begins as before
  pub begins_still : (log front more : List E) → BeginsWith log front
      → BeginsWith (log ++ more) front
  begins_still log front more b = (b.0 ++ more, ap (λ (l : List E). l ++ more) b.1 ∙ append_assoc front b.0 more)

  -- its beginning is no longer
  pub begins_length : (log front : List E) → BeginsWith log front → length front ≤ length log
  begins_length log front b = omega (arith, ap length b.1, length-append front b.0)

  two_fronts : (a b s t : List E) → a ++ s ≡ b ++ t → length b ≤ length a → BeginsWith a b
  two_fronts a [] s t e le = (a, refl)
  two_fronts [] (y ∷ b) s t e le = absurd (omega arith)
  two_fronts (x ∷ a) (y ∷ b) s t e le =
      let tails : a ++ s ≡ b ++ t = cc in let heads : x ≡ y = cc in let more = two_fronts a b s t tails (omega arith) in
      let whole : x ∷ a ≡ y ∷ (b ++ more.0) = let m : a ≡ b ++ more.0 = more.1 in cc in
      (more.0, whole)

  -- past its beginning a list has the rest
  pub drop_front : (front rest : List E) → drop (length front) (front ++ rest) ≡ rest
  drop_front [] rest = refl
  drop_front (x ∷ front) rest = drop_front front rest

  -- of two beginnings of one history the longer begins with the other
  pub begin_alike : (log a b : List E) → BeginsWith log a → BeginsWith log b → length b ≤ length a
      → BeginsWith a b
  begin_alike log a b p q le = two_fronts a b p.0 q.0 (sym p.1 ∙ q.1) le

  -- the longer of two lists has what both have
  pub of_longer : (P : List E → Type 0) (a b : List E) → P a → P b → P (longer a b)
  of_longer P a b p q = elim (nat_le (length a) (length b)) as (λ t. P (if t then b else a)) [ true ↦ q | false ↦ p ]

  -- and so has the shorter
  pub of_shorter : (P : List E → Type 0) (a b : List E) → P a → P b → P (shorter a b)
  of_shorter P a b p q = elim (nat_le (length a) (length b)) as (λ t. P (if t then a else b)) [ true ↦ p | false ↦ q ]

  module _ (number : E → ℕ) where
    -- the entries of a number in two histories, one behind the other
    pub of_number-append : (n : ℕ) (a b : List E)
        → of_number number n (a ++ b) ≡ of_number number n a ++ of_number number n b
    of_number-append n a b = filter-append (λ (e : E). eqb (number e) n) a b

    -- more entries, of other numbers, change nothing
    pub of_number_same : (n : ℕ) (log a more : List E) → log ≡ a ++ more
        → of_number number n more ≡ [] → of_number number n log ≡ of_number number n a
    of_number_same n log a more e none =
        ap (of_number number n) e ∙ of_number-append n a more ∙ ap (λ (l : List E). of_number number n a ++ l) none ∙ append-nil (of_number number n a)

    -- an entry of another number
    pub of_number_other : (n : ℕ) (x : E) → number x ≢ n → of_number number n (x ∷ []) ≡ []
    of_number_other n x ne = ap (λ t. cond t (x ∷ []) []) (ne_eqb (number x) n ne)
