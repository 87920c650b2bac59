-- The pairs of numbers below a bound with a property that can be told, in a list.
--     ListedPairs P              a list of the pairs with the property P, each once
use Rattle.std.proofs.Common.{◌≡◌, ◌≢◌, ◌⊎◌, ◌↔◌, ℕ, ◌+◌, ◌*◌, ◌/◌, ◌%◌, ◌<◌, ◌≤◌, List, length, map, get_or, sym, ap, ap₂, ◌∙◌, subst, arith, AllPairs}
use Rattle.std.specs.List.{Contains}
use Rattle.std.proofs.lemmas.List.{length-map, get_or-map}
use Rattle.std.proofs.lemmas.List.Elements.{Contains-get_or}
use Rattle.std.proofs.lemmas.Nat.{div-add-mod', div-mul-add, mod-mul-add}
use Rattle.std.proofs.Math.Nat.{mul-le-mul_right}
use Rattle.alg_lattices.proofs.RisingLists.{Listed, listed}

pub record ListedPairs (P : ℕ → ℕ → Type 0) : Type 0 where
  pub list : List (ℕ × ℕ)
  pub apart : AllPairs (λ p q. p ≢ q) list
  pub exactly : (i k : ℕ) → Contains list (i, k) ↔ P i k

module _ (P : ℕ → ℕ → Type 0) (told : (i k : ℕ) → P i k ⊎ ¬ P i k) (n : ℕ)
    (within : (i k : ℕ) → P i k → (i < n) × (k < n)) where
  -- the pair of a number below n * n
  abbrev pair : ℕ → ℕ × ℕ
  pair t = (t / n, t % n)

  numbers : Listed (λ t. P (t / n) (t % n)) (n * n)
  numbers = listed (λ t. P (t / n) (t % n)) (λ t. told (t / n) (t % n)) (n * n)

  pair_injective : (a b : ℕ) → pair a ≡ pair b → a ≡ b
  pair_injective a b e =
      sym (div-add-mod' a n) ∙ ap₂ (λ x y. x * n + y) (ap (λ p. p.0) e) (ap (λ p. p.1) e) ∙ div-add-mod' b n

  at : (x : ℕ) (d : ℕ × ℕ) → x < length numbers.list
      → get_or (map pair numbers.list) x d ≡ pair (get_or numbers.list x 0)
  at x d h = get_or-map pair numbers.list x 0 d h

  number_of : (i k : ℕ) → i < n → k < n → (t : ℕ) × (t < n * n) × (t / n ≡ i) × (t % n ≡ k)
  number_of i k a b =
      let rows : (i + 1) * n ≤ n * n = mul-le-mul_right n (omega (arith, a)) in
      let row : (i + 1) * n ≡ i * n + n = grind (arith) in
      (i * n + k, omega (arith, rows, row, b), div-mul-add i n k b, mod-mul-add i n k b)

  -- **there is a list of them**
  pub listed_pairs : ListedPairs P
  listed_pairs = record {
    list = map pair numbers.list;
    apart = λ i j d h l e.
        let b : j < length numbers.list = omega (arith, l, length-map numbers.list pair) in
        let same = pair_injective _ _ (sym (at i d (omega (arith, h, b))) ∙ e ∙ at j d b) in
        let less : get_or numbers.list i 0 < get_or numbers.list j 0 = numbers.rising i j 0 h b in
        omega (arith, same, less);
    exactly = λ i k. (λ c. holds i k c, λ p. all i k p);
  }
    where
      holds : (i k : ℕ) → Contains (map pair numbers.list) (i, k) → P i k
      holds i k (x, l, e) =
          let b : x < length numbers.list = omega (arith, l, length-map numbers.list pair) in
          subst (λ p. P p.0 p.1) (sym (at x (i, k) b) ∙ e)
          (numbers.holds (Contains-get_or numbers.list x 0 b))

      all : (i k : ℕ) → P i k → Contains (map pair numbers.list) (i, k)
      all i k p =
          let (a, b) = within i k p in
          let (t, below, row, column) = number_of i k a b in
          let (x, l, e) = numbers.all {d = t} below (subst (λ y. P y (t % n)) (sym row) (subst (P i) (sym column) p)) in (
            x,
            omega (arith, l, length-map numbers.list pair),
            get_or-map pair numbers.list x t (i, k) l ∙ ap pair e ∙ (λ z. (row z, column z)),
          )
