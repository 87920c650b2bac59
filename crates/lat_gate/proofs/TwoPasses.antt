-- A pass that has the numbers 1 and 2.
use Rattle.std.proofs.Common.{◌≡◌, ◌≤◌, ℕ, List, [], ◌∷◌, ◌++◌, ap, sym, ◌∙◌, subst, arith}
use Rattle.std.specs.Prelude.{Contains}
use mathlib.Core.Logic.{dite}
use native.Mathlib.Decide.{ℕ_discrete}
use Rattle.lat_gate.specs.Rule.{Own, IsDealt, Has}
use Rattle.lat_gate.proofs.Holders.{contains_head, contains_tail}

module _ {E : Type 0} (own first second : Own E) (both : own ≡ first ++ second) where
  abbrev one : ℕ → List E → ℕ × List E
  one n mine = (n, mine)

  abbrev in_own : ℕ → List E → Own E → Type 0
  in_own n mine l = Contains l (one n mine)

  -- the pair that the first pass has
  pub in_first : (n : ℕ) (mine : List E) → first ≡ (n, mine) ∷ [] → Contains own (one n mine)
  in_first n mine is =
      let all : own ≡ one n mine ∷ second = both ∙ ap (λ (l : Own E). l ++ second) is in
      subst (in_own n mine) (sym all) (contains_head (one n mine) second)

  -- the pair that the second pass has
  pub in_second : (m n : ℕ) (theirs mine : List E) → first ≡ (m, theirs) ∷ []
      → second ≡ (n, mine) ∷ [] → Contains own (one n mine)
  in_second m n theirs mine f s =
      let tail : Own E = one n mine ∷ [] in
      let all : own ≡ one m theirs ∷ tail =
      both ∙ ap (λ (l : Own E). l ++ second) f ∙ ap (λ (l : Own E). one m theirs ∷ l) s in
      subst (in_own n mine) (sym all)
      (contains_tail (one n mine) (one m theirs) tail (contains_head (one n mine) []))

  -- these are all numbers, where two were dealt
  pub every_of_two : (a b : List E) → first ≡ (1, a) ∷ [] → second ≡ (2, b) ∷ []
      → (passes n : ℕ) → passes ≡ 2 → IsDealt passes n → Has own n
  every_of_two a b f s passes n two dealt =
      let low : 1 ≤ n = dealt.0 in let high : n ≤ passes = dealt.1 in
      dite (ℕ_discrete n 1)
      (λ e. (a, subst (λ (k : ℕ). in_own k a own) (sym e) (in_first 1 a f)))
      (λ ne. let is : n ≡ 2 = omega arith in
      (b, subst (λ (k : ℕ). in_own k b own) (sym is) (in_second 1 2 a b f s)))
