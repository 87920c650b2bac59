-- Fields with q elements, in which a^q = a; the residues modulo p among them, of characteristic p.
use Rattle.std.proofs.Common.{le_of_lt, ◌≡◌, ◌≢◌, ℕ, zero, suc, ◌+◌, ◌%◌, ◌<◌, ◌≤◌, List, [], ◌∷◌, length, All, AllPairs, Contains, refl, ap, sym, ◌∙◌, arith, mod-eq_of_lt, ⊎_elim, eq-or-lt_of_le}
use Rattle.std.proofs.Math.Nat.{zero-mod}
use Rattle.std.proofs.lemmas.List.Elements.{All-nil, All-cons, All-weaker, Contains-append_right}
use Rattle.std.proofs.lemmas.List.Kept.{AllPairs-cons}
use native.Mathlib.Nat.{add-mod-mod, mod_self}
use Rattle.alg_model.specs.Coefficients.{Ops, Carrier, times, power, residues}
use Rattle.alg_model.specs.Fields.{IsRing}
use Rattle.alg_rings.proofs.ResidueFields.{residues_propositional}
use Rattle.alg_rings.proofs.Elements.{Element, element_ops, element_laws, underlying_injective}
use Rattle.alg_fields.proofs.Frobenius
use Rattle.alg_model.specs.Coefficients.{IsPrime}

-- q elements in a list, each its own power q
pub record FieldOfSize {A : Type 0} {c : Carrier A} (R : IsRing c) (q : ℕ) : Type 0 where
  pub members : List (Element c)
  pub complete : (a : Element c) → Contains members a
  pub distinct : AllPairs (λ a b. a ≢ b) members
  pub count : length members ≡ q
  pub above_one : 1 < q
  pub fixed : (a : Element c) → power (element_ops R) a q ≡ a

residues_below : (p n : ℕ) → n ≤ p → List (Element (residues p))
residues_below p zero h = []
residues_below p (suc n) h = (n, h) ∷ residues_below p n (le_of_lt h)

length_residues_below : (p n : ℕ) (h : n ≤ p) → length (residues_below p n h) ≡ n
unfolding residues_below
length_residues_below p zero h = refl
length_residues_below p (suc n) h = ap suc (length_residues_below p n (le_of_lt h))

all_residues_below : (p n : ℕ) (h : n ≤ p) → All (λ a. a.0 < n) (residues_below p n h)
unfolding residues_below
all_residues_below p zero h = All-nil (λ a. a.0 < 0)
all_residues_below p (suc n) h = All-cons (λ a. a.0 < suc n) (n, h) (residues_below p n (le_of_lt h)) (omega arith)
    (All-weaker (λ a. a.0 < n) (λ a. a.0 < suc n) (λ a l. omega arith) (residues_below p n (le_of_lt h)) (all_residues_below p n (le_of_lt h)))

distinct_residues_below : (p n : ℕ) (h : n ≤ p) → AllPairs (λ a b. a ≢ b) (residues_below p n h)
unfolding residues_below
distinct_residues_below p zero h = λ i j d l k. absurd (omega arith)
distinct_residues_below p (suc n) h = AllPairs-cons (λ a b. a ≢ b) (n, h) (residues_below p n (le_of_lt h))
    (All-weaker (λ a. a.0 < n) (λ a. (n, h) ≢ a) (λ a l e. let s : n ≡ a.0 = ap (λ x. x.0) e in omega arith)
    (residues_below p n (le_of_lt h)) (all_residues_below p n (le_of_lt h)))
    (distinct_residues_below p n (le_of_lt h))

residues_below_contain : (p n : ℕ) (h : n ≤ p) (a : Element (residues p)) → a.0 < n → Contains (residues_below p n h) a
unfolding residues_below
residues_below_contain p zero h a l = absurd (omega arith)
residues_below_contain p (suc n) h a l = ⊎_elim
    (λ e. (0, omega arith, underlying_injective (residues_propositional p) (n, h) a (sym e)))
    (λ k. Contains-append_right ((n, h) ∷ []) (residues_below p n (le_of_lt h)) a (residues_below_contain p n (le_of_lt h) a k))
    (eq-or-lt_of_le (let j : a.0 ≤ n = omega arith in j))

module _ (p : ℕ) (R : IsRing (residues p)) where
  abbrev E : Ops (Element (residues p))
  E = element_ops R

  times_one_residue : (n : ℕ) → (times E n E.one).0 ≡ n % p
  times_one_residue zero = sym (zero-mod p)
  times_one_residue (suc n) =
      let next : 1 + n ≡ suc n = omega arith in
      ap (λ m. (1 + m) % p) (times_one_residue n) ∙ add-mod-mod 1 n p ∙ ap (λ m. m % p) next

  -- p times one is zero
  pub residues_characteristic : times (element_ops R) p (element_ops R).one ≡ (element_ops R).zero
  residues_characteristic = underlying_injective (residues_propositional p) (times E p E.one) E.zero (times_one_residue p ∙ mod_self p)

  multiple_of_one : (a : Element (residues p)) → times E a.0 E.one ≡ a
  multiple_of_one a = underlying_injective (residues_propositional p) (times E a.0 E.one) a (times_one_residue a.0 ∙ mod-eq_of_lt a.1)

  -- **Fermat**: a^p = a
  pub fermat : IsPrime p → (a : Element (residues p)) → power (element_ops R) a p ≡ a
  fermat prime a =
      ap (λ b. power E b p) (sym (multiple_of_one a))
      ∙ Frobenius.power_of_multiple (element_laws (residues_propositional p) R) p prime residues_characteristic a.0
      ∙ multiple_of_one a

  pub residues_of_size : IsPrime p → FieldOfSize R p
  residues_of_size prime = record {
    members = residues_below p p (omega arith);
    complete = λ a. residues_below_contain p p (omega arith) a a.1;
    distinct = distinct_residues_below p p (omega arith);
    count = length_residues_below p p (omega arith);
    above_one = prime.above_one;
    fixed = fermat prime;
  }
