-- The first fields at which a rule is broken.
use Rattle.std.proofs.Common.{◌≡◌, true, false, Bool, ℕ, ◌+◌, ◌<◌, None, length, sym, refl, ap, ◌∙◌, subst, inl, inr, ⊎_elim, arith, nat_cmp, Ordering, Less, Equal, Greater}
use Rattle.std.specs.Prelude.{◌⊎◌, slice_index}
use Rattle.std.specs.Bool.{MatchBool}
use Rattle.std.specs.Cmp.{ranked}
use Rattle.std.specs.Ordering.{ordering_then}
use Rattle.std.specs.FinMap.{get}
use Rattle.std.proofs.lemmas.Bool.{cases_lt, cases_eq}
use Rattle.alg_model.specs.Lattices.{first_edition, Lattice, Stored, pair_cmp}
use Rattle.alg_compatible.proofs.Editions.{first_is_edition}
use Rattle.lat_audit.specs.Verdicts.{IsFirst, Triple, triple_cmp, IsPrimeField, LacksPrimeSubfield, LacksInverse, LacksComposition}
use Rattle.lat_audit.specs.PrivateRules.{HasPrimeSubfield, IsOfEdition, KeepsInverse, KeepsComposition}
use Rattle.lat_audit.proofs.StoredMaps.{pair_before}
use Rattle.lat_audit.proofs.RuleMaps.{none_stored}

-- ---- numbers, pairs and triples
pub first_number : {P : ℕ → Type 0} {Good : ℕ → Type 0} (i : ℕ) → ((b : ℕ) → Good b → P b → ⊥)
    → P i → ((b : ℕ) → b < i → Good b) → IsFirst nat_cmp P i
first_number i apart here before = (here, λ b less p. apart b (before b (ranked b i Less (sym less))) p)

pub first_pair : (n : ℕ) {P : ℕ × ℕ → Type 0} {Good : ℕ → ℕ → Type 0} (i j : ℕ)
    → ((a b : ℕ) → Good a b → P (a, b) → ⊥) → ((a b : ℕ) → P (a, b) → b < n) → P (i, j)
    → ((a b : ℕ) → a < i → b < n → Good a b) → ((b : ℕ) → b < j → Good i b)
    → IsFirst pair_cmp P (i, j)
first_pair n {P = P} {Good = Good} i j apart within here earlier before = (
  here,
  λ q less p. ⊎_elim
      (λ l. apart q.0 q.1 (earlier q.0 q.1 l (within q.0 q.1 p)) p)
      (λ (e, l). apart q.0 q.1 (subst (λ a. Good a q.1) (sym e) (before q.1 l)) p)
      (pair_before q (i, j) less),
)

-- a triple before another one is so at the first number, at the second or at the third
pub triple_before : (s t : Triple) → triple_cmp s t ≡ Less
    → (s.0 < t.0) ⊎ ((s.0 ≡ t.0) × (pair_cmp (s.1, s.2) (t.1, t.2) ≡ Less))
triple_before s t e = by_first (nat_cmp s.0 t.0) refl
  where
    by_first : (r : Ordering) → nat_cmp s.0 t.0 ≡ r
        → (s.0 < t.0) ⊎ ((s.0 ≡ t.0) × (pair_cmp (s.1, s.2) (t.1, t.2) ≡ Less))
    by_first Less r = inl (ranked s.0 t.0 Less (sym r))
    by_first Equal r = inr (
      ranked s.0 t.0 Equal (sym r),
      sym (ap (λ o. ordering_then o (pair_cmp (s.1, s.2) (t.1, t.2))) r) ∙ e,
    )
    by_first Greater r =
        let other : Greater ≡ Less = sym (ap (λ o. ordering_then o (pair_cmp (s.1, s.2) (t.1, t.2))) r) ∙ e in cc

pub first_triple : (n : ℕ) {P : Triple → Type 0} {Good : ℕ → ℕ → ℕ → Type 0} (i j k : ℕ)
    → ((a b c : ℕ) → Good a b c → P (a, b, c) → ⊥)
    → ((a b c : ℕ) → P (a, b, c) → (b < n) × (c < n)) → P (i, j, k)
    → ((a b c : ℕ) → a < i → b < n → c < n → Good a b c)
    → ((b c : ℕ) → b < j → c < n → Good i b c) → ((c : ℕ) → c < k → Good i j c)
    → IsFirst triple_cmp P (i, j, k)
first_triple n {P = P} {Good = Good} i j k apart within here earlier before last = (
  here,
  λ t less p. let w = within t.0 t.1 t.2 p in ⊎_elim
      (λ l. apart t.0 t.1 t.2 (earlier t.0 t.1 t.2 l w.0 w.1) p)
      (λ (e, less'). ⊎_elim
      (λ l. apart t.0 t.1 t.2 (subst (λ a. Good a t.1 t.2) (sym e) (before t.1 t.2 l w.1)) p)
      (λ (f, l). apart t.0 t.1 t.2
      (subst (λ a. Good a t.1 t.2) (sym e) (subst (λ b. Good i b t.2) (sym f) (last t.2 l))) p)
      (pair_before (t.1, t.2) (j, k) less'))
      (triple_before t (i, j, k) less),
)

-- one more number
pub one_more : {Good : ℕ → Type 0} (n : ℕ) → ((b : ℕ) → b < n → Good b) → Good n
    → (b : ℕ) → b < n + 1 → Good b
one_more {Good = Good} n before here b l = ⊎_elim
    (λ below. before b below)
    (λ above. let same : n ≡ b = omega (arith, l, above) in subst Good same here)
    (cases_lt b n)

-- ---- what a test says
pub told_true : (P Q : Type 0) (b : Bool) → b ≡ true → MatchBool b P Q → P
told_true P Q b e h = subst (λ t. MatchBool t P Q) e h

pub told_false : (P Q : Type 0) (b : Bool) → b ≡ false → MatchBool b P Q → Q
told_false P Q b e h = subst (λ t. MatchBool t P Q) e h

-- ---- prime subfields
module _ (L : Lattice) (edition : L.edition ≡ first_edition) where
  pub one_prime : (p q j : ℕ) → IsPrimeField L p j → IsPrimeField L q j → p ≡ q
  one_prime p q j a b = ⊎_elim (λ e. e)
      (λ apart. absurd (⊎_elim
      (λ l. differ p q l a b)
      (λ above. differ q p (omega (arith, apart, above)) b a)
      (cases_lt p q)))
      (cases_eq p q)
    where
      differ : (p q : ℕ) → p < q → IsPrimeField L p j → IsPrimeField L q j → ⊥
      differ p q l a b =
          let primes = ap (λ e. e.primes) edition in
          let within : q < length first_edition.primes = subst (λ ps. q < length ps) primes b.within in
          first_is_edition.primes_differ p q 0 l within
          (subst (λ ps. slice_index ps p ≡ slice_index ps q) primes (a.prime ∙ sym b.prime))

module _ (L : Lattice) (E : IsOfEdition L) where
  pub lacks_prime : (q j : ℕ) → j < length L.rows → IsPrimeField L q j → get L.maps (q, j) ≡ None
      → LacksPrimeSubfield L j
  lacks_prime q j l prime none = record {
    within = l;
    lacking = λ p m is s. none_stored L q j m none (subst (λ n. Stored L n j m) (one_prime L E.edition p q j is prime) s);
  }

  pub not_lacking : (j : ℕ) → HasPrimeSubfield L j → LacksPrimeSubfield L j → ⊥
  not_lacking j has lacks = lacks.lacking has.number has.map has.prime has.stored

-- ---- inverses and compositions
pub inverse_kept : (L : Lattice) (i j : ℕ) → KeepsInverse L i j → LacksInverse L (i, j) → ⊥
inverse_kept L i j keeps lacks =
    let n = keeps lacks.map lacks.stored lacks.isomorphism in lacks.lacking n.0 n.1

pub composition_kept : (L : Lattice) (i j k : ℕ) → KeepsComposition L i j k
    → LacksComposition L (i, j, k) → ⊥
composition_kept L i j k keeps lacks =
    lacks.lacking (keeps lacks.first lacks.second lacks.first_stored lacks.second_stored)
