-- The two editions are editions, and the rows of an opening lattice are rows of its edition.
use Rattle.std.proofs.Common.{◌≡◌, ◌≢◌, ℕ, ◌+◌, ◌-◌, ◌^◌, min, ◌<◌, ◌≤◌, List, length, take, map, All, AllPairs, get_or, slice_index, decimal, sym, ap, ◌∙◌, subst, inl, arith, rules, length-take, get_or-take}
use Rattle.std.specs.List.{range_with_len}
use Rattle.std.specs.List.Sorted.{IsStrictlyIncreasing}
use Rattle.std.proofs.lemmas.List.{get_or-map, get_or_default, length-map}
use Rattle.std.proofs.lemmas.List.Elements.{All-from_recursion, All-take}
use Rattle.std.proofs.lemmas.List.FromFn.{get_or-range_with_len}
use Rattle.std.proofs.lemmas.List.Kept.{AllPairs-from_increasing}
use Rattle.std.proofs.lemmas.Fmt.{decimal_injective}
use Rattle.std.proofs.Math.Seq.{take-length}
use Rattle.alg_model.specs.Coefficients.{primes, IsPrime}
use Rattle.alg_model.specs.Lattices.{Edition, first_edition, second_edition, Lattice, Row, no_row, prime_row, IsEdition, IsRow, IsRows}
use Rattle.alg_model.specs.Declaring.{IsOpening}
use Rattle.alg_rings.proofs.Primes.{each_characteristic, characteristic_is_prime}
use Rattle.alg_galois.proofs.Fields.{prime_field_finite}

-- ---- the two editions
primes_are_prime : All IsPrime primes
primes_are_prime k d h =
    characteristic_is_prime (get_or primes k d) (k, h, get_or_default primes k _ d h)

primes_are_words : All (λ p. p < 2 ^ 64) primes
primes_are_words k d h = each_characteristic (λ p. p < 2 ^ 64) (search rules) (get_or primes k d)
    (k, h, get_or_default primes k _ d h)

-- each number of the table is below the next
below_next : All (λ k. slice_index primes k < slice_index primes (k + 1))
    (range_with_len 0 (length primes - 1))
below_next = All-from_recursion (λ k. slice_index primes k < slice_index primes (k + 1))
    (range_with_len 0 (length primes - 1)) (search rules)

primes_rise : IsStrictlyIncreasing primes
primes_rise k h =
    let e : get_or (range_with_len 0 17) k 0 ≡ k =
    omega (arith, get_or-range_with_len 0 17 k 0 (omega arith)) in
    subst (λ i. slice_index primes i < slice_index primes (i + 1)) e (below_next k 0 (omega arith))

primes_differ : AllPairs (λ p q. p ≢ q) primes
primes_differ i j d l h e =
    let a : get_or primes i d < get_or primes j d =
    AllPairs-from_increasing primes primes_rise i j d l h in
    omega arith

-- what holds of all pairs of a list holds of all pairs of its first members
pairs_take : {X : Type 0} (R : X → X → Type 0) (n : ℕ) (xs : List X) → AllPairs R xs
    → AllPairs R (take n xs)
pairs_take R n xs all i j d l h =
    let e : length (take n xs) ≡ min n (length xs) = length-take n xs in
    rw (get_or-take n xs i d (omega arith), get_or-take n xs j d (omega arith))
    (all i j d l (omega arith))

-- **the first edition is an edition**
pub first_is_edition : IsEdition first_edition
first_is_edition = record {
  are_prime = All-take IsPrime 11 primes primes_are_prime;
  are_words = All-take (λ p. p < 2 ^ 64) 11 primes primes_are_words;
  primes_differ = pairs_take (λ p q. p ≢ q) 11 primes primes_differ;
  top = omega arith;
  prime_fields = omega arith;
  room = omega arith;
}

-- **and so is the second**
pub second_is_edition : IsEdition second_edition
second_is_edition = record {
  are_prime = primes_are_prime;
  are_words = primes_are_words;
  primes_differ = primes_differ;
  top = omega arith;
  prime_fields = omega arith;
  room = omega arith;
}

-- ---- the rows of an opening lattice
-- prime fields with one name have one characteristic
name_injective : (p q : ℕ) → p < 2 ^ 64 → q < 2 ^ 64
    → (prime_row p).name ≡ (prime_row q).name → p ≡ q
name_injective p q h k e = decimal_injective p q h k (tails e)
  where
    tails : (prime_row p).name ≡ (prime_row q).name → decimal p ≡ decimal q
    tails e = cc

module _ (edition : Edition) (D : IsEdition edition) where
  -- the row of a prime field is a row of the edition
  prime_is_row : (i : ℕ) → i < length edition.primes
      → IsRow edition i (prime_row (get_or edition.primes i 0))
  prime_is_row i h = record {
    field = prime_field_finite (get_or edition.primes i 0) (D.are_prime i 0 h);
    characteristic = (i, h, get_or_default edition.primes i _ 0 h);
    degree = D.top;
    name = inl (λ e. let f : 70 ≡ 95 = e in omega arith);
  }

  row_at : (i : ℕ) (d : Row) → i < length edition.primes
      → get_or (map prime_row edition.primes) i d ≡ prime_row (get_or edition.primes i 0)
  row_at i d h = get_or-map prime_row edition.primes i 0 d h

  prime_rows : IsRows edition (map prime_row edition.primes)
  prime_rows = record {
    of_edition = D;
    prime_fields = subst (λ n. take n (map prime_row edition.primes) ≡ map prime_row edition.primes)
        (length-map edition.primes prime_row) (take-length (map prime_row edition.primes));
    row = λ i h.
        let k : i < length edition.primes = omega (arith, length-map edition.primes prime_row) in
        rw (row_at i no_row k) (prime_is_row i k);
    names_differ = λ i j d l h e.
        let k : j < length edition.primes = omega (arith, length-map edition.primes prime_row) in
        let m : i < length edition.primes = omega arith in
        D.primes_differ i j 0 l k
        (name_injective (get_or edition.primes i 0) (get_or edition.primes j 0)
        (D.are_words i 0 m) (D.are_words j 0 k)
        (sym (ap (λ r. r.name) (row_at i d m)) ∙ e ∙ ap (λ r. r.name) (row_at j d k)));
    room = let a : length edition.primes ≤ edition.room = D.prime_fields in
        omega (arith, length-map edition.primes prime_row);
  }

-- **the rows of an opening lattice are rows of its edition**
pub opening_rows : {L : Lattice} → IsEdition L.edition → IsOpening L → IsRows L.edition L.rows
opening_rows {L} D O = subst (IsRows L.edition) (sym O.rows) (prime_rows L.edition D)
