-- The closure of the members' degrees under gcd can be computed: so there is a list of the missing
-- degrees, and it is one.
--     Multiples o L E F d n g    g is the gcd of the degrees that d divides, of the members below n
use Rattle.std.proofs.Common.{◌≡◌, ◌⊎◌, ℕ, zero, suc, ◌+◌, ◌<◌, ◌≤◌, List, sym, ap, subst, inl, inr, ⊎_elim, arith}
use Rattle.std.proofs.lemmas.Bool.{cases_eq}
use Rattle.std.proofs.lemmas.Nat.Gcd.{dvd_refl, dvd_trans, dvd_antisymm, le_of_dvd}
use Prim.Native.Nat.{◌∣◌}
use Rattle.alg_rings.proofs.Decisions.{Least, search_below, divides_or_not, both_or_not}
use Rattle.alg_lattices.specs.Embeddings.{Embeddings, EmbeddingLaws, FrobeniusLaws}
use Rattle.alg_lattices.specs.Lattices.{Lattice, Compatible, IsDecided}
use Rattle.alg_lattices.specs.Filling.{IsCandidate, IsMember, IsClosureDegree, IsMissing, AreMissing}
use Rattle.alg_lattices.specs.Filling.IsMember.{of_source, of_target}
use Rattle.alg_lattices.specs.Filling.IsClosureDegree.{of_member, of_gcd}
use Rattle.alg_lattices.proofs.Congruences.{Bezout, bezout}
use Rattle.alg_lattices.proofs.RisingLists.{Listed, listed, rising_one}
use Rattle.alg_lattices.proofs.Closure.{member_or_not}

-- the gcd g of the degrees that d divides, of the members below n
record Multiples {Field Map : Type 0} (o : Embeddings Field Map) (L : Lattice Field Map)
    (E F d n : ℕ) : Type 0 where
  gcd : ℕ
  in_closure : IsClosureDegree o L E F gcd
  divided : d ∣ gcd
  divides : (i : ℕ) → i < n → IsMember L E F i → d ∣ o.degree (L.row i) → gcd ∣ o.degree (L.row i)

module _ {Field Map : Type 0} {o : Embeddings Field Map} {L : Lattice Field Map} {E F : ℕ} where
  -- what divides the degree of each member divides each degree of the closure
  pub divides_closure : (g : ℕ) → ((i : ℕ) → IsMember L E F i → g ∣ o.degree (L.row i)) → {d : ℕ}
      → IsClosureDegree o L E F d → g ∣ d
  divides_closure g h (of_member {i} m) = h i m
  divides_closure g h (of_gcd p q c) = c.2 g (divides_closure g h p) (divides_closure g h q)

  -- what the degree of each member divides each degree of the closure divides
  pub closure_divides : (n : ℕ) → ((i : ℕ) → IsMember L E F i → o.degree (L.row i) ∣ n) → {d : ℕ}
      → IsClosureDegree o L E F d → d ∣ n
  closure_divides n h (of_member {i} m) = h i m
  closure_divides n h (of_gcd {d = d} p q c) = dvd_trans d c.0 (closure_divides n h p)

  -- of the degrees that d divides
  multiples_divide : (d g : ℕ)
      → ((i : ℕ) → IsMember L E F i → d ∣ o.degree (L.row i) → g ∣ o.degree (L.row i)) → {c : ℕ}
      → IsClosureDegree o L E F c → d ∣ c → g ∣ c
  multiples_divide d g h (of_member {i} m) k = h i m k
  multiples_divide d g h (of_gcd p q c) k =
      c.2 g (multiples_divide d g h p (dvd_trans d k c.0)) (multiples_divide d g h q (dvd_trans d k c.1))

  -- each degree of the closure divides the degree of some member
  some_member : {d : ℕ} → IsClosureDegree o L E F d
      → (i : ℕ) × IsMember L E F i × (d ∣ o.degree (L.row i))
  some_member (of_member {i} m) = (i, m, dvd_refl (o.degree (L.row i)))
  some_member (of_gcd {d = d} p q c) = let (i, m, h) = some_member p in (i, m, dvd_trans d c.0 h)

module _ {Field Map : Type 0} {o : Embeddings Field Map} {L : Lattice Field Map} (D : IsDecided L)
    (E F : ℕ)
    (within : (i : ℕ) → IsMember L E F i → i < L.count) where
  multiples : {d : ℕ} (i : ℕ) → IsMember L E F i → d ∣ o.degree (L.row i) → (n : ℕ)
      → Multiples o L E F d n
  multiples i m h zero = record {
    gcd = o.degree (L.row i);
    in_closure = of_member m;
    divided = h;
    divides = λ j k n e. absurd (omega arith);
  }
  multiples {d} i m h (suc n) = next (multiples i m h n) (both_or_not (member_or_not D E F n) (divides_or_not d (o.degree (L.row n))))
    where
      next : Multiples o L E F d n
          → (IsMember L E F n × (d ∣ o.degree (L.row n))) ⊎ ¬ (IsMember L E F n × (d ∣ o.degree (L.row n)))
          → Multiples o L E F d (suc n)
      next r (inl (k, e)) =
          let g : Bezout r.gcd (o.degree (L.row n)) = bezout r.gcd (o.degree (L.row n)) in
          record {
            gcd = g.gcd;
            in_closure = of_gcd r.in_closure (of_member k) g.is_gcd;
            divided = g.is_gcd.2 d r.divided e;
            divides = λ j l u v. ⊎_elim
                (λ f. subst (λ z. g.gcd ∣ o.degree (L.row z)) (sym f) g.is_gcd.1)
                (λ f. dvd_trans g.gcd g.is_gcd.0 (r.divides j (omega arith) u v))
                (cases_eq j n);
          }
      next r (inr none) = record {
        gcd = r.gcd;
        in_closure = r.in_closure;
        divided = r.divided;
        divides = λ j l u v. ⊎_elim
            (λ f. absurd (none (subst (λ z. IsMember L E F z × (d ∣ o.degree (L.row z))) f (u, v))))
            (λ f. r.divides j (omega arith) u v)
            (cases_eq j n);
      }

  pub closure_or_not : (d : ℕ) → IsClosureDegree o L E F d ⊎ ¬ IsClosureDegree o L E F d
  closure_or_not d = ⊎_elim
      (λ (l : Least Multiple L.count). decide (multiples l.number l.holds.0 l.holds.1 L.count))
      (λ none. inr (λ c. let (i, m, h) = some_member c in none i (within i m) (m, h)))
      (search_below Multiple L.count (λ i h. both_or_not (member_or_not D E F i) (divides_or_not d (o.degree (L.row i)))))
    where
      Multiple : ℕ → Type 0
      Multiple i = IsMember L E F i × (d ∣ o.degree (L.row i))

      decide : Multiples o L E F d L.count → IsClosureDegree o L E F d ⊎ ¬ IsClosureDegree o L E F d
      decide r = ⊎_elim
          (λ e. inl (subst (IsClosureDegree o L E F) e r.in_closure))
          (λ n. inr (λ c. n (dvd_antisymm (multiples_divide d r.gcd (λ i m. r.divides i (within i m) m) c (dvd_refl d)) r.divided)))
          (cases_eq r.gcd d)

  pub missing_or_not : (d : ℕ) → IsMissing o L E F d ⊎ ¬ IsMissing o L E F d
  missing_or_not d = ⊎_elim
      (λ c. ⊎_elim
      (λ (l : Least HasDegree L.count). inr (λ m. m.no_member l.holds.0 l.holds.1))
      (λ none. inl (record { in_closure = c; no_member = λ {i} m e. none i (within i m) (m, e) }))
      (search_below HasDegree L.count (λ i h. both_or_not (member_or_not D E F i) (cases_eq (o.degree (L.row i)) d))))
      (λ n. inr (λ m. n m.in_closure))
      (closure_or_not d)
    where
      HasDegree : ℕ → Type 0
      HasDegree i = IsMember L E F i × (o.degree (L.row i) ≡ d)

-- **each degree of the closure divides the degree of the target**
pub closure_divides_target : {Field Map : Type 0} {o : Embeddings Field Map} {primes : ℕ}
    {L : Lattice Field Map} {E F : ℕ} {phi : Map}
    → EmbeddingLaws o → Compatible o primes L → IsCandidate o L E F phi
    → {d : ℕ} → IsClosureDegree o L E F d → d ∣ o.degree (L.row F)
closure_divides_target {o = o} {L = L} {E} {F} law C I c = closure_divides (o.degree (L.row F)) divides c
  where
    divides : (i : ℕ) → IsMember L E F i → o.degree (L.row i) ∣ o.degree (L.row F)
    divides i (of_source h) = law.degree_divides (law.comp (C.embedding h) I.embedding)
    divides i (of_target h) = law.degree_divides (C.embedding h)

-- the degrees of the fields below a number have a bound
bound_below : {Field Map : Type 0} (o : Embeddings Field Map) (row : ℕ → Field) (n : ℕ)
    → (b : ℕ) × ((i : ℕ) → i < n → o.degree (row i) ≤ b)
bound_below o row zero = (0, λ i h. absurd (omega arith))
bound_below o row (suc n) = further (bound_below o row n)
  where
    further : (b : ℕ) × ((i : ℕ) → i < n → o.degree (row i) ≤ b)
        → (b : ℕ) × ((i : ℕ) → i < suc n → o.degree (row i) ≤ b)
    further (b, below) = (
      b + o.degree (row n),
      λ i h. ⊎_elim
          (λ (e : i ≡ n).
          let f : o.degree (row i) ≡ o.degree (row n) = ap (λ j. o.degree (row j)) e in
          omega arith)
          (λ k. let l : o.degree (row i) ≤ b = below i (omega arith) in omega arith)
          (cases_eq i n),
    )

-- **there is a list of the missing degrees**
pub missing_list : {Field Map : Type 0} {o : Embeddings Field Map} {primes : ℕ}
    {L : Lattice Field Map}
    → EmbeddingLaws o → FrobeniusLaws o → Compatible o primes L → IsDecided L → (E F : ℕ)
    → (ds : List ℕ) × AreMissing o L E F ds
missing_list {o = o} {L = L} law frobenius C D E F =
    let l : Listed (IsMissing o L E F) (suc bound.0) =
    listed (IsMissing o L E F) (missing_or_not D E F within) (suc bound.0) in
    (l.list, record { rising = l.rising; exactly = λ d. (l.holds, λ m. l.all (small m) m) })
  where
    bound : (b : ℕ) × ((i : ℕ) → i < L.count → o.degree (L.row i) ≤ b)
    bound = bound_below o L.row L.count

    within : (i : ℕ) → IsMember L E F i → i < L.count
    within i (of_source h) = (C.within h).0
    within i (of_target h) = (C.within h).0

    positive : {i : ℕ} → IsMember L E F i → 0 < o.degree (L.row i)
    positive (of_source h) = frobenius.degree_positive (law.source (C.embedding h))
    positive (of_target h) = frobenius.degree_positive (law.source (C.embedding h))

    small : {d : ℕ} → IsMissing o L E F d → d < suc bound.0
    small {d} m =
        let (i, k, e) = some_member m.in_closure in
        let a : d ≤ o.degree (L.row i) = le_of_dvd (positive k) e in
        let b : o.degree (L.row i) ≤ bound.0 = bound.1 i (within i k) in
        omega arith

-- **and no other**
pub missing_list_one : {Field Map : Type 0} {o : Embeddings Field Map} {L : Lattice Field Map}
    {E F : ℕ} (ds es : List ℕ)
    → AreMissing o L E F ds → AreMissing o L E F es → ds ≡ es
missing_list_one ds es h k = rising_one ds es h.rising k.rising
    (λ d. (λ c. (k.exactly d).1 ((h.exactly d).0 c), λ c. (h.exactly d).1 ((k.exactly d).0 c)))
