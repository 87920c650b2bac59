-- Generalized Chinese remainders: congruences that agree in pairs modulo the gcd of their moduli
-- have a common solution.
-- The solution of the first k is carried with a common multiple M of their moduli that is small
-- enough: whatever the gcd of
-- each modulus and n divides, the gcd of M and n divides.
--     Solved modulus turn k     a solution of the first k congruences, with such a multiple
--     common_solution           the solution of all
use Rattle.std.proofs.Common.{◌≡◌, ℕ, zero, suc, ◌+◌, ◌*◌, ◌%◌, ◌/◌, ◌<◌, ◌≤◌, sym, ap, ◌∙◌, subst, ⊎_elim, arith}
use Rattle.std.proofs.Math.Nat.{dvd-mul_right, dvd-mul_left, dvd-mul_right_of_dvd, dvd-add, dvd-add_iff_left, one-dvd, mul-dvd-mul_left, eq_of_mul-eq-mul_left, mul-pos, pos_of_dvd_of_pos}
use Rattle.std.proofs.lemmas.Nat.Gcd.{same_from_IsGcd, dvd_trans}
use Rattle.std.proofs.lemmas.Bool.{cases_eq}
use Rattle.std.specs.Int.{IsGcd}
use Prim.Native.Nat.{◌∣◌}
use Rattle.alg_lattices.proofs.Congruences.{Congruent, Bezout, bezout, quotient, congruent_trans, congruent_back, congruent_multiple, congruent_sum, congruent_divisor, congruent_from_mod, mod_from_congruent, distance, divides_distance, congruent_from_distance}

-- two congruences that agree modulo the gcd of their moduli have a common solution
pub solve_two : (M n d s a : ℕ) → IsGcd M n d → 0 < n → Congruent d s a
    → (x : ℕ) × Congruent M x s × Congruent n x a
solve_two M zero d s a g h k = absurd (omega arith)
solve_two M (suc c) d s a g h k = (
  s + M * b.factor * w,
  record { left = 0; right = b.factor * w; equation = grind arith },
  congruent_trans (congruent_sum s (congruent_multiple w near)) last,
)
  where
    b : Bezout M (suc c)
    b = bezout M (suc c)

    w : ℕ
    w = k.left + c * k.right

    near : Congruent (suc c) (M * b.factor) d
    near = subst (λ z. Congruent (suc c) (M * b.factor) z) (same_from_IsGcd M (suc c) b.gcd d b.is_gcd g) b.congruent

    last : Congruent (suc c) (s + d * w) a
    last = record {
      left = 0;
      right = d * k.right;
      equation = let e : s + d * k.left ≡ a + d * k.right = k.equation in omega arith;
    }

-- what divides m n and N divides m times the gcd of n and N
divides_times_gcd : (D m n N g : ℕ) → IsGcd n N g → D ∣ m * n → D ∣ N → D ∣ m * g
divides_times_gcd D m n N g h k l = (dvd-add_iff_left D right).1 (subst (λ z. D ∣ z) e left)
  where
    b : Bezout n N
    b = bezout n N

    right : D ∣ N * (m * b.congruent.right)
    right = dvd-mul_right_of_dvd D l (m * b.congruent.right)

    left : D ∣ m * n * b.factor + N * (m * b.congruent.left)
    left = dvd-add D (dvd-mul_right_of_dvd D k b.factor) (dvd-mul_right_of_dvd D l (m * b.congruent.left))

    e : m * n * b.factor + N * (m * b.congruent.left) ≡ m * g + N * (m * b.congruent.right)
    e =
        let f : m * b.gcd ≡ m * g = ap (λ z. m * z) (same_from_IsGcd n N b.gcd g b.is_gcd h) in
        let i : m * (n * b.factor + N * b.congruent.left) ≡ m * (b.gcd + N * b.congruent.right) = ap (λ z. m * z) b.congruent.equation in
        omega arith

-- what divides x e and y e divides e, where x and y are the quotients of two numbers by their gcd
divides_from_coprime : (D M n d x y e : ℕ) → 0 < d → M ≡ d * x → n ≡ d * y → IsGcd M n d → D ∣ x * e
    → D ∣ y * e → D ∣ e
divides_from_coprime D M n d x y e p a c h k l = (dvd-add_iff_left D right).1 (subst (λ z. D ∣ z) i left)
  where
    b : Bezout M n
    b = bezout M n

    one : d * (x * b.factor + y * b.congruent.left) ≡ d * (1 + y * b.congruent.right)
    one =
        let f : b.gcd ≡ d = same_from_IsGcd M n b.gcd d b.is_gcd h in
        let i : M * b.factor + n * b.congruent.left ≡ b.gcd + n * b.congruent.right = b.congruent.equation in
        let j : M * b.factor ≡ d * x * b.factor = ap (λ z. z * b.factor) a in
        let u : n * b.congruent.left ≡ d * y * b.congruent.left = ap (λ z. z * b.congruent.left) c in
        let v : n * b.congruent.right ≡ d * y * b.congruent.right = ap (λ z. z * b.congruent.right) c in
        omega arith

    right : D ∣ y * e * b.congruent.right
    right = dvd-mul_right_of_dvd D l b.congruent.right

    left : D ∣ x * e * b.factor + y * e * b.congruent.left
    left = dvd-add D (dvd-mul_right_of_dvd D k b.factor) (dvd-mul_right_of_dvd D l b.congruent.left)

    i : x * e * b.factor + y * e * b.congruent.left ≡ e + y * e * b.congruent.right
    i =
        let f : x * b.factor + y * b.congruent.left ≡ 1 + y * b.congruent.right = eq_of_mul-eq-mul_left d p _ _ one in
        let j : (x * b.factor + y * b.congruent.left) * e ≡ (1 + y * b.congruent.right) * e = ap (λ z. z * e) f in
        omega arith

-- the gcd of N and the least common multiple of M and n divides what the gcds of N with M and with
-- n divide
pub gcd_of_multiple : (M n d x y N D e g k : ℕ) → 0 < d → M ≡ d * x → n ≡ d * y → IsGcd M n d
    → IsGcd (M * y) N D
    → IsGcd M N g → g ∣ e → IsGcd n N k → k ∣ e → D ∣ e
gcd_of_multiple M n d x y N D e g k p a c h i j u l v = divides_from_coprime D M n d x y e p a c h first second
  where
    swapped : M * y ≡ x * n
    swapped = ap (λ z. z * y) a ∙ (let f : d * x * y ≡ x * (d * y) = omega arith in f) ∙ ap (λ z. x * z) (sym c)

    first : D ∣ x * e
    first = dvd_trans D (divides_times_gcd D x n N k l (subst (λ z. D ∣ z) swapped i.0) i.1) (mul-dvd-mul_left k x v)

    second : D ∣ y * e
    second =
        let f : M * y ≡ y * M = omega arith in
        dvd_trans D (divides_times_gcd D y M N g j (subst (λ z. D ∣ z) f i.0) i.1) (mul-dvd-mul_left g y u)

-- a solution of the first k congruences, and a multiple of their moduli that is small enough
pub record Solved (modulus turn : ℕ → ℕ) (k : ℕ) : Type 0 where
  pub solution : ℕ
  pub multiple : ℕ
  pub positive : 0 < multiple
  pub solves : (i : ℕ) → i < k → Congruent (modulus i) solution (turn i)
  pub divided : (i : ℕ) → i < k → modulus i ∣ multiple
  pub least : (n d e : ℕ) → IsGcd multiple n d → ((i g : ℕ) → i < k → IsGcd (modulus i) n g → g ∣ e)
      → d ∣ e

-- of no congruence every number is a solution
pub solved_none : (modulus turn : ℕ → ℕ) → Solved modulus turn 0
solved_none modulus turn = record {
  solution = 0;
  multiple = 1;
  positive = omega arith;
  solves = λ i h. absurd (omega arith);
  divided = λ i h. absurd (omega arith);
  least = λ n d e h k. dvd_trans d h.0 (one-dvd e);
}

-- the next congruence agrees with the solution modulo the gcd of the multiple and its modulus
pub solved_one_more : {modulus turn : ℕ → ℕ} {k : ℕ} → Solved modulus turn k → 0 < modulus k
    → ((i g : ℕ) → i < k → IsGcd (modulus i) (modulus k) g → turn i % g ≡ turn k % g)
    → Solved modulus turn (suc k)
solved_one_more {modulus} {turn} {k} s p agree = record {
  solution = two.0;
  multiple = s.multiple * y;
  positive = mul-pos s.positive (pos_of_dvd_of_pos (subst (λ z. y ∣ z) (sym second) (dvd-mul_left y b.gcd)) p);
  solves = λ i h. ⊎_elim (λ (e : i ≡ k). subst (λ j. Congruent (modulus j) two.0 (turn j)) (sym e) two.2) (λ n. before i (omega arith)) (cases_eq i k);
  divided = λ i h. ⊎_elim (λ (e : i ≡ k). subst (λ j. modulus j ∣ s.multiple * y) (sym e) whole)
      (λ n. dvd-mul_right_of_dvd (modulus i) (s.divided i (omega arith)) y) (cases_eq i k);
  least = λ N D e h below. least N D e h below (bezout s.multiple N) (bezout (modulus k) N);
}
  where
    b : Bezout s.multiple (modulus k)
    b = bezout s.multiple (modulus k)

    x : ℕ
    x = s.multiple / b.gcd

    y : ℕ
    y = modulus k / b.gcd

    first : s.multiple ≡ b.gcd * x
    first = quotient b.gcd s.multiple b.is_gcd.0

    second : modulus k ≡ b.gcd * y
    second = quotient b.gcd (modulus k) b.is_gcd.1

    same : Congruent b.gcd s.solution (turn k)
    same = congruent_from_distance b.gcd s.solution (turn k) (s.least (modulus k) b.gcd (distance s.solution (turn k)) b.is_gcd
        (λ i g h j. divides_distance (congruent_trans (congruent_divisor g j.0 (s.solves i h)) (congruent_from_mod g (turn i) (turn k) (agree i g h j)))))

    two : (z : ℕ) × Congruent s.multiple z s.solution × Congruent (modulus k) z (turn k)
    two = solve_two s.multiple (modulus k) b.gcd s.solution (turn k) b.is_gcd p same

    before : (i : ℕ) → i < k → Congruent (modulus i) two.0 (turn i)
    before i h = congruent_trans (congruent_divisor (modulus i) (s.divided i h) two.1) (s.solves i h)

    whole : modulus k ∣ s.multiple * y
    whole =
        let e : s.multiple * y ≡ b.gcd * x * y = ap (λ z. z * y) first in
        let f : modulus k * x ≡ b.gcd * y * x = ap (λ z. z * x) second in
        let g : modulus k * x ≡ s.multiple * y = omega arith in
        subst (λ z. modulus k ∣ z) g (dvd-mul_right (modulus k) x)

    least : (N D e : ℕ) → IsGcd (s.multiple * y) N D
        → ((i g : ℕ) → i < suc k → IsGcd (modulus i) N g → g ∣ e)
        → Bezout s.multiple N → Bezout (modulus k) N → D ∣ e
    least N D e h below u v =
        gcd_of_multiple s.multiple (modulus k) b.gcd x y N D e u.gcd v.gcd (pos_of_dvd_of_pos b.is_gcd.1 p) first second b.is_gcd h
        u.is_gcd (s.least N u.gcd e u.is_gcd (λ i g l. below i g (omega arith)))
        v.is_gcd (below k v.gcd (omega arith) v.is_gcd)

solved : (modulus turn : ℕ → ℕ) (count : ℕ) → ((i : ℕ) → i < count → 0 < modulus i)
    → ((i j g : ℕ) → i < count → j < count → IsGcd (modulus i) (modulus j) g → turn i % g ≡ turn j % g)
    → (k : ℕ) → k ≤ count → Solved modulus turn k
solved modulus turn count p agree zero h = solved_none modulus turn
solved modulus turn count p agree (suc k) h =
    solved_one_more (solved modulus turn count p agree k (omega arith)) (p k (omega arith))
    (λ i g l. agree i k g (omega arith) (omega arith))

-- **congruences that agree in pairs modulo the gcd of their moduli have a common solution**
pub common_solution : (modulus turn : ℕ → ℕ) (count : ℕ) → ((i : ℕ) → i < count → 0 < modulus i)
    → ((i j g : ℕ) → i < count → j < count → IsGcd (modulus i) (modulus j) g → turn i % g ≡ turn j % g)
    → (t : ℕ) × ((i : ℕ) → i < count → t % modulus i ≡ turn i % modulus i)
common_solution modulus turn count p agree =
    let s : Solved modulus turn count = solved modulus turn count p agree count (omega arith) in
    (s.solution, λ i h. mod_from_congruent (s.solves i h))

-- and only such congruences have one
pub agree_from_solution : (m n g s t x : ℕ) → IsGcd m n g → x % m ≡ s % m → x % n ≡ t % n
    → s % g ≡ t % g
agree_from_solution m n g s t x h e f =
    mod_from_congruent (congruent_trans (congruent_back (congruent_divisor g h.0 (congruent_from_mod m x s e)))
    (congruent_divisor g h.1 (congruent_from_mod n x t f)))
