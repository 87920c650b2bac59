-- A closure that gives a * a, a^p - a or a + 1 realizes its table.
use Rattle.std.specs.Prelude.{◌≡◌, ℕ, List}
use Rattle.std.proofs.Common.{ap, ap₂, sym, subst, ◌∙◌, Bor}
use Rattle.alg_model.specs.Coefficients.{power, IsCharacteristic}
use Rattle.alg_model.specs.Maps.{Field, IsFiniteField, field_values}
use Rattle.ff_poly.specs.Polynomial.{Polynomial}
use Rattle.ff_field.specs.SmallFields.{IsSmallField}
use Rattle.natural_ops.specs.Operations.{value_at, Realizes}
use Rattle.program_ops.specs.Tables.{table_with, square, artin_schreier, successor}
use Rattle.program_ops.proofs.TableValues.{square_value, artin_schreier_value, successor_value}

module _ {F : Type 0} (can_run : F → Field → List ℕ → Type 0)
    (gives : F → Field → List ℕ → List ℕ → Type 0) (f : F)
    (runs : (K : Field) (a : List ℕ) → IsSmallField K → (field_values K).Valid a → can_run f K a)
    (table : List Polynomial) where
  -- all that it may give is what the table's value is equal to
  realizes_with : (c : ℕ → List ℕ) (v : Field → List ℕ → List ℕ) → table ≡ table_with c
      → ((K : Field) (a : List ℕ) → IsCharacteristic K.characteristic → IsFiniteField K
      → (field_values K).Valid a → value_at (table_with c) K a ≡ v K a)
      → ((K : Field) (a b : List ℕ) → IsSmallField K → (field_values K).Valid a → gives f K a b
      → b ≡ v K a) → Realizes can_run gives table f
  realizes_with c v e law answer = record {
    runs = runs;
    answers = λ K a b S va g. answer K a b S va g ∙ sym (law K a S.characteristic S.finite va)
        ∙ ap (λ t. value_at t K a) (sym e);
  }

  -- **what gives a * a realizes the table of squares**
  pub realizes_square : table ≡ table_with square
      → ((K : Field) (a b : List ℕ) → IsSmallField K → (field_values K).Valid a → gives f K a b
      → b ≡ (field_values K).ops.mul a a) → Realizes can_run gives table f
  realizes_square e = realizes_with square (λ K a. (field_values K).ops.mul a a) e square_value

  -- **what gives a^p - a realizes that of the Artin-Schreier polynomials**
  pub realizes_artin_schreier : table ≡ table_with artin_schreier
      → ((K : Field) (a b : List ℕ) → IsSmallField K → (field_values K).Valid a → gives f K a b
      → b ≡ (field_values K).ops.add (power (field_values K).ops a K.characteristic)
      ((field_values K).ops.neg a)) → Realizes can_run gives table f
  realizes_artin_schreier e = realizes_with artin_schreier
      (λ K a. (field_values K).ops.add (power (field_values K).ops a K.characteristic)
      ((field_values K).ops.neg a)) e artin_schreier_value

  -- **what gives a + 1 realizes that of successors**
  pub realizes_successor : table ≡ table_with successor
      → ((K : Field) (a b : List ℕ) → IsSmallField K → (field_values K).Valid a → gives f K a b
      → b ≡ (field_values K).ops.add a (field_values K).ops.one) → Realizes can_run gives table f
  realizes_successor e = realizes_with successor
      (λ K a. (field_values K).ops.add a (field_values K).ops.one) e successor_value

-- a closure takes its field and its value by reference; what holds of a call at each two
-- references holds at each field and value
module _ {F : Type 0} (f : F) where
  -- **it runs**
  pub runs_from_calls : (pre : F → Bor Field → Bor (List ℕ) → Type 0)
      → ((x : Bor Field) (y : Bor (List ℕ)) → IsSmallField x.now
      → (field_values x.now).Valid y.now → pre f x y)
      → (K : Field) (a : List ℕ) → IsSmallField K → (field_values K).Valid a
      → (x : Bor Field) (y : Bor (List ℕ)) → x.now ≡ K → y.now ≡ a → pre f x y
  runs_from_calls pre h K a S va x y k e = h x y (subst IsSmallField (sym k) S)
      (subst (λ L. (field_values L).Valid y.now) (sym k)
      (subst (field_values K).Valid (sym e) va))

  -- **and all that it gives is the value**
  pub answers_from_calls : (post : F → Bor Field → Bor (List ℕ) → List ℕ → Type 0)
      (v : Field → List ℕ → List ℕ)
      → ((x : Bor Field) (y : Bor (List ℕ)) (b : List ℕ) → IsSmallField x.now
      → (field_values x.now).Valid y.now → post f x y b → b ≡ v x.now y.now)
      → (K : Field) (a b : List ℕ) → IsSmallField K → (field_values K).Valid a
      → ((x : Bor Field) × (y : Bor (List ℕ)) × (x.now ≡ K) × (y.now ≡ a) × post f x y b)
      → b ≡ v K a
  answers_from_calls post v h K a b S va (x, y, k, e, p) = h x y b (subst IsSmallField (sym k) S)
      (subst (λ L. (field_values L).Valid y.now) (sym k)
      (subst (field_values K).Valid (sym e) va)) p ∙ ap₂ v k e

-- ---- the same at once, for the predicates of a closure
-- it may be called
abbrev pub Runs : {F : Type 0} → (F → Bor Field → Bor (List ℕ) → Type 0) → F → Type 0
Runs pre f = (x : Bor Field) (y : Bor (List ℕ)) → IsSmallField x.now
    → (field_values x.now).Valid y.now → pre f x y

-- what it gives is the value
abbrev pub Gives : {F : Type 0} → (F → Bor Field → Bor (List ℕ) → List ℕ → Type 0) → F
    → (Field → List ℕ → List ℕ) → Type 0
Gives post f v = (x : Bor Field) (y : Bor (List ℕ)) (b : List ℕ) → IsSmallField x.now
    → (field_values x.now).Valid y.now → post f x y b → b ≡ v x.now y.now

-- it realizes the table
abbrev pub Realized : {F : Type 0} → (F → Bor Field → Bor (List ℕ) → Type 0)
    → (F → Bor Field → Bor (List ℕ) → List ℕ → Type 0) → List Polynomial → F → Type 0
Realized pre post table f = Realizes
    (λ f K a. (x : Bor Field) → (y : Bor (List ℕ)) → x.now ≡ K → y.now ≡ a → pre f x y)
    (λ f K a b. (x : Bor Field) × (y : Bor (List ℕ)) × (x.now ≡ K) × (y.now ≡ a)
    × post f x y b) table f

module _ {F : Type 0} (pre : F → Bor Field → Bor (List ℕ) → Type 0)
    (post : F → Bor Field → Bor (List ℕ) → List ℕ → Type 0) (table : List Polynomial) (f : F) where
  -- **a closure that gives a * a realizes the table of squares**
  pub square_realized : table ≡ table_with square → Runs pre f
      → Gives post f (λ K a. (field_values K).ops.mul a a) → Realized pre post table f
  square_realized e r h = realizes_square _ _ f (runs_from_calls f pre r) table e
      (answers_from_calls f post (λ K a. (field_values K).ops.mul a a) h)

  -- **one that gives a^p - a realizes that of the Artin-Schreier polynomials**
  pub artin_schreier_realized : table ≡ table_with artin_schreier → Runs pre f
      → Gives post f (λ K a. (field_values K).ops.add
      (power (field_values K).ops a K.characteristic) ((field_values K).ops.neg a))
      → Realized pre post table f
  artin_schreier_realized e r h = realizes_artin_schreier _ _ f (runs_from_calls f pre r) table e
      (answers_from_calls f post (λ K a. (field_values K).ops.add
      (power (field_values K).ops a K.characteristic) ((field_values K).ops.neg a)) h)

  -- **one that gives a + 1 realizes that of successors**
  pub successor_realized : table ≡ table_with successor → Runs pre f
      → Gives post f (λ K a. (field_values K).ops.add a (field_values K).ops.one)
      → Realized pre post table f
  successor_realized e r h = realizes_successor _ _ f (runs_from_calls f pre r) table e
      (answers_from_calls f post (λ K a. (field_values K).ops.add a (field_values K).ops.one) h)
