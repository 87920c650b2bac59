-- A text means one thing: one script, or one first fault.
use Rattle.std.proofs.Common.{◌≡◌, ℕ, ◌+◌, Result, Ok, Err, List, [], ◌∷◌, sym, ap, ◌∙◌, subst, inl, inr}
use Rattle.std.specs.Prelude.{MatchResult}
use Rattle.lat_language.specs.declared.scripts.Script.{Script}
use Rattle.lat_language.specs.Grammar.{lines_of, State, at_start, Form, after, faults, IsFirst, NoneHolds, Says, Means, Spells, FirstBad}
use Rattle.lat_language.proofs.LineMeanings.{form_unique}

-- at most one condition is the first that holds, and none where none holds
first_unique : (conditions : List (ℕ × Type 0)) (k l : ℕ) → IsFirst conditions k
    → IsFirst conditions l → k ≡ l
first_unique [] k l h h' = absurd h
first_unique (fault ∷ more) k l (inl h) (inl h') = h.1 ∙ sym h'.1
first_unique (fault ∷ more) k l (inl h) (inr h') = absurd (h'.0 h.0)
first_unique (fault ∷ more) k l (inr h) (inl h') = absurd (h.0 h'.0)
first_unique (fault ∷ more) k l (inr h) (inr h') = first_unique more k l h.1 h'.1

none_not_first : (conditions : List (ℕ × Type 0)) (k : ℕ) → NoneHolds conditions
    → IsFirst conditions k → ⊥
none_not_first [] k h h' = h'
none_not_first (fault ∷ more) k h (inl h') = h.0 h'.0
none_not_first (fault ∷ more) k h (inr h') = none_not_first more k h.1 h'.1

says_unique : (state : State) (line : List ℕ) (x y : Result Form ℕ) → Says state line x
    → Says state line y → x ≡ y
unfolding Says
says_unique state line (Ok r) (Ok s) h h' = ap Ok (form_unique state line r s h.0 h'.0)
says_unique state line (Ok r) (Err k) h h' = absurd (none_not_first (faults state line) k h.1 h')
says_unique state line (Err k) (Ok s) h h' = absurd (none_not_first (faults state line) k h'.1 h)
says_unique state line (Err k) (Err l) h h' = ap Err (first_unique (faults state line) k l h h')

-- what comes after a line, for two readings
same_read : (state : State) (n : ℕ) (lines : List (List ℕ)) (r s : Result Script (ℕ × ℕ))
    (said : Result Form ℕ)
    → ((form : Form) → Means (after state form) (n + 1) lines r
    → Means (after state form) (n + 1) lines s → r ≡ s)
    → MatchResult said (λ form. Means (after state form) (n + 1) lines r)
    (λ kind. r ≡ Err (n, kind))
    → MatchResult said (λ form. Means (after state form) (n + 1) lines s)
    (λ kind. s ≡ Err (n, kind))
    → r ≡ s
same_read state n lines r s (Ok form) rest h h' = rest form h h'
same_read state n lines r s (Err kind) rest h h' = h ∙ sym h'

-- lines have one reading
pub means_unique : (state : State) (n : ℕ) (lines : List (List ℕ)) (r s : Result Script (ℕ × ℕ))
    → Means state n lines r → Means state n lines s → r ≡ s
means_unique state n [] r s h h' = h ∙ sym h'
means_unique state n (line ∷ lines) r s h h' =
    let same : h'.0 ≡ h.0 = says_unique state line h'.0 h.0 h'.1 h.1 in
    same_read state n lines r s h.0 (λ form. means_unique (after state form) (n + 1) lines r s) h.2
    (subst (λ (said : Result Form ℕ). MatchResult said (λ form. Means (after state form) (n + 1) lines s) (λ kind. s ≡ Err (n, kind))) same h'.2)

-- a text has one reading
pub reading_unique : (bytes : List ℕ) (r s : Result Script (ℕ × ℕ))
    → Means at_start 1 (lines_of bytes) r → Means at_start 1 (lines_of bytes) s → r ≡ s
reading_unique bytes r s h h' = means_unique at_start 1 (lines_of bytes) r s h h'

-- a text spells one script
pub script_unique : (bytes : List ℕ) (s t : Script) → Spells bytes s → Spells bytes t → s ≡ t
script_unique bytes s t h h' = let e = reading_unique bytes (Ok s) (Ok t) h h' in cc

-- a text has one first fault
pub fault_unique : (bytes : List ℕ) (m n k l : ℕ) → FirstBad bytes m k → FirstBad bytes n l
    → (m ≡ n) × (k ≡ l)
fault_unique bytes m n k l h h' =
    let e = reading_unique bytes (Err (m, k)) (Err (n, l)) h h' in
    let pairs : ◌≡◌ {A = ℕ × ℕ} (m, k) (n, l) = cc in
    (ap (λ (p : ℕ × ℕ). p.0) pairs, ap (λ (p : ℕ × ℕ). p.1) pairs)

-- a text that spells a script has no fault
pub never_both : (bytes : List ℕ) (s : Script) (n k : ℕ) → Spells bytes s → FirstBad bytes n k → ⊥
never_both bytes s n k h h' = let e = reading_unique bytes (Ok s) (Err (n, k)) h h' in cc
