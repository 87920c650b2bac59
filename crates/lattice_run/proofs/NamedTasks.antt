-- Which task words name.
use Rattle.std.proofs.Common.{◌≡◌, ℕ, ◌+◌, ◌≤◌, ◌<◌, ◌^◌, List, [], ◌∷◌, length, refl, ◌∙◌, sym, ap, arith, lit<, Option, Some, None, Bool, false, inl, inr}
use Rattle.std.specs.Prelude.{◌⊎◌, ◌≢◌, bytes_eq, codes, decimal, Result, Ok, Err}
use Rattle.std.specs.Str.Parse.{ParsesUnsigned}
use Rattle.std.proofs.lemmas.Bool.{cases_lt, cases_Bool, true≢false}
use Rattle.std.proofs.lemmas.Fmt.{decimal_injective, parse-decimal}
use Rattle.std.proofs.lemmas.Slice.Eq.{bytes_eq-Decides}
use Rattle.lat_gen.specs.declared.scripts.TheConstants.{MAX_GENERATED_FIELDS, MAX_GENERATED_EMBEDS}
use Rattle.lat_gen.specs.Theorems.{AreSizes}
use Rattle.lat_language.specs.PrivateDecisions.{decide_number}
use Rattle.lattice_run.specs.declared.tasks.Task.{Task}
use Rattle.lattice_run.specs.declared.tasks.Output.{Output}
use Rattle.lattice_run.specs.declared.tasks.Output.TheVariants.{Transcript, SharedTranscript, Dump}
use Rattle.lattice_run.specs.declared.tasks.Task.TheVariants.{Play, Audit, Gen}
use Rattle.lattice_run.specs.Tasks.{word_of, IsTask, Asks}
use Rattle.lattice_run.specs.Theorems.{WordsAsk, WordsAskOnce}

-- ---- numbers
-- the decimal of a number is read as that number, and written as it was
pub number_written : {E : Type 0} (word text : List ℕ) (r : Result ℕ E) (number n : ℕ) (b : Bool)
    → n < 2 ^ 64 → word ≡ decimal n → ParsesUnsigned 64 10 word r → r ≡ Ok number
    → text ≡ decimal number → b ≡ bytes_eq text word → b ≡ false → ⊥
number_written word text r number n b small is parses there written tested f =
    let read : r ≡ Ok n = parse-decimal 64 n word r small small is parses in
    let same : number ≡ n = cc in
    let equal : text ≡ word = written ∙ ap decimal same ∙ sym is in
    true≢false (sym ((bytes_eq-Decides text word).1 equal) ∙ sym tested ∙ f)

pub number_read : {E : Type 0} (word : List ℕ) (r : Result ℕ E) (n : ℕ) (e : E) → n < 2 ^ 64
    → word ≡ decimal n → ParsesUnsigned 64 10 word r → r ≡ Err e → ⊥
number_read word r n e small is parses failed =
    let read : r ≡ Ok n = parse-decimal 64 n word r small small is parses in cc

-- a number above a bound has not the decimal of one up to it
pub number_above : (word : List ℕ) (number n bound : ℕ) → number < 2 ^ 64 → word ≡ decimal number
    → bound < number → n ≤ bound → word ≡ decimal n → ⊥
number_above word number n bound small is above l also =
    let same : number ≡ n = decimal_injective number n small (omega arith) (sym is ∙ also) in omega arith

-- ---- one word
-- lists of one word are equal where the words are
head_same : {x y : List ℕ} → x ∷ [] ≡ y ∷ [] → x ≡ y
head_same e = cc

pub word_named : (a : List ℕ) (output : Output) → a ≡ word_of output
    → Asks (a ∷ []) (Some (Play output))
word_named a output e = (ap (λ t. t ∷ []) e, tt)

pub audit_named : (a : List ℕ) → a ≡ codes "audit" → Asks (a ∷ []) (Some Audit)
audit_named a e = (ap (λ t. t ∷ []) e, tt)

pub other_word : (a : List ℕ) → (a ≡ codes "solo" → ⊥) → (a ≡ codes "share" → ⊥)
    → (a ≡ codes "dump" → ⊥) → (a ≡ codes "audit" → ⊥) → Asks (a ∷ []) None
other_word a solo share dump audit (Play Transcript) named = solo (head_same named.0)
other_word a solo share dump audit (Play SharedTranscript) named = share (head_same named.0)
other_word a solo share dump audit (Play Dump) named = dump (head_same named.0)
other_word a solo share dump audit Audit named = audit (head_same named.0)
other_word a solo share dump audit (Gen s f e) named = let l = ap length named.0 in omega arith

heads_differ : (x y : ℕ) (xs ys : List ℕ) → x < y → x ∷ xs ≡ y ∷ ys → ⊥
heads_differ x y xs ys l e = let same : x ≡ y = cc in omega (arith, l)

solo_dump : codes "solo" ≡ codes "dump" → ⊥
solo_dump e = heads_differ 100 115 (117 ∷ 109 ∷ 112 ∷ []) (111 ∷ 108 ∷ 111 ∷ []) (lit< tt) (sym e)

share_audit : codes "share" ≡ codes "audit" → ⊥
share_audit e = heads_differ 97 115 (117 ∷ 100 ∷ 105 ∷ 116 ∷ []) (104 ∷ 97 ∷ 114 ∷ 101 ∷ []) (lit< tt) (sym e)

-- the words differ
output_audit : (o : Output) → word_of o ≡ codes "audit" → ⊥
output_audit Transcript e = let l = ap length e in omega arith
output_audit SharedTranscript e = share_audit e
output_audit Dump e = let l = ap length e in omega arith

same_output : (o p : Output) → word_of o ≡ word_of p → o ≡ p
same_output Transcript Transcript e = refl
same_output Transcript SharedTranscript e = let l = ap length e in absurd (omega arith)
same_output Transcript Dump e = absurd (solo_dump e)
same_output SharedTranscript Transcript e = let l = ap length e in absurd (omega arith)
same_output SharedTranscript SharedTranscript e = refl
same_output SharedTranscript Dump e = let l = ap length e in absurd (omega arith)
same_output Dump Transcript e = absurd (solo_dump (sym e))
same_output Dump SharedTranscript e = let l = ap length e in absurd (omega arith)
same_output Dump Dump e = refl

-- ---- four words
-- the numbers of the task that four words name
module _ (a b c d : List ℕ) where
  abbrev four : List (List ℕ)
  four = a ∷ b ∷ c ∷ d ∷ []

  pub record IsGen (s f e : ℕ) : Type 0 where
    pub word : a ≡ codes "gen"
    pub seed : b ≡ decimal s
    pub fields : c ≡ decimal f
    pub embeds : d ≡ decimal e
    pub small : s < 2 ^ 64
    pub sizes : AreSizes f e

  gen_numbers : (task : Task) → IsTask four task → (s f e : ℕ) × IsGen s f e
  gen_numbers (Play o) named = let l = ap length named.0 in absurd (omega arith)
  gen_numbers Audit named = let l = ap length named.0 in absurd (omega arith)
  gen_numbers (Gen s f e) named =
      let same : four ≡ codes "gen" ∷ decimal s ∷ decimal f ∷ decimal e ∷ [] = named.0 in
      (s, f, e, record { word = cc; seed = cc; fields = cc; embeds = cc; small = named.1.0; sizes = named.1.1 })

  pub gen_named : {s f e : ℕ} → IsGen s f e → Asks four (Some (Gen s f e))
  gen_named {s} {f} {e} g =
      let first = g.word in
      let second = g.seed in
      let third = g.fields in
      let fourth = g.embeds in (cc, (g.small, g.sizes))

  pub no_gen : (a ≡ codes "gen" → ⊥) → Asks four None
  no_gen other task named = let (s, f, e, g) = gen_numbers task named in other g.word

  pub no_seed : ((n : ℕ) → n < 2 ^ 64 → b ≢ decimal n) → Asks four None
  no_seed none task named = let (s, f, e, g) = gen_numbers task named in none s g.small g.seed

  pub no_fields : ((n : ℕ) → n ≤ MAX_GENERATED_FIELDS → c ≢ decimal n) → Asks four None
  no_fields none task named = let (s, f, e, g) = gen_numbers task named in none f g.sizes.1 g.fields

  pub no_embeds : ((n : ℕ) → n ≤ MAX_GENERATED_EMBEDS → d ≢ decimal n) → Asks four None
  no_embeds none task named = let (s, f, e, g) = gen_numbers task named in none e g.sizes.2 g.embeds

  pub zero_fields : (n : ℕ) → n < 1 → c ≡ decimal n → Asks four None
  zero_fields n l is task named =
      let (s, f, e, g) = gen_numbers task named in
      let most = g.sizes.1 in
      let some = g.sizes.0 in
      let same : f ≡ n = decimal_injective f n (omega arith) (omega arith) (sym g.fields ∙ is) in omega arith

-- ---- how many words
-- a task has one word or four
other_count : (words : List (List ℕ)) → (length words ≡ 1 → ⊥) → (length words ≡ 4 → ⊥)
    → Asks words None
other_count words one many (Play o) named = one (ap length named.0)
other_count words one many Audit named = one (ap length named.0)
other_count words one many (Gen s f e) named = many (ap length named.0)

-- ---- one task, or none
same_task : (words : List (List ℕ)) (task other : Task) → IsTask words task → IsTask words other
    → task ≡ other
same_task words (Play o) (Play p) a b = ap Play (same_output o p (head_same (sym a.0 ∙ b.0)))
same_task words (Play o) Audit a b = absurd (output_audit o (head_same (sym a.0 ∙ b.0)))
same_task words Audit (Play o) a b = absurd (output_audit o (head_same (sym b.0 ∙ a.0)))
same_task words Audit Audit a b = refl
same_task words Audit (Gen s f e) a b = let l = ap length (sym a.0 ∙ b.0) in absurd (omega arith)
same_task words (Gen s f e) Audit a b = let l = ap length (sym a.0 ∙ b.0) in absurd (omega arith)
same_task words (Play o) (Gen s f e) a b = let l = ap length (sym a.0 ∙ b.0) in absurd (omega arith)
same_task words (Gen s f e) (Play o) a b = let l = ap length (sym a.0 ∙ b.0) in absurd (omega arith)
same_task words (Gen s f e) (Gen t g i) a b =
    let same : codes "gen" ∷ decimal s ∷ decimal f ∷ decimal e ∷ [] ≡ codes "gen" ∷ decimal t ∷ decimal g ∷ decimal i ∷ [] = sym a.0 ∙ b.0 in
    let seed : decimal s ≡ decimal t = cc in
    let fields : decimal f ≡ decimal g = cc in
    let embeds : decimal e ≡ decimal i = cc in
    let few = a.1.1 in
    let least = b.1.1 in
    let first : s ≡ t = decimal_injective s t a.1.0 b.1.0 seed in
    let second : f ≡ g = decimal_injective f g (omega (arith, few.1)) (omega (arith, least.1)) fields in
    let third : e ≡ i = decimal_injective e i (omega (arith, few.2)) (omega (arith, least.2)) embeds in cc

pub words_ask_once : WordsAskOnce
words_ask_once words None None a b = refl
words_ask_once words None (Some task) a b = absurd (a task b)
words_ask_once words (Some task) None a b = absurd (b task a)
words_ask_once words (Some task) (Some other) a b = ap Some (same_task words task other a b)

same_or_not : (xs ys : List ℕ) → (xs ≡ ys) ⊎ (xs ≡ ys → ⊥)
same_or_not xs ys = elim (cases_Bool (bytes_eq xs ys)) [
  | inl t ↦ inl ((bytes_eq-Decides xs ys).0 t)
  | inr f ↦ inr (λ e. true≢false (sym ((bytes_eq-Decides xs ys).1 e) ∙ f))
]

Asked : List (List ℕ) → Type 0
Asked words = (asked : Option Task) × Asks words asked

one_asked : (a : List ℕ) → Asked (a ∷ [])
unfolding Asked
one_asked a = elim (same_or_not a (codes "solo")) [
  | inl e ↦ (Some (Play Transcript), word_named a Transcript e)
  | inr solo ↦ elim (same_or_not a (codes "share")) [
    | inl e ↦ (Some (Play SharedTranscript), word_named a SharedTranscript e)
    | inr share ↦ elim (same_or_not a (codes "dump")) [
      | inl e ↦ (Some (Play Dump), word_named a Dump e)
      | inr dump ↦ elim (same_or_not a (codes "audit")) [
        | inl e ↦ (Some Audit, audit_named a e)
        | inr audit ↦ (None, other_word a solo share dump audit)
      ]
    ]
  ]
]

-- the numbers of four words, one after the other
module _ (a b c d : List ℕ) where
  embeds_asked : (s f : ℕ) → a ≡ codes "gen" → s < 2 ^ 64 → b ≡ decimal s → 0 < f
      → f ≤ MAX_GENERATED_FIELDS → c ≡ decimal f → Asked (a ∷ b ∷ c ∷ d ∷ [])
  unfolding Asked
  embeds_asked s f e small is some few fields = elim (decide_number d (MAX_GENERATED_EMBEDS + 1)) [
    | inl n ↦ (
      Some (Gen s f n.0),
      gen_named a b c d (record {
        word = e;
        seed = is;
        fields = fields;
        embeds = n.1.0;
        small = small;
        sizes = (some, few, omega (arith, n.1.1));
      }),
    )
    | inr none ↦ (None, no_embeds a b c d (λ n l same. none (n, (same, omega arith))))
  ]

  fields_asked : (s : ℕ) → a ≡ codes "gen" → s < 2 ^ 64 → b ≡ decimal s → Asked (a ∷ b ∷ c ∷ d ∷ [])
  unfolding Asked
  fields_asked s e small is = elim (decide_number c (MAX_GENERATED_FIELDS + 1)) [
    | inl n ↦ elim (cases_lt 0 n.0) [
      | inl some ↦ embeds_asked s n.0 e small is some (omega (arith, n.1.1)) n.1.0
      | inr zero ↦ (None, zero_fields a b c d n.0 (omega (arith, zero)) n.1.0)
    ]
    | inr none ↦ (None, no_fields a b c d (λ n l same. none (n, (same, omega arith))))
  ]

  four_asked : Asked (a ∷ b ∷ c ∷ d ∷ [])
  unfolding Asked
  four_asked = elim (same_or_not a (codes "gen")) [
    | inl e ↦ elim (decide_number b (2 ^ 64)) [
      | inl n ↦ fields_asked n.0 e n.1.1 n.1.0
      | inr none ↦ (None, no_seed a b c d (λ n l same. none (n, (same, l))))
    ]
    | inr other ↦ (None, no_gen a b c d other)
  ]

pub words_ask : WordsAsk
unfolding Asked
words_ask [] = (None, other_count [] (λ e. omega arith) (λ e. omega arith))
words_ask (a ∷ []) = one_asked a
words_ask (a ∷ b ∷ []) = (None, other_count (a ∷ b ∷ []) (λ e. omega arith) (λ e. omega arith))
words_ask (a ∷ b ∷ c ∷ []) = (None, other_count (a ∷ b ∷ c ∷ []) (λ e. omega arith) (λ e. omega arith))
words_ask (a ∷ b ∷ c ∷ d ∷ []) = four_asked a b c d
words_ask (a ∷ b ∷ c ∷ d ∷ r ∷ rs) =
    (None, other_count (a ∷ b ∷ c ∷ d ∷ r ∷ rs) (λ e. omega arith) (λ e. omega arith))
