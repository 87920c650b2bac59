-- Generated scripts are in the grammar, and embed only fields that they declare.
use Rattle.std.proofs.Common.{◌≡◌, ℕ, ◌+◌, ◌*◌, ◌%◌, ◌<◌, ◌≤◌, ◌^◌, Bool, true, eqb, ltb, leb, List, [], ◌∷◌, length, get_or, map, refl, sym, ap, subst, ◌∙◌, inl, inr, arith, lit<, lit≤}
use Rattle.std.specs.Prelude.{◌&&◌, All, Contains, filter, codes}
use Rattle.std.specs.List.{range_with_len}
use Rattle.std.proofs.Math.Nat.{mod-lt}
use Rattle.std.proofs.lemmas.Bool.{and_parts, cases_Bool, ltb-true, leb-true}
use Rattle.std.proofs.lemmas.List.{length-map}
use Rattle.std.proofs.lemmas.List.Elements.{All-nil, All-cons, All-weaker, All-map, All-filter, All-get_or, Contains-get_or}
use Rattle.std.proofs.lemmas.List.Sums.{sum_by-cons}
use Rattle.std.proofs.lemmas.List.FromFn.{get_or-map-range_with_len, length-map-range_with_len, length-range_with_len}
use Rattle.lat_core.specs.Names.{IsNameByte, IsDeclaredName}
use Rattle.lat_core.specs.Digits.{AreDigits}
use Rattle.lat_language.specs.declared.commands.Command.{Command}
use Rattle.lat_language.specs.declared.commands.Command.TheVariants as command
use Rattle.lat_language.specs.declared.scripts.SessionScript.{SessionScript}
use Rattle.lat_language.specs.Commands.{Fixed, Name, FieldWord, Number, Coefficients, IsWord}
use Rattle.lat_language.specs.Grammar.{session_names, session_commands as command_sum}
use Rattle.lat_language.proofs.SpelledScripts.{IsGrammatical, IsGrammaticalSession, AreDistinct, IsPrintable, size_of}
use Rattle.lat_language.proofs.PrintedScripts.{printable_spells}
use Rattle.lat_gen.specs.Generated.{state_after, nth_draw, table, table_entry, field_name, declaration, embedding, nth_embedding, session_commands, generated}
use Rattle.lat_gen.specs.Theorems.{AreSizes, GeneratedSpells, GeneratedEmbeds, Declares, EmbedsDeclared}
use Rattle.lat_gen.proofs.FieldNames.{field_named}
use Rattle.lat_gen.proofs.GeneratedCommands.{range_below}

-- ---- the table
all_small : List ℕ → Bool
all_small [] = true
all_small (n ∷ ns) = ltb n 256 && all_small ns

small_all : (ns : List ℕ) → all_small ns ≡ true → All (λ n. n < 256) ns
unfolding all_small
small_all [] e = All-nil (λ n. n < 256)
small_all (n ∷ ns) e =
    let parts = and_parts (ltb n 256) (all_small ns) e in
    All-cons (λ n. n < 256) n ns (ltb-true n 256 parts.0) (small_all ns parts.1)

-- a characteristic of 32 bits, and a coefficient list
pub record IsGoodEntry (entry : ℕ × List ℕ) : Type 0 where
  pub p : entry.0 < 2 ^ 32
  pub poly : AreDigits entry.1

is_good : ℕ × List ℕ → Bool
is_good entry =
    ltb entry.0 (2 ^ 32) && (ltb 0 (length entry.1) && (leb (length entry.1) 64 && all_small entry.1))

all_good : List (ℕ × List ℕ) → Bool
all_good [] = true
all_good (entry ∷ entries) = is_good entry && all_good entries

good_is : (entry : ℕ × List ℕ) → is_good entry ≡ true → IsGoodEntry entry
unfolding is_good
good_is entry e =
    let fits = and_parts (ltb entry.0 (2 ^ 32)) (ltb 0 (length entry.1) && (leb (length entry.1) 64 && all_small entry.1)) e in
    let some = and_parts (ltb 0 (length entry.1)) (leb (length entry.1) 64 && all_small entry.1) fits.1 in
    let few = and_parts (leb (length entry.1) 64) (all_small entry.1) some.1 in record {
      p = ltb-true entry.0 (2 ^ 32) fits.0;
      poly = record {
        count = (ltb-true 0 (length entry.1) some.0, leb-true (length entry.1) 64 few.0);
        bytes = small_all entry.1 few.1;
      };
    }

good_all : (entries : List (ℕ × List ℕ)) → all_good entries ≡ true → All IsGoodEntry entries
unfolding all_good
good_all [] e = All-nil IsGoodEntry
good_all (entry ∷ entries) e =
    let parts = and_parts (is_good entry) (all_good entries) e in
    All-cons IsGoodEntry entry entries (good_is entry parts.0) (good_all entries parts.1)

table_good : All IsGoodEntry table
unfolding all_good is_good all_small
table_good = good_all table refl

entry_good : (n : ℕ) → n < 8 → IsGoodEntry (table_entry n)
entry_good n l = All-get_or IsGoodEntry table n (2, 1 ∷ 1 ∷ 1 ∷ []) l table_good

-- ---- commands
pub declaration_grammatical : (k n : ℕ) → k < 2 ^ 32 → n < 8 → IsGrammatical (declaration k n)
unfolding declaration
declaration_grammatical k n small l =
    let good = entry_good n l in
    let entry = table_entry n in
    All-cons IsWord (Fixed (codes "field")) (Name (field_name k) ∷ Number (2 ^ 32) entry.0 ∷ Coefficients entry.1 ∷ []) tt
    (All-cons IsWord (Name (field_name k)) (Number (2 ^ 32) entry.0 ∷ Coefficients entry.1 ∷ []) (field_named k small)
    (All-cons IsWord (Number (2 ^ 32) entry.0) (Coefficients entry.1 ∷ []) good.p
    (All-cons IsWord (Coefficients entry.1) [] good.poly (All-nil IsWord))))

pub embedding_grammatical : (u v : ℕ) → u < 2 ^ 32 → v < 2 ^ 32 → IsGrammatical (embedding u v)
unfolding embedding
embedding_grammatical u v small less =
    All-cons IsWord (Fixed (codes "embed")) (FieldWord (field_name u) ∷ Fixed (codes "into") ∷ FieldWord (field_name v) ∷ []) tt
    (All-cons IsWord (FieldWord (field_name u)) (Fixed (codes "into") ∷ FieldWord (field_name v) ∷ []) (inl (field_named u small))
    (All-cons IsWord (Fixed (codes "into")) (FieldWord (field_name v) ∷ []) tt
    (All-cons IsWord (FieldWord (field_name v)) [] (inl (field_named v less)) (All-nil IsWord))))

-- a session of the script
abbrev pub session_at : ℕ → ℕ → ℕ → List ℕ → ℕ → SessionScript
session_at s fields embeds name position =
    record { name = name; commands = session_commands s fields embeds position }

-- what holds of all embeddings of declared fields holds of the commands of a session
pub embeddings_hold : (P : Command → Type 0) (s fields embeds position : ℕ) → 0 < fields
    → ((u v : ℕ) → u < fields → v < fields → P (embedding u v))
    → All P (session_commands s fields embeds position)
embeddings_hold P s fields embeds position some each =
    All-map P (nth_embedding s fields) (filter (λ k. eqb (k % 4) position) (range_with_len 0 embeds))
    (All-filter (λ k. eqb (k % 4) position) (λ k. P (nth_embedding s fields k)) (range_with_len 0 embeds)
    (All-weaker (λ k. k < embeds) (λ k. P (nth_embedding s fields k))
    (λ k l. each (nth_draw s (2 * k) % fields) (nth_draw s (2 * k + 1) % fields) (mod-lt (nth_draw s (2 * k)) some) (mod-lt (nth_draw s (2 * k + 1)) some))
    (range_with_len 0 embeds) (range_below embeds)))

filter_length : {X : Type 0} (p : X → Bool) (xs : List X) → length (filter p xs) ≤ length xs
filter_length p [] = omega arith
filter_length p (x ∷ xs) = elim (cases_Bool (p x)) [
  | inl t ↦ let less = filter_length p xs in rw t (omega arith)
  | inr f ↦ let less = filter_length p xs in rw f (omega arith)
]

pub session_length : (s fields embeds position : ℕ)
    → length (session_commands s fields embeds position) ≤ embeds
session_length s fields embeds position =
    omega (arith, length-map (filter (λ k. eqb (k % 4) position) (range_with_len 0 embeds)) (nth_embedding s fields), filter_length (λ k. eqb (k % 4) position) (range_with_len 0 embeds), length-range_with_len 0 embeds)

-- ---- names of sessions
abbrev letters : List (List ℕ)
letters = map (λ k. (97 + k) ∷ []) (range_with_len 0 4)

letters_distinct : AreDistinct (codes "a" ∷ codes "b" ∷ codes "c" ∷ codes "d" ∷ [])
letters_distinct i j less within same =
    let first : get_or letters i [] ≡ (97 + i) ∷ [] = get_or-map-range_with_len (λ k. (97 + k) ∷ []) 0 4 i i [] (omega arith) (omega arith) in
    let second : get_or letters j [] ≡ (97 + j) ∷ [] = get_or-map-range_with_len (λ k. (97 + k) ∷ []) 0 4 j j [] (omega arith) (omega arith) in
    let e : (97 + i) ∷ [] ≡ (97 + j) ∷ [] = sym first ∙ same ∙ second in
    let heads : 97 + i ≡ 97 + j = ap (λ (t : List ℕ). get_or t 0 0) e in omega arith

letter_declared : (b : ℕ) → 97 ≤ b → b ≤ 122 → IsDeclaredName (b ∷ [])
letter_declared b least most = (inr (least, most), All-nil IsNameByte, lit< tt)

all_four : {X : Type 0} (P : X → Type 0) (a b c d : X) → P a → P b → P c → P d
    → All P (a ∷ b ∷ c ∷ d ∷ [])
all_four P a b c d first second third fourth =
    All-cons P a (b ∷ c ∷ d ∷ []) first (All-cons P b (c ∷ d ∷ []) second
    (All-cons P c (d ∷ []) third (All-cons P d [] fourth (All-nil P))))

module _ (seed fields embeds : ℕ) (sizes : AreSizes fields embeds) where
  abbrev s : ℕ
  s = state_after seed fields

  abbrev declare_at : ℕ → Command
  declare_at k = declaration k (nth_draw seed k % 8)

  session_good : (name : List ℕ) (position : ℕ) → IsDeclaredName name
      → IsGrammaticalSession (session_at s fields embeds name position)
  session_good name position declared = record {
    name = declared;
    commands = embeddings_hold IsGrammatical s fields embeds position sizes.0
        (λ u v l m. embedding_grammatical u v (omega (arith, l, sizes.1)) (omega (arith, m, sizes.1)));
  }

  -- what holds of each session holds of all four
  pub four_hold : (P : SessionScript → Type 0)
      → ((name : List ℕ) (position : ℕ) → IsDeclaredName name → P (session_at s fields embeds name position))
      → All P (generated seed fields embeds).sessions
  unfolding generated
  four_hold P each =
      all_four P (session_at s fields embeds (codes "a") 0) (session_at s fields embeds (codes "b") 1)
      (session_at s fields embeds (codes "c") 2) (session_at s fields embeds (codes "d") 3)
      (each (codes "a") 0 (letter_declared 97 (lit≤ tt) (lit≤ tt))) (each (codes "b") 1 (letter_declared 98 (lit≤ tt) (lit≤ tt)))
      (each (codes "c") 2 (letter_declared 99 (lit≤ tt) (lit≤ tt))) (each (codes "d") 3 (letter_declared 100 (lit≤ tt) (lit≤ tt)))

  pub prologue_good : All IsGrammatical (generated seed fields embeds).prologue
  unfolding generated
  prologue_good =
      All-map IsGrammatical declare_at (range_with_len 0 fields)
      (All-weaker (λ k. k < fields) (λ k. IsGrammatical (declare_at k))
      (λ k l. declaration_grammatical k (nth_draw seed k % 8) (omega (arith, l, sizes.1)) (mod-lt (nth_draw seed k) (lit< tt)))
      (range_with_len 0 fields) (range_below fields))

  pub prologue_length : length (generated seed fields embeds).prologue ≡ fields
  unfolding generated
  prologue_length = length-map-range_with_len declare_at 0 fields

  commands_few : command_sum (generated seed fields embeds).sessions ≤ 4 * embeds
  unfolding generated
  commands_few =
      omega (
        arith,
        sum_by-cons size_of (session_at s fields embeds (codes "a") 0) (session_at s fields embeds (codes "b") 1 ∷ session_at s fields embeds (codes "c") 2 ∷ session_at s fields embeds (codes "d") 3 ∷ []),
        sum_by-cons size_of (session_at s fields embeds (codes "b") 1) (session_at s fields embeds (codes "c") 2 ∷ session_at s fields embeds (codes "d") 3 ∷ []),
        sum_by-cons size_of (session_at s fields embeds (codes "c") 2) (session_at s fields embeds (codes "d") 3 ∷ []),
        sum_by-cons size_of (session_at s fields embeds (codes "d") 3) [],
        session_length s fields embeds 0,
        session_length s fields embeds 1,
        session_length s fields embeds 2,
        session_length s fields embeds 3,
      )

  names_distinct : AreDistinct (session_names (generated seed fields embeds).sessions)
  unfolding generated
  names_distinct = letters_distinct

  pub sessions_four : length (generated seed fields embeds).sessions ≡ 4
  unfolding generated
  sessions_four = refl

  places_none : All (λ place. place < length (generated seed fields embeds).sessions) (generated seed fields embeds).schedule
  unfolding generated
  places_none = All-nil (λ place. place < 4)

  pub printable : IsPrintable (generated seed fields embeds)
  printable = record {
    prologue = prologue_good;
    sessions = four_hold IsGrammaticalSession session_good;
    distinct = names_distinct;
    few = omega (arith, sessions_four);
    room = omega (arith, prologue_length, commands_few, sizes.1, sizes.2);
    places = places_none;
  }

  -- ---- embedded fields are declared
  declared_at : (k : ℕ) → k < fields → Declares (generated seed fields embeds).prologue (field_name k)
  unfolding generated declaration
  declared_at k l =
      let entry = table_entry (nth_draw seed k % 8) in
      let there = Contains-get_or (map declare_at (range_with_len 0 fields)) k command.Sync (omega (arith, length-map-range_with_len declare_at 0 fields)) in
      (entry.0, entry.1, subst (Contains (map declare_at (range_with_len 0 fields))) (get_or-map-range_with_len declare_at 0 fields k k command.Sync l (omega arith)) there)

  embeds_declared : (u v : ℕ) → u < fields → v < fields
      → EmbedsDeclared (generated seed fields embeds).prologue (embedding u v)
  unfolding embedding
  embeds_declared u v l m = (field_name u, field_name v, refl, declared_at u l, declared_at v m)

  pub only_declared : All (λ (s : SessionScript). All (EmbedsDeclared (generated seed fields embeds).prologue) s.commands) (generated seed fields embeds).sessions
  only_declared =
      four_hold (λ (s : SessionScript). All (EmbedsDeclared (generated seed fields embeds).prologue) s.commands)
      (λ name position declared. embeddings_hold (EmbedsDeclared (generated seed fields embeds).prologue) s fields embeds position sizes.0 embeds_declared)

pub generated_spells : GeneratedSpells
generated_spells seed fields embeds sizes =
    printable_spells (generated seed fields embeds) (printable seed fields embeds sizes)

pub generated_embeds : GeneratedEmbeds
generated_embeds = only_declared
