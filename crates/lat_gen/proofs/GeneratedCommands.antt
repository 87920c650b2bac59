-- The commands and the sessions that are made of the numbers drawn are those of the generated script.
use Rattle.std.proofs.Common.{◌≡◌, ℕ, zero, suc, ◌+◌, ◌*◌, ◌/◌, ◌%◌, ◌<◌, ◌≤◌, Bool, true, false, cond, eqb, List, [], ◌∷◌, ◌++◌, length, get_or, map, refl, sym, ap, ap₂, ◌∙◌, arith}
use mathlib.Core.List.{map-id}
use Rattle.std.specs.Prelude.{All, filter, codes}
use Rattle.std.specs.List.{range_with_len}
use Rattle.std.proofs.lemmas.List.{map-append, append-nil}
use Rattle.std.proofs.lemmas.List.Elements.{All-nil, All-cons, All-head, All-tail, All-weaker, All-filter, filter-append}
use Rattle.std.proofs.lemmas.List.FromFn.{map-range_with_len_more}
use Rattle.lat_language.specs.declared.commands.Command.{Command}
use Rattle.lat_language.specs.declared.scripts.Script.{Script}
use Rattle.lat_language.specs.declared.scripts.SessionScript.{SessionScript}
use Rattle.lat_gen.specs.Generated.{state_after, nth_draw, declaration, embedding, session_commands, four_sessions, generated}
use Rattle.lat_gen.specs.PrivateDraws.{draws_below, declared_fields, embedded_at, embedded_fields}
use Rattle.lat_gen.proofs.DrawnNumbers.{draw_at, draws_count}

-- one number more
range_more : (n : ℕ) → range_with_len 0 (n + 1) ≡ range_with_len 0 n ++ n ∷ []
range_more n =
    sym (map-id (range_with_len 0 (n + 1))) ∙ map-range_with_len_more (λ k. k) 0 n n (omega arith)
    ∙ ap (λ t. t ++ n ∷ []) (map-id (range_with_len 0 n))

-- one number more, of which a test takes some
module _ {X : Type 0} (f : ℕ → X) (p : ℕ → Bool) (n : ℕ) where
  pub taken_more : p n ≡ true
      → map f (filter p (range_with_len 0 (n + 1))) ≡ map f (filter p (range_with_len 0 n)) ++ f n ∷ []
  taken_more t =
      ap (λ ks. map f (filter p ks)) (range_more n)
      ∙ ap (map f) (filter-append p (range_with_len 0 n) (n ∷ []))
      ∙ map-append f (filter p (range_with_len 0 n)) (filter p (n ∷ []))
      ∙ ap (λ b. map f (filter p (range_with_len 0 n)) ++ map f (cond b (n ∷ []) [])) t

  pub passed_more : p n ≡ false
      → map f (filter p (range_with_len 0 (n + 1))) ≡ map f (filter p (range_with_len 0 n))
  passed_more t =
      ap (λ ks. map f (filter p ks)) (range_more n)
      ∙ ap (map f) (filter-append p (range_with_len 0 n) (n ∷ []))
      ∙ map-append f (filter p (range_with_len 0 n)) (filter p (n ∷ []))
      ∙ ap (λ b. map f (filter p (range_with_len 0 n)) ++ map f (cond b (n ∷ []) [])) t
      ∙ append-nil (map f (filter p (range_with_len 0 n)))

-- the numbers of a range
below_all : (a n m : ℕ) → a + n ≤ m → All (λ k. k < m) (range_with_len a n)
below_all a zero m h = All-nil (λ k. k < m)
below_all a (suc n) m h =
    All-cons (λ k. k < m) a (range_with_len (a + 1) n) (omega arith) (below_all (a + 1) n m (omega arith))

pub range_below : (n : ℕ) → All (λ k. k < n) (range_with_len 0 n)
range_below n = below_all 0 n n (omega arith)

-- functions that agree at all elements
map_agree : {X Y : Type 0} (f g : X → Y) (xs : List X) → All (λ x. f x ≡ g x) xs
    → map f xs ≡ map g xs
map_agree f g [] all = refl
map_agree f g (x ∷ xs) all =
    ap₂ (λ y ys. y ∷ ys) (All-head (λ x. f x ≡ g x) x xs all) (map_agree f g xs (All-tail (λ x. f x ≡ g x) x xs all))

-- the prologue
pub fields_drawn : (s m n : ℕ) → declared_fields (draws_below s m n)
    ≡ map (λ k. declaration k (nth_draw s k % m)) (range_with_len 0 n)
unfolding declared_fields
fields_drawn s m n =
    ap (λ c. map (λ k. declaration k (get_or (draws_below s m n) k 0)) (range_with_len 0 c)) (draws_count s m n)
    ∙ map_agree (λ k. declaration k (get_or (draws_below s m n) k 0)) (λ k. declaration k (nth_draw s k % m)) (range_with_len 0 n)
    (All-weaker (λ k. k < n) (λ k. declaration k (get_or (draws_below s m n) k 0) ≡ declaration k (nth_draw s k % m)) (λ k l. ap (declaration k) (draw_at s m n k 0 l)) (range_with_len 0 n) (range_below n))

-- the commands of a session
pub embeddings_drawn : (s m n position : ℕ) → embedded_fields (draws_below s m (2 * n)) position
    ≡ map (λ k. embedding (nth_draw s (2 * k) % m) (nth_draw s (2 * k + 1) % m)) (filter (λ k. eqb (k % 4) position) (range_with_len 0 n))
unfolding embedded_fields
embeddings_drawn s m n position =
    let ns : List ℕ = draws_below s m (2 * n) in
    let count : length ns / 2 ≡ n = omega (arith, draws_count s m (2 * n)) in
    ap (λ c. map (embedded_at ns) (filter (λ k. eqb (k % 4) position) (range_with_len 0 c))) count
    ∙ map_agree (embedded_at ns) (λ k. embedding (nth_draw s (2 * k) % m) (nth_draw s (2 * k + 1) % m)) (filter (λ k. eqb (k % 4) position) (range_with_len 0 n))
    (All-filter (λ k. eqb (k % 4) position) (λ k. embedded_at ns k ≡ embedding (nth_draw s (2 * k) % m) (nth_draw s (2 * k + 1) % m)) (range_with_len 0 n)
    (All-weaker (λ k. k < n) (λ k. embedded_at ns k ≡ embedding (nth_draw s (2 * k) % m) (nth_draw s (2 * k + 1) % m)) (λ k l. ap₂ embedding (draw_at s m (2 * n) (2 * k) 0 (omega arith)) (draw_at s m (2 * n) (2 * k + 1) 0 (omega arith))) (range_with_len 0 n) (range_below n)))

-- ---- the script
abbrev four : List Command → List Command → List Command → List Command → List SessionScript
four a b c d =
    record { name = codes "a"; commands = a } ∷ record { name = codes "b"; commands = b }
    ∷ record { name = codes "c"; commands = c } ∷ record { name = codes "d"; commands = d } ∷ []

-- sessions with the same commands
sessions_same : (f g : ℕ → List Command) → ((position : ℕ) → f position ≡ g position)
    → four_sessions f ≡ four_sessions g
sessions_same f g e =
    ap (λ a. four a (f 1) (f 2) (f 3)) (e 0) ∙ ap (λ b. four (g 0) b (f 2) (f 3)) (e 1)
    ∙ ap (λ c. four (g 0) (g 1) c (f 3)) (e 2) ∙ ap (four (g 0) (g 1) (g 2)) (e 3)

sessions_drawn : (s m n : ℕ) → four_sessions (embedded_fields (draws_below s m (2 * n)))
    ≡ four_sessions (session_commands s m n)
sessions_drawn s m n =
    sessions_same (embedded_fields (draws_below s m (2 * n))) (session_commands s m n) (embeddings_drawn s m n)

abbrev pub script_scheduled : List Command → List SessionScript → List ℕ → Script
script_scheduled prologue sessions schedule =
    record { prologue = prologue; sessions = sessions; schedule = schedule }

abbrev pub script_with : List Command → List SessionScript → Script
script_with prologue sessions = record { prologue = prologue; sessions = sessions; schedule = [] }

pub script_drawn : (seed fields embeds s : ℕ) (polynomials embedded : List ℕ)
    (prologue : List Command) (sessions : List SessionScript)
    → polynomials ≡ draws_below seed 8 fields → s ≡ state_after seed fields
    → embedded ≡ draws_below s fields (2 * embeds)
    → prologue ≡ declared_fields polynomials → sessions ≡ four_sessions (embedded_fields embedded)
    → script_with prologue sessions ≡ generated seed fields embeds
unfolding generated
script_drawn seed fields embeds s polynomials embedded prologue sessions drawn state ends declared made =
    ap₂ script_with
    (declared ∙ ap declared_fields drawn ∙ fields_drawn seed 8 fields)
    (made ∙ ap (λ ns. four_sessions (embedded_fields ns)) (ends ∙ ap (λ s. draws_below s fields (2 * embeds)) state) ∙ sessions_drawn (state_after seed fields) fields embeds)
