-- Where a name stands among those of sessions, and what a command more changes.
use Rattle.std.proofs.Common.{◌≡◌, ℕ, zero, suc, ◌+◌, ◌<◌, ◌≤◌, cond, Option, Some, None, Result, Ok, Err, List, [], ◌∷◌, ◌++◌, length, get_or, set, map, sym, refl, ap, ◌∙◌, subst, inl, inr, arith, append_assoc}
use Rattle.std.specs.Prelude.{◌⊎◌, not, All, Contains, MatchOption, OnOk, position}
use Rattle.std.specs.List.{position_or_len}
use Rattle.std.specs.Str.{bytes_eq}
use Rattle.std.proofs.lemmas.Bool.{cases_lt, ne_eqb, cond-true, cond-false, le-ltb, lt-ltb, true≢false}
use Rattle.std.proofs.lemmas.Slice.Eq.{bytes_eq-Decides}
use Rattle.std.proofs.lemmas.List.{length-map, length_push, append-nil, map-append}
use Rattle.std.proofs.lemmas.List.Elements.{Contains-get_or, Contains-append_right, All-nil, All-cons, All-head, All-tail, All-push, All-contains}
use Rattle.std.proofs.lemmas.List.Sums.{sum_by-cons, sum_by_push, passes_at_first, fails_before_first}
use Rattle.lat_language.specs.declared.commands.Command.{Command}
use Rattle.lat_language.specs.declared.scripts.SessionScript.{SessionScript}
use Rattle.lat_language.specs.Grammar.{session_names, session_commands, add_to_prologue, add_to_last, place_of, new_session}
use Rattle.lat_language.specs.PrivateParsing.{IsCounted}

-- a session is found by its name where its name is found
same_place : (name : List ℕ) (sessions : List SessionScript)
    → position_or_len (λ (s : SessionScript). bytes_eq s.name name) sessions
    ≡ place_of (session_names sessions) name
same_place name [] = refl
same_place name (s ∷ sessions) =
    ap (λ k. cond (not (bytes_eq s.name name)) (1 + k) 0) (same_place name sessions)

-- a name is there where its place is one of the list
name_there : (names : List (List ℕ)) (name : List ℕ) → place_of names name < length names
    → Contains names name
name_there names name l =
    let passes = passes_at_first (λ other. bytes_eq other name) names name l in
    subst (Contains names) ((bytes_eq-Decides (get_or names (place_of names name) name) name).0 passes) (Contains-get_or names (place_of names name) name l)

-- and not where it is the end
pub name_missing : (names : List (List ℕ)) (name : List ℕ) → length names ≤ place_of names name
    → ¬ (Contains names name)
name_missing names name end there =
    let fails = fails_before_first (λ other. bytes_eq other name) names there.0 name (omega (arith, there.1, end)) in
    true≢false (sym ((bytes_eq-Decides (get_or names there.0 name) name).1 there.2) ∙ fails)

-- what a search for a session gives
pub place_read : (sessions : List SessionScript) (name : List ℕ) (r : Option ℕ)
    → r ≡ position (λ (s : SessionScript). bytes_eq s.name name) sessions
    → MatchOption r (¬ (Contains (session_names sessions) name))
    (λ place. Contains (session_names sessions) name × (place ≡ place_of (session_names sessions) name)
    × (place < length sessions))
place_read sessions name r is = elim (cases_lt (position_or_len (λ (s : SessionScript). bytes_eq s.name name) sessions) (length sessions)) [
  | inl l ↦
      let some : r ≡ Some (position_or_len (λ (s : SessionScript). bytes_eq s.name name) sessions) = is ∙ cond-true _ _ _ (lt-ltb _ _ l) in
      let there = name_there (session_names sessions) name (omega (arith, same_place name sessions, l, length-map sessions (λ (s : SessionScript). s.name))) in
      subst (λ r. MatchOption r (¬ (Contains (session_names sessions) name)) (λ place. Contains (session_names sessions) name × (place ≡ place_of (session_names sessions) name) × (place < length sessions))) (sym some)
      (there, same_place name sessions, l)
  | inr end ↦
      let none : r ≡ None = is ∙ cond-false _ _ _ (le-ltb _ _ end) in
      let missing = name_missing (session_names sessions) name (omega (arith, same_place name sessions, end, length-map sessions (λ (s : SessionScript). s.name))) in
      subst (λ r. MatchOption r (¬ (Contains (session_names sessions) name)) (λ place. Contains (session_names sessions) name × (place ≡ place_of (session_names sessions) name) × (place < length sessions))) (sym none) missing
]

-- names are there or not
pub decide_name_there : (names : List (List ℕ)) (name : List ℕ)
    → Contains names name ⊎ ¬ (Contains names name)
decide_name_there names name = elim (cases_lt (place_of names name) (length names)) [
  | inl l ↦ inl (name_there names name l)
  | inr end ↦ inr (name_missing names name end)
]

-- ---- a command more
same_session : (s t : SessionScript) → s.name ≡ t.name → s.commands ≡ t.commands → s ≡ t
same_session s t name commands = ap (λ n. record { name = n; commands = s.commands }) name ∙ ap (λ cs. record { name = t.name; commands = cs }) commands

abbrev command_length : SessionScript → ℕ
command_length s = length s.commands

pub last_names : (sessions : List SessionScript) (c : Command)
    → session_names (add_to_last sessions c) ≡ session_names sessions
last_names [] c = refl
last_names (s ∷ []) c = refl
last_names (s ∷ t ∷ more) c = ap (λ names. s.name ∷ names) (last_names (t ∷ more) c)

pub last_length : (sessions : List SessionScript) (c : Command)
    → length (add_to_last sessions c) ≡ length sessions
last_length [] c = refl
last_length (s ∷ []) c = refl
last_length (s ∷ t ∷ more) c = ap (λ k. suc k) (last_length (t ∷ more) c)

-- the last of some sessions, with one command more
pub last_of_some : (front : List SessionScript) (s : SessionScript) (c : Command)
    → add_to_last (front ++ s ∷ []) c
    ≡ front ++ (record { name = s.name; commands = s.commands ++ c ∷ [] }) ∷ []
last_of_some [] s c = refl
last_of_some (f ∷ []) s c = refl
last_of_some (f ∷ g ∷ front) s c = ap (λ rest. f ∷ rest) (last_of_some (g ∷ front) s c)

-- a session with one command more, written in the place of the last one
pub set_last : (sessions : List SessionScript) (i : ℕ) (s t : SessionScript) (c : Command)
    → i + 1 ≡ length sessions → s ≡ get_or sessions i s → t.name ≡ s.name
    → t.commands ≡ s.commands ++ c ∷ [] → set sessions i t ≡ add_to_last sessions c
set_last [] i s t c e at name commands = absurd (omega (arith, e))
set_last (x ∷ []) zero s t c e at name commands =
    ap (λ l. l ∷ []) (same_session t (record { name = x.name; commands = x.commands ++ c ∷ [] })
    (name ∙ ap (λ (s : SessionScript). s.name) at) (commands ∙ ap (λ (s : SessionScript). s.commands ++ c ∷ []) at))
set_last (x ∷ []) (suc i) s t c e at name commands = absurd (omega (arith, e))
set_last (x ∷ y ∷ more) zero s t c e at name commands = absurd (omega (arith, e))
set_last (x ∷ y ∷ more) (suc i) s t c e at name commands =
    ap (λ l. x ∷ l) (set_last (y ∷ more) i s t c (omega (arith, e)) at name commands)

-- the same where memory may be refused
pub push_last : {E : Type 0} (sessions : List SessionScript) (i : ℕ) (s : SessionScript) (pushed : List Command)
    (c : Command) (r : Result (Unit {0}) E) → i + 1 ≡ length sessions
    → s ≡ get_or sessions i s → OnOk r (pushed ≡ s.commands ++ c ∷ [])
    → OnOk r (set sessions i (record { name = s.name; commands = pushed }) ≡ add_to_last sessions c)
push_last sessions i s pushed c (Ok u) e at h =
    set_last sessions i s (record { name = s.name; commands = pushed }) c e at refl h
push_last sessions i s pushed c (Err none) e at h = tt

-- sessions with one command more have one command more
last_commands : (s : SessionScript) (more : List SessionScript) (c : Command)
    → session_commands (add_to_last (s ∷ more) c) ≡ session_commands (s ∷ more) + 1
last_commands s [] c =
    let last : SessionScript = record { name = s.name; commands = s.commands ++ c ∷ [] } in
    omega (arith, sum_by-cons command_length last [], sum_by-cons command_length s [], length_push s.commands c)
last_commands s (t ∷ more) c =
    omega (arith, sum_by-cons command_length s (add_to_last (t ∷ more) c), sum_by-cons command_length s (t ∷ more), last_commands t more c)

-- and so have the prologue and the sessions
pub count_more : (sessions : List SessionScript) (prologue : List Command) (c : Command)
    → length (add_to_prologue sessions prologue c) + session_commands (add_to_last sessions c)
    ≡ length prologue + session_commands sessions + 1
count_more [] prologue c = omega (arith, length_push prologue c)
count_more (s ∷ more) prologue c =
    let same : add_to_prologue (s ∷ more) prologue c ≡ prologue = cond-false _ _ _ (ne_eqb (length (s ∷ more)) 0 (λ e. omega (arith, e))) in
    omega (arith, ap length same, last_commands s more c)

-- what is counted before a command, is counted after it
pub counted_command : (prologue next : List Command) (sessions others : List SessionScript)
    (c : Command) (n : ℕ) → IsCounted prologue sessions n
    → next ≡ add_to_prologue sessions prologue c → others ≡ add_to_last sessions c
    → IsCounted next others (n + 1)
counted_command prologue next sessions others c n are e e' = record {
  counted = omega (arith, are.counted, count_more sessions prologue c, ap length e, ap session_commands e');
  few = omega (arith, are.few, last_length sessions c, ap length e');
}

-- a session more without commands adds none
pub count_session : (sessions : List SessionScript) (name : List ℕ)
    → session_commands (sessions ++ new_session name ∷ []) ≡ session_commands sessions
count_session sessions name = omega (arith, sum_by_push command_length sessions (new_session name))

-- all of some names are there or not
pub decide_all_there : (there names : List (List ℕ))
    → All (Contains there) names ⊎ ¬ (All (Contains there) names)
decide_all_there there [] = inl (All-nil (Contains there))
decide_all_there there (name ∷ names) = both (decide_name_there there name) (decide_all_there there names) where
  both : Contains there name ⊎ ¬ (Contains there name)
      → All (Contains there) names ⊎ ¬ (All (Contains there) names)
      → All (Contains there) (name ∷ names) ⊎ ¬ (All (Contains there) (name ∷ names))
  both (inl h) (inl hs) = inl (All-cons (Contains there) name names h hs)
  both (inl h) (inr none) = inr (λ all. none (All-tail (Contains there) name names all))
  both (inr none) hs = inr (λ all. none (All-head (Contains there) name names all))

-- ---- places of names
-- some of the names are done, sessions have them, and their places are added; the others are left
pub record PlacedSoFar (sessions : List SessionScript) (names rest : List (List ℕ)) (old new : List ℕ)
    : Type 0 where
  pub done : List (List ℕ)
  pub split : done ++ rest ≡ names
  pub known : All (Contains (session_names sessions)) done
  pub places : new ≡ old ++ map (place_of (session_names sessions)) done

pub placed_none : (sessions : List SessionScript) (names : List (List ℕ)) (old : List ℕ)
    → PlacedSoFar sessions names names old old
placed_none sessions names old = record {
  done = [];
  split = refl;
  known = All-nil (Contains (session_names sessions));
  places = sym (append-nil old);
}

module _ (sessions : List SessionScript) (names rest : List (List ℕ)) (old new : List ℕ)
    (far : PlacedSoFar sessions names rest old new) where
  -- one name more
  pub placed_more : (name : List ℕ) (more : List (List ℕ)) (next : List ℕ) (place : ℕ)
      → rest ≡ name ∷ more → Contains (session_names sessions) name
      → place ≡ place_of (session_names sessions) name → next ≡ new ++ place ∷ []
      → PlacedSoFar sessions names more old next
  placed_more name more next place e there is pushed = record {
    done = far.done ++ name ∷ [];
    split = append_assoc far.done (name ∷ []) more ∙ ap (λ r. far.done ++ r) (sym e) ∙ far.split;
    known = All-push (Contains (session_names sessions)) far.done name far.known there;
    places =
        pushed ∙ ap (λ p. new ++ p ∷ []) is
        ∙ ap (λ n. n ++ place_of (session_names sessions) name ∷ []) far.places
        ∙ append_assoc old (map (place_of (session_names sessions)) far.done) (place_of (session_names sessions) name ∷ [])
        ∙ ap (λ t. old ++ t) (sym (map-append (place_of (session_names sessions)) far.done (name ∷ [])));
  }

  -- a name that no session has
  pub not_placed : (name : List ℕ) (more : List (List ℕ)) → rest ≡ name ∷ more
      → ¬ (Contains (session_names sessions) name) → ¬ (All (Contains (session_names sessions)) names)
  not_placed name more e missing all =
      let whole : All (Contains (session_names sessions)) (far.done ++ name ∷ more) = subst (All (Contains (session_names sessions))) (sym far.split ∙ ap (λ r. far.done ++ r) e) all in
      missing (All-contains (Contains (session_names sessions)) (far.done ++ name ∷ more) name whole (Contains-append_right far.done (name ∷ more) name (0, omega arith, refl)))

  -- no name is left
  pub placed_all : rest ≡ [] → All (Contains (session_names sessions)) names
      × (new ≡ old ++ map (place_of (session_names sessions)) names)
  placed_all e =
      let whole : far.done ≡ names = sym (append-nil far.done) ∙ ap (λ r. far.done ++ r) (sym e) ∙ far.split in (
        subst (All (Contains (session_names sessions))) whole far.known,
        far.places ∙ ap (λ d. old ++ map (place_of (session_names sessions)) d) whole,
      )
