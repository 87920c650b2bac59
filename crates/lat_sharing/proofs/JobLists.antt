-- Jobs that were run, one beside the other: what each has made of its pass.
use Rattle.std.proofs.Common.{◌≡◌, ℕ, zero, suc, ◌+◌, ◌<◌, List, [], ◌∷◌, ◌++◌, length, map, take, refl, sym, ap, ap₂, ◌∙◌, subst, arith, take-suc, add-one}
use Rattle.std.specs.Prelude.{All, Result, Ok, Err, IfOk, slice_index_or}
use Rattle.std.proofs.lemmas.List.{map-append}
use Rattle.std.proofs.lemmas.List.Elements.{All-nil, All-cons, All-head, All-tail, All-push}
use Rattle.alg_model.specs.Lattices.{IsEdition}
use Rattle.lat_language.specs.declared.commands.Command.{Command}
use Rattle.lat_language.specs.declared.scripts.SessionScript.{SessionScript}
use Rattle.lat_session.specs.Commands.{IsProperCommand}
use Rattle.lat_session.specs.Outcomes.{Operations}
use Rattle.lat_shared.specs.Sharing.{Sharing, SharedPass, IsPassOf, knowledge_of}
use Rattle.lat_sharing.specs.PrivateSharings.{HasPlayed, HavePlayed}

-- ---- one job more
-- what is read off each
pub one_more_field : {J X : Type 0} (f : J → X) (jobs : List J) (job : J) (xs : List X)
    (more : List J) → map f jobs ≡ xs → more ≡ jobs ++ job ∷ [] → map f more ≡ xs ++ f job ∷ []
one_more_field f jobs job xs more is pushed =
    ap (map f) pushed ∙ map-append f jobs (job ∷ []) ∙ ap (λ ys. ys ++ f job ∷ []) is

-- what holds of each
pub one_more_all : {J : Type 0} (Holds : J → Type 0) (jobs : List J) (job : J) (more : List J)
    → All Holds jobs → Holds job → more ≡ jobs ++ job ∷ [] → All Holds more
one_more_all Holds jobs job more all holds pushed =
    subst (All Holds) (sym pushed) (All-push Holds jobs job all holds)

-- the commands of the scripts so far
pub one_more_commands : {J : Type 0} (f : J → List Command) (jobs : List J) (job : J)
    (more : List J) (sessions : List SessionScript) (session : SessionScript) (i j : ℕ)
    → map f jobs ≡ map (λ (s : SessionScript). s.commands) (take i sessions)
    → more ≡ jobs ++ job ∷ [] → i < length sessions
    → session ≡ slice_index_or sessions i session → f job ≡ session.commands → j ≡ i + 1
    → map f more ≡ map (λ (s : SessionScript). s.commands) (take j sessions)
one_more_commands f jobs job more sessions session i j so_far pushed within is same next =
    ap (map f) pushed ∙ map-append f jobs (job ∷ [])
    ∙ ap₂ (λ (xs : List (List Command)) (x : List Command). xs ++ x ∷ []) so_far same
    ∙ sym (map-append (λ (s : SessionScript). s.commands) (take i sessions) (session ∷ []))
    ∙ ap (map (λ (s : SessionScript). s.commands))
    (sym (ap (λ n. take n sessions) (next ∙ add-one i) ∙ take-suc sessions i session within
    ∙ ap (λ x. take i sessions ++ x ∷ []) (sym is)))

-- ---- jobs before they are run
module _ {J : Type 0} (shared_of : J → Sharing) (commands_of : J → List Command)
    (pass_of : J → SharedPass) (sharing : Sharing) (edition : IsEdition sharing.edition) where
  abbrev IsReady : J → Type 0
  IsReady job = IsPassOf (shared_of job) (pass_of job) × IsEdition (shared_of job).edition
      × All IsProperCommand (commands_of job)

  -- **each can be run**
  pub all_ready : (jobs : List J) (passes : List SharedPass) (scripts : List SessionScript)
      → map pass_of jobs ≡ passes
      → map commands_of jobs ≡ map (λ (s : SessionScript). s.commands) scripts
      → All (λ (job : J). shared_of job ≡ sharing) jobs → All (IsPassOf sharing) passes
      → All (λ (s : SessionScript). All IsProperCommand s.commands) scripts → (k : ℕ) (d : J)
      → k < length jobs → IsReady (slice_index_or jobs k d)
  all_ready [] passes scripts is commands same of_shared proper k d l = absurd (omega (arith, l))
  all_ready (j ∷ jobs) [] scripts is commands same of_shared proper k d l = cc
  all_ready (j ∷ jobs) (p ∷ passes) [] is commands same of_shared proper k d l = cc
  all_ready (j ∷ jobs) (p ∷ passes) (s ∷ scripts) is commands same of_shared proper zero d l =
      let pass : pass_of j ≡ p = cc in
      let here : commands_of j ≡ s.commands = cc in
      let shared : shared_of j ≡ sharing = All-head (λ (job : J). shared_of job ≡ sharing) j jobs same in (
        ap (λ (q : SharedPass). q.sharing) pass ∙ All-head (IsPassOf sharing) p passes of_shared ∙ sym shared,
        subst (λ (x : Sharing). IsEdition x.edition) (sym shared) edition,
        subst (All IsProperCommand) (sym here) (All-head (λ (x : SessionScript). All IsProperCommand x.commands) s scripts proper),
      )
  all_ready (j ∷ jobs) (p ∷ passes) (s ∷ scripts) is commands same of_shared proper (suc k) d l =
      let passes_on : map pass_of jobs ≡ passes = cc in
      let more : map commands_of jobs ≡ map (λ (x : SessionScript). x.commands) scripts = cc in
      all_ready jobs passes scripts passes_on more (All-tail (λ (job : J). shared_of job ≡ sharing) j jobs same)
      (All-tail (IsPassOf sharing) p passes of_shared) (All-tail (λ (x : SessionScript). All IsProperCommand x.commands) s scripts proper)
      k d (omega (arith, l))

-- ---- jobs that were run
module _ {J V E : Type 0} (items : V → List ℕ) (shared_of : J → Sharing)
    (operations_at : J → Operations) (commands_of : J → List Command) (pass_of : J → SharedPass)
    (text_of : J → Result V E) where
  abbrev Ran : J → J → Type 0
  Ran old new = IsPassOf (shared_of old) (pass_of new)
      × ((pass_of new).number ≡ (pass_of old).number)
      × IfOk (text_of new) (λ text. HasPlayed (operations_at old) (knowledge_of (pass_of old))
      (commands_of old) (knowledge_of (pass_of new)) (items text))

  abbrev AllRan : List J → List J → Type 0
  AllRan olds news = (k : ℕ) (d : J) → k < length olds
      → Ran (slice_index_or olds k d) (slice_index_or news k d)

  later_ran : (o n : J) (os ns : List J) → AllRan (o ∷ os) (n ∷ ns) → AllRan os ns
  later_ran o n os ns ran = λ k d l. ran (suc k) d (omega (arith, l))

  -- **each has played its commands**
  pub all_played : (operations : Operations) (olds news : List J) (scripts : List SessionScript)
      (texts : List V) → map commands_of olds ≡ map (λ (s : SessionScript). s.commands) scripts
      → All (λ (job : J). operations_at job ≡ operations) olds → length news ≡ length olds
      → AllRan olds news → map {B = Result V E} (λ text. Ok text) texts ≡ map text_of news
      → HavePlayed operations scripts (map pass_of olds) (map pass_of news) (map items texts)
  all_played operations [] [] [] [] commands same count ran is = tt
  all_played operations [] [] [] (t ∷ texts) commands same count ran is = cc
  all_played operations [] [] (s ∷ scripts) texts commands same count ran is = cc
  all_played operations [] (n ∷ news) scripts texts commands same count ran is = absurd (omega (arith, count))
  all_played operations (o ∷ olds) [] scripts texts commands same count ran is = absurd (omega (arith, count))
  all_played operations (o ∷ olds) (n ∷ news) [] texts commands same count ran is = cc
  all_played operations (o ∷ olds) (n ∷ news) (s ∷ scripts) [] commands same count ran is = cc
  all_played operations (o ∷ olds) (n ∷ news) (s ∷ scripts) (t ∷ texts) commands same count ran is =
      let here : commands_of o ≡ s.commands = cc in
      let more : map commands_of olds ≡ map (λ (x : SessionScript). x.commands) scripts = cc in
      let text : text_of n ≡ Ok t = cc in
      let later : map {B = Result V E} (λ text. Ok text) texts ≡ map text_of news = cc in
      let first : Ran o n = ran 0 o (omega arith) in
      let played : HasPlayed (operations_at o) (knowledge_of (pass_of o)) (commands_of o) (knowledge_of (pass_of n)) (items t)
      = subst (λ r. IfOk r (λ x. HasPlayed (operations_at o) (knowledge_of (pass_of o)) (commands_of o) (knowledge_of (pass_of n)) (items x))) text first.2 in (
        subst (λ os. HasPlayed os (knowledge_of (pass_of o)) s.commands (knowledge_of (pass_of n)) (items t)) (All-head (λ (job : J). operations_at job ≡ operations) o olds same)
            (subst (λ cs. HasPlayed (operations_at o) (knowledge_of (pass_of o)) cs (knowledge_of (pass_of n)) (items t)) here played),
        all_played operations olds news scripts texts more (All-tail (λ (job : J). operations_at job ≡ operations) o olds same) (omega (arith, count)) (later_ran o n olds news ran) later,
      )

  -- its pass is of the same shared history
  pub all_of_shared : (sharing : Sharing) (olds news : List J)
      → All (λ (job : J). shared_of job ≡ sharing) olds → length news ≡ length olds
      → AllRan olds news → All (IsPassOf sharing) (map pass_of news)
  all_of_shared sharing [] [] same count ran = All-nil (IsPassOf sharing)
  all_of_shared sharing [] (n ∷ news) same count ran = absurd (omega (arith, count))
  all_of_shared sharing (o ∷ olds) [] same count ran = absurd (omega (arith, count))
  all_of_shared sharing (o ∷ olds) (n ∷ news) same count ran =
      let first : Ran o n = ran 0 o (omega arith) in
      All-cons (IsPassOf sharing) (pass_of n) (map pass_of news)
      (first.0 ∙ All-head (λ (job : J). shared_of job ≡ sharing) o olds same)
      (all_of_shared sharing olds news (All-tail (λ (job : J). shared_of job ≡ sharing) o olds same) (omega (arith, count)) (later_ran o n olds news ran))

  -- and of the same session
  pub all_numbers : (olds news : List J) → length news ≡ length olds → AllRan olds news
      → map (λ (pass : SharedPass). pass.number) (map pass_of news)
      ≡ map (λ (pass : SharedPass). pass.number) (map pass_of olds)
  all_numbers [] [] count ran = refl
  all_numbers [] (n ∷ news) count ran = absurd (omega (arith, count))
  all_numbers (o ∷ olds) [] count ran = absurd (omega (arith, count))
  all_numbers (o ∷ olds) (n ∷ news) count ran =
      let first : Ran o n = ran 0 o (omega arith) in
      ap₂ (λ (x : ℕ) (xs : List ℕ). x ∷ xs) first.1
      (all_numbers olds news (omega (arith, count)) (later_ran o n olds news ran))

-- what follows from two facts of a result
pub both_then : {X E : Type 0} (P Q S : X → Type 0) (r : Result X E) → IfOk r P → IfOk r Q
    → ((x : X) → P x → Q x → S x) → IfOk r S
both_then P Q S (Ok x) p q follows = follows x p q
both_then P Q S (Err e) p q follows = tt

-- what was written into a whole slice
pub written : {X : Type 0} (n : ℕ) (xs ys : List X) → n ≡ length xs → take n (xs ++ ys) ≡ xs
written n xs ys is = ap (λ m. take m (xs ++ ys)) is ∙ taken xs ys where
  taken : {X : Type 0} (xs ys : List X) → take (length xs) (xs ++ ys) ≡ xs
  taken [] ys = refl
  taken (x ∷ xs) ys = ap (λ zs. x ∷ zs) (taken xs ys)
