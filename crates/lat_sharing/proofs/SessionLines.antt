-- The lines of a session that shares its history, over the whole of that history.
--     GoesOn old new          the session is the same, and what it was told stays first
--     played_on               so it is after all commands
--     changes_few             there are no more changes than commands
--     changes_are_own         the changes are the session's entries after what it was told at first
--     session_answers         each line answers its command, or a change found the history full
use Rattle.std.proofs.Common.{◌≡◌, ◌⊎◌, ℕ, suc, ◌+◌, ◌<◌, ◌≤◌, Bool, true, false, cond, List, [], ◌∷◌, ◌++◌, length, take, drop, refl, sym, ap, ◌∙◌, subst, arith, inl, inr, length-append, append-nil, append_assoc, Option, Some, None}
use Rattle.std.specs.Prelude.{◌==◌, if◌then◌else◌, slice_get}
use Rattle.std.specs.List.{cons_option}
use Rattle.std.specs.Option.{option_map}
use Rattle.std.proofs.Math.Seq.{take-append_seam, drop-append_seam}
use Rattle.std.proofs.lemmas.List.Elements.{filter_map-append}
use Rattle.alg_model.specs.Lattices as lattices
use Rattle.alg_model.specs.Lattices.{Lattice}
use Rattle.lat_core.specs.declared.replies.Entry.{Entry}
use Rattle.lat_core.specs.declared.outcomes.Line.{Line}
use Rattle.lat_core.specs.Histories.{Knowledge, IsAfter, IsSameSession, entries_of}
use Rattle.lat_language.specs.declared.commands.Command.{Command}
use Rattle.lat_session.specs.Variables.{Variables}
use Rattle.lat_session.specs.Outcomes.{Operations}
use Rattle.lat_session.specs.Playing.{PlaysOver}
use Rattle.lat_session.specs.Playing.PlaysOver.{change as enters, full, read as asks}
use Rattle.lat_playing.specs.Answered.{IsAnswered, AreAnswered}
use Rattle.lat_playing.specs.Answered.IsAnswered.{change, read}
use Rattle.lat_playing.specs.Theorems.{reply_of, change_of, changes_of, own_entries_from}
use Rattle.lat_playing.proofs.HeldChanges.{own_both, outcome_no_change}
use Rattle.lat_playing.proofs.AnsweredWorlds.{own_here}
use Rattle.lat_sharing.specs.PrivateSharings.{PlaysAll}

-- the session is the same, and what it was told stays first
pub record GoesOn (old new : Knowledge) : Type 0 where
  pub same : IsSameSession old new
  pub grown : List Entry
  pub told : new.told ≡ old.told ++ grown

-- ---- lists
get_next : {A : Type 0} (xs ys : List A) (x : A)
    → slice_get (xs ++ x ∷ ys) (length xs) ≡ Some x
get_next [] ys x = refl
get_next (y ∷ xs) ys x = get_next xs ys x

-- an element of a front is one of the whole
get_inside : {A : Type 0} (xs ys zs : List A) (x : A)
    → slice_get ((xs ++ ys ++ x ∷ []) ++ zs) (length xs + length ys) ≡ Some x
get_inside xs ys zs x =
    let e : (xs ++ ys ++ x ∷ []) ++ zs ≡ (xs ++ ys) ++ x ∷ zs = simp append_assoc in
    ap (λ l. slice_get l (length xs + length ys)) e
    ∙ ap (slice_get ((xs ++ ys) ++ x ∷ zs)) (sym (length-append xs ys))
    ∙ get_next (xs ++ ys) zs x

-- one element gives at most one
few_more : {A : Type 0} (x : Option A) (xs : List A)
    → length (cons_option x xs) ≤ suc (length xs)
few_more None xs = omega arith
few_more (Some x) xs = omega arith

-- ---- entries and lines
-- entries of others are none of the session's own
none_of_others : (n k : ℕ) (entries : List Entry) → entries_of n entries ≡ []
    → own_entries_from n k entries ≡ []
none_of_others n k [] none = refl
none_of_others n k (x ∷ entries) none =
    by_test (x.session == n) none (none_of_others n (suc k) entries)
  where
    by_test : (b : Bool) → cond b (x ∷ entries_of n entries) (entries_of n entries) ≡ []
        → (entries_of n entries ≡ [] → own_entries_from n (suc k) entries ≡ [])
        → (if b then (k, x.reply) ∷ own_entries_from n (suc k) entries
        else own_entries_from n (suc k) entries) ≡ []
    by_test true e more = cc
    by_test false e more = more e

-- the session's own entry after those of others
own_at_end : (n k : ℕ) (others : List Entry) (x : Entry) → entries_of n others ≡ []
    → x.session ≡ n → own_entries_from n k (others ++ x ∷ []) ≡ (k + length others, x.reply) ∷ []
own_at_end n k others x none own = own_both n k others (x ∷ [])
    ∙ ap (λ es. es ++ own_entries_from n (k + length others) (x ∷ [])) (none_of_others n k others none)
    ∙ own_here n (k + length others) x [] own

-- others' entries at the end change nothing
own_then_others : (n k : ℕ) (entries others : List Entry) → entries_of n others ≡ []
    → own_entries_from n k (entries ++ others) ≡ own_entries_from n k entries
own_then_others n k entries others none = own_both n k entries others
    ∙ ap (λ es. own_entries_from n k entries ++ es) (none_of_others n (k + length entries) others none)
    ∙ append-nil (own_entries_from n k entries)

-- a line that is no reply to a change is no change
no_change : (l : Line) (lines : List Line) → reply_of l.outcome ≡ None
    → changes_of (l ∷ lines) ≡ changes_of lines
no_change l lines e =
    ap (λ o. cons_option (option_map (λ reply. (l.mark, reply)) o) (changes_of lines)) e

one_change_more : (l : Line) (lines : List Line)
    → length (changes_of (l ∷ lines)) ≤ suc (length (changes_of lines))
one_change_more l lines = few_more (change_of l) (changes_of lines)

-- ---- what was told
same_session : (k : Knowledge) → IsSameSession k k
same_session k = record { number = refl; edition = refl; room = refl; alone = refl }

goes_still : {old new : Knowledge} → new ≡ old → GoesOn old new
goes_still {old} same = record {
  same = subst (λ k. IsSameSession old k) (sym same) (same_session old);
  grown = [];
  told = ap (λ (k : Knowledge). k.told) same ∙ sym (append-nil old.told);
}

goes_both : {old k new : Knowledge} → GoesOn old k → GoesOn k new → GoesOn old new
goes_both {old} {k} {new} G H = record {
  same = record {
    number = H.same.number ∙ G.same.number;
    edition = H.same.edition ∙ G.same.edition;
    room = H.same.room ∙ G.same.room;
    alone = H.same.alone ∙ G.same.alone;
  };
  grown = G.grown ++ H.grown;
  told = H.told ∙ ap (λ es. es ++ H.grown) G.told ∙ append_assoc old.told G.grown H.grown;
}

-- what was told grows by the changes among the lines, at their places, and by others' entries
record GrowsBy (old new : Knowledge) (lines : List Line) : Type 0 where
  pub on : GoesOn old new
  pub changes : changes_of lines ≡ own_entries_from old.number (length old.told) on.grown

module _ (operations : Operations) where
  -- of one command
  one_grows : {old new : Knowledge} {variables after : Variables} {command : Command} {l : Line}
      → PlaysOver operations old variables command new after l → GrowsBy old new (l ∷ [])
  unfolding goes_still
  one_grows {old} (enters {request} {reply} {place} requested P) =
      let x : Entry = record { session = old.number; request = request; reply = reply } in
      record {
        on = record { same = P.same; grown = P.others ++ x ∷ []; told = P.told ∙ append_assoc old.told P.others (x ∷ []) };
        changes = ap (λ i. (i, reply) ∷ []) P.at_end
            ∙ sym (own_at_end old.number (length old.told) P.others x P.are_others.none_own refl);
      }
  one_grows {old} (full requested U refused) = record {
    on = record { same = U.same; grown = U.others; told = U.told };
    changes = sym (none_of_others old.number (length old.told) U.others U.are_others.none_own);
  }
  one_grows {l = l} (asks none same seen has) =
      record { on = goes_still same; changes = no_change l [] (outcome_no_change has) }

  grows_both : {old k new : Knowledge} (l : Line) (lines : List Line) → GrowsBy old k (l ∷ [])
      → GrowsBy k new lines → GrowsBy old new (l ∷ lines)
  unfolding goes_both
  grows_both {old} {k} {new} l lines G H =
      let n = old.number in
      let start = length old.told in
      let first = own_entries_from n start G.on.grown in
      let place : length k.told ≡ start + length G.on.grown = ap length G.on.told ∙ length-append old.told G.on.grown in
      record {
        on = goes_both G.on H.on;
        changes = filter_map-append change_of (l ∷ []) lines
            ∙ ap (λ cs. cs ++ changes_of lines) G.changes
            ∙ ap (λ cs. first ++ cs) H.changes
            ∙ ap (λ i. first ++ own_entries_from i (length k.told) H.on.grown) G.on.same.number
            ∙ ap (λ i. first ++ own_entries_from n i H.on.grown) place
            ∙ sym (own_both n start G.on.grown H.on.grown);
      }

  -- and of all
  all_grow : (old new : Knowledge) (variables after : Variables) (commands : List Command)
      (lines : List Line) → PlaysAll operations old variables commands lines new after
      → GrowsBy old new lines
  unfolding goes_still
  all_grow old new variables after [] [] (same, e) =
      record { on = goes_still same; changes = refl }
  all_grow old new variables after (c ∷ commands) (l ∷ lines) (k, v, one, more) =
      grows_both l lines (one_grows one) (all_grow k new v after commands lines more)
  all_grow old new variables after [] (l ∷ lines) p = absurd p
  all_grow old new variables after (c ∷ commands) [] p = absurd p

  -- **what was told stays first**
  pub played_on : (old new : Knowledge) (variables after : Variables) (commands : List Command)
      (lines : List Line) → PlaysAll operations old variables commands lines new after
      → GoesOn old new
  played_on old new variables after commands lines p =
      (all_grow old new variables after commands lines p).on

  -- **there are no more changes than commands**
  pub changes_few : (old new : Knowledge) (variables after : Variables) (commands : List Command)
      (lines : List Line) → PlaysAll operations old variables commands lines new after
      → length (changes_of lines) ≤ length commands
  changes_few old new variables after [] [] p = omega arith
  changes_few old new variables after (c ∷ commands) (l ∷ lines) (k, v, one, more) =
      omega (arith, one_change_more l lines, changes_few k new v after commands lines more)
  changes_few old new variables after [] (l ∷ lines) p = absurd p
  changes_few old new variables after (c ∷ commands) [] p = absurd p

  -- **the changes are the session's own entries after those that it was told at first**
  pub changes_are_own : (old new : Knowledge) (variables after : Variables)
      (commands : List Command) (lines : List Line) (later : List Entry)
      → PlaysAll operations old variables commands lines new after
      → entries_of old.number later ≡ [] → (history : List Entry) → history ≡ new.told ++ later
      → changes_of lines
      ≡ own_entries_from old.number (length old.told) (drop (length old.told) history)
  changes_are_own old new variables after commands lines later p none history whole =
      let G = all_grow old new variables after commands lines p in
      let parts : history ≡ old.told ++ (G.on.grown ++ later) = whole ∙ ap (λ es. es ++ later) G.on.told ∙ append_assoc old.told G.on.grown later in
      let left : drop (length old.told) history ≡ G.on.grown ++ later = ap (drop (length old.told)) parts ∙ drop-append_seam old.told (G.on.grown ++ later) in
      G.changes ∙ sym (own_then_others old.number (length old.told) G.on.grown later none)
      ∙ ap (own_entries_from old.number (length old.told)) (sym left)

  -- ---- answers over the whole history
  module _ (edition : lattices.Edition) (history : List Entry) where
    -- the line of a change that found the history full
    record FindsFull (old : Knowledge) (l : Line) : Type 0 where
      pub no_reply : reply_of l.outcome ≡ None
      pub reached : old.room ≤ length history

    -- the line answers its command, and what is seen then comes first in what is told
    record AnswersOne (old k : Knowledge) (variables : Variables) (command : Command) (l : Line)
        (after : Variables) : Type 0 where
      pub gap : List Entry
      pub seen_first : k.told ≡ k.seen ++ gap
      pub answered : IsAnswered edition operations old.number history variables
          (length old.seen) command l after (length k.seen)

    -- one command; what is told at the end need not be all of the history
    one_answers : {old k : Knowledge} {variables after : Variables} {command : Command}
        {l : Line} (gap later : List Entry) → old.edition ≡ edition
        → old.told ≡ old.seen ++ gap → history ≡ k.told ++ later
        → PlaysOver operations old variables command k after l
        → FindsFull old l ⊎ AnswersOne old k variables command l after
    one_answers {old} {k} {variables} {command = command} {l} gap later of_edition split whole (enters {request} {reply} {place} requested P) =
        let x : Entry = record { session = old.number; request = request; reply = reply } in
        let at : slice_get history place ≡ Some x = ap (slice_get history) P.at_end
        ∙ ap (λ es. slice_get es (length old.told + length P.others)) (whole ∙ ap (λ es. es ++ later) P.told)
        ∙ get_inside old.told P.others later x in
        let beyond : length old.seen ≤ place = omega (arith, P.at_end, ap length split, length-append old.seen gap) in
        let seen : place + 1 ≡ length k.seen = omega (
          arith,
          P.at_end,
          ap length P.seen,
          ap length P.told,
          length-append (old.told ++ P.others) (x ∷ []),
          length-append old.told P.others,
        ) in
        inr (record {
          gap = [];
          seen_first = sym P.seen ∙ sym (append-nil k.seen);
          answered = subst (λ i. IsAnswered edition operations old.number history variables (length old.seen) command l variables i) seen
              (change requested refl beyond at);
        })
    one_answers {old} {k} gap later of_edition split whole (full {n = n} requested U (room, told)) =
        inl (record {
          no_reply = refl;
          reached = omega (arith, room, told, U.same.room, ap length whole, length-append k.told later);
        })
    one_answers {old} {k} {variables} {after} {command} {l} gap later of_edition split whole (asks {L} none same seen has) =
        let front : take (length old.seen) history ≡ old.seen =
        ap (take (length old.seen)) (whole ∙ ap (λ (u : Knowledge). u.told ++ later) same ∙ ap (λ es. es ++ later) split ∙ append_assoc old.seen gap later)
        ∙ take-append_seam old.seen (gap ++ later) in
        let view : IsAfter edition (take (length old.seen) history) L = subst (λ e. IsAfter e (take (length old.seen) history) L) of_edition
        (subst (λ es. IsAfter old.edition es L) (sym front) seen) in
        inr (record {
          gap = gap;
          seen_first = subst (λ (u : Knowledge). u.told ≡ u.seen ++ gap) (sym same) split;
          answered = subst (λ (u : Knowledge). IsAnswered edition operations old.number history variables (length old.seen) command l after (length u.seen)) (sym same)
              (read none refl view has);
        })

    all_answer : (old new : Knowledge) (variables after : Variables) (commands : List Command)
        (lines : List Line) (gap later : List Entry) → old.edition ≡ edition
        → old.told ≡ old.seen ++ gap
        → PlaysAll operations old variables commands lines new after → history ≡ new.told ++ later
        → ((length (changes_of lines) < length commands) × (old.room ≤ length history))
        ⊎ AreAnswered edition operations old.number history variables (length old.seen)
        commands lines
    all_answer old new variables after [] [] gap later of_edition split p whole = inr tt
    all_answer old new variables after (c ∷ commands) (l ∷ lines) gap later of_edition split (k, v, one, more) whole =
        let first : GoesOn old k = (one_grows one).on in
        let rest : GoesOn k new = played_on k new v after commands lines more in
        let few : length (changes_of lines) ≤ length commands = changes_few k new v after commands lines more in
        let parts : history ≡ k.told ++ (rest.grown ++ later) = whole ∙ ap (λ es. es ++ later) rest.told ∙ append_assoc k.told rest.grown later in
        elim (one_answers gap (rest.grown ++ later) of_edition split parts one) [
          | inl F ↦ inl (omega (arith, few, ap length (no_change l lines F.no_reply)), F.reached)
          | inr A ↦ elim (all_answer k new v after commands lines A.gap later (first.same.edition ∙ of_edition) A.seen_first more whole) [
            | inl left ↦ inl (
              omega (arith, left.0, one_change_more l lines),
              omega (arith, left.1, first.same.room),
            )
            | inr answers ↦ inr (
              v,
              length k.seen,
              A.answered,
              subst (λ n. AreAnswered edition operations n history v (length k.seen) commands lines) first.same.number answers,
            )
          ]
        ]
    all_answer old new variables after [] (l ∷ lines) gap later of_edition split p whole = absurd p
    all_answer old new variables after (c ∷ commands) [] gap later of_edition split p whole = absurd p

  -- **each line answers its command, or a change found the history full**
  pub session_answers : (edition : lattices.Edition) (old new : Knowledge)
      (variables after : Variables) (commands : List Command) (lines : List Line)
      (gap later : List Entry) (history : List Entry) → old.edition ≡ edition
      → old.told ≡ old.seen ++ gap → entries_of old.number gap ≡ []
      → PlaysAll operations old variables commands lines new after
      → history ≡ new.told ++ later → entries_of old.number later ≡ []
      → ((length (changes_of lines) < length commands) × (old.room ≤ length history))
      ⊎ AreAnswered edition operations old.number history variables (length old.seen)
      commands lines
  session_answers edition old new variables after commands lines gap later history of_edition split others p whole none =
      all_answer edition history old new variables after commands lines gap later of_edition split p whole
