-- Commands that are played over a port, one after the other.
use Rattle.std.proofs.Common.{◌≡◌, ℕ, ◌+◌, ◌<◌, List, [], ◌∷◌, ◌++◌, length, take, refl, sym, ap, ◌∙◌, subst, arith, take-suc, add-one}
use Rattle.std.specs.Prelude.{slice_index_or}
use Rattle.std.specs.FinMap.{empty, get-empty, len-empty}
use Rattle.std.proofs.lemmas.List.{flat_map_more}
use Rattle.alg_model.specs.Lattices.{IsEdition}
use Rattle.lat_core.specs.declared.tagged.Tagged.{Tagged}
use Rattle.lat_core.specs.declared.outcomes.Line.{Line}
use Rattle.lat_core.specs.Histories.{Knowledge, IsKnowledge, IsSameSession}
use Rattle.lat_language.specs.declared.commands.Command.{Command}
use Rattle.lat_language.specs.Texts.{line_text}
use Rattle.lat_session.specs.Variables.{Variables, name_cmp, Holds}
use Rattle.lat_session.specs.Outcomes.{Operations}
use Rattle.lat_session.specs.Playing.{FitSeen, PlaysOver, change, full, read}
use Rattle.lat_playing.specs.Transcripts.{lines_text}
use Rattle.lat_shared.specs.Sharing.{SharedPass}
use Rattle.lat_sharing.specs.PrivateSharings.{PlaysAll, HasPlayed}

-- ---- before the first command
no_variable : {name : List ℕ} {t : Tagged} → Holds empty name t → ⊥
no_variable {name} {t} holds = let none = get-empty {X = Tagged} name_cmp name in let found = holds.found in cc

-- no variables fit what is seen
pub fit_first : (k : Knowledge) → IsEdition k.edition → IsKnowledge k → FitSeen k empty
fit_first k edition known = let (L, after) = known.seen_legal in record {
  lattice = L;
  seen = record { edition = edition; after = after };
  fit = record {
    values = λ holds. absurd (no_variable holds);
    room = omega (arith, len-empty name_cmp Tagged);
  };
}

-- ---- the session stays the same
pub same_itself : (k : Knowledge) → IsSameSession k k
same_itself k = record { number = refl; edition = refl; room = refl; alone = refl }

pub same_on : (old k new : Knowledge) → IsSameSession old k → IsSameSession k new
    → IsSameSession old new
same_on old k new one two = record {
  number = two.number ∙ one.number;
  edition = two.edition ∙ one.edition;
  room = two.room ∙ one.room;
  alone = two.alone ∙ one.alone;
}

module _ (operations : Operations) where
  pub same_over : (old new : Knowledge) (variables after : Variables) (command : Command)
      (line : Line) → PlaysOver operations old variables command new after line
      → IsSameSession old new
  same_over old new variables after command line (change asks placed) = placed.same
  same_over old new variables after command line (full asks unplaced refused) = unplaced.same
  same_over old new variables after command line (read none is seen outcome) =
      subst (λ k. IsSameSession old k) (sym is) (same_itself old)

  -- ---- one command more
  -- what is known and held on the way, and the lines as a text
  pub record HasCome (old : Knowledge) (commands : List Command) (new : Knowledge)
      (after : Variables) (text : List ℕ) : Type 0 where
    pub lines : List Line
    pub plays : PlaysAll operations old empty commands lines new after
    pub is_text : text ≡ lines_text lines

  pub none_yet : (old : Knowledge) → HasCome old [] old empty []
  none_yet old = record { lines = []; plays = (refl, refl); is_text = refl }

  plays_more : (old k new : Knowledge) (variables v after : Variables) (commands : List Command)
      (lines : List Line) (command : Command) (line : Line)
      → PlaysAll operations old variables commands lines k v
      → PlaysOver operations k v command new after line
      → PlaysAll operations old variables (commands ++ command ∷ []) (lines ++ line ∷ []) new after
  plays_more old k new variables v after [] [] command line (is_k, is_v) over =
      let moved : PlaysOver operations old variables command new after line
      = subst (λ x. PlaysOver operations old x command new after line) is_v
      (subst (λ x. PlaysOver operations x v command new after line) is_k over) in
      (new, after, moved, (refl, refl))
  plays_more old k new variables v after [] (l ∷ lines) command line plays over = absurd plays
  plays_more old k new variables v after (c ∷ commands) [] command line plays over = absurd plays
  plays_more old k new variables v after (c ∷ commands) (l ∷ lines) command line (k₁, v₁, first, others) over =
      (k₁, v₁, first, plays_more k₁ k new v₁ v after commands lines command line others over)

  pub come_on : (old k new : Knowledge) (v after : Variables) (commands : List Command) (i : ℕ)
      (command : Command) (line : Line) (text longer : List ℕ) → i < length commands
      → command ≡ slice_index_or commands i command → HasCome old (take i commands) k v text
      → PlaysOver operations k v command new after line → longer ≡ text ++ line_text line
      → HasCome old (take (i + 1) commands) new after longer
  come_on old k new v after commands i command line text longer within is come over more =
      let taken : take (i + 1) commands ≡ take i commands ++ command ∷ [] =
      ap (λ n. take n commands) (add-one i) ∙ take-suc commands i command within
      ∙ ap (λ x. take i commands ++ x ∷ []) (sym is) in
      record {
        lines = come.lines ++ line ∷ [];
        plays = subst (λ cs. PlaysAll operations old empty cs (come.lines ++ line ∷ []) new after) (sym taken)
            (plays_more old k new empty v after (take i commands) come.lines command line come.plays over);
        is_text = more ∙ ap (λ t. t ++ line_text line) come.is_text ∙ flat_map_more line_text [] come.lines line;
      }

  pub has_come : (old new : Knowledge) (after : Variables) (commands : List Command)
      (text : List ℕ) → HasCome old commands new after text
      → HasPlayed operations old commands new text
  has_come old new after commands text come =
      record { lines = come.lines; after = after; plays = come.plays; is_text = come.is_text }

-- what holds of a pass through a port holds of it afterwards
pub held_after : (Holds : SharedPass → Type 0) (port new : SharedPass) → new ≡ port → Holds port
    → Holds new
held_after Holds port new is holds = subst Holds (sym is) holds
