-- One word more is a name, so that the words that are left are names where all words are.
use Rattle.std.proofs.Common.{◌≡◌, true, Option, Some, None, List, ◌∷◌, sym, subst}
use Rattle.std.specs.Prelude.{◌↔◌, All, SomeIff, is_some}
use Rattle.std.proofs.lemmas.Bool.{false≢true}
use Rattle.std.proofs.lemmas.List.Elements.{All-tail, All-cons}
use Rattle.lat_core.specs.Names.{IsDeclaredName}
use Rattle.lat_language.proofs.line_forms.are_names.Goals as goal

-- what is given just where P holds shows that it does
given_holds : {A : Type 0} (P : Type 0) (o : Option A) (v : A) → SomeIff o P v
    → is_some o ≡ true → P
given_holds P None v h e = absurd (false≢true e)
given_holds P (Some x) v h e = h.0

-- behind a first one for which P holds, P holds of the others just where it holds of all
All-rest : {A : Type 0} (P : A → Type 0) (first : A) (rest all : List A) → all ≡ first ∷ rest
    → P first → All P rest ↔ All P all
All-rest P first rest all e h = (
  λ hs. subst (All P) (sym e) (All-cons P first rest h hs),
  λ hs. All-tail P first rest (subst (All P) e hs),
)

pub loop-word-preserved : goal.loop-word-preserved
loop-word-preserved c =
    let named = given_holds _ c.declared_bytes.result _ c.declared_bytes.ensures c.if-is_none.ensures in
    let step = All-rest IsDeclaredName _ _ _ c.in-Some.ensures.0 named in
    (λ h. c.loop-word.invariant.0 (step.0 h), λ h. step.1 (c.loop-word.invariant.1 h))
