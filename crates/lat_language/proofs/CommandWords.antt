-- Words spell a command exactly where that command is read from them.
use Rattle.std.proofs.Common.{◌≡◌, ℕ, ◌^◌, Option, Some, None, List, [], ◌∷◌, map, sym, refl, ap, ◌∙◌, subst, inl, inr, lit≤}
use Rattle.std.specs.Prelude.{◌↔◌, codes, MatchOption, option_and_then, find, cond}
use Rattle.std.specs.Str.{bytes_eq}
use Rattle.std.specs.List.{AllByRecursion}
use Rattle.std.proofs.lemmas.Bool.{cases_Bool}
use Rattle.std.proofs.lemmas.Slice.Eq.{bytes_eq-Decides}
use Rattle.std.proofs.lemmas.List.Elements.{All-from_recursion, recursion_from_All}
use Rattle.lat_language.specs.declared.commands.Command.{Command}
use Rattle.lat_language.specs.declared.commands.Command.TheVariants as command
use Rattle.lat_language.specs.declared.verbs.TheConstants.{VERBS}
use Rattle.lat_language.specs.declared.verbs.Verb.{Verb}
use Rattle.lat_language.specs.declared.verbs.Verb.TheVariants as verb
use Rattle.lat_language.specs.Commands.{Word, Fixed, word_text, IsWord, form_of, command_words, SpellsCommand}
use Rattle.lat_language.specs.PrivateReading.{name_of, field_of, number_of, digits_of, op_of, fixed_of, verb_text, verb_of, one, two, three, four, no_operands, one_operand, two_operands, three_operands, four_operands, behind, seven_operands, operands_of, command_of}
use Rattle.lat_language.specs.PrivateDecisions.{Decided, Spelled}
use Rattle.lat_language.proofs.ReadWords.{name_spelled, name_given, field_spelled, field_given, number_spelled, number_given, digits_spelled, digits_given, op_spelled, op_given}

-- texts are those of words, each
abbrev AreSpelled : List (List ℕ) → List Word → Type 0
AreSpelled [] [] = Unit {0}
AreSpelled [] (word ∷ words) = ⊥
AreSpelled (text ∷ texts) [] = ⊥
AreSpelled (text ∷ texts) (word ∷ words) = Spelled text word × AreSpelled texts words

spelled_texts : (texts : List (List ℕ)) (words : List Word) → AreSpelled texts words
    → texts ≡ map word_text words
spelled_texts [] [] h = refl
spelled_texts [] (word ∷ words) h = absurd h
spelled_texts (text ∷ texts) [] h = absurd h
spelled_texts (text ∷ texts) (word ∷ words) h =
    let first = h.0.0 in
    let rest = spelled_texts texts words h.1 in
    cc

spelled_words : (texts : List (List ℕ)) (words : List Word) → AreSpelled texts words
    → AllByRecursion IsWord words
spelled_words texts [] h = tt
spelled_words [] (word ∷ words) h = absurd h
spelled_words (text ∷ texts) (word ∷ words) h = (h.0.1, spelled_words texts words h.1)

-- texts that are those of a command spell it
spells : (texts : List (List ℕ)) (c d : Command) → c ≡ d → AreSpelled texts (form_of c)
    → SpellsCommand texts d
spells texts c d e h = subst (SpellsCommand texts) e (
  spelled_texts texts (form_of c) h,
  All-from_recursion IsWord (form_of c) (spelled_words texts (form_of c) h),
)

-- ---- what is made of operands
one_some : {A : Type 0} (make : A → Command) (x : Option A) (c : Command) → one make x ≡ Some c
    → (a : A) × (x ≡ Some a) × (make a ≡ c)
one_some make (Some a) c e = (a, refl, cc)
one_some make None c e = absurd (cc)

two_some : {A B : Type 0} (make : A → B → Command) (x : Option A) (y : Option B) (c : Command)
    → two make x y ≡ Some c → (a : A) × (b : B) × (x ≡ Some a) × (y ≡ Some b) × (make a b ≡ c)
two_some make (Some a) y c e = let h = one_some (make a) y c e in (a, h.0, refl, h.1, h.2)
two_some make None y c e = absurd (cc)

three_some : {A B C : Type 0} (make : A → B → C → Command) (x : Option A) (y : Option B)
    (z : Option C) (d : Command) → three make x y z ≡ Some d
    → (a : A) × (b : B) × (c : C) × (x ≡ Some a) × (y ≡ Some b) × (z ≡ Some c) × (make a b c ≡ d)
three_some make (Some a) y z d e = let h = two_some (make a) y z d e in (a, h.0, h.1, refl, h.2, h.3, h.4)
three_some make None y z d e = absurd (cc)

four_some : {A B C D : Type 0} (make : A → B → C → D → Command) (x : Option A) (y : Option B)
    (z : Option C) (w : Option D) (e : Command) → four make x y z w ≡ Some e
    → (a : A) × (b : B) × (c : C) × (d : D) × (x ≡ Some a) × (y ≡ Some b) × (z ≡ Some c)
    × (w ≡ Some d) × (make a b c d ≡ e)
four_some make (Some a) y z w d e =
    let h = three_some (make a) y z w d e in (a, h.0, h.1, h.2, refl, h.3, h.4, h.5, h.6)
four_some make None y z w d e = absurd (cc)

one_is : {A : Type 0} (make : A → Command) (x : Option A) (a : A) → x ≡ Some a
    → one make x ≡ Some (make a)
one_is make x a e = ap (one make) e

two_is : {A B : Type 0} (make : A → B → Command) (x : Option A) (y : Option B) (a : A) (b : B)
    → x ≡ Some a → y ≡ Some b → two make x y ≡ Some (make a b)
two_is make x y a b e f = ap (λ x. two make x y) e ∙ one_is (make a) y b f

three_is : {A B C : Type 0} (make : A → B → C → Command) (x : Option A) (y : Option B) (z : Option C)
    (a : A) (b : B) (c : C) → x ≡ Some a → y ≡ Some b → z ≡ Some c
    → three make x y z ≡ Some (make a b c)
three_is make x y z a b c e f g = ap (λ x. three make x y z) e ∙ two_is (make a) y z b c f g

four_is : {A B C D : Type 0} (make : A → B → C → D → Command) (x : Option A) (y : Option B)
    (z : Option C) (w : Option D) (a : A) (b : B) (c : C) (d : D) → x ≡ Some a → y ≡ Some b
    → z ≡ Some c → w ≡ Some d → four make x y z w ≡ Some (make a b c d)
four_is make x y z w a b c d e f g h = ap (λ x. four make x y z w) e ∙ three_is (make a) y z w b c d f g h

-- a fixed word that is found is there
fixed_spelled : (fixed text : List ℕ) (u : Unit {0}) → fixed_of fixed text ≡ Some u
    → Spelled text (Fixed fixed)
fixed_spelled fixed text u e = elim (cases_Bool (bytes_eq text fixed)) [
  | inl t ↦ ((bytes_eq-Decides text fixed).0 t, tt)
  | inr f ↦ absurd (let none : ◌≡◌ {A = Option (Unit {0})} None (Some u) = sym (ap (λ b. cond b (Some tt) None) f) ∙ e in cc)
]

behind_some : (x : Option (Unit {0})) (made : Option Command) (c : Command) → behind x made ≡ Some c
    → (u : Unit {0}) × (x ≡ Some u) × (made ≡ Some c)
behind_some (Some u) made c e = (u, refl, e)
behind_some None made c e = absurd (cc)

-- ---- from what is read to what is spelled
none_some : {A B : Type 0} (c : A) → ◌≡◌ {A = Option A} None (Some c) → B
none_some c e = absurd (cc)

-- a row of the table for each command
none_spelled : (v : Verb) (c : Command) → no_operands v ≡ Some c
    → SpellsCommand (verb_text v ∷ []) c
none_spelled verb.Sync c e = spells _ command.Sync c (cc) ((refl, tt), tt)
none_spelled verb.Count c e = spells _ command.Count c (cc) ((refl, tt), tt)
none_spelled _ c e = none_some c e

one_spelled : (v : Verb) (a : List ℕ) (c : Command) → one_operand v a ≡ Some c
    → SpellsCommand (verb_text v ∷ a ∷ []) c
one_spelled verb.Show a c e =
    let h = one_some command.Show (name_of a) c e in
    spells _ (command.Show h.0) c h.2 ((refl, tt), (name_spelled a h.0 h.1, tt))
one_spelled verb.MinPoly a c e =
    let h = one_some command.MinPoly (name_of a) c e in
    spells _ (command.MinPoly h.0) c h.2 ((refl, tt), (name_spelled a h.0 h.1, tt))
one_spelled verb.List a c e =
    let h = one_some command.List (field_of a) c e in
    spells _ (command.List h.0) c h.2 ((refl, tt), (field_spelled a h.0 h.1, tt))
one_spelled _ a c e = none_some c e

two_spelled : (v : Verb) (a b : List ℕ) (c : Command) → two_operands v a b ≡ Some c
    → SpellsCommand (verb_text v ∷ a ∷ b ∷ []) c
two_spelled verb.Inv a b c e =
    let h = two_some command.Inv (name_of a) (name_of b) c e in
    spells _ (command.Inv h.0 h.1) c h.4 ((refl, tt), (name_spelled a h.0 h.2, (name_spelled b h.1 h.3, tt)))
two_spelled verb.Frob a b c e =
    let h = two_some command.Frob (name_of a) (name_of b) c e in
    spells _ (command.Frob h.0 h.1) c h.4 ((refl, tt), (name_spelled a h.0 h.2, (name_spelled b h.1 h.3, tt)))
two_spelled verb.Trace a b c e =
    let h = two_some command.Trace (name_of a) (name_of b) c e in
    spells _ (command.Trace h.0 h.1) c h.4 ((refl, tt), (name_spelled a h.0 h.2, (name_spelled b h.1 h.3, tt)))
two_spelled verb.Norm a b c e =
    let h = two_some command.Norm (name_of a) (name_of b) c e in
    spells _ (command.Norm h.0 h.1) c h.4 ((refl, tt), (name_spelled a h.0 h.2, (name_spelled b h.1 h.3, tt)))
two_spelled verb.Map a b c e =
    let h = two_some command.Map (field_of a) (field_of b) c e in
    spells _ (command.Map h.0 h.1) c h.4 ((refl, tt), (field_spelled a h.0 h.2, (field_spelled b h.1 h.3, tt)))
two_spelled verb.Common a b c e =
    let h = two_some command.Common (field_of a) (field_of b) c e in
    spells _ (command.Common h.0 h.1) c h.4 ((refl, tt), (field_spelled a h.0 h.2, (field_spelled b h.1 h.3, tt)))
two_spelled _ a b c e = none_some c e

three_spelled : (v : Verb) (a b c : List ℕ) (d : Command) → three_operands v a b c ≡ Some d
    → SpellsCommand (verb_text v ∷ a ∷ b ∷ c ∷ []) d
three_spelled verb.Field a b c d e =
    let h = three_some command.Field (name_of a) (number_of (2 ^ 32) b) (digits_of c) d e in
    spells _ (command.Field h.0 h.1 h.2) d h.6 ((refl, tt), (name_spelled a h.0 h.3, (number_spelled (2 ^ 32) (lit≤ tt) b h.1 h.4, (digits_spelled c h.2 h.5, tt))))
three_spelled verb.Embed a b c d e =
    let i = behind_some (fixed_of (codes "into") b) (two command.Embed (field_of a) (field_of c)) d e in
    let h = two_some command.Embed (field_of a) (field_of c) d i.2 in
    spells _ (command.Embed h.0 h.1) d h.4 ((refl, tt), (field_spelled a h.0 h.2, (fixed_spelled (codes "into") b i.0 i.1, (field_spelled c h.1 h.3, tt))))
three_spelled verb.Let a b c d e =
    let h = three_some command.Let (name_of a) (field_of b) (digits_of c) d e in
    spells _ (command.Let h.0 h.1 h.2) d h.6 ((refl, tt), (name_spelled a h.0 h.3, (field_spelled b h.1 h.4, (digits_spelled c h.2 h.5, tt))))
three_spelled verb.Add a b c d e =
    let h = three_some command.Add (name_of a) (name_of b) (name_of c) d e in
    spells _ (command.Add h.0 h.1 h.2) d h.6 ((refl, tt), (name_spelled a h.0 h.3, (name_spelled b h.1 h.4, (name_spelled c h.2 h.5, tt))))
three_spelled verb.Mul a b c d e =
    let h = three_some command.Mul (name_of a) (name_of b) (name_of c) d e in
    spells _ (command.Mul h.0 h.1 h.2) d h.6 ((refl, tt), (name_spelled a h.0 h.3, (name_spelled b h.1 h.4, (name_spelled c h.2 h.5, tt))))
three_spelled verb.Pow a b c d e =
    let h = three_some command.Pow (name_of a) (name_of b) (number_of (2 ^ 64) c) d e in
    spells _ (command.Pow h.0 h.1 h.2) d h.6 ((refl, tt), (name_spelled a h.0 h.3, (name_spelled b h.1 h.4, (number_spelled (2 ^ 64) (lit≤ tt) c h.2 h.5, tt))))
three_spelled verb.Lift a b c d e =
    let h = three_some command.Lift (name_of a) (name_of b) (field_of c) d e in
    spells _ (command.Lift h.0 h.1 h.2) d h.6 ((refl, tt), (name_spelled a h.0 h.3, (name_spelled b h.1 h.4, (field_spelled c h.2 h.5, tt))))
three_spelled verb.Apply a b c d e =
    let h = three_some command.Apply (name_of a) (op_of b) (name_of c) d e in
    spells _ (command.Apply h.0 h.1 h.2) d h.6 ((refl, tt), (name_spelled a h.0 h.3, (op_spelled b h.1 h.4, (name_spelled c h.2 h.5, tt))))
three_spelled verb.MinPoly a b c d e =
    let i = behind_some (fixed_of (codes "over") b) (two command.MinPolyOver (name_of a) (field_of c)) d e in
    let h = two_some command.MinPolyOver (name_of a) (field_of c) d i.2 in
    spells _ (command.MinPolyOver h.0 h.1) d h.4 ((refl, tt), (name_spelled a h.0 h.2, (fixed_spelled (codes "over") b i.0 i.1, (field_spelled c h.1 h.3, tt))))
three_spelled _ a b c d e = none_some d e

four_spelled : (v : Verb) (a b c d : List ℕ) (r : Command) → four_operands v a b c d ≡ Some r
    → SpellsCommand (verb_text v ∷ a ∷ b ∷ c ∷ d ∷ []) r
four_spelled verb.Meet a b c d r e =
    let i = behind_some (fixed_of (codes "in") c) (three command.Meet (field_of a) (field_of b) (field_of d)) r e in
    let h = three_some command.Meet (field_of a) (field_of b) (field_of d) r i.2 in
    spells _ (command.Meet h.0 h.1 h.2) r h.6 ((refl, tt), (field_spelled a h.0 h.3, (field_spelled b h.1 h.4, (fixed_spelled (codes "in") c i.0 i.1, (field_spelled d h.2 h.5, tt)))))
four_spelled _ a b c d r e = none_some r e

then_some : {A B : Type 0} (f : A → Option B) (x : Option A) (b : B) → option_and_then f x ≡ Some b
    → (a : A) × (x ≡ Some a) × (f a ≡ Some b)
then_some f (Some a) b e = (a, refl, e)
then_some f None b e = absurd (cc)

seven_spelled : (v : Verb) (a b c d e f g : List ℕ) (r : Command)
    → seven_operands v a b c d e f g ≡ Some r
    → SpellsCommand (verb_text v ∷ a ∷ b ∷ c ∷ d ∷ e ∷ f ∷ g ∷ []) r
seven_spelled verb.Embed a b c d e f g r is =
    let made = four command.EmbedSending (field_of a) (field_of c) (name_of e) (name_of g) in
    let i = behind_some (fixed_of (codes "into") b) (behind (fixed_of (codes "sending") d) (behind (fixed_of (codes "to") f) made)) r is in
    let s = behind_some (fixed_of (codes "sending") d) (behind (fixed_of (codes "to") f) made) r i.2 in
    let t = behind_some (fixed_of (codes "to") f) made r s.2 in
    let h = four_some command.EmbedSending (field_of a) (field_of c) (name_of e) (name_of g) r t.2 in
    spells _ (command.EmbedSending h.0 h.1 h.2 h.3) r h.8 (
      (refl, tt),
      (field_spelled a h.0 h.4, (fixed_spelled (codes "into") b i.0 i.1, (field_spelled c h.1 h.5, (fixed_spelled (codes "sending") d s.0 s.1, (name_spelled e h.2 h.6, (fixed_spelled (codes "to") f t.0 t.1, (name_spelled g h.3 h.7, tt))))))),
    )
seven_spelled _ a b c d e f g r is = none_some r is

operands_spelled : (operands : List (List ℕ)) (v : Verb) (c : Command)
    → operands_of operands v ≡ Some c → SpellsCommand (verb_text v ∷ operands) c
operands_spelled [] v r is = none_spelled v r is
operands_spelled (a ∷ []) v r is = one_spelled v a r is
operands_spelled (a ∷ b ∷ []) v r is = two_spelled v a b r is
operands_spelled (a ∷ b ∷ c ∷ []) v r is = three_spelled v a b c r is
operands_spelled (a ∷ b ∷ c ∷ d ∷ []) v r is = four_spelled v a b c d r is
operands_spelled (a ∷ b ∷ c ∷ d ∷ e ∷ []) v r is = none_some r is
operands_spelled (a ∷ b ∷ c ∷ d ∷ e ∷ f ∷ []) v r is = none_some r is
operands_spelled (a ∷ b ∷ c ∷ d ∷ e ∷ f ∷ g ∷ []) v r is = seven_spelled v a b c d e f g r is
operands_spelled (a ∷ b ∷ c ∷ d ∷ e ∷ f ∷ g ∷ h ∷ more) v r is = none_some r is

-- the verb of a text is written so
found_verb : (vs : List Verb) (text : List ℕ) (v : Verb)
    → find (λ v. bytes_eq text (verb_text v)) vs ≡ Some v → text ≡ verb_text v
found_verb [] text v e = none_some v e
found_verb (w ∷ more) text v e = elim (cases_Bool (bytes_eq text (verb_text w))) [
  | inl t ↦
      let first : Some w ≡ Some v = sym (ap (λ b. cond b (Some w) (find (λ v. bytes_eq text (verb_text v)) more)) t) ∙ e in
      let same : w ≡ v = cc in
      (bytes_eq-Decides text (verb_text w)).0 t ∙ ap verb_text same
  | inr f ↦ found_verb more text v (sym (ap (λ b. cond b (Some w) (find (λ v. bytes_eq text (verb_text v)) more)) f) ∙ e)
]

-- what is read is spelled
pub read_spelled : (words : List (List ℕ)) (c : Command) → command_of words ≡ Some c
    → SpellsCommand words c
read_spelled [] c e = none_some c e
read_spelled (first ∷ operands) c e =
    let h = then_some (operands_of operands) (verb_of first) c e in
    subst (λ w. SpellsCommand (w ∷ operands) c) (sym (found_verb VERBS first h.0 h.1)) (operands_spelled operands h.0 c h.2)

-- ---- from what is spelled to what is read
-- a row of the table for each command
words_read : (c : Command) → AllByRecursion IsWord (form_of c)
    → command_of (command_words c) ≡ Some c
words_read (command.Field name p poly) h =
    three_is command.Field _ _ _ name p poly (name_given name name (refl, h.1.0)) (number_given (2 ^ 32) (lit≤ tt) _ p (refl, h.1.1.0)) (digits_given _ poly (refl, h.1.1.1.0))
words_read (command.Embed from into) h =
    two_is command.Embed _ _ from into (field_given from from (refl, h.1.0)) (field_given into into (refl, h.1.1.1.0))
words_read (command.EmbedSending from into value image) h =
    four_is command.EmbedSending _ _ _ _ from into value image (field_given from from (refl, h.1.0)) (field_given into into (refl, h.1.1.1.0))
    (name_given value value (refl, h.1.1.1.1.1.0)) (name_given image image (refl, h.1.1.1.1.1.1.1.0))
words_read command.Sync h = refl
words_read (command.Let r field digits) h =
    three_is command.Let _ _ _ r field digits (name_given r r (refl, h.1.0)) (field_given field field (refl, h.1.1.0)) (digits_given _ digits (refl, h.1.1.1.0))
words_read (command.Add r left right) h =
    three_is command.Add _ _ _ r left right (name_given r r (refl, h.1.0)) (name_given left left (refl, h.1.1.0)) (name_given right right (refl, h.1.1.1.0))
words_read (command.Mul r left right) h =
    three_is command.Mul _ _ _ r left right (name_given r r (refl, h.1.0)) (name_given left left (refl, h.1.1.0)) (name_given right right (refl, h.1.1.1.0))
words_read (command.Inv r value) h =
    two_is command.Inv _ _ r value (name_given r r (refl, h.1.0)) (name_given value value (refl, h.1.1.0))
words_read (command.Pow r value exponent) h =
    three_is command.Pow _ _ _ r value exponent (name_given r r (refl, h.1.0)) (name_given value value (refl, h.1.1.0)) (number_given (2 ^ 64) (lit≤ tt) _ exponent (refl, h.1.1.1.0))
words_read (command.Frob r value) h =
    two_is command.Frob _ _ r value (name_given r r (refl, h.1.0)) (name_given value value (refl, h.1.1.0))
words_read (command.Trace r value) h =
    two_is command.Trace _ _ r value (name_given r r (refl, h.1.0)) (name_given value value (refl, h.1.1.0))
words_read (command.Norm r value) h =
    two_is command.Norm _ _ r value (name_given r r (refl, h.1.0)) (name_given value value (refl, h.1.1.0))
words_read (command.Lift r value to) h =
    three_is command.Lift _ _ _ r value to (name_given r r (refl, h.1.0)) (name_given value value (refl, h.1.1.0)) (field_given to to (refl, h.1.1.1.0))
words_read (command.Apply r op value) h =
    three_is command.Apply _ _ _ r op value (name_given r r (refl, h.1.0)) (op_given _ op (refl, tt)) (name_given value value (refl, h.1.1.1.0))
words_read (command.Show value) h = one_is command.Show _ value (name_given value value (refl, h.1.0))
words_read (command.Map from into) h =
    two_is command.Map _ _ from into (field_given from from (refl, h.1.0)) (field_given into into (refl, h.1.1.0))
words_read (command.Meet first second within) h =
    three_is command.Meet _ _ _ first second within (field_given first first (refl, h.1.0)) (field_given second second (refl, h.1.1.0)) (field_given within within (refl, h.1.1.1.1.0))
words_read (command.Common first second) h =
    two_is command.Common _ _ first second (field_given first first (refl, h.1.0)) (field_given second second (refl, h.1.1.0))
words_read (command.MinPoly value) h = one_is command.MinPoly _ value (name_given value value (refl, h.1.0))
words_read (command.MinPolyOver value over) h =
    two_is command.MinPolyOver _ _ value over (name_given value value (refl, h.1.0)) (field_given over over (refl, h.1.1.1.0))
words_read (command.List field) h = one_is command.List _ field (field_given field field (refl, h.1.0))
words_read command.Count h = refl

-- what is spelled is read
pub spelled_read : (words : List (List ℕ)) (c : Command) → SpellsCommand words c
    → command_of words ≡ Some c
spelled_read words c h = ap command_of h.0 ∙ words_read c (recursion_from_All IsWord (form_of c) h.1)

-- words spell one command
pub command_unique : (words : List (List ℕ)) (c d : Command) → SpellsCommand words c
    → SpellsCommand words d → c ≡ d
command_unique words c d h h' =
    let e : Some c ≡ Some d = sym (spelled_read words c h) ∙ spelled_read words d h' in
    cc

-- where nothing is read, nothing is spelled
pub none_read : (words : List (List ℕ)) (c : Command) → command_of words ≡ None
    → SpellsCommand words c → ⊥
none_read words c none h =
    let e : ◌≡◌ {A = Option Command} None (Some c) = sym none ∙ spelled_read words c h in
    cc

-- a command is read just where it is spelled
pub read_iff : (words : List (List ℕ)) (c : Command)
    → (command_of words ≡ Some c) ↔ SpellsCommand words c
read_iff words c = (read_spelled words c, spelled_read words c)

-- what is read is spelled, or nothing is read, and nothing is spelled
pub command_read : (words : List (List ℕ)) (r : Option Command) → r ≡ command_of words
    → MatchOption r ((c : Command) → ¬ (SpellsCommand words c)) (SpellsCommand words)
command_read words (Some c) e = read_spelled words c (sym e)
command_read words None e = λ c h. none_read words c (sym e) h

-- words are those of some command, or of none
pub decide_command : (words : List (List ℕ)) → Decided ((c : Command) × SpellsCommand words c)
decide_command words = by_reading (command_of words) refl where
  by_reading : (r : Option Command) → command_of words ≡ r
      → Decided ((c : Command) × SpellsCommand words c)
  by_reading (Some c) e = inl (c, read_spelled words c e)
  by_reading None e = inr (λ h. none_read words h.0 e h.1)
