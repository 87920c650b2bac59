-- The table of a session's variables as a finite map.
use Rattle.std.proofs.Common.{◌≡◌, ℕ, ◌≤◌, List, [], ◌∷◌, map, length, refl, sym, ap, ap₂, ◌∙◌, cond, true, false, Bool, not, Option, Some, None, is_some, nat_eq, ◌↔◌, IsTrue}
use Rattle.std.proofs.lemmas.List.{length-map}
use Rattle.std.proofs.lemmas.Cmp.{eq_by_cmp_equiv}
use Rattle.std.proofs.lemmas.Map.Text.{is_eq-slice_cmp}
use Rattle.std.specs.Borrow.{Bor}
use Rattle.std.specs.Option.{option_copied}
use Rattle.std.specs.Ordering.{eq_by_cmp}
use Rattle.std.specs.Cmp.{IsTotalOrder}
use Rattle.std.specs.Cmp.Lexicographic.{pointwise, nat_list_cmp_total}
use Rattle.std.specs.List.{IsDistinct, AllByRecursion}
use Rattle.std.specs.Map.{lookup, keys_of}
use Rattle.std.specs.FinMap.{IsAntisymmetric, get, len, find, insert, get-from_entries, get-insert, same_map, slice_cmp-IsAntisymmetric, nat_cmp-IsAntisymmetric}
use Rattle.arrayvec.specs.ArrayVec.{ArrayVec}
use Rattle.lat_core.specs.declared.tagged.Tagged.{Tagged}
use Rattle.lat_core.proofs.MapLengths.{AreApart, len_of_list}
use Rattle.lat_session.specs.declared.TheConstants.{MAX_VARIABLES}
use Rattle.lat_session.specs.Variables.{name_cmp, Variables, Holds, IsVariable, IsFullFor}
use Rattle.lat_session.specs.PrivateVariables.{variables_of}

-- the keys of the table are compared by their bytes
abbrev key_eq : ArrayVec ℕ → ArrayVec ℕ → Bool
key_eq v w = pointwise nat_eq v.items w.items

abbrev named : List (ArrayVec ℕ × Tagged) → List (List ℕ × Tagged)
named es = map {B = List ℕ × Tagged} (λ e. (e.0.items, e.1)) es

names_total : IsTotalOrder name_cmp
names_total = nat_list_cmp_total

names_antisymmetric : IsAntisymmetric name_cmp
names_antisymmetric = slice_cmp-IsAntisymmetric nat_cmp-IsAntisymmetric

-- ---- what is found
find_is_lookup : (es : List (ArrayVec ℕ × Tagged)) (q : List ℕ)
    → find name_cmp q (named es) ≡ lookup (λ k. pointwise nat_eq q k.items) es
find_is_lookup [] q = refl
find_is_lookup (e ∷ es) q =
    ap₂ (λ b r. cond b (Some e.1) r) (is_eq-slice_cmp q e.0.items) (find_is_lookup es q)

pub get_variable : (es : List (ArrayVec ℕ × Tagged)) (q : List ℕ)
    → get (variables_of es) q ≡ lookup (λ k. pointwise nat_eq q k.items) es
get_variable es q = get-from_entries names_total (named es) q ∙ find_is_lookup es q

-- what a look-up in the table answers is what the finite map has
answered : {A : Type 0} (f : Option Tagged → A) (answer : A) (variables : Variables)
    (key : ArrayVec ℕ) (name : List ℕ) (es : List (ArrayVec ℕ × Tagged))
    → answer ≡ f (lookup (λ k. pointwise nat_eq key.items k.items) es) → key.items ≡ name
    → variables_of es ≡ variables → answer ≡ f (get variables name)
answered f answer variables key name es a e v =
    a ∙ ap f (sym (get_variable es key.items)) ∙ ap₂ (λ vs n. f (get vs n)) v e

pub held : (found : Option (Bor Tagged)) (x : Bor Tagged) (t : Tagged) (variables : Variables)
    (key : ArrayVec ℕ) (name : List ℕ) (es : List (ArrayVec ℕ × Tagged)) → found ≡ Some x
    → t ≡ x.now → option_copied found ≡ lookup (λ k. pointwise nat_eq key.items k.items) es
    → key.items ≡ name → variables_of es ≡ variables → Holds variables name t
held found x t variables key name es s c a e v = record {
  found = sym (answered (λ o. o) (option_copied found) variables key name es a e v) ∙ ap option_copied s ∙ ap Some (sym c);
}

pub not_held : (found : Option (Bor Tagged)) (variables : Variables)
    (key : ArrayVec ℕ) (name : List ℕ) (es : List (ArrayVec ℕ × Tagged)) → found ≡ None
    → option_copied found ≡ lookup (λ k. pointwise nat_eq key.items k.items) es
    → key.items ≡ name → variables_of es ≡ variables → ¬ IsVariable variables name
not_held found variables key name es n a e v (t, h) =
    let none : get variables name ≡ None = sym (answered (λ o. o) (option_copied found) variables key name es a e v) ∙ ap option_copied n in
    let some : get variables name ≡ Some t = h.found in
    cc

-- whether there is none
new_or_not : (variables : Variables) (name : List ℕ) (b : Bool) (o : Option Tagged)
    → get variables name ≡ o → b ≡ not (is_some o) → IsTrue b ↔ (¬ IsVariable variables name)
new_or_not variables name b None g e = (
  λ _ h. let some : get variables name ≡ Some h.0 = h.1.found in cc,
  λ _. e,
)
new_or_not variables name b (Some t) g e = (
  λ h. absurd (let f : b ≡ false = e in cc),
  λ h. absurd (h (t, record { found = g })),
)

pub is_new_or_not : (b found : Bool) (variables : Variables) (key : ArrayVec ℕ) (name : List ℕ)
    (es : List (ArrayVec ℕ × Tagged)) → b ≡ not found
    → found ≡ is_some (lookup (λ k. pointwise nat_eq key.items k.items) es)
    → key.items ≡ name → variables_of es ≡ variables → IsTrue b ↔ (¬ IsVariable variables name)
is_new_or_not b found variables key name es n a e v = new_or_not variables name b (get variables name) refl
    (n ∙ ap not (answered is_some found variables key name es a e v))

-- ---- whether there is room for one more
pub not_both : (b : Bool) → b ≡ false → b ≡ true → ⊥
not_both b e d = cc

pub known_not_full : (new : Bool) (variables : Variables) (name : List ℕ)
    → IsTrue new ↔ (¬ IsVariable variables name) → new ≡ false
    → IsTrue false ↔ IsFullFor variables name
known_not_full new variables name iff e = (λ h. cc, λ f. sym e ∙ iff.1 f.new)

pub new_full_at_limit : (new full : Bool) (variables : Variables) (name : List ℕ)
    → IsTrue new ↔ (¬ IsVariable variables name) → new ≡ true
    → IsTrue full ↔ (MAX_VARIABLES ≤ len variables) → IsTrue full ↔ IsFullFor variables name
new_full_at_limit new full variables name iff e limit = (
  λ h. record { new = iff.0 e; full = limit.0 h },
  λ f. limit.1 f.full,
)

-- ---- what is set
turned : (name q : List ℕ) → pointwise nat_eq name q ≡ eq_by_cmp name_cmp q name
turned name q = sym (is_eq-slice_cmp name q) ∙ (eq_by_cmp_equiv names_total).symm name q

pub stored_variables : (es fs : List (ArrayVec ℕ × Tagged)) (key : ArrayVec ℕ) (name : List ℕ)
    (t : Tagged) → key.items ≡ name
    → ((q : ArrayVec ℕ) → lookup (key_eq q) fs ≡ cond (key_eq key q) (Some t) (lookup (key_eq q) es))
    → variables_of fs ≡ insert (variables_of es) name t
stored_variables es fs key name t e h = same_map names_total names_antisymmetric _ _ (λ q.
    get_variable fs q
    ∙ h (record { items = q })
    ∙ ap₂ (λ b r. cond b (Some t) r) (ap (λ n. pointwise nat_eq n q) e ∙ turned name q) (sym (get_variable es q))
    ∙ sym (get-insert names_total (variables_of es) name t q))

-- ---- how many there are
other_names : (name : List ℕ) (es : List (ArrayVec ℕ × Tagged))
    → AllByRecursion (λ k. pointwise nat_eq name k.items ≡ false) (keys_of es)
    → find name_cmp name (named es) ≡ None
other_names name [] h = refl
other_names name (e ∷ es) (apart, h) =
    ap₂ (λ b r. cond b (Some e.1) r) (is_eq-slice_cmp name e.0.items ∙ apart) (other_names name es h)

distinct_names : (es : List (ArrayVec ℕ × Tagged)) → IsDistinct key_eq (keys_of es)
    → AreApart name_cmp (named es)
unfolding IsDistinct
distinct_names [] h = tt
distinct_names (e ∷ es) (apart, h) = (other_names e.0.items es apart, distinct_names es h)

pub count_of_table : (es : List (ArrayVec ℕ × Tagged)) → IsDistinct key_eq (keys_of es)
    → len (variables_of es) ≡ length es
count_of_table es h = len_of_list names_total (named es) (distinct_names es h)
    ∙ length-map es (λ e. (e.0.items, e.1))
