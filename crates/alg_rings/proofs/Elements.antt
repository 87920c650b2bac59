-- From the theory to carriers: the elements of a carrier with their validity form a type on which the laws have no premises,
-- and what holds of all lists of elements holds of all valid lists.
use Rattle.std.proofs.Common.{◌≡◌, List, [], ◌∷◌, map, slice_index_or, refl, ap, subst, All}
use Rattle.std.proofs.lemmas.List.Elements.{All-head, All-tail, All-map}
use mathlib.Core.HLevel.{Σ_prop_path}
use Rattle.alg_model.specs.Coefficients.{Ops, Carrier}
use Rattle.alg_model.specs.Fields.{IsRing, IsField}
use Rattle.alg_rings.specs.Laws.{IsPropositional, RingLaws, FieldLaws}
use Rattle.alg_rings.proofs.Homomorphisms.{Homomorphism, map_injective}

abbrev pub Element : {A : Type 0} → Carrier A → Type 0
Element {A} c = (x : A) × c.Valid x

abbrev pub underlying : {A : Type 0} (c : Carrier A) → Element c → A
underlying c e = e.0

abbrev pub element_ops : {A : Type 0} {c : Carrier A} → IsRing c → Ops (Element c)
element_ops {A} {c} R = record {
  zero = (c.ops.zero, R.zero_valid);
  one = (c.ops.one, R.one_valid);
  add = λ x y. (c.ops.add x.0 y.0, R.add_valid x.0 y.0 x.1 y.1);
  mul = λ x y. (c.ops.mul x.0 y.0, R.mul_valid x.0 y.0 x.1 y.1);
  neg = λ x. (c.ops.neg x.0, R.neg_valid x.0 x.1);
  is_zero = λ x. c.ops.is_zero x.0;
}

-- the elements of a valid list
pub elements : {A : Type 0} (c : Carrier A) (f : List A) → All c.Valid f → List (Element c)
elements c [] v = []
elements c (x ∷ xs) v = (x, All-head c.Valid x xs v) ∷ elements c xs (All-tail c.Valid x xs v)

pub elements_are : {A : Type 0} (c : Carrier A) (f : List A) (v : All c.Valid f) → map (underlying c) (elements c f v) ≡ f
unfolding elements
elements_are c [] v = refl
elements_are c (x ∷ xs) v = ap (λ w. x ∷ w) (elements_are c xs (All-tail c.Valid x xs v))

-- what holds of all lists of elements holds of all valid lists
pub on_valid : {A : Type 0} (c : Carrier A) (T : List A → Type 0) → ((F : List (Element c)) → T (map (underlying c) F))
    → (f : List A) → All c.Valid f → T f
on_valid c T h f v = subst T (elements_are c f v) (h (elements c f v))

pub on_valid₂ : {A : Type 0} (c : Carrier A) (T : List A → List A → Type 0)
    → ((F G : List (Element c)) → T (map (underlying c) F) (map (underlying c) G))
    → (f g : List A) → All c.Valid f → All c.Valid g → T f g
on_valid₂ c T h f g vf vg =
    on_valid c (λ f. T f g) (λ F. on_valid c (λ g. T (map (underlying c) F) g) (λ G. h F G) g vg) f vf

pub on_valid₃ : {A : Type 0} (c : Carrier A) (T : List A → List A → List A → Type 0)
    → ((F G K : List (Element c)) → T (map (underlying c) F) (map (underlying c) G) (map (underlying c) K))
    → (f g k : List A) → All c.Valid f → All c.Valid g → All c.Valid k → T f g k
on_valid₃ c T h f g k vf vg vk =
    on_valid c (λ f. T f g k) (λ F. on_valid₂ c (T (map (underlying c) F)) (h F) g k vg vk) f vf

-- the coefficients of a list of elements are valid
pub underlying_valid : {A : Type 0} (c : Carrier A) (F : List (Element c)) → All c.Valid (map (underlying c) F)
underlying_valid c F = All-map c.Valid (underlying c) F (λ k d l. (slice_index_or F k d).1)

module _ {A : Type 0} {c : Carrier A} (R : IsRing c) where
  pub underlying_homomorphism : Homomorphism (element_ops R) c.ops (underlying c)
  underlying_homomorphism = record {
    zero = refl;
    one = refl;
    add = λ x y. refl;
    mul = λ x y. refl;
    neg = λ x. refl;
    is_zero = λ x. refl;
  }

module _ {A : Type 0} {c : Carrier A} (P : IsPropositional c) where
  pub underlying_injective : (x y : Element c) → x.0 ≡ y.0 → x ≡ y
  underlying_injective x y e = Σ_prop_path P.valid e

  pub underlying_lists_injective : (F G : List (Element c)) → map (underlying c) F ≡ map (underlying c) G → F ≡ G
  underlying_lists_injective F G e = map_injective (underlying c) underlying_injective F G e

module _ {A : Type 0} {c : Carrier A} (P : IsPropositional c) (R : IsRing c) where
  pub element_laws : RingLaws (element_ops R)
  element_laws = record {
    add_comm = λ x y. underlying_injective P _ _ (R.add_comm x.0 y.0 x.1 y.1);
    add_assoc = λ x y z. underlying_injective P _ _ (R.add_assoc x.0 y.0 z.0 x.1 y.1 z.1);
    zero_add = λ x. underlying_injective P _ _ (R.zero_add x.0 x.1);
    add_neg = λ x. underlying_injective P _ _ (R.add_neg x.0 x.1);
    mul_comm = λ x y. underlying_injective P _ _ (R.mul_comm x.0 y.0 x.1 y.1);
    mul_assoc = λ x y z. underlying_injective P _ _ (R.mul_assoc x.0 y.0 z.0 x.1 y.1 z.1);
    one_mul = λ x. underlying_injective P _ _ (R.one_mul x.0 x.1);
    mul_add = λ x y z. underlying_injective P _ _ (R.mul_add x.0 y.0 z.0 x.1 y.1 z.1);
    zero_test = λ x. ((λ e. underlying_injective P _ _ ((R.zero_test x.0 x.1).0 e)), (λ e. (R.zero_test x.0 x.1).1 (ap (underlying c) e)));
  }

-- the elements of a carrier as one value, of which a section opens what it speaks of under short
-- names
pub record OnElements {A : Type 0} (c : Carrier A) : Type 0 where
  pub ops : Ops (Element c)
  pub laws : RingLaws ops
  pub value : Homomorphism ops c.ops (underlying c)

abbrev pub on_elements : {A : Type 0} {c : Carrier A} → IsPropositional c → IsRing c → OnElements c
on_elements P R = record {
  ops = element_ops R;
  laws = element_laws P R;
  value = underlying_homomorphism R;
}

module _ {A : Type 0} {c : Carrier A} (P : IsPropositional c) (F : IsField c) where
  pub element_field : FieldLaws (element_ops F.ring)
  element_field = record {
    ring = element_laws P F.ring;
    one_not_zero = λ e. F.one_not_zero (ap (underlying c) e);
    inverse = λ x h. let i = F.inverse x.0 x.1 (λ z. h (underlying_injective P _ _ z)) in ((i.0, i.1), underlying_injective P _ _ i.2);
  }
