-- Members and missing degrees, as a program finds them.
use Rattle.std.proofs.Common.{◌≡◌, ◌⊎◌, ◌↔◌, ℕ, ◌+◌, ◌<◌, List, [], ◌∷◌, ◌++◌, length, map, get_or, refl, ap, sym, ◌∙◌, subst, inl, inr, ⊎_elim, arith, AllPairs}
use Rattle.std.specs.List.{Contains}
use Rattle.std.proofs.lemmas.Bool.{cases_eq}
use Rattle.std.proofs.lemmas.List.{get_or-map, length-map}
use Rattle.std.proofs.lemmas.List.Elements.{Contains-push, Contains-append_left, Contains-push_cases, Contains-get_or}
use Rattle.std.proofs.lemmas.List.Quantifiers.{all_pairs_push}
use Rattle.alg_model.specs.Maps.{degree_of}
use Rattle.alg_model.specs.Lattices.{Lattice, field_at, Stored, IsCompatible}
use Rattle.alg_model.specs.Candidates.{IsMember, IsClosureDegree, IsMissing, AreMissing}
use Rattle.alg_model.specs.Candidates.IsMember.{of_source, of_target}
use Rattle.alg_model.specs.Candidates as Model
use Rattle.alg_compatible.proofs.Transfer.{lattice_decided}
use Rattle.alg_choices.specs.Degrees.{AreMembersBelow, AreDegrees, InClosure}
use Rattle.alg_choices.specs.Degrees.InClosure.{of_member, of_gcd}

module _ {L : Lattice} {E F : ℕ} where
  -- a member has a stored map into E or into F
  pub member_maps : {i : ℕ} → IsMember L E F i
      ↔ (((m : List (List ℕ)) × Stored L i E m) ⊎ ((m : List (List ℕ)) × Stored L i F m))
  member_maps {i} = (to, ⊎_elim (λ (m, h). of_source h) (λ (m, h). of_target h))
    where
      to : IsMember L E F i
          → ((m : List (List ℕ)) × Stored L i E m) ⊎ ((m : List (List ℕ)) × Stored L i F m)
      to (of_source {m} h) = inl (m, h)
      to (of_target {m} h) = inr (m, h)

  -- whether a field is a member can be told
  pub member_or_not : (i : ℕ) → IsMember L E F i ⊎ ¬ IsMember L E F i
  member_or_not i = ⊎_elim
      (λ (m, h). inl (of_source h))
      (λ a. ⊎_elim (λ (m, h). inl (of_target h)) (λ b. inr (λ x. ⊎_elim a b (member_maps.0 x))) (lattice_decided L i F))
      (lattice_decided L i E)

  -- ---- the list of the members, made in steps
  pub members_none : AreMembersBelow L E F 0 []
  members_none = record {
    rising = λ i j d h k. absurd (omega arith);
    exactly = λ i. (λ (k, h, e). absurd (omega arith), λ (h, m). absurd (omega arith));
  }

  module _ {n : ℕ} {is : List ℕ} (H : AreMembersBelow L E F n is) where
    pub members_push : IsMember L E F n → AreMembersBelow L E F (n + 1) (is ++ n ∷ [])
    members_push m = record {
      rising = all_pairs_push (λ a b. a < b) is n H.rising
          (λ k d h. let a = ((H.exactly (get_or is k d)).0 (Contains-get_or is k d h)).0 in a);
      exactly = λ i. (
        λ c. ⊎_elim
            (λ c. let (h, x) = (H.exactly i).0 c in (omega arith, x))
            (λ (e : n ≡ i). (omega arith, subst (IsMember L E F) e m))
            (Contains-push_cases is n i c),
        λ (h, x). ⊎_elim
            (λ (e : i ≡ n). subst (Contains (is ++ n ∷ [])) (sym e) (Contains-push is n))
            (λ e. Contains-append_left is (n ∷ []) i ((H.exactly i).1 (omega arith, x)))
            (cases_eq i n),
      );
    }

    pub members_skip : ¬ IsMember L E F n → AreMembersBelow L E F (n + 1) is
    members_skip none = record {
      rising = H.rising;
      exactly = λ i. (
        λ c. let (h, x) = (H.exactly i).0 c in (omega arith, x),
        λ (h, x). (H.exactly i).1 (⊎_elim (λ (e : i ≡ n). absurd (none (subst (IsMember L E F) e x))) (λ e. omega arith) (cases_eq i n), x),
      );
    }

  -- at last it has all members
  pub all_members : IsCompatible L → {is : List ℕ} → AreMembersBelow L E F (length L.rows) is
      → (i : ℕ) → Contains is i ↔ IsMember L E F i
  all_members C {is} H i = (λ c. ((H.exactly i).0 c).1, λ m. (H.exactly i).1 (below m, m))
    where
      below : IsMember L E F i → i < length L.rows
      below (of_source h) = (C.compatible.within h).0
      below (of_target h) = (C.compatible.within h).0

  -- and their degrees are those of the list
  pub degrees_of_members : IsCompatible L → {is : List ℕ} → AreMembersBelow L E F (length L.rows) is
      → {holds : ℕ → Type 0}
      → ((d : ℕ) → holds d ↔ Contains (map (λ i. degree_of (field_at L.rows i)) is) d)
      → AreDegrees L E F holds
  degrees_of_members C {is} H {holds} h = record { exactly = λ d. (λ x. to d ((h d).0 x), λ (i, m, e). (h d).1 (from d i ((all_members C H i).1 m) e)) }
    where
      to : (d : ℕ) → Contains (map (λ i. degree_of (field_at L.rows i)) is) d
          → (i : ℕ) × IsMember L E F i × (degree_of (field_at L.rows i) ≡ d)
      to d (k, b, e) =
          let c : k < length is = omega (arith, length-map is (λ i. degree_of (field_at L.rows i))) in (
            get_or is k 0,
            (all_members C H (get_or is k 0)).0 (Contains-get_or is k 0 c),
            sym (get_or-map (λ i. degree_of (field_at L.rows i)) is k 0 d c) ∙ e,
          )

      from : (d i : ℕ) → Contains is i → degree_of (field_at L.rows i) ≡ d
          → Contains (map (λ i. degree_of (field_at L.rows i)) is) d
      from d i (k, b, e) f = (
        k,
        omega (arith, length-map is (λ i. degree_of (field_at L.rows i))),
        get_or-map (λ i. degree_of (field_at L.rows i)) is k i d b ∙ ap (λ j. degree_of (field_at L.rows j)) e ∙ f,
      )

  -- ---- the closure
  module _ {holds : ℕ → Type 0} (H : AreDegrees L E F holds) where
    to_closure : {d : ℕ} → InClosure holds d → IsClosureDegree L E F d
    to_closure (of_member {d} h) = let (i, m, e) = (H.exactly d).0 h in
        subst (IsClosureDegree L E F) e (Model.IsClosureDegree.of_member m)
    to_closure (of_gcd p q g) = Model.IsClosureDegree.of_gcd (to_closure p) (to_closure q) g

    from_closure : {d : ℕ} → IsClosureDegree L E F d → InClosure holds d
    from_closure (Model.IsClosureDegree.of_member {i} m) = of_member ((H.exactly (degree_of (field_at L.rows i))).1 (i, m, refl))
    from_closure (Model.IsClosureDegree.of_gcd p q g) = of_gcd (from_closure p) (from_closure q) g

    -- **the closure of the degrees that hold is that of the members' degrees**
    pub closure_is : (d : ℕ) → InClosure holds d ↔ IsClosureDegree L E F d
    closure_is d = (to_closure, from_closure)

    -- what is in the closure and doesn't hold is missing
    pub missing_is : (d : ℕ) → (InClosure holds d × ¬ holds d) ↔ IsMissing L E F d
    missing_is d = (
      λ (c, none). record { in_closure = to_closure c; no_member = λ {i} m e. none ((H.exactly d).1 (i, m, e)) },
      λ m. (from_closure m.in_closure, λ h. let (i, x, e) = (H.exactly d).0 h in m.no_member x e),
    )

    -- **the rising list of these degrees is that of the missing ones**
    pub are_missing : {ds : List ℕ} → AllPairs (λ a b. a < b) ds
        → ((d : ℕ) → Contains ds d ↔ (InClosure holds d × ¬ holds d)) → AreMissing L E F ds
    are_missing rising exactly = record {
      rising = rising;
      exactly = λ d. (λ c. (missing_is d).0 ((exactly d).0 c), λ m. (exactly d).1 ((missing_is d).1 m));
    }
