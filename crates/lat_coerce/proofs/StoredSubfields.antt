-- The stored subfields of a field, found by going through the fields one by one.
use Rattle.std.proofs.Common.{◌≡◌, ◌⊎◌, ℕ, ◌+◌, ◌<◌, ◌≤◌, List, [], ◌∷◌, ◌++◌, length, sym, ⊎_elim, subst, arith, length-append}
use Rattle.std.specs.Prelude.{◌↔◌, Contains}
use Rattle.std.proofs.lemmas.List.Elements.{Contains-append_left, Contains-push, Contains-push_cases, Contains-get_or}
use Rattle.std.proofs.lemmas.List.Quantifiers.{all_pairs_push}
use Rattle.alg_model.specs.Lattices.{Lattice, IsCompatible}
use Rattle.alg_lattices.proofs.RisingLists.{Listed, listed}
use Rattle.lat_core.specs.Answers.{IsStoredPair, IsSubfields}
use Rattle.lat_coerce.specs.PrivateSearches.{AreSubfieldsBelow}
use Rattle.lat_coerce.proofs.StoredPairs.{last_or_below, stored_or_not, source_within}

module _ {L : Lattice} {k n m : ℕ} (next : m ≡ n + 1) {numbers : List ℕ}
    (A : AreSubfieldsBelow L k n numbers) where
  -- a field that is none changes nothing
  pub subfields_skip : ¬ IsStoredPair L n k → AreSubfieldsBelow L k m numbers
  subfields_skip absent = record {
    count = let l = A.count in omega arith;
    rising = A.rising;
    exactly = λ i. (
      λ c. let (l, s) = (A.exactly i).0 c in (omega arith, s),
      λ (l, s). ⊎_elim
          (λ e. absurd (absent (subst (λ z. IsStoredPair L z k) (sym e) s)))
          (λ h. (A.exactly i).1 (h, s))
          (last_or_below next l),
    );
  }

  -- a stored subfield is added
  pub subfields_push : IsStoredPair L n k → AreSubfieldsBelow L k m (numbers ++ n ∷ [])
  subfields_push t = record {
    count = let l = A.count in omega (arith, length-append numbers (n ∷ []));
    rising = all_pairs_push (λ a b. a < b) numbers n A.rising
        (λ i d h. ((A.exactly _).0 (Contains-get_or numbers i d h)).0);
    exactly = λ i. (
      λ c. ⊎_elim
          (λ h. let (l, s) = (A.exactly i).0 h in (omega arith, s))
          (λ e. (omega arith, subst (λ z. IsStoredPair L z k) e t))
          (Contains-push_cases numbers n i c),
      λ (l, s). ⊎_elim
          (λ e. subst (λ z. Contains (numbers ++ n ∷ []) z) e (Contains-push numbers n))
          (λ h. Contains-append_left numbers (n ∷ []) i ((A.exactly i).1 (h, s)))
          (last_or_below next l),
    );
  }

-- **all of them are the stored subfields**
pub subfields_all : {L : Lattice} → IsCompatible L → {k : ℕ} {numbers : List ℕ}
    → AreSubfieldsBelow L k (length L.rows) numbers → IsSubfields L k numbers
subfields_all C A = record {
  rising = A.rising;
  exactly = λ i. (
    λ c. ((A.exactly i).0 c).1,
    λ s. (A.exactly i).1 (source_within C s, s),
  );
}

-- **there is a list of them**
pub subfields_exist : {L : Lattice} → IsCompatible L → (k : ℕ)
    → (numbers : List ℕ) × IsSubfields L k numbers
subfields_exist {L} C k =
    let l : Listed (λ i. IsStoredPair L i k) (length L.rows) = listed (λ i. IsStoredPair L i k) (λ i. stored_or_not L i k) (length L.rows) in
    (l.list, record { rising = l.rising; exactly = λ i. (λ c. l.holds c, λ s. l.all (source_within C s) s) })
