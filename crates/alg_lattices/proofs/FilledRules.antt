-- The rules of a compatible lattice, after an insertion.
use Rattle.std.proofs.Common.{◌≡◌, ℕ, ◌<◌, sym, ap, ◌∙◌, subst, ⊎_elim}
use Rattle.std.proofs.lemmas.Bool.{cases_lt}
use Rattle.std.proofs.lemmas.Nat.Gcd.{dvd_refl, dvd_antisymm}
use Rattle.std.proofs.Math.Nat.{one-dvd}
use Prim.Native.Nat.{◌∣◌}
use Rattle.alg_lattices.specs.Embeddings.{Embeddings}
use Rattle.alg_lattices.specs.Lattices.{HasInverse}
use Rattle.alg_lattices.specs.Filling.{filled, IsSubfield, Insertion, IsStoredAfter}
use Rattle.alg_lattices.specs.Filling.IsMapInto.{stored, made}
use Rattle.alg_lattices.specs.Filling.IsStoredAfter.{before, forced, beyond}
use Rattle.alg_lattices.proofs.ForcedMaps.{Setting, base}
use Rattle.alg_lattices.proofs.ForcedMaps
use Rattle.alg_lattices.proofs.StoredMaps.{IsBeyond}
use Rattle.alg_lattices.proofs.StoredMaps
use Rattle.alg_lattices.proofs.Closure

module _ {Field Map : Type 0} {o : Embeddings Field Map} {primes : ℕ} {W : Insertion Field Map}
    (S : Setting o primes W) where
  open S use {law, compatible as C, insertion as I}

  degree : ℕ → ℕ
  degree i = o.degree (W.row i)

  -- each identity is stored
  pub identity_after : (i : ℕ) → i < W.count → IsStoredAfter o W i i (o.identity (W.row i))
  identity_after i w = ⊎_elim
      (λ h. before (C.identity i h))
      (λ h. let (m, k) = I.made i h w in forced (ForcedMaps.forced_identity S (made k)))
      (cases_lt i W.old.count)

  -- only prime fields have degree one
  pub only_degree_one_after : (i : ℕ) → i < W.count → o.degree (W.row i) ≡ 1 → i < primes
  only_degree_one_after i w e = ⊎_elim
      (λ h. C.only_degree_one i h e)
      (λ h. absurd (Closure.added_degree S i h w e))
      (cases_lt i W.old.count)

  -- each field has a prime subfield
  pub prime_subfield_after : (j : ℕ) → j < W.count
      → (q : ℕ) × (m : Map) × (q < primes) × IsStoredAfter o W q j m
  prime_subfield_after j w = ⊎_elim
      (λ h. let (q, m, p, k) = C.prime_subfield j h in (q, m, p, before k))
      (λ h.
      let (q, a, p, k) = C.prime_subfield W.target I.target in
      let (b, n) = I.made j h w in
      let (m, f) = ForcedMaps.forced_exists S (stored k) (made n) (subst (λ d. d ∣ o.degree (W.row j)) (sym (C.degree_one q p)) (one-dvd (o.degree (W.row j)))) in
      (q, m, p, forced f))
      (cases_lt j W.old.count)

  -- what follows one another is stored as one
  pub transitive_after : {a b c : ℕ} {m n : Map} → IsStoredAfter o W a b m → IsStoredAfter o W b c n
      → IsStoredAfter o W a c (o.comp (W.row c) m n)
  transitive_after {a} {b} {c} {m} {n} h k = ⊎_elim into (λ z. ⊎_elim (out z) old (StoredMaps.source_subfield_or_not S k)) (StoredMaps.target_subfield_or_not S k)
    where
      into : IsSubfield o W c → IsStoredAfter o W a c (o.comp (W.row c) m n)
      into z = forced (ForcedMaps.forced_comp S (StoredMaps.among S (StoredMaps.source_subfield S z k) h) (StoredMaps.among S z k))

      out : ¬ IsSubfield o W c → IsSubfield o W b → IsStoredAfter o W a c (o.comp (W.row c) m n)
      out z y =
          let f = StoredMaps.among S y h in
          let g = StoredMaps.leaving S y z k in
          subst (λ x. IsStoredAfter o W a c x)
          (law.assoc f.embedding g.first_forced.embedding (C.embedding g.second_before) ∙ ap (λ x. o.comp (W.row c) m x) g.composed)
          (beyond (ForcedMaps.forced_comp S f g.first_forced) g.second_before)

      from : ¬ IsSubfield o W b → W.old.Has b c n → IsSubfield o W a
          → IsStoredAfter o W a c (o.comp (W.row c) m n)
      from y l x =
          let f = StoredMaps.leaving S x y h in
          subst (λ x. IsStoredAfter o W a c x)
          (sym (law.assoc f.first_forced.embedding (C.embedding f.second_before) (C.embedding l)) ∙ ap (λ x. o.comp (W.row c) x n) f.composed)
          (beyond f.first_forced (C.transitive f.second_before l))

      old : ¬ IsSubfield o W b → IsStoredAfter o W a c (o.comp (W.row c) m n)
      old y =
          let l = StoredMaps.outside S y k in
          ⊎_elim (from y l) (λ x. before (C.transitive (StoredMaps.outside S x h) l)) (StoredMaps.source_subfield_or_not S h)

  -- an isomorphism has a stored inverse
  pub inverse_after : {i k : ℕ} {m : Map} → IsStoredAfter o W i k m
      → o.degree (W.row i) ≡ o.degree (W.row k)
      → HasInverse o (filled o W) i k m
  inverse_after {i} {k} {m} h e = ⊎_elim into (λ z. ⊎_elim (λ x. absurd (never z (StoredMaps.leaving S x z h))) old (StoredMaps.source_subfield_or_not S h)) (StoredMaps.target_subfield_or_not S h)
    where
      into : IsSubfield o W k → HasInverse o (filled o W) i k m
      into z =
          let f = StoredMaps.among S z h in
          let (n, g) = ForcedMaps.forced_exists S f.second_into f.first_into (subst (λ d. d ∣ o.degree (W.row i)) e (dvd_refl (o.degree (W.row i)))) in (
            n,
            forced g,
            ForcedMaps.forced_one S (ForcedMaps.forced_comp S f g) (ForcedMaps.forced_identity S f.first_into),
            ForcedMaps.forced_one S (ForcedMaps.forced_comp S g f) (ForcedMaps.forced_identity S f.second_into),
          )

      old : ¬ IsSubfield o W i → HasInverse o (filled o W) i k m
      old x = let (n, g, a, b) = C.inverse (StoredMaps.outside S x h) e in (n, before g, a, b)

      -- a field with a map into the target has no isomorphism out of such fields
      never : ¬ IsSubfield o W k → IsBeyond o W i k m → ⊥
      never z f =
          let down : o.degree (W.row i) ∣ o.degree (W.row f.between) = law.degree_divides f.first_forced.embedding in
          let up : o.degree (W.row f.between) ∣ o.degree (W.row k) = law.degree_divides (C.embedding f.second_before) in
          let same : o.degree (W.row f.between) ≡ o.degree (W.row k) =
          dvd_antisymm up (subst (λ d. d ∣ o.degree (W.row f.between)) e down) in
          let (n, g, a, b) = C.inverse f.second_before same in
          z (StoredMaps.source_subfield S (f.first_forced.second, f.first_forced.second_into) (before g))
