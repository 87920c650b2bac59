-- The fields that an insertion adds have the missing degrees, and each missing degree is that of
-- one.
use Rattle.std.proofs.Common.{◌≡◌, ℕ, ◌+◌, ◌-◌, ◌<◌, ◌≤◌, length, get_or, sym, ap, ◌∙◌, subst, arith}
use Rattle.std.specs.List.{Contains}
use Rattle.std.proofs.lemmas.Grind.{get_or_default_zero}
use Rattle.std.proofs.lemmas.List.Elements.{Contains-get_or}
use Rattle.alg_lattices.specs.Embeddings.{Embeddings}
use Rattle.alg_lattices.specs.Filling.{Insertion, IsInsertion, IsMissing}

-- an added field, with its number
pub record Added {Field Map : Type 0} (o : Embeddings Field Map) (W : Insertion Field Map) (d : ℕ)
    : Type 0 where
  pub number : ℕ
  pub new : W.old.count ≤ number
  pub below : number < W.count
  pub degree : o.degree (W.row number) ≡ d

module _ {Field Map : Type 0} {o : Embeddings Field Map} {W : Insertion Field Map}
    (I : IsInsertion o W) where
  -- the number of fields does not fall
  pub count_grows : W.old.count ≤ W.count
  count_grows = let e : W.count ≡ W.old.count + length I.degrees = I.count in omega arith

  -- each added field has a missing degree
  pub added_missing : (i : ℕ) → W.old.count ≤ i → i < W.count
      → IsMissing o W.old W.source W.target (o.degree (W.row i))
  added_missing i a b = subst (IsMissing o W.old W.source W.target) (sym degree) ((I.missing.exactly d).0 (Contains-get_or I.degrees place 0 below))
    where
      place : ℕ
      place = i - W.old.count

      d : ℕ
      d = get_or I.degrees place 0

      below : place < length I.degrees
      below = let e : W.count ≡ W.old.count + length I.degrees = I.count in omega arith

      degree : o.degree (W.row i) ≡ d
      degree = let e : i ≡ W.old.count + place = omega arith in ap (λ x. o.degree (W.row x)) e ∙ I.added place below

  -- each missing degree is that of an added field
  pub added_each : {d : ℕ} → IsMissing o W.old W.source W.target d → Added o W d
  added_each {d} m = of_place ((I.missing.exactly d).1 m)
    where
      of_place : Contains I.degrees d → Added o W d
      of_place (k, h, e) = record {
        number = W.old.count + k;
        new = omega arith;
        below = let f : W.count ≡ W.old.count + length I.degrees = I.count in omega arith;
        degree = I.added k h ∙ sym (get_or_default_zero I.degrees k d h) ∙ e;
      }
