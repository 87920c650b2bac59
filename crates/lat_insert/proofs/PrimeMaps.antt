-- The map of a prime field.
use Rattle.std.proofs.Common.{◌≡◌, ℕ, ◌+◌, ◌*◌, ◌%◌, List, [], ◌∷◌, sym, ap, ◌∙◌, subst, refl}
use Rattle.std.proofs.Math.Nat.{zero-mod, mul-zero}
use Rattle.alg_model.specs.Values.{degree}
use Rattle.alg_model.specs.Maps.{Field, IsFiniteField, field_values, generator, constants, apply, IsEmbedding}
use Rattle.alg_model.specs.Roots.{IsRoot}
use Rattle.alg_model.specs.Declaring.{prime_map}
use Rattle.alg_galois.proofs.EmbeddingRoots.{embedding_of_prime_field, generator_image_root, zero_kept}
use Rattle.alg_galois.proofs.Fields.{field_of}

reduced_zero : (p t : ℕ) → (0 + (0 + (t * 0) % p) % p) % p ≡ 0
reduced_zero p t = simp (mul-zero, zero-mod) refl

-- the generator of a prime field is zero
generator_zero : (P : Field) → P.polynomial ≡ 0 ∷ 1 ∷ [] → generator P ≡ (field_values P).ops.zero
generator_zero P e =
    let Zero : List ℕ → Type 0 = λ f. generator (field_of P.characteristic f) ≡ (field_values (field_of P.characteristic f)).ops.zero in
    subst Zero (sym e) (ap (λ a. a ∷ []) (reduced_zero P.characteristic _))

-- **zero is a root of the polynomial of a prime field**
pub zero_root : (P K : Field) → IsFiniteField P → IsFiniteField K → P.polynomial ≡ 0 ∷ 1 ∷ []
    → P.characteristic ≡ K.characteristic
    → IsRoot K (constants K P.polynomial) (field_values K).ops.zero
zero_root P K V W e c =
    let one : IsEmbedding P K (prime_map K) = embedding_of_prime_field P K V W c (ap degree e) in
    subst (IsRoot K (constants K P.polynomial))
    (ap (apply K (prime_map K)) (generator_zero P e) ∙ zero_kept P K V W (prime_map K) one)
    (generator_image_root P K V W (prime_map K) one)
