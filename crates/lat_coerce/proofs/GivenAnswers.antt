-- What the calls tell of images and minimal polynomials.
use Rattle.std.proofs.Common.{◌≡◌, ℕ, List, sym, ap, ◌∙◌, subst}
use Rattle.alg_model.specs.Maps.{Field, field_values, generator, apply}
use Rattle.alg_model.specs.Roots.{IsMinimal, IsMinimalOver}
use Rattle.alg_model.specs.Lattices.{Lattice, field_at, Stored}
use Rattle.ff_poly.specs.Polynomial.{Polynomial}
use Rattle.ff_embed.specs.SmallEmbeddings.{FieldMap}
use Rattle.lat_core.specs.declared.tagged.Tagged.{Tagged}
use Rattle.lat_core.specs.declared.questions.Question.TheVariants.{MinPoly}
use Rattle.lat_core.specs.declared.questions.Answer.TheVariants.{Image, Poly, RelPoly}
use Rattle.lat_core.specs.SharedRows.{IsBetween}
use Rattle.lat_core.specs.Answers.{AnswersMap, HasMinimalOver, Answers}
use Rattle.lat_core.specs.Answers.AnswersMap.{image}
use Rattle.lat_core.specs.Answers.HasMinimalOver.{minimal}
use Rattle.lat_core.specs.Answers.Answers.{minimal_polynomial}

-- what an embedding gives for its source's generator is what the map gives
pub image_given : (L : Lattice) (i j : ℕ) (e : FieldMap) (v : List ℕ)
    → Stored L i j e.images × IsBetween L.rows i j e
    → v ≡ apply e.target e.images (generator e.source) → AnswersMap L i j (Image v)
image_given L i j e v (s, between) h = subst (λ w. AnswersMap L i j (Image w))
    (sym (h ∙ ap (λ K. apply K e.images (generator e.source)) between.target
    ∙ ap (λ K. apply (field_at L.rows j) e.images (generator K)) between.source))
    (image s)

-- a minimal polynomial over the source of an embedding
pub over_given : (L : Lattice) (t : Tagged) (over : ℕ) (e : FieldMap) (g : List (List ℕ))
    → Stored L over t.field e.images × IsBetween L.rows over t.field e
    → IsMinimalOver e.source e.target e.images t.value g → HasMinimalOver L t over (RelPoly g)
over_given L t over e g (s, between) h = minimal s
    (subst (λ K. IsMinimalOver K (field_at L.rows t.field) e.images t.value g) between.source
    (subst (λ K. IsMinimalOver e.source K e.images t.value g) between.target h))

-- a minimal polynomial over the prime field
pub prime_given : (L : Lattice) (t : Tagged) (K : Field) (f : Polynomial)
    → K ≡ field_at L.rows t.field → f.prime ≡ K.characteristic
    → IsMinimal K t.value f.coefficients → Answers L (MinPoly t) (Poly f)
prime_given L t K f e p h = subst
    (λ n. Answers L (MinPoly t) (Poly (record { prime = n; coefficients = f.coefficients })))
    (sym (p ∙ ap (λ F. F.characteristic) e))
    (minimal_polynomial (subst (λ F. IsMinimal F t.value f.coefficients) e h))
