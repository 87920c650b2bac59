-- Maps that keep the operations keep the remainder by a polynomial.
use Rattle.std.proofs.Common.{◌≡◌, ℕ, zero, suc, ◌-◌, List, [], ◌∷◌, ◌++◌, map, length, take, replicate, slice_index_or, refl, ap, ap₂, sym, ◌∙◌}
use Rattle.std.proofs.lemmas.List.{map-append, take-map, length-map}
use Rattle.alg_model.specs.Coefficients.{Ops}
use Rattle.alg_model.specs.Polynomials.{sum, scale}
use Rattle.alg_model.specs.Values.{degree, padded, times_x, remainder}
use Rattle.alg_rings.proofs.Homomorphisms.{Homomorphism, sum-map, scale-map, place-map}
use Rattle.alg_fields.proofs.ListRemainders.{quotient_by}

map-replicate : {A B : Type 0} (h : A → B) (n : ℕ) (x : A) → map h (replicate n x) ≡ replicate n (h x)
map-replicate h zero x = refl
map-replicate h (suc n) x = ap (λ w. h x ∷ w) (map-replicate h n x)

module _ {A B : Type 0} {o : Ops A} {o' : Ops B} {h : A → B} (H : Homomorphism o o' h) where
  pub degree-map : (f : List A) → degree (map h f) ≡ degree f
  degree-map f = ap (λ n. n - 1) (length-map f h)

  pub padded-map : (n : ℕ) (xs : List A) → map h (padded o n xs) ≡ padded o' n (map h xs)
  padded-map n xs =
      map-append h xs (replicate (n - length xs) o.zero)
      ∙ ap (λ w. map h xs ++ w) (map-replicate h (n - length xs) o.zero ∙ ap (replicate (n - length xs)) H.zero
      ∙ ap (λ m. replicate (n - m) o'.zero) (sym (length-map xs h)))

  pub zeros-map : (n : ℕ) → map h (replicate n o.zero) ≡ replicate n o'.zero
  zeros-map n = map-replicate h n o.zero ∙ ap (replicate n) H.zero

  pub times_x-map : (f r : List A) → map h (times_x o f r) ≡ times_x o' (map h f) (map h r)
  times_x-map f r =
      sym (take-map h (degree f) (sum o (o.zero ∷ r) (scale o (o.neg (slice_index_or r (degree f - 1) o.zero)) f)))
      ∙ ap₂ take (sym (degree-map f))
      (sum-map H (o.zero ∷ r) (scale o (o.neg (slice_index_or r (degree f - 1) o.zero)) f)
      ∙ ap₂ (λ z s. sum o' (z ∷ map h r) s) H.zero
      (scale-map H (o.neg (slice_index_or r (degree f - 1) o.zero)) f
      ∙ ap (λ t. scale o' t (map h f)) (H.neg (slice_index_or r (degree f - 1) o.zero)
      ∙ ap o'.neg (place-map H r (degree f - 1) ∙ ap (λ k. slice_index_or (map h r) (k - 1) o'.zero) (sym (degree-map f))))))

  pub remainder-map : (f g : List A) → map h (remainder o f g) ≡ remainder o' (map h f) (map h g)
  remainder-map f [] = zeros-map (degree f) ∙ ap (λ n. replicate n o'.zero) (sym (degree-map f))
  remainder-map f (c ∷ g) =
      sum-map H (padded o (degree f) (c ∷ [])) (times_x o f (remainder o f g))
      ∙ ap₂ (sum o') (padded-map (degree f) (c ∷ []) ∙ ap (λ n. padded o' n (h c ∷ [])) (sym (degree-map f)))
      (times_x-map f (remainder o f g) ∙ ap (times_x o' (map h f)) (remainder-map f g))

  pub quotient_by-map : (f g : List A) → map h (quotient_by o f g) ≡ quotient_by o' (map h f) (map h g)
  quotient_by-map f [] = refl
  quotient_by-map f (c ∷ g) =
      ap₂ ◌∷◌ (place-map H (remainder o f g) (degree f - 1) ∙ ap₂ (λ r n. slice_index_or r (n - 1) o'.zero) (remainder-map f g) (sym (degree-map f)))
      (quotient_by-map f g)
