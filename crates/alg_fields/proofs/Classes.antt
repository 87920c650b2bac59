-- The polynomial that a list of valid coefficients stands for, and the remainder of a polynomial by a monic one.
use Rattle.std.proofs.Common.{◌≡◌, ℕ, ◌<◌, List, map, length, replicate, All, ap, ap₂, sym, ◌∙◌, subst, arith}
use Rattle.std.proofs.lemmas.List.{length-map, ext_get_or}
use Rattle.std.proofs.lemmas.List.Elements.{All-replicate}
use Rattle.alg_model.specs.Coefficients.{Carrier}
use Rattle.alg_model.specs.Polynomials.{sum, product, trim, poly_sum, poly_product, poly_negative, leading}
use Rattle.alg_model.specs.Factors.{IsMonic}
use Rattle.alg_model.specs.Values.{padded, remainder}
use Rattle.alg_model.specs.Fields.{IsRing}
use Rattle.alg_rings.specs.Laws.{IsPropositional}
use Rattle.alg_rings.proofs.Trims
use Rattle.alg_rings.proofs.PolynomialLaws
use Rattle.alg_rings.proofs.Homomorphisms.{sum-map, product-map, trim-map, negatives-map, poly_sum-map, poly_product-map, leading-map}
use Rattle.alg_rings.proofs.Elements.{Element, underlying, underlying_injective, on_valid, on_valid₂, underlying_valid, underlying_lists_injective, on_elements}
use Rattle.alg_rings.proofs.CarrierPolynomials.{trim_polynomial}
use Rattle.alg_rings.proofs.Divisors.{Polynomial, same_polynomial, on_polynomials}
use Rattle.alg_rings.proofs.Modulo.{Same}
use Rattle.alg_fields.proofs.ListRemainders.{quotient_by, zeros_at, remainder_identity, trim_padded}
use Rattle.alg_fields.proofs.ValueMaps.{remainder-map, quotient_by-map, padded-map, zeros-map}

module _ {A : Type 0} {c : Carrier A} (P : IsPropositional c) (R : IsRing c) where
  open on_elements P R use {ops as E, laws as L, value as H}
  open on_polynomials P R use {ops as Q}

  abbrev pub class_of : (x : List A) → All c.Valid x → Polynomial c
  class_of x v = (trim c.ops x, trim_polynomial P R x v)

  pub class_of_polynomial : (f : Polynomial c) → class_of f.0 f.1.0 ≡ f
  class_of_polynomial f = same_polynomial P R (class_of f.0 f.1.0) f f.1.1

  pub class_of_sum : (x y : List A) (vx : All c.Valid x) (vy : All c.Valid y) (v : All c.Valid (sum c.ops x y))
      → class_of (sum c.ops x y) v ≡ Q.add (class_of x vx) (class_of y vy)
  class_of_sum x y vx vy v = same_polynomial P R (class_of (sum c.ops x y) v) (Q.add (class_of x vx) (class_of y vy))
      (on_valid₂ c (λ x y. trim c.ops (sum c.ops x y) ≡ poly_sum c.ops (trim c.ops x) (trim c.ops y)) at x y vx vy)
    where
      at : (X Y : List (Element c)) → trim c.ops (sum c.ops (map (underlying c) X) (map (underlying c) Y))
          ≡ poly_sum c.ops (trim c.ops (map (underlying c) X)) (trim c.ops (map (underlying c) Y))
      at X Y =
          ap (trim c.ops) (sym (sum-map H X Y)) ∙ sym (trim-map H (sum E X Y))
          ∙ ap (map (underlying c)) (sym (Trims.trim_sum_first L X Y) ∙ sym (Trims.trim_sum_second L (trim E X) Y))
          ∙ poly_sum-map H (trim E X) (trim E Y) ∙ ap₂ (poly_sum c.ops) (trim-map H X) (trim-map H Y)

  pub class_of_product : (x y : List A) (vx : All c.Valid x) (vy : All c.Valid y) (v : All c.Valid (product c.ops x y))
      → class_of (product c.ops x y) v ≡ Q.mul (class_of x vx) (class_of y vy)
  class_of_product x y vx vy v = same_polynomial P R (class_of (product c.ops x y) v) (Q.mul (class_of x vx) (class_of y vy))
      (on_valid₂ c (λ x y. trim c.ops (product c.ops x y) ≡ poly_product c.ops (trim c.ops x) (trim c.ops y)) at x y vx vy)
    where
      at : (X Y : List (Element c)) → trim c.ops (product c.ops (map (underlying c) X) (map (underlying c) Y))
          ≡ poly_product c.ops (trim c.ops (map (underlying c) X)) (trim c.ops (map (underlying c) Y))
      at X Y =
          ap (trim c.ops) (sym (product-map H X Y)) ∙ sym (trim-map H (product E X Y))
          ∙ ap (map (underlying c)) (sym (Trims.trim_product_first L X Y) ∙ sym (Trims.trim_product_second L (trim E X) Y))
          ∙ poly_product-map H (trim E X) (trim E Y) ∙ ap₂ (poly_product c.ops) (trim-map H X) (trim-map H Y)

  pub class_of_negative : (x : List A) (vx : All c.Valid x) (v : All c.Valid (poly_negative c.ops x))
      → class_of (poly_negative c.ops x) v ≡ Q.neg (class_of x vx)
  class_of_negative x vx v = same_polynomial P R (class_of (poly_negative c.ops x) v) (Q.neg (class_of x vx))
      (on_valid c (λ x. trim c.ops (poly_negative c.ops x) ≡ poly_negative c.ops (trim c.ops x)) at x vx)
    where
      at : (X : List (Element c)) → trim c.ops (poly_negative c.ops (map (underlying c) X)) ≡ poly_negative c.ops (trim c.ops (map (underlying c) X))
      at X =
          ap (trim c.ops) (sym (negatives-map H X)) ∙ sym (trim-map H (poly_negative E X))
          ∙ ap (map (underlying c)) (PolynomialLaws.trim_negative L X) ∙ negatives-map H (trim E X) ∙ ap (poly_negative c.ops) (trim-map H X)

  zeros_valid : (n : ℕ) → All c.Valid (replicate n c.ops.zero)
  zeros_valid n = All-replicate c.Valid n c.ops.zero R.zero_valid

  pub class_of_zeros : (n : ℕ) (v : All c.Valid (replicate n c.ops.zero)) → class_of (replicate n c.ops.zero) v ≡ Q.zero
  class_of_zeros n v = same_polynomial P R (class_of (replicate n c.ops.zero) v) Q.zero
      (ap (trim c.ops) (sym (zeros-map H n)) ∙ sym (trim-map H (replicate n E.zero)) ∙ ap (map (underlying c)) (Trims.trim_zeros E L.zero_test (replicate n E.zero) (zeros_at E.zero n)))

  pub class_of_padded : (n : ℕ) (x : List A) (vx : All c.Valid x) (v : All c.Valid (padded c.ops n x))
      → class_of (padded c.ops n x) v ≡ class_of x vx
  class_of_padded n x vx v = same_polynomial P R (class_of (padded c.ops n x) v) (class_of x vx)
      (on_valid c (λ x. trim c.ops (padded c.ops n x) ≡ trim c.ops x)
      (λ X. ap (trim c.ops) (sym (padded-map H n X)) ∙ sym (trim-map H (padded E n X)) ∙ ap (map (underlying c)) (trim_padded L n X) ∙ trim-map H X)
      x vx)

  -- lists of one length that stand for the same polynomial are equal
  pub same_from_class : (x y : List A) (vx : All c.Valid x) (vy : All c.Valid y) → length x ≡ length y → class_of x vx ≡ class_of y vy → x ≡ y
  same_from_class x y vx vy e h = on_valid₂ c (λ x y. length x ≡ length y → trim c.ops x ≡ trim c.ops y → x ≡ y) at x y vx vy e (ap (λ g. g.0) h)
    where
      at : (X Y : List (Element c)) → length (map (underlying c) X) ≡ length (map (underlying c) Y) → trim c.ops (map (underlying c) X) ≡ trim c.ops (map (underlying c) Y)
          → map (underlying c) X ≡ map (underlying c) Y
      at X Y e t = ap (map (underlying c)) (ext_get_or E.zero X Y (omega (arith, length-map X (underlying c), length-map Y (underlying c), e))
          (λ k l. Trims.places_of_trim E L.zero_test X Y (underlying_lists_injective P (trim E X) (trim E Y) (trim-map H X ∙ t ∙ sym (trim-map H Y))) k))

  pub remainder_valid : (f g : List A) → All c.Valid f → All c.Valid g → All c.Valid (remainder c.ops f g)
  remainder_valid f g = on_valid₂ c (λ f g. All c.Valid (remainder c.ops f g)) (λ F G. subst (All c.Valid) (remainder-map H F G) (underlying_valid c (remainder E F G))) f g

  quotient_valid : (f g : List A) → All c.Valid f → All c.Valid g → All c.Valid (quotient_by c.ops f g)
  quotient_valid f g = on_valid₂ c (λ f g. All c.Valid (quotient_by c.ops f g)) (λ F G. subst (All c.Valid) (quotient_by-map H F G) (underlying_valid c (quotient_by E F G))) f g

  module _ (f : Polynomial c) (not_constant : 1 < length f.0) (monic : IsMonic c f.0) where
    -- **g and its remainder are the same modulo f**
    pub remainder_same : (g : List A) (vg : All c.Valid g) (v : All c.Valid (remainder c.ops f.0 g)) → Same Q f (class_of g vg) (class_of (remainder c.ops f.0 g) v)
    remainder_same g vg v = record {
      quotient = class_of (quotient_by c.ops f.0 g) (quotient_valid f.0 g f.1.0 vg);
      identity = same_polynomial P R (class_of g vg)
          (Q.add (Q.mul (class_of (quotient_by c.ops f.0 g) (quotient_valid f.0 g f.1.0 vg)) f) (class_of (remainder c.ops f.0 g) v))
          (on_valid₂ c (λ f g. 1 < length f → IsMonic c f
          → trim c.ops g ≡ poly_sum c.ops (poly_product c.ops (trim c.ops (quotient_by c.ops f g)) f) (trim c.ops (remainder c.ops f g))) at f.0 g f.1.0 vg not_constant monic);
    }
      where
        same : (F G : List (Element c)) → 1 < length F → leading E F ≡ E.one
            → trim E G ≡ poly_sum E (poly_product E (trim E (quotient_by E F G)) F) (trim E (remainder E F G))
        same F G l m =
            sym (remainder_identity L F l m G)
            ∙ Trims.trim_sum_same L (product E (quotient_by E F G) F) (poly_product E (trim E (quotient_by E F G)) F) (remainder E F G) (trim E (remainder E F G))
            (sym (Trims.trim_trim E L.zero_test (product E (trim E (quotient_by E F G)) F) ∙ Trims.trim_product_first L (quotient_by E F G) F))
            (sym (Trims.trim_trim E L.zero_test (remainder E F G)))

        at : (F G : List (Element c)) → 1 < length (map (underlying c) F) → IsMonic c (map (underlying c) F)
            → trim c.ops (map (underlying c) G) ≡ poly_sum c.ops (poly_product c.ops (trim c.ops (quotient_by c.ops (map (underlying c) F) (map (underlying c) G))) (map (underlying c) F))
            (trim c.ops (remainder c.ops (map (underlying c) F) (map (underlying c) G)))
        at F G l m =
            sym (trim-map H G)
            ∙ ap (map (underlying c)) (same F G (omega (arith, length-map F (underlying c))) (underlying_injective P (leading E F) E.one (leading-map H F ∙ m)))
            ∙ poly_sum-map H (poly_product E (trim E (quotient_by E F G)) F) (trim E (remainder E F G))
            ∙ ap₂ (poly_sum c.ops)
            (poly_product-map H (trim E (quotient_by E F G)) F
            ∙ ap (λ q. poly_product c.ops q (map (underlying c) F)) (trim-map H (quotient_by E F G) ∙ ap (trim c.ops) (quotient_by-map H F G)))
            (trim-map H (remainder E F G) ∙ ap (trim c.ops) (remainder-map H F G))
