-- A lattice with a further field, its identity and the map of its prime field.
use Rattle.std.proofs.Common.{◌≡◌, ⊎_elim, ℕ, ◌+◌, ◌<◌, ◌≤◌, List, [], ◌∷◌, ◌++◌, length, slice_index_or, sym, ap, ◌∙◌, subst, arith, Some, refl, true, false, Bool, ◌↔◌}
use Rattle.std.specs.Prelude.{IsTrue}
use Rattle.std.specs.FinMap.{get, insert}
use Rattle.std.proofs.Common.{Result, Ok, Err}
use Rattle.std.specs.Result.{OnErr}
use Rattle.std.proofs.lemmas.Bool.{cases_lt}
use Rattle.std.proofs.lemmas.List.{get_or_append_left}
use Rattle.std.proofs.lemmas.List.Elements.{All-cons, All-nil}
use Rattle.std.proofs.Math.Seq.{get_or-append_seam}
use Rattle.alg_model.specs.Coefficients.{residues}
use Rattle.std.specs.Ordering.{nat_cmp}
use Rattle.alg_model.specs.Factors.{IsIrreducible, IsLeastFactor}
use Rattle.alg_model.specs.Maps.{Field, identity_map}
use Rattle.alg_model.specs.Lattices.{Lattice, Row, no_row, field_at, IsCompatible}
use Rattle.alg_model.specs.Declaring.{IsDeclared, IsStoredWith, prime_map}
use Rattle.alg_model.specs.Declaring.IsStoredWith.{kept, itself, of_prime}
use Rattle.alg_compatible.proofs.Laws.{declaring_exists_law}
use Rattle.alg_compatible.proofs.Transfer.{primes_within}
use Rattle.ff_poly.specs.Polynomial.{Polynomial}
use Rattle.lat_core.specs.Names.{IsDeclaredName}
use Rattle.lat_core.specs.SharedRows.{IsBetween, with_rows, AreBetween}
use Rattle.lat_core.specs.Step.{IsNamed, IsFreeName, IsWellFormed, declared_row, Declares}
use Rattle.lat_core.specs.declared.requests.Request.TheVariants.{Declare}
use Rattle.lat_core.specs.declared.replies.StepRefusal.TheVariants.{NameTaken, Reducible}
use Rattle.lat_core.specs.declared.replies.Reply.TheVariants.{Declared, Refused}
use Rattle.lat_core.specs.declared.rows.MapRow.{MapRow}
use Rattle.lat_core.proofs.StepExists.{declared_is_row}
use Rattle.lat_core.proofs.StepKeeps.{request_keeps}
use Rattle.lat_insert.specs.Insertions.{StepAdds}
use Rattle.lat_insert.specs.PrivateDeclaring.{identity_row, prime_map_row, AreMapsOf}
use Rattle.lat_insert.proofs.Additions.{Maps, found_put}

module _ {L : Lattice} (C : IsCompatible L) (row : Row) {maps : List MapRow}
    (A : AreMapsOf L (length L.rows) row.field maps) where
  abbrev n : ℕ
  n = length L.rows

  prime_below : A.prime < length L.rows
  prime_below = let b = A.is_prime in let f = primes_within L.edition.primes L.rows C.rows.prime_fields in omega (arith, b, f)

  abbrev two : List MapRow
  two = identity_row n row.field ∷ prime_map_row A.prime (field_at L.rows A.prime) n row.field ∷ []

  abbrev M : Lattice
  M = with_rows L (row ∷ []) two

  abbrev first : Maps
  first = insert L.maps (n, n) (identity_map row.field)

  same : {x y : List (List ℕ)} → Some x ≡ Some y → x ≡ y
  same e = cc

  to_stored : {i j : ℕ} {m : List (List ℕ)} → IsStoredWith L A.prime row i j m
      → get M.maps (i, j) ≡ Some m
  to_stored {i} {j} {m} (kept s) = ⊎_elim
      (λ (e, f). absurd (let d : n ≡ j = ap (λ q. q.1) e in omega (arith, d, (C.compatible.within s).1)))
      (λ (apart, f). ⊎_elim
      (λ (e, g). absurd (let d : n ≡ j = ap (λ q. q.1) e in omega (arith, d, (C.compatible.within s).1)))
      (λ (other, g). f ∙ g ∙ s.found)
      (found_put L.maps (n, n) (i, j) (identity_map row.field)))
      (found_put first (A.prime, n) (i, j) (prime_map row.field))
  to_stored {i} {j} {m} (itself e d g) = ⊎_elim
      (λ (c, f). absurd (let b : A.prime ≡ i = ap (λ q. q.0) c in omega (arith, b, e, prime_below)))
      (λ (apart, f). ⊎_elim
      (λ (c, h). f ∙ h ∙ ap Some (sym g))
      (λ (other, h). absurd (other (λ t. (sym e t, sym d t))))
      (found_put L.maps (n, n) (i, j) (identity_map row.field)))
      (found_put first (A.prime, n) (i, j) (prime_map row.field))
  to_stored {i} {j} {m} (of_prime e d g) = ⊎_elim
      (λ (c, f). f ∙ ap Some (sym g))
      (λ (apart, f). absurd (apart (λ t. (sym e t, sym d t))))
      (found_put first (A.prime, n) (i, j) (prime_map row.field))

  of_stored : {i j : ℕ} {m : List (List ℕ)} → get M.maps (i, j) ≡ Some m
      → IsStoredWith L A.prime row i j m
  of_stored {i} {j} {m} h = ⊎_elim
      (λ (c, f). of_prime (ap (λ q. q.0) (sym c)) (ap (λ q. q.1) (sym c)) (same (sym h ∙ f)))
      (λ (apart, f). ⊎_elim
      (λ (c, g). itself (ap (λ q. q.0) (sym c)) (ap (λ q. q.1) (sym c)) (same (sym h ∙ f ∙ g)))
      (λ (other, g). kept (record { found = sym (f ∙ g) ∙ h }))
      (found_put L.maps (n, n) (i, j) (identity_map row.field)))
      (found_put first (A.prime, n) (i, j) (prime_map row.field))

  two_declared : IsDeclared L row M
  two_declared = record {
    edition = refl;
    rows = refl;
    prime = A.prime;
    is_prime = A.is_prime;
    same_characteristic = A.same_characteristic;
    maps = (λ s. of_stored s.found, λ h. record { found = to_stored h });
  }

  -- **the lattice with the row and these maps is that with the field declared**
  pub is_declared : IsDeclared L row (with_rows L (row ∷ []) maps)
  is_declared = subst (λ ms. IsDeclared L row (with_rows L (row ∷ []) ms)) (sym A.maps_are) two_declared

  -- each of the maps goes between the fields of its numbers
  pub are_between : AreBetween (L.rows ++ row ∷ []) maps
  are_between = subst (AreBetween (L.rows ++ row ∷ [])) (sym A.maps_are)
      (All-cons (λ m. IsBetween (L.rows ++ row ∷ []) m.from m.into m.map) (identity_row n row.field) (prime_map_row A.prime (field_at L.rows A.prime) n row.field ∷ [])
      (record { source = new; target = new })
      (All-cons (λ m. IsBetween (L.rows ++ row ∷ []) m.from m.into m.map) (prime_map_row A.prime (field_at L.rows A.prime) n row.field) []
      (record { source = old; target = new })
      (All-nil (λ m. IsBetween (L.rows ++ row ∷ []) m.from m.into m.map))))
    where
      new : row.field ≡ field_at (L.rows ++ row ∷ []) n
      new = sym (ap (λ r. r.field) (get_or-append_seam L.rows row [] no_row))

      old : field_at L.rows A.prime ≡ field_at (L.rows ++ row ∷ []) A.prime
      old = sym (ap (λ r. r.field) (get_or_append_left L.rows (row ∷ []) no_row A.prime prime_below))

-- what can be declared
pub record CanDeclare (L : Lattice) (name : List ℕ) (p : ℕ) (f : List ℕ) : Type 0 where
  pub proper : IsDeclaredName name
  pub well_formed : IsWellFormed L.edition p f
  pub free : IsFreeName L name
  pub irreducible : IsIrreducible (residues p) f
  pub room : length L.rows + 1 ≤ L.edition.room

module _ {L : Lattice} {name : List ℕ} {p : ℕ} {f : List ℕ} (C : IsCompatible L)
    (D : CanDeclare L name p f) where
  -- **it is declared by a compatible lattice**
  pub declares : {M : Lattice} → IsDeclared L (declared_row name p f) M
      → Declares L name p f (Declared (length L.rows) false) M
  declares d = Declares.declared D.well_formed D.free D.irreducible D.room d

  pub declared_compatible : {M : Lattice} → IsDeclared L (declared_row name p f) M → IsCompatible M
  declared_compatible {M} d =
      (request_keeps L (Declare name p f) (Declared (length L.rows) false) M C D.proper (declares d)).0

  -- and that takes memory
  pub declaring_adds : StepAdds L (Declare name p f)
  declaring_adds =
      let (M, d) = declaring_exists_law L (declared_row name p f) C (declared_is_row C D.proper D.well_formed D.irreducible) in
      (Declared (length L.rows) false, M, declares d, tt)

-- ---- what the code finds
-- the one row of a declaration, with the maps of a field of its number
pub with_row : {L : Lattice} {name : List ℕ} (f : Polynomial) → IsCompatible L
    → CanDeclare L name f.prime f.coefficients → {K : Field} → K.characteristic ≡ f.prime
    → K.polynomial ≡ f.coefficients → {n : ℕ} → n ≡ length L.rows → {maps : List MapRow}
    → AreMapsOf L n K maps → {rows : List Row} → rows ≡ record { name = name; field = K } ∷ []
    → IsCompatible (with_rows L rows maps) × AreBetween (L.rows ++ rows) maps
    × IsDeclared L (declared_row name f.prime f.coefficients) (with_rows L rows maps)
with_row {L} {name} f C D {K} p g {n} k {maps} A {rows} e =
    let B : AreMapsOf L (length L.rows) K maps = subst (λ m. AreMapsOf L m K maps) k A in
    let row : Row = record { name = name; field = K } in
    let same : row ≡ declared_row name f.prime f.coefficients = λ i. record { name = name; field = record { characteristic = p i; polynomial = g i } } in
    let d : IsDeclared L (declared_row name f.prime f.coefficients) (with_rows L (row ∷ []) maps)
    = subst (λ r. IsDeclared L r (with_rows L (row ∷ []) maps)) same (is_declared C row B) in
    let P : List Row → Type 0 = λ rs. IsCompatible (with_rows L rs maps) × AreBetween (L.rows ++ rs) maps
    × IsDeclared L (declared_row name f.prime f.coefficients) (with_rows L rs maps) in
    subst P (sym e) (declared_compatible C D d, are_between C row B, d)

-- the reply where field n has the name, by whether it is the field
module _ {L : Lattice} {name : List ℕ} {f : Polynomial} {n : ℕ}
    (w : IsWellFormed L.edition f.prime f.coefficients) (h : IsNamed L n name) (row : Row)
    (at : row ≡ slice_index_or L.rows n no_row) {p q : ℕ} {gs hs : List ℕ}
    (first : p ≡ row.field.characteristic) (second : gs ≡ row.field.polynomial) (third : q ≡ f.prime)
    (fourth : hs ≡ f.coefficients) (b : Bool) (t : IsTrue b ↔ ((p ≡ q) × (gs ≡ hs))) where
  pub same_declares : b ≡ true → Declares L name f.prime f.coefficients (Declared n true) L
  same_declares e =
      let (c, d) = t.0 e in
      let one : row.field ≡ record { characteristic = f.prime; polynomial = f.coefficients }
      = λ i. record { characteristic = (sym first ∙ c ∙ third) i; polynomial = (sym second ∙ d ∙ fourth) i } in
      Declares.already w h (sym (ap (λ r. r.field) at) ∙ one)

  pub other_declares : b ≡ false
      → Declares L name f.prime f.coefficients (Refused (NameTaken n)) L
  other_declares e = Declares.taken w h (λ d.
      let same = ap (λ r. r.field) at ∙ d in
      let yes : b ≡ true = t.1 (first ∙ ap (λ K. K.characteristic) same ∙ sym third, second ∙ ap (λ K. K.polynomial) same ∙ sym fourth) in
      cc)

-- the reply where the polynomial has a least factor
pub reducible_declares : {L : Lattice} {name : List ℕ} {f : Polynomial} (g : Polynomial)
    → IsWellFormed L.edition f.prime f.coefficients → IsFreeName L name → g.prime ≡ f.prime
    → IsLeastFactor (residues f.prime) nat_cmp f.coefficients g.coefficients
    → Declares L name f.prime f.coefficients (Refused (Reducible g)) L
reducible_declares {L} {name} {f} g w free e l =
    let P : ℕ → Type 0 = λ p. Declares L name f.prime f.coefficients (Refused (Reducible (record { prime = p; coefficients = g.coefficients }))) L in
    subst P (sym e) (Declares.reducible w free l)

-- where there isn't too little room there is enough
pub has_room : {room count : ℕ} (b : Bool) → IsTrue b ↔ (room < count) → b ≡ false → count ≤ room
has_room {room} {count} b t e = ⊎_elim (λ l. let yes : b ≡ true = t.1 l in cc) (λ g. g) (cases_lt room count)

-- what holds at all holds of an error
pub on_err : {T X : Type 0} (r : Result T X) {P : Type 0} → P → OnErr r P
on_err (Ok x) p = tt
on_err (Err e) p = p
