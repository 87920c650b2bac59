-- What a content may hold: rows and images, each of which may stand behind those before it.
use Rattle.std.proofs.Common.{◌≡◌, ◌≤◌, List, [], ◌∷◌, ◌++◌, length, sym, refl, ap, ◌∙◌, subst, append_assoc}
use Rattle.std.specs.Prelude.{All}
use Rattle.std.proofs.lemmas.List.{append-nil}
use Rattle.std.proofs.lemmas.List.Elements.{All-cons, All-nil}
use Rattle.alg_model.specs.Lattices.{first_edition, Row}
use Rattle.lat_audit.specs.Readings.{Content, IsNextRow, IsNextImage}
use Rattle.lat_audit.specs.PrivateContents.{IsContent}
use Rattle.lat_audit.specs.PrivateReadings.{IsFieldPoly}
use Rattle.lat_audit.specs.declared.line_forms.TheConstants.{MAX_MAPS}
use Rattle.lat_audit.proofs.ReadRows.{next_poly}

-- ---- elements that follow one another
pub pushed : {X : Type 0} (before : List X) (x : X) (xs : List X)
    → (before ++ x ∷ []) ++ xs ≡ before ++ x ∷ xs
pushed before x xs = append_assoc before (x ∷ []) xs

module _ {X : Type 0} (Next : List X → X → Type 0) where
  -- each of them may stand behind those before it, and behind `before`
  abbrev pub Follow : List X → List X → Type 0
  Follow before [] = Unit {0}
  Follow before (x ∷ xs) = Next before x × Follow (before ++ x ∷ []) xs

  pub follow_each : (before xs front behind : List X) (x : X) → Follow before xs
      → xs ≡ front ++ x ∷ behind → Next (before ++ front) x
  follow_each before [] [] behind x h e = cc
  follow_each before [] (z ∷ front) behind x h e = cc
  follow_each before (y ∷ xs) [] behind x h e =
      let same : y ≡ x = cc in
      subst (λ b. Next b x) (sym (append-nil before)) (subst (λ z. Next before z) same h.0)
  follow_each before (y ∷ xs) (z ∷ front) behind x h e =
      let same : y ≡ z = cc in
      let rest : xs ≡ front ++ x ∷ behind = cc in
      subst (λ b. Next b x) (append_assoc before (y ∷ []) front ∙ ap (λ w. before ++ w ∷ front) same)
      (follow_each (before ++ y ∷ []) xs front behind x h.1 rest)

  pub each_follows : (before xs : List X)
      → ((front behind : List X) (x : X) → xs ≡ front ++ x ∷ behind → Next (before ++ front) x)
      → Follow before xs
  each_follows before [] each = tt
  each_follows before (x ∷ xs) each = (
    subst (λ b. Next b x) (append-nil before) (each [] xs x refl),
    each_follows (before ++ x ∷ []) xs
        (λ front behind y e. subst (λ b. Next b y) (sym (append_assoc before (x ∷ []) front))
        (each (x ∷ front) behind y (ap (λ l. x ∷ l) e))),
  )

-- ---- rows
-- the polynomial of the row may be that of a field
abbrev pub HasPoly : Row → Type 0
HasPoly row = IsFieldPoly row.field.characteristic row.field.polynomial

pub follow_polys : (before rows : List Row) → Follow IsNextRow before rows → All HasPoly rows
follow_polys before [] h = All-nil HasPoly
follow_polys before (row ∷ rows) h =
    All-cons HasPoly row rows (next_poly before row h.0) (follow_polys (before ++ row ∷ []) rows h.1)

-- ---- contents
module _ (c : Content) where
  pub rows_follow : IsContent c → Follow IsNextRow [] c.rows
  rows_follow is = each_follows IsNextRow [] c.rows
      (λ front behind row e. is.rows front behind row e)

  pub images_follow : IsContent c → Follow (IsNextImage c.rows) [] c.images
  images_follow is = each_follows (IsNextImage c.rows) [] c.images
      (λ front behind e same. is.images front behind e same)

  pub follow_content : length first_edition.primes ≤ length c.rows
      → length c.rows ≤ first_edition.room → length c.images ≤ MAX_MAPS
      → Follow IsNextRow [] c.rows → Follow (IsNextImage c.rows) [] c.images → IsContent c
  follow_content enough few few_images rows images = record {
    enough = enough;
    few = few;
    rows = λ before behind row e. follow_each IsNextRow [] c.rows before behind row rows e;
    few_images = few_images;
    images = λ before behind e same. follow_each (IsNextImage c.rows) [] c.images before behind e images same;
  }
