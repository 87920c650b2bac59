-- What a content gives to the judgement of its fields and of its images.
use Rattle.std.proofs.Common.{◌≡◌, ℕ, suc, ◌<◌, ◌≤◌, List, [], ◌∷◌, ◌++◌, length, get_or, take, drop, sym, ap, ◌∙◌, subst, arith, get_or-take}
use Rattle.std.specs.Prelude.{All, slice_index_or}
use Rattle.std.proofs.Math.Seq.{drop-cons}
use Rattle.std.proofs.lemmas.List.{length-take-le, take-append-drop}
use Rattle.alg_model.specs.Lattices.{no_row}
use Rattle.lat_core.specs.declared.TheConstants.{MAX_FIELDS}
use Rattle.lat_audit.specs.Readings.{Image, Content, IsNextRow, IsNextImage}
use Rattle.lat_audit.specs.PrivateContents.{IsContent}
use Rattle.lat_audit.specs.PrivateFaults.{IsImage}
use Rattle.lat_audit.specs.PrivateReadings.{IsBefore, IsRising}
use Rattle.lat_audit.proofs.ContentRows.{HasPoly, rows_follow, follow_polys}

-- a list in its parts at a place
parts_at : {X : Type 0} (xs : List X) (i : ℕ) (d : X) → i < length xs
    → xs ≡ take i xs ++ get_or xs i d ∷ drop (suc i) xs
parts_at xs i d l = sym (take-append-drop i xs) ∙ ap (λ ys. take i xs ++ ys) (drop-cons xs i d l)

module _ (c : Content) (is : IsContent c) where
  pub next_row : (i : ℕ) → i < length c.rows
      → IsNextRow (take i c.rows) (slice_index_or c.rows i no_row)
  next_row i l = is.rows (take i c.rows) (drop (suc i) c.rows) (get_or c.rows i no_row) (parts_at c.rows i no_row l)

  next_image : (k : ℕ) (d : Image) → k < length c.images
      → IsNextImage c.rows (take k c.images) (get_or c.images k d)
  next_image k d l = is.images (take k c.images) (drop (suc k) c.images) (get_or c.images k d) (parts_at c.images k d l)

  -- there are few fields
  pub few_rows : length c.rows ≤ MAX_FIELDS
  few_rows = is.few

  -- their polynomials are those of fields
  pub are_polys : All HasPoly c.rows
  are_polys = follow_polys [] c.rows (rows_follow c is)

  -- images are values, for the numbers of two fields
  pub are_images : All (IsImage c.rows) c.images
  are_images k d l =
      let next = next_image k d l in
      record { source = next.source; target = next.target; value = next.value }

  pub are_within : All (λ (e : Image). (e.0.0 < length c.rows) × (e.0.1 < length c.rows)) c.images
  are_within k d l = let next = next_image k d l in (next.source, next.target)

  -- and rise
  pub images_rise : IsRising c.images
  images_rise i j d l m =
      let next = next_image j d m in
      let count : length (take j c.images) ≡ j = length-take-le j c.images (omega (arith, m)) in
      let before : IsBefore (get_or (take j c.images) i d).0 (get_or c.images j d).0
      = next.rising i d (omega (arith, count, l)) in
      subst (λ (e : Image). IsBefore e.0 (get_or c.images j d).0) (get_or-take j c.images i d l) before
