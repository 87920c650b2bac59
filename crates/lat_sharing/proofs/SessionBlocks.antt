-- The names and the texts of sessions, one after the other.
use Rattle.std.proofs.Common.{◌≡◌, ℕ, zero, suc, ◌+◌, ◌<◌, List, [], ◌∷◌, ◌++◌, length, map, take, sym, ap, ap₂, ◌∙◌, arith, append_assoc, append-nil, add-one}
use Rattle.std.specs.Prelude.{slice_index_or}
use Rattle.lat_language.specs.declared.scripts.SessionScript.{SessionScript}
use Rattle.lat_language.specs.Texts.{session_text}
use Rattle.lat_sharing.specs.PrivateSharings.{session_blocks}

module _ {V : Type 0} (items : V → List ℕ) where
  -- the block of one session more
  blocks_suc : (i : ℕ) (sessions : List SessionScript) (texts : List V) (s : SessionScript) (v : V)
      → i < length sessions → i < length texts
      → session_blocks (take (suc i) sessions) (map items texts)
      ≡ session_blocks (take i sessions) (map items texts)
      ++ (session_text (slice_index_or sessions i s).name ++ items (slice_index_or texts i v))
  blocks_suc i [] texts s v l k = absurd (omega (arith, l))
  blocks_suc i (x ∷ sessions) [] s v l k = absurd (omega (arith, k))
  blocks_suc zero (x ∷ sessions) (t ∷ texts) s v l k = append-nil (session_text x.name ++ items t)
  blocks_suc (suc i) (x ∷ sessions) (t ∷ texts) s v l k =
      ap (λ u. session_text x.name ++ items t ++ u) (blocks_suc i sessions texts s v (omega (arith, l)) (omega (arith, k)))
      ∙ sym (append_assoc (session_text x.name ++ items t) (session_blocks (take i sessions) (map items texts)) (session_text (slice_index_or sessions i s).name ++ items (slice_index_or texts i v)))

  -- **one block more is added**
  pub blocks_more : (sessions : List SessionScript) (texts : List V) (i : ℕ) (s : SessionScript)
      (v : V) (old text named new : List ℕ) → i < length sessions
      → length texts ≡ length sessions → s ≡ slice_index_or sessions i s
      → v ≡ slice_index_or texts i v
      → text ≡ old ++ session_blocks (take i sessions) (map items texts)
      → named ≡ text ++ session_text s.name → new ≡ named ++ items v
      → new ≡ old ++ session_blocks (take (i + 1) sessions) (map items texts)
  blocks_more sessions texts i s v old text named new l few is at so_far name lines =
      lines ∙ ap (λ t. t ++ items v) (name ∙ ap (λ t. t ++ session_text s.name) so_far)
      ∙ append_assoc (old ++ session_blocks (take i sessions) (map items texts)) (session_text s.name) (items v)
      ∙ append_assoc old (session_blocks (take i sessions) (map items texts)) (session_text s.name ++ items v)
      ∙ ap₂ (λ (x : SessionScript) (y : V). old ++ (session_blocks (take i sessions) (map items texts) ++ (session_text x.name ++ items y))) is at
      ∙ ap (λ t. old ++ t) (sym (blocks_suc i sessions texts s v l (omega (arith, l, few))))
      ∙ ap (λ n. old ++ session_blocks (take n sessions) (map items texts)) (sym (add-one i))
