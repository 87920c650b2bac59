-- Candidates in a lattice of finite fields: as in the theory; and one exists where nothing is
-- prescribed.
use Rattle.std.proofs.Common.{◌≡◌, ℕ, ◌<◌, List, length, sym, ap, Option, None}
use Prim.Native.Nat.{◌∣◌}
use Rattle.alg_model.specs.Maps.{degree_of, generator, apply, constants}
use Rattle.alg_model.specs.Roots.{IsRoot}
use Rattle.alg_model.specs.Lattices.{Lattice, Compatible, field_at, IsRows}
use Rattle.alg_model.specs.Candidates.{map_sending, IsCandidate}
use Rattle.alg_lattices.specs.Filling as Theory
use Rattle.alg_lattices.proofs.Candidates.{Plain, candidate_exists}
use Rattle.alg_galois.proofs.Embeddings as Maps
use Rattle.alg_galois.proofs.EmbeddingRoots
use Rattle.alg_compatible.proofs.FiniteFields.{finite_fields, embedding_laws, frobenius_laws}
use Rattle.alg_compatible.proofs.Transfer.{lattice_of, lattice_decided, to_theory, field_finite}

-- a candidate's map is a candidate of the theory
pub to_candidate : {L : Lattice} → IsRows L.edition L.rows
    → {E F : ℕ} {sending : Option (List ℕ × List ℕ)} {v : List ℕ}
    → E < length L.rows → F < length L.rows → IsCandidate L E F sending v
    → Theory.IsCandidate finite_fields (lattice_of L) E F (map_sending (field_at L.rows E) (field_at L.rows F) v)
to_candidate {L} R {E} {F} s t c = record {
  embedding = record { source = field_finite L R E s; target = field_finite L R F t; embedding = c.embedding };
  agrees = λ h k. c.agrees h k;
}

module _ {L : Lattice} (R : IsRows L.edition L.rows) (C : Compatible L) (E F : ℕ)
    (s : E < length L.rows) (t : F < length L.rows) where
  -- a candidate of the theory sends the generator to a candidate
  from_candidate : {phi : List (List ℕ)} → Theory.IsCandidate finite_fields (lattice_of L) E F phi
      → (v : List ℕ) × IsCandidate L E F None v
  from_candidate {phi} c =
      let value = Maps.apply_valid (field_at L.rows E) (field_at L.rows F) c.embedding.source c.embedding.target phi c.embedding.embedding
      (generator (field_at L.rows E)) (Maps.generator_is_value (field_at L.rows E) (field_at L.rows F) c.embedding.source c.embedding.target) in
      let same = Maps.embedding_is_powers_of_image (field_at L.rows E) (field_at L.rows F) c.embedding.source c.embedding.target phi c.embedding.embedding in (
        apply (field_at L.rows F) phi (generator (field_at L.rows E)),
        record {
          value = value;
          embedding = rw (← same) c.embedding.embedding;
          generator = ap (λ m. apply (field_at L.rows F) m (generator (field_at L.rows E))) (sym same);
          agrees = λ h k. rw (← same) (c.agrees h k);
          sent = tt;
        },
      )

  -- **where nothing is prescribed, there is a candidate if the degrees divide**
  pub plain_candidate : (field_at L.rows E).characteristic ≡ (field_at L.rows F).characteristic
      → degree_of (field_at L.rows E) ∣ degree_of (field_at L.rows F)
      → (v : List ℕ) × IsCandidate L E F None v
  plain_candidate e d =
      let (v, r) = EmbeddingRoots.least_root_where_divides (field_at L.rows E) (field_at L.rows F) (field_finite L R E s) (field_finite L R F t) e d in
      from_candidate (candidate_exists (plain v r.root)).1
    where
      plain : (v : List ℕ)
          → IsRoot (field_at L.rows F) (constants (field_at L.rows F) (field_at L.rows E).polynomial) v
          → Plain finite_fields (length L.edition.primes) (lattice_of L) E F (map_sending (field_at L.rows E) (field_at L.rows F) v)
      plain v r = record {
        law = embedding_laws;
        frobenius = frobenius_laws;
        compatible = to_theory L R C;
        decided = lattice_decided L;
        embedding = record {
          source = field_finite L R E s;
          target = field_finite L R F t;
          embedding = (EmbeddingRoots.embedding_of_root (field_at L.rows E) (field_at L.rows F) (field_finite L R E s) (field_finite L R F t) e v r).0;
        };
      }
