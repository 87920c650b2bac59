-- The finite fields of the model as an instance of the theory of lattices.
--     Embedded E F m           E and F are finite fields, and m is an embedding of E in F
--     finite_fields            fields, embeddings, compositions, meets and powers of Frobenius
use Rattle.std.proofs.Common.{List, ℕ}
use Rattle.alg_model.specs.Maps.{Field, IsFiniteField, degree_of, comp, identity_map, frobenius_map, IsEmbedding, IsMeet}
use Rattle.alg_lattices.specs.Embeddings.{Embeddings, EmbeddingLaws, FrobeniusLaws}
use Rattle.alg_galois.proofs.Embeddings as Maps
use Rattle.alg_galois.proofs.EmbeddingRoots
use Rattle.alg_galois.proofs.Meets

-- an embedding of finite fields
pub record Embedded (E F : Field) (m : List (List ℕ)) : Type 0 where
  pub source : IsFiniteField E
  pub target : IsFiniteField F
  pub embedding : IsEmbedding E F m

-- the operations of the theory
abbrev pub finite_fields : Embeddings Field (List (List ℕ))
finite_fields = record {
  IsField = IsFiniteField;
  degree = degree_of;
  IsEmbedding = Embedded;
  identity = identity_map;
  comp = comp;
  IsMeet = IsMeet;
  frobenius = frobenius_map;
}

-- **embeddings of finite fields keep the laws of the theory**
pub embedding_laws : EmbeddingLaws finite_fields
embedding_laws = record {
  source = λ e. e.source;
  target = λ e. e.target;
  identity = λ {E} h. record { source = h; target = h; embedding = Maps.identity_embedding E h };
  comp = λ {E} {F} {G} {m} {n} d c. record {
    source = d.source;
    target = c.target;
    embedding = Maps.comp_embedding E F G d.source d.target c.target m n d.embedding c.embedding;
  };
  assoc = λ {D} {E} {F} {G} {l} {m} {n} b c d.
      Maps.comp_assoc D E F G b.source c.source c.target d.target l m n b.embedding c.embedding d.embedding;
  identity_comp = λ {E} {F} {m} d. Maps.identity_comp E F d.source d.target m d.embedding;
  comp_identity = λ {E} {F} {m} d. Maps.comp_identity E F d.source d.target m d.embedding;
  cancel = λ {E} {F} {G} {m} {n} {k} d c b e.
      Maps.comp_cancel E F G d.source d.target b.target m n k d.embedding c.embedding b.embedding e;
  degree_divides = λ {E} {F} {m} d. EmbeddingRoots.embedding_degree_divides E F d.source d.target m d.embedding;
  factor = λ {I} {J} {F} {a} {b} c d k.
      let (m, e, f) = EmbeddingRoots.embedding_through I J F c.source d.source c.target a b c.embedding d.embedding k in
      (m, record { source = c.source; target = d.source; embedding = e }, f);
  meet = λ {I} {J} {K} {L} {u} {v} {a} {b} c d e f square.
      Meets.meet_is_gcd I J K L c.target d.target e.target c.source u v a b c.embedding d.embedding e.embedding f.embedding square;
}

-- **and so do the powers of Frobenius**
pub frobenius_laws : FrobeniusLaws finite_fields
frobenius_laws = record {
  degree_positive = λ {E} h. Meets.degree_positive E h;
  embedding = λ {E} h t. record { source = h; target = h; embedding = Maps.frobenius_embedding E h t };
  differ = λ {E} {F} {m} {n} d c.
      let (t, l, e) = EmbeddingRoots.embeddings_differ E F d.source d.target m d.embedding n c.embedding in
      (t, e);
  period = λ {E} {F} {m} d s t. EmbeddingRoots.powers_after_embedding E F d.source d.target m d.embedding s t;
}
