-- What the laws of this crate state.
use Rattle.std.specs.Prelude.{◌≡◌}
use Rattle.alg_model.specs.Maps.{IsFiniteField, generator, apply, comp}
use Rattle.ff_embed.specs.SmallEmbeddings.{FieldMap, IsSmallEmbedding}

-- both ends of an `Embedding` are finite fields
abbrev pub EndsAreFinite : Type 0
EndsAreFinite = (e : FieldMap) → IsSmallEmbedding e
    → IsFiniteField e.source × IsFiniteField e.target

-- the image of the generator determines an embedding between two fields
abbrev pub ImageDetermines : Type 0
ImageDetermines = (a b : FieldMap) → IsSmallEmbedding a → IsSmallEmbedding b
    → a.source ≡ b.source → a.target ≡ b.target
    → apply a.target a.images (generator a.source) ≡ apply b.target b.images (generator b.source)
    → a ≡ b

-- a map after which an embedding follows is determined: there is at most one map through which
-- another goes
abbrev pub MapThroughIsDetermined : Type 0
MapThroughIsDetermined = (j : FieldMap) → IsSmallEmbedding j → (a b : FieldMap)
    → IsSmallEmbedding a → IsSmallEmbedding b → a.source ≡ b.source → a.target ≡ j.source
    → b.target ≡ j.source
    → comp j.target a.images j.images ≡ comp j.target b.images j.images → a ≡ b
