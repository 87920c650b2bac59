-- Parts of a dump. No public clause cites this module.
--     word_text word       the bytes of a word
--     found_at key x       the entry of a key for which x is found
--     maps_from L i        the maps from field i
--     maps_to L i n        those that end in a field below n
--     maps_below L n       the maps from fields below n
use Rattle.std.specs.Prelude.{ℕ, ◌==◌, ◌&&◌, nat_lt, List, [], ◌∷◌, Option, Some, None, decimal}
use Rattle.std.specs.FinMap.{entries}
use Rattle.std.specs.FinMap.Entries.{where_key}
use Rattle.alg_model.specs.Lattices.{Lattice, pair_cmp}
use Rattle.lat_language.specs.Commands.{digits_text}
use Rattle.lat_audit.specs.Dumps.{Entry}
use Rattle.lat_audit.specs.declared.lines.Word.{Word}
use Rattle.lat_audit.specs.declared.lines.Word.TheVariants.{Text, Number, Numbers}

abbrev pub word_text : Word → List ℕ
word_text (Text text) = text.now
word_text (Number n) = decimal n
word_text (Numbers c) = digits_text c.now

abbrev pub found_at : {K X : Type 0} → K → Option X → List (K × X)
found_at key (Some x) = (key, x) ∷ []
found_at key None = []

abbrev pub maps_from : Lattice → ℕ → List Entry
maps_from L i = where_key pair_cmp (λ k. k.0 == i) (entries L.maps)

abbrev pub maps_to : Lattice → ℕ → ℕ → List Entry
maps_to L i n = where_key pair_cmp (λ k. (k.0 == i) && nat_lt k.1 n) (entries L.maps)

abbrev pub maps_below : Lattice → ℕ → List Entry
maps_below L n = where_key pair_cmp (λ k. nat_lt k.0 n) (entries L.maps)
