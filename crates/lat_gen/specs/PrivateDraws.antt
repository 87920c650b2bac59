-- The parts of a generated script, from the numbers that are drawn.
--     draws_below s m n              n draws from a state on, each modulo m
--     declared_fields ns             the commands that declare fields with these polynomials
--     embedded_at ns k               embedding k, whose fields are at 2k and 2k + 1
--     embedded_fields ns position    every fourth embedding, from the one at this position on
use Rattle.std.specs.Prelude.{ℕ, ◌+◌, ◌*◌, ◌/◌, ◌%◌, ◌==◌, List, length, map, filter, slice_index_or}
use Rattle.std.specs.List.{range_with_len}
use Rattle.lat_language.specs.declared.commands.Command.{Command}
use Rattle.lat_gen.specs.Generated.{nth_draw, declaration, embedding}

-- n draws, each modulo m
unfoldable pub draws_below : ℕ → ℕ → ℕ → List ℕ
draws_below s m n = map (λ k. nth_draw s k % m) (range_with_len 0 n)

-- field k has the polynomial at k
unfoldable pub declared_fields : List ℕ → List Command
declared_fields ns =
    map (λ k. declaration k (slice_index_or ns k 0)) (range_with_len 0 (length ns))

-- the field that is embedded is at 2k, and the one into which at 2k + 1
abbrev pub embedded_at : List ℕ → ℕ → Command
embedded_at ns k = embedding (slice_index_or ns (2 * k) 0) (slice_index_or ns (2 * k + 1) 0)

-- those whose number modulo 4 is the position
unfoldable pub embedded_fields : List ℕ → ℕ → List Command
embedded_fields ns position =
    map (embedded_at ns) (filter (λ k. k % 4 == position) (range_with_len 0 (length ns / 2)))
