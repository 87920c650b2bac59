-- The generated script of a seed, a number of fields and a number of embeddings.
--     next_state s           the state of the generator after one draw
--     state_after s n        its state after n draws
--     drawn s                the number that a new state gives
--     nth_draw s n           draw n from a state on
--     table, table_entry n   characteristics and polynomials
--     field_name k           the name of field k
--     declaration k n        the command that declares it, with polynomial n of the table
--     embedding u v          the command that embeds field u into field v
--     nth_embedding s fields k                      embedding k, from the state before the first
--     session_commands s fields embeds position     the embeddings of a session
--     four_sessions commands                        four sessions, by the commands at each position
--     generated seed fields embeds                  the script
use Rattle.std.specs.Prelude.{ℕ, ◌+◌, ◌*◌, ◌/◌, ◌%◌, ◌^◌, ◌==◌, List, [], ◌∷◌, ◌++◌, map, filter, codes, decimal, slice_index_or}
use Rattle.std.specs.Fn.{iterate}
use Rattle.std.specs.List.{range_with_len}
use Rattle.lat_language.specs.declared.commands.Command.{Command}
use Rattle.lat_language.specs.declared.commands.Command.TheVariants.{Field, Embed}
use Rattle.lat_language.specs.declared.scripts.Script.{Script}
use Rattle.lat_language.specs.declared.scripts.SessionScript.{SessionScript}

-- a linear congruential generator modulo 2^64
unfoldable pub next_state : ℕ → ℕ
next_state s = (s * 6364136223846793005 + 1442695040888963407) % 2 ^ 64

-- the state after n draws
unfoldable pub state_after : ℕ → ℕ → ℕ
state_after s n = iterate next_state n s

-- the upper 31 bits of a new state are drawn
unfoldable pub drawn : ℕ → ℕ
drawn s = s / 2 ^ 33

-- draw n, counted from 0
abbrev pub nth_draw : ℕ → ℕ → ℕ
nth_draw s n = drawn (state_after s (n + 1))

-- characteristics and polynomials, lowest coefficient first
abbrev pub table : List (ℕ × List ℕ)
table = (2, 1 ∷ 1 ∷ 1 ∷ [])
    ∷ (2, 1 ∷ 1 ∷ 0 ∷ 1 ∷ [])
    ∷ (2, 1 ∷ 1 ∷ 0 ∷ 0 ∷ 1 ∷ [])
    ∷ (2, 1 ∷ 0 ∷ 0 ∷ 1 ∷ 1 ∷ [])
    ∷ (2, 1 ∷ 0 ∷ 0 ∷ 1 ∷ 0 ∷ 0 ∷ 1 ∷ [])
    ∷ (2, 1 ∷ 0 ∷ 0 ∷ 1 ∷ 0 ∷ 0 ∷ 0 ∷ 0 ∷ 0 ∷ 0 ∷ 0 ∷ 0 ∷ 1 ∷ [])
    ∷ (3, 1 ∷ 0 ∷ 1 ∷ [])
    ∷ (3, 2 ∷ 1 ∷ 1 ∷ [])
    ∷ []

-- entry n of the table, for n below 8
abbrev pub table_entry : ℕ → ℕ × List ℕ
table_entry n = slice_index_or table n (2, 1 ∷ 1 ∷ 1 ∷ [])

-- `G` and the number of the field
abbrev pub field_name : ℕ → List ℕ
field_name k = codes "G" ++ decimal k

-- `field Gk P COEFFICIENTS`
unfoldable pub declaration : ℕ → ℕ → Command
declaration k n = Field (field_name k) (table_entry n).0 (table_entry n).1

-- `embed Gu into Gv`
unfoldable pub embedding : ℕ → ℕ → Command
embedding u v = Embed (field_name u) (field_name v)

-- two draws modulo the number of fields: the field that is embedded, and then the one into which
abbrev pub nth_embedding : ℕ → ℕ → ℕ → Command
nth_embedding s fields k =
    embedding (nth_draw s (2 * k) % fields) (nth_draw s (2 * k + 1) % fields)

-- embedding k goes to the session at position k modulo 4
abbrev pub session_commands : ℕ → ℕ → ℕ → ℕ → List Command
session_commands s fields embeds position =
    map (nth_embedding s fields) (filter (λ k. k % 4 == position) (range_with_len 0 embeds))

-- the sessions `a` to `d`, each with the commands of its position
abbrev pub four_sessions : (ℕ → List Command) → List SessionScript
four_sessions commands =
    record { name = codes "a"; commands = commands 0 }
    ∷ record { name = codes "b"; commands = commands 1 }
    ∷ record { name = codes "c"; commands = commands 2 }
    ∷ record { name = codes "d"; commands = commands 3 }
    ∷ []

-- each field takes a draw, and the embeddings take the draws behind these
unfoldable pub generated : ℕ → ℕ → ℕ → Script
generated seed fields embeds =
    let s = state_after seed fields in record {
      prologue = map (λ k. declaration k (nth_draw seed k % 8)) (range_with_len 0 fields);
      sessions = four_sessions (session_commands s fields embeds);
      schedule = [];
    }
