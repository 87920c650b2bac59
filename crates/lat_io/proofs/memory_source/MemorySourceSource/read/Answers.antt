use Rattle.std.proofs.Common.{◌≡◌, ℕ, ◌+◌, List, ◌++◌, take, drop, ap, sym, subst, ◌∙◌}
use Rattle.lat_io.proofs.Pieces.{rest-split}
use Rattle.lat_io.proofs.memory_source.MemorySourceSource.read.Goals as goal

-- The source's bytes are read through the vector's slice.
pub returns-clause-taken : goal.returns-clause-taken
returns-clause-taken c =
    let count = c.give-count.result in
    let given = take count c.give-count.new.buf in
    let split = rest-split c.self.inside.gone count c.deref.result.now given c.give-count.ensures.copied in
    ap (λ feed. feed.left) (sym c.self.view_is) ∙ subst (λ (l : List ℕ). drop c.self.inside.gone l ≡ given ++ drop (c.self.inside.gone + count) l) c.deref.ensures.value split
