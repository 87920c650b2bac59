use Rattle.std.proofs.Common.{◌≡◌, ℕ, ◌∷◌, [], ◌*◌, length, ap, sym, ◌∙◌, arith}
use Rattle.std.proofs.lemmas.Grind.{common_steps}
use Rattle.lat_gate.specs.History.{of_number}
use Rattle.lat_gate.proofs.Meets.{opens}
use Rattle.lat_gate.proofs.gate.Gate.open.Goals as goal

pub new-requires : goal.new-requires
new-requires g c =
    let same = sym c.of.ensures in
    let word : c.from.result ≡ length (g.M.Machine.entries c.of.result.value) = c.from.ensures ∙ c.count.ensures.counted ∙ ap (λ x. length (g.M.Machine.entries x)) same in
    opens _ _ _ c.args.machine (ap (λ (n : ℕ). 2 * n ∷ []) word) (grind (arith, common_steps)) (ap g.M.Machine.entries same) (ap g.M.Machine.setting same)
    (λ n dealt. ap (λ x. of_number g.M.Machine.number n (g.M.Machine.entries x)) c.of.ensures ∙ c.requires.unused n dealt)
