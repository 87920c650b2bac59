use Rattle.lat_world.proofs.WorldLemmas.{lacks}
use Rattle.lat_world.proofs.worlds.World.missing.Goals as goal

pub returns : goal.returns
returns c = λ d.
    let same = lacks c.degrees.ensures d in
    (λ h. same.0 ((c.missing.ensures d).0 h), λ x. (c.missing.ensures d).1 (same.1 x))
