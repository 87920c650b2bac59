-- How a proof tells passes apart, and what is at most once true of them. No public clause cites
-- this module.
--     pass_code          the code of a pass
--     view_prop          there is at most one proof that the view of a pass is the lattice that it
--                        should be
use Rattle.std.specs.Prelude.{ℕ, refl}
use Rattle.std.specs.Coded.{Coded, Coded-set, code_by, coded×, coded_ℕ, Π_prop}
use Rattle.alg_model.specs.Lattices.{Lattice}
use Rattle.lat_core.specs.PrivateLattices.{lattice_code}
use Rattle.lat_history.specs.Books.{History}
use Rattle.lat_history.specs.Passes.{Pass, IsView}

abbrev pub pass_code : Coded Pass
pass_code = code_by (ℕ × (ℕ × Lattice)) (coded× coded_ℕ (coded× coded_ℕ lattice_code))
    (λ a. (a.number, (a.front, a.view)))
    (λ p. record { number = p.0; front = p.1.0; view = p.1.1 }) (λ _. refl)

pub view_prop : (h : History) (pass : Pass) → IsProp (IsView h pass)
view_prop h pass = Π_prop (λ L. Π_prop (λ _. Coded-set lattice_code L pass.view))
