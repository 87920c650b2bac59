-- The name of a prime field is a declared one.
use Rattle.std.proofs.Common.{rules, ◌≡◌, ◌∷◌}
use Rattle.std.specs.Prelude.{decimal}
use Rattle.lat_audit.proofs.ReadRows.{prime_name_read}
use Rattle.lat_audit.proofs.line_forms.prime_name.Goals as goal

pub returns-then-is_number : goal.returns-then-is_number
returns-then-is_number c =
    let named : c.args.word.now ≡ 70 ∷ decimal c.args.p = search rules in
    prime_name_read c.declared_bytes.result c.args.word.now c.args.p c.requires.0 c.requires.1 c.declared_bytes.ensures named
