use Rattle.std.specs.Prelude.{map}
use Rattle.std.proofs.Common.{rules, ap, ◌∙◌}
use Rattle.ff_poly.specs.Polynomial.{Polynomial}
use Rattle.program_ops.specs.Tables.{artin_schreier}
use Rattle.program_ops.proofs.TablePolynomials.{table_is}
use Rattle.program_ops.proofs.tables.artin_schreier_table.Goals as goal

pub of-requires : goal.of-requires
of-requires c = ap (map {A = Polynomial} (λ f. f.prime)) (table_is artin_schreier c.from_fn.result
    c.from_fn.ensures.items.long (λ k d l. let t = c.from_fn.ensures.items.at k d l in search rules))

pub returns : goal.returns
returns c = c.of.ensures ∙ table_is artin_schreier c.from_fn.result
    c.from_fn.ensures.items.long (λ k d l. let t = c.from_fn.ensures.items.at k d l in search rules)
