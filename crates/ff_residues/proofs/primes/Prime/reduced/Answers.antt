use Rattle.std.proofs.Common.{◌%◌, ◌<◌, ap, ◌∙◌, subst, sym}
use Rattle.std.proofs.lemmas.Nat.{mod_below}
use Rattle.ff_residues.proofs.Reciprocals.{reduced_by, above_zero}
use Rattle.ff_residues.proofs.primes.Prime.reduced.Goals as goal

pub overflow_sub-result : goal.overflow_sub-result
overflow_sub-result c =
    let i = c.self.inside in
    (reduced_by c.args.x i.number i.reciprocal i.shift i.run c.self.invariant c.requires).0

pub returns-clause-value : goal.returns-clause-value
returns-clause-value c =
    let i = c.self.inside in
    (reduced_by c.args.x i.number i.reciprocal i.shift i.run c.self.invariant c.requires).1 ∙ ap (λ n. c.args.x % n) c.self.view_is

pub returns-clause-residue : goal.returns-clause-residue
returns-clause-residue c =
    let i = c.self.inside in
    let e = (reduced_by c.args.x i.number i.reciprocal i.shift i.run c.self.invariant c.requires).1 ∙ ap (λ n. c.args.x % n) c.self.view_is in
    subst (λ y. y < c.args.self) (sym e) (mod_below c.args.x c.args.self (subst (λ n. 0 < n) c.self.view_is (above_zero i.number c.self.invariant.characteristic)))
