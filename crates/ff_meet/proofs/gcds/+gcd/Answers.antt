use Rattle.std.proofs.lemmas.Nat.Gcd.{IsGcd-from_mod}
use Rattle.ff_meet.proofs.gcds.+gcd.Goals as goal

pub returns : goal.returns
returns t c = IsGcd-from_mod c.args.a c.args.b c.gcd.result c.gcd.ensures
