use Rattle.std.proofs.Common.{◌<◌, length}
use Rattle.alg_model.specs.Factors.{IsPolynomial}
use Rattle.alg_model.specs.Maps.{field_values}
use Rattle.alg_splitting.specs.PrivateSearch.{IsFrobeniusModulo}
use Rattle.ff_roots.specs.PrivatePowers.{ArePowers}
use Rattle.ff_roots.proofs.frobenius.frobenius_powers.Given as goal

abbrev pub invariant-powers : goal.invariant-powers
invariant-powers l = record {
  done : ArePowers l.field l.g l._i l.powers;
  polynomial : IsPolynomial (field_values l.field) l.power;
  short : length l.power < length l.g;
  next : IsFrobeniusModulo l.field l.g l._i l.power;
}
