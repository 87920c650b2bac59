use Rattle.std.proofs.Common.{ap, arith, length, refl, subst}
use Rattle.ff_field.specs.SmallFields.{IsValueFault}
use Rattle.lat_session.proofs.Plays.{reads_value, reads_too_many, reads_too_large}
use Rattle.lat_session.proofs.keeping.read_digits.Goals as goal

pub overflow_cast-result : goal.overflow_cast-result
overflow_cast-result g c = let few = c.numbers-numbers.ensures.whole.count.1 in
    let same = ap length c.numbers-numbers.ensures.value in
    omega (arith, few, same)

pub returns-in-Ok : goal.returns-in-Ok
returns-in-Ok g c = λ L s. reads_value c.field_of-field.result c.numbers-numbers.result.now c.args.digits.now
    (c.field_of-field.ensures L s) c.numbers-numbers.ensures.value c.in-Ok.value c.in-Ok.ensures.made (c.in-Ok.ensures.ok.0 refl)

pub returns-in-Err-TooMany : goal.returns-in-Err-TooMany
returns-in-Err-TooMany g c = λ L s.
    let fault = subst (IsValueFault c.field_of-field.result c.numbers-numbers.result.now) c.in-Err-TooMany.field-0-is c.in-Err-TooMany.ensures.fault in
    reads_too_many c.field_of-field.result c.numbers-numbers.result.now c.args.digits.now
    (c.field_of-field.ensures L s) c.numbers-numbers.ensures.value fault.1

pub returns-in-Err-TooLarge : goal.returns-in-Err-TooLarge
returns-in-Err-TooLarge g c = λ L s.
    let fault = subst (IsValueFault c.field_of-field.result c.numbers-numbers.result.now) c.in-Err-TooLarge.field-0-is c.in-Err-TooLarge.ensures.fault in
    reads_too_large c.field_of-field.result c.numbers-numbers.result.now c.args.digits.now
    (c.field_of-field.ensures L s) c.numbers-numbers.ensures.value c.in-Err-TooLarge.place fault
