-- The field of the number that is found is the prime field of the characteristic.
use Rattle.std.proofs.Common.{ap, ◌∙◌}
use Rattle.lat_insert.proofs.EditionFields.{prime_field_of}
use Rattle.lat_insert.proofs.declaring.maps_of.Goals as goal

pub map_of_prime-requires-clause-polynomial : goal.map_of_prime-requires-clause-polynomial
map_of_prime-requires-clause-polynomial c = ap (λ K. K.polynomial)
    (prime_field_of c.edition.ensures.whole c.edition.result c.prime_number-prime.result c.behind-lattice.inside.name c.behind-lattice.inside.field
    c.edition.ensures.value c.prime_number-prime.ensures.within (c.behind-lattice.view_is ∙ c.field.ensures.value))

pub map_of_prime-requires-clause-characteristic : goal.map_of_prime-requires-clause-characteristic
map_of_prime-requires-clause-characteristic c = ap (λ K. K.characteristic)
    (prime_field_of c.edition.ensures.whole c.edition.result c.prime_number-prime.result c.behind-lattice.inside.name c.behind-lattice.inside.field
    c.edition.ensures.value c.prime_number-prime.ensures.within (c.behind-lattice.view_is ∙ c.field.ensures.value))
    ∙ c.prime_number-prime.ensures.at ∙ c.prime.ensures.value
