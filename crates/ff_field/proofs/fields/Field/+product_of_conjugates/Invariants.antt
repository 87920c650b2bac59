use Rattle.ff_field.proofs.fields.Field.+product_of_conjugates.Given as goal

abbrev pub decreases-product_of_conjugates : goal.decreases-product_of_conjugates
decreases-product_of_conjugates l = l.m
