use Rattle.ff_poly.proofs.polynomials.Poly.+power_of_reduced.Given as goal

abbrev pub decreases-power_of_reduced : goal.decreases-power_of_reduced
decreases-power_of_reduced l = l.e
