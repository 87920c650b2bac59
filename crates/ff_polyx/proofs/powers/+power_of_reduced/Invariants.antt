use Rattle.ff_polyx.proofs.powers.+power_of_reduced.Given as goal

abbrev pub decreases-power_of_reduced : goal.decreases-power_of_reduced
decreases-power_of_reduced l = l.e
