use Rattle.poly_text.proofs.powers.+variable_power.Given as goal

abbrev pub decreases-variable_power : goal.decreases-variable_power
decreases-variable_power l = l.e
