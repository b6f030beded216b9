use Rattle.std.proofs.Common.{ap, ◌∙◌}
use Rattle.monomials.specs.Mono.{times}
use Rattle.poly_text.proofs.VariablePowers.{times_raised}
use Rattle.poly_text.proofs.powers.raised.Goals as goal

pub returns : goal.returns
returns c = c.product.ensures.value ∙ ap (times c.args.mono) c.variable_power.ensures.value ∙ times_raised c.args.mono c.args.v c.args.e c.requires.known.seven c.requires.variable
