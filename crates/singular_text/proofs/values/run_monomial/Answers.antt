use Rattle.singular_text.proofs.Runs.{run_all}
use Rattle.singular_text.proofs.values.run_monomial.Goals as goal

pub returns-clause-exact : goal.returns-clause-exact
returns-clause-exact c = run_all c.args.letters.now c.args.word.now c.loop-i.mono c.loop-i.i c.loop-i-test.false c.loop-i.invariant.same
