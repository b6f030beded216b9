use Rattle.singular_text.proofs.Fits.{run_affine, large_run}
use Rattle.singular_text.proofs.evaluation.Ground.run.Goals as goal

pub term_of-requires-clause-affine : goal.term_of-requires-clause-affine
term_of-requires-clause-affine c = run_affine c.as_slice.result.now c.args.self.now.letters c.args.word.now c.in-Some.mono c.as_slice.ensures.value c.requires c.in-Some.ensures.exact

pub returns-in-None-clause-exact : goal.returns-in-None-clause-exact
returns-in-None-clause-exact c =
    large_run c.args.self.now.prime c.as_slice.result.now c.args.self.now.letters c.args.word.now c.front_modulo-coeff.result c.as_slice.ensures.value c.front_modulo-coeff.ensures.exact
    c.front_modulo-coeff.ensures.residue c.if-coeff-eq0.false c.in-None.ensures.exact
