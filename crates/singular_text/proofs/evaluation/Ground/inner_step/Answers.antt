use Rattle.std.proofs.Common.{◌∙◌, sym}
use Rattle.problem_form.proofs.Classes.{class_variable, class_run}
use Rattle.singular_text.proofs.evaluation.Ground.inner_step.Goals as goal

pub variable-requires : goal.variable-requires
variable-requires c = class_variable c.args.self.now.letters c.args.token.now (sym c.in-Variable.is ∙ c.requires.class)

pub run-requires : goal.run-requires
run-requires c = class_run c.args.self.now.letters c.args.token.now (sym c.in-Run.is ∙ c.requires.class)
