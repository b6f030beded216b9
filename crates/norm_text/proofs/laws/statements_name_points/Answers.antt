-- Statements on the cusp.
use Rattle.norm_text.proofs.NamedExamples.{names, passes_by}
use Rattle.norm_text.proofs.laws.statements_name_points.Goals as goal

pub returns-clause-names : goal.returns-clause-names
returns-clause-names c = names

pub returns-clause-passes_by : goal.returns-clause-passes_by
returns-clause-passes_by c = passes_by
