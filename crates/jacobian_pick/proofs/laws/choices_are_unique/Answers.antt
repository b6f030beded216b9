use Rattle.jacobian_pick.proofs.Uniqueness.{candidates_law, choices_law, first_candidates_law}
use Rattle.jacobian_pick.proofs.laws.choices_are_unique.Goals as goal

pub returns-clause-candidates : goal.returns-clause-candidates
returns-clause-candidates c = candidates_law

pub returns-clause-choices : goal.returns-clause-choices
returns-clause-choices c = choices_law

pub returns-clause-first : goal.returns-clause-first
returns-clause-first c = first_candidates_law
