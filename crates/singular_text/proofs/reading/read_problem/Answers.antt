use Rattle.std.proofs.Common.{ℕ, List}
use Rattle.problem_form.specs.declared.form.Form.{Form}
use Rattle.problem_form.specs.Tokens.{tokens}
use Rattle.problem_form.specs.Forms.{IsForm}
use Rattle.singular_text.proofs.Outcomes.{answers, no_fault_of_syntax, fit_problem, form_at}
use Rattle.singular_text.proofs.Stating.{read_is_problem}
use Rattle.singular_text.proofs.reading.read_problem.Goals as goal

abbrev IsOwnForm : List ℕ → Form → Type 0
IsOwnForm bytes f = IsForm bytes f.characteristic.now f.letters f.scan (tokens f.text.now)

pub returns-clause-exact : goal.returns-clause-exact
returns-clause-exact c =
    let form = c.in-Some.form in
    let known : IsOwnForm c.args.bytes.now form = form_at c.in_ok-form.field-0 form _ (IsOwnForm c.args.bytes.now) c.in-Some.is c.in_ok-form.ensures.form in
    answers c.args.bytes.now form.characteristic.now form.letters form.scan (tokens form.text.now) c.checked_problem.result known.each c.checked_problem.ensures.exact

pub returns-clause-syntax : goal.returns-clause-syntax
returns-clause-syntax c = no_fault_of_syntax c.args.bytes.now c.checked_problem.result (returns-clause-exact c)

pub returns-clause-fit : goal.returns-clause-fit
returns-clause-fit c =
    let form = c.in-Some.form in
    let known : IsOwnForm c.args.bytes.now form = form_at c.in_ok-form.field-0 form _ (IsOwnForm c.args.bytes.now) c.in-Some.is c.in_ok-form.ensures.form in
    fit_problem c.args.bytes.now c.checked_problem.result known.some (returns-clause-exact c) c.checked_problem.ensures.fit

pub returns-clause-problem : goal.returns-clause-problem
returns-clause-problem c =
    let form = c.in-Some.form in
    let known : IsOwnForm c.args.bytes.now form = form_at c.in_ok-form.field-0 form _ (IsOwnForm c.args.bytes.now) c.in-Some.is c.in_ok-form.ensures.form in
    read_is_problem c.args.bytes.now c.checked_problem.result c.texts_state_problems.ensures known.some (returns-clause-exact c)
