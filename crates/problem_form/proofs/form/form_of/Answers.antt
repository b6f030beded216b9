use Rattle.std.proofs.Common.{ℕ, List, ap, ◌∙◌, sym}
use Rattle.problem_form.specs.declared.ring.Ring.{Ring}
use Rattle.problem_form.specs.Tokens.{tokens}
use Rattle.problem_form.specs.Reading.{ring_at}
use Rattle.problem_form.specs.Forms.{statements_at}
use Rattle.problem_form.proofs.Wholes.{gives_none, gives_some, no_ring, no_letters, no_statements, ring_letters, is_form, not_distinct, are_distinct}
use Rattle.problem_form.proofs.form.form_of.Goals as goal

pub returns-in_default-clause-form : goal.returns-in_default-clause-form
returns-in_default-clause-form c =
    no_ring c.args.bytes.now (gives_none (λ (r : Ring). (r.characteristic.now, r.letters, tokens r.rest.now)) c.in_ok-ring.field-0 (ring_at (tokens c.args.bytes.now)) c.in_default.is c.in_ok-ring.ensures)

pub returns-then-not-are_distinct_letters-clause-form : goal.returns-then-not-are_distinct_letters-clause-form
returns-then-not-are_distinct_letters-clause-form c =
    let ring = c.in-Some.ring in
    no_letters c.args.bytes.now ring.characteristic.now ring.letters (tokens ring.rest.now)
    (gives_some (λ (r : Ring). (r.characteristic.now, r.letters, tokens r.rest.now)) c.in_ok-ring.field-0 ring (ring_at (tokens c.args.bytes.now)) c.in-Some.is c.in_ok-ring.ensures)
    (not_distinct ring.letters c.as_slice.result.now c.are_distinct_letters.result c.as_slice.ensures c.if-not-are_distinct_letters.true c.are_distinct_letters.ensures.1)

pub returns-in_default-statements-clause-form : goal.returns-in_default-statements-clause-form
returns-in_default-statements-clause-form c =
    let ring = c.in-Some.ring in
    no_statements c.args.bytes.now ring.characteristic.now ring.letters (tokens ring.rest.now)
    (gives_some (λ (r : Ring). (r.characteristic.now, r.letters, tokens r.rest.now)) c.in_ok-ring.field-0 ring (ring_at (tokens c.args.bytes.now)) c.in-Some.is c.in_ok-ring.ensures)
    (ap (λ (l : List ℕ). statements_at l (tokens ring.rest.now)) (sym c.as_slice-2.ensures) ∙ c.in_default-statements.ensures)

pub returns-clause-form : goal.returns-clause-form
returns-clause-form c =
    let ring = c.in-Some.ring in
    is_form c.args.bytes.now ring.characteristic.now ring.letters (tokens ring.rest.now)
    (gives_some (λ (r : Ring). (r.characteristic.now, r.letters, tokens r.rest.now)) c.in_ok-ring.field-0 ring (ring_at (tokens c.args.bytes.now)) c.in-Some.is c.in_ok-ring.ensures)
    (tokens c.in-Some-statements.text.now) c.in-Some-statements.scan
    (are_distinct ring.letters c.as_slice.result.now c.are_distinct_letters.result c.as_slice.ensures c.if-not-are_distinct_letters.false c.are_distinct_letters.ensures.0)
    (ap (λ (l : List ℕ). statements_at l (tokens ring.rest.now)) (sym c.as_slice-2.ensures) ∙ c.in-Some-statements.ensures)

pub returns-clause-letters : goal.returns-clause-letters
returns-clause-letters c =
    let ring = c.in-Some.ring in
    ring_letters c.args.bytes.now ring.characteristic.now ring.letters (tokens ring.rest.now)
    (gives_some (λ (r : Ring). (r.characteristic.now, r.letters, tokens r.rest.now)) c.in_ok-ring.field-0 ring (ring_at (tokens c.args.bytes.now)) c.in-Some.is c.in_ok-ring.ensures)
    (are_distinct ring.letters c.as_slice.result.now c.are_distinct_letters.result c.as_slice.ensures c.if-not-are_distinct_letters.false c.are_distinct_letters.ensures.0)
