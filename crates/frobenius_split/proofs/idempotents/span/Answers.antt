use Rattle.std.proofs.Common.{◌<◌, ◌∙◌, arith, ap, refl}
use Rattle.row_space.specs.Subspace.{Subspace}
use Rattle.frobenius_split.proofs.Spans.{joined_span}
use Rattle.frobenius_split.proofs.idempotents.span.Goals as goal

pub returns-clause-members : goal.returns-clause-members
returns-clause-members c =
    let A = c.args.a.now in
    let positive : 0 < A.prime = omega (arith, c.get-p.ensures.range, c.get-p.ensures.value, c.prime.ensures) in
    joined_span A positive c.new-space.result c.add_rows.new.self c.args.es.now c.args.es.now (ap (λ (s : Subspace). s.prime) c.new-space.ensures ∙ c.prime-2.ensures) (ap (λ (s : Subspace). s.width) c.new-space.ensures ∙ c.dimension.ensures)
    (ap (λ (s : Subspace). s.basis) c.new-space.ensures) refl c.in_ok-add_rows.ensures
