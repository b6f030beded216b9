-- A row of relations gives a polynomial whose product with the idempotent is 0.
use Rattle.std.proofs.Common.{◌∙◌, inl, inr, length, subst, ap, ⊎_elim}
use Rattle.prime_field.specs.Primes.{IsPrime}
use Rattle.frobenius_split.proofs.Relations.{vanishing_law, zero_of}
use Rattle.frobenius_split.proofs.polynomials.vanishing.Goals as goal

pub returns-clause-vanishes : goal.returns-clause-vanishes
returns-clause-vanishes c =
    let A = c.args.a.now in
    let prime = subst IsPrime (c.get-p.ensures.value ∙ c.prime.ensures) c.get-p.ensures.prime in
    let row = c.in_ok-row.row in
    vanishing_law A prime c.one-one.ensures.laws c.args.u.now c.args.e.now c.in_ok-rows.rows c.in_ok-rows.ensures.powers row
    (⊎_elim inl
    (λ w.
    let as_many = w.0.0 ∙ c.in_ok-relations.ensures.shape.1 in
    inr (as_many ∙ ap length c.as_slice.ensures, zero_of _ _ _ _ row _ c.in_ok-rows.rows ((c.in_ok-relations.ensures.members row as_many).0 w.1) c.prime-2.ensures c.dimension.ensures c.as_slice.ensures))
    c.in_ok-row.ensures)
