use Rattle.std.proofs.Common.{◌≡◌, arith, ap, rules}
use Rattle.monomials.specs.Mono.{total_degree}
use Rattle.monomials.proofs.Exponents.{total_degree_le}
use Rattle.monomials.proofs.mono.Mono.divides.Goals.{then-a-b-via-then-a-b, then-a-b-via-else-a-b+then-a-b-2}
use Rattle.monomials.proofs.mono.Mono.divides.Goals as goal

pub returns-then-a-b : goal.returns-then-a-b
returns-then-a-b c =
    let ca : c.a.inside.component ≡ c.args.a.now.component = ap (λ m. m.component) c.a.view_is in
    let cb : c.b.inside.component ≡ c.args.b.now.component = ap (λ m. m.component) c.b.view_is in
    let da : total_degree c.a.inside.exponents ≡ total_degree c.args.a.now.exponents = ap (λ m. total_degree m.exponents) c.a.view_is in
    let db : total_degree c.b.inside.exponents ≡ total_degree c.args.b.now.exponents = ap (λ m. total_degree m.exponents) c.b.view_is in (
      search rules,
      λ d.
          let same = d.same in
          let low = total_degree_le c.args.a.now.exponents c.args.b.now.exponents d.none_greater in
          absurd (elim c.then-a-b.branch [ then-a-b-via-then-a-b w ↦ omega arith | then-a-b-via-else-a-b+then-a-b-2 w ↦ omega arith ]),
    )
