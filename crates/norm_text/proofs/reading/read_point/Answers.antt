use Rattle.std.proofs.Common.{◌≡◌, ◌≤◌, drop, ap, ◌∙◌, arith}
use Rattle.norm_text.specs.Cutting.{until, behind}
use Rattle.norm_text.specs.Shown.{point_of}
use Rattle.norm_text.proofs.TextCuts.{prime_small, body_list, body_degree, body_delta}
use Rattle.norm_text.proofs.Told.{failed, number_read}
use Rattle.norm_text.proofs.reading.read_point.Goals as goal

pub returns-in_err-basis-clause-exact : goal.returns-in_err-basis-clause-exact
returns-in_err-basis-clause-exact c ground P h text =
    let few = prime_small c.args.prime ground.prime in
    failed c.from_residual.result c.in_err-basis.field-0.0 (λ line. point_of line ≡ P) c.from_residual.ensures
    (c.in_err-basis.ensures.exact ground P.basis h.basis (c.cut.ensures.before ∙ ap (until 59) text ∙ body_list c.args.prime few c.args.letters.now ground.names.each P h))

pub returns-clause-exact : goal.returns-clause-exact
returns-clause-exact c ground P h text =
    let p = c.args.prime in
    let letters = c.args.letters.now in
    let few = prime_small p ground.prime in
    let small : P.degree ≤ 256 = h.sizes.degree in
    let low : P.delta ≤ 64 = h.sizes.delta in
    let rest = c.cut.ensures.behind ∙ ap (behind 59) text in
    let basis = c.in_ok-basis.ensures.exact ground P.basis h.basis (c.cut.ensures.before ∙ ap (until 59) text ∙ body_list p few letters ground.names.each P h) in
    let degree : c.number.result ≡ P.degree =
    number_read c.after.result.now P.degree c.number.result (omega arith)
    (c.after.ensures.value ∙ ap (drop 8) (c.cut-2.ensures.before ∙ ap (until 59) rest) ∙ body_degree p few letters ground.names.each P h) c.number.ensures
    in
    let delta : c.number-2.result ≡ P.delta =
    number_read c.after-2.result.now P.delta c.number-2.result (omega arith)
    (c.after-2.ensures.value ∙ ap (drop 7) (c.cut-2.ensures.behind ∙ ap (behind 59) rest) ∙ body_delta p few letters ground.names.each P h) c.number-2.ensures
    in
    (λ i. record { basis = basis i; degree = degree i; delta = delta i })
