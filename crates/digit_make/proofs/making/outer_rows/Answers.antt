use Rattle.std.proofs.Common.{◌≡◌, ℕ, ◌+◌, ◌<◌, List, length, get_or, sym, ap, ◌∙◌, subst, arith}
use Rattle.std.proofs.lemmas.List.{length_push, get_or_default}
use Rattle.std.proofs.lemmas.List.Elements.{All-get_or}
use Rattle.monomials.specs.Mono.{unit}
use Rattle.digit_space.specs.declared.products.OuterRow.{OuterRow}
use Rattle.digit_plan.proofs.Found.{each_push}
use Rattle.digit_make.proofs.making.outer_rows.Goals as goal

pub loop-j-preserved : goal.loop-j-preserved
loop-j-preserved c =
    let monomials = c.args.monomials.now in
    let rows = c.args.rows.now in
    let made = c.in_ok-made.made in
    let ok = c.in_ok-push.ensures.ok in
    let j = c.loop-j.j in
    let inside : c.loop-j.j < length c.args.rows.now = (let w = c.requires.count in omega (arith, c.loop-j-test.true)) in
    let P : ℕ → OuterRow → Type 0 = λ k r. (e : List ℕ) → (r.monomial ≡ get_or monomials k unit) × (r.digits ≡ get_or rows k e) × (length (get_or rows k e) ≡ c.args.wide) in
    let row_is : (e : List ℕ) → c.as_slice.result.now ≡ get_or c.args.rows.now c.loop-j.j e = λ e. c.as_slice.ensures ∙ c.index-rows-j.is ∙ get_or_default rows j c.index-rows-j.result e inside in
    let here : P (length c.loop-j.outer) c.in_ok-made.made = subst (λ z. P z made) (sym c.loop-j.invariant.count) (λ e. (
      c.in_ok-made.ensures.monomial ∙ c.index-monomials-j.is ∙ get_or_default monomials j c.index-monomials-j.result unit c.loop-j-test.true,
      c.in_ok-made.ensures.digits ∙ row_is e,
      All-get_or (λ r. length r ≡ c.args.wide) rows j e inside c.requires.long,
    )) in
    let all = subst (λ z. (k : ℕ) (d : OuterRow) → k < length z → P k (get_or z k d)) (sym ok) (each_push P c.loop-j.outer made (λ k d l e. c.loop-j.invariant.each k d e l) here) in
    record { count = ap length ok ∙ length_push c.loop-j.outer made ∙ ap (λ z. z + 1) c.loop-j.invariant.count; each = λ k d e l. all k d l e }
