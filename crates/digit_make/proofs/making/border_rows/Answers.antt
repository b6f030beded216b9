use Rattle.std.proofs.Common.{◌≡◌, ℕ, ◌+◌, ◌-◌, ◌<◌, ◌≤◌, ◌++◌, [], List, length, get_or, replicate, sym, ap, ◌∙◌, subst}
use Rattle.std.proofs.lemmas.List.{length_push, get_or_default}
use Rattle.std.proofs.lemmas.List.Elements.{All-get_or}
use Rattle.digit_make.proofs.Made.{rows_push}
use Rattle.digit_make.proofs.making.border_rows.Goals as goal

pub loop-j-preserved : goal.loop-j-preserved
loop-j-preserved c =
    let rows = c.args.rows.now in
    let row = c.in_ok-row.row in
    let ok = c.in_ok-push.ensures.ok in
    let j = c.loop-j.j in
    let read : c.as_slice.result.now ≡ get_or c.args.rows.now c.loop-j.j [] = c.as_slice.ensures ∙ c.index-rows-j.is ∙ get_or_default rows j c.index-rows-j.result [] c.loop-j-test.true in
    let long : length (get_or c.args.rows.now c.loop-j.j []) ≡ c.args.wide = All-get_or (λ r. length r ≡ c.args.wide) rows j [] c.loop-j-test.true c.requires in
    let wide : length c.as_slice.result.now ≡ c.args.wide = ap length read ∙ long in
    let k = rows_push c.args.wide rows c.loop-j.border row j c.loop-j-test.true c.loop-j.invariant.count c.loop-j.invariant.each (
      long,
      subst (λ z. length row ≤ z) wide c.in_ok-row.ensures.short,
      subst (λ z. row ++ replicate (z - length row) 0 ≡ c.as_slice.result.now) wide c.in_ok-row.ensures.zeros ∙ read,
    ) in
    record {
      count = ap length ok ∙ length_push c.loop-j.border row ∙ ap (λ z. z + 1) c.loop-j.invariant.count;
      each = subst (λ z. (i : ℕ) (d : List ℕ) → i < length z → (length (get_or rows i d) ≡ c.args.wide) × (length (get_or z i d) ≤ c.args.wide) × (get_or z i d ++ replicate (c.args.wide - length (get_or z i d)) 0 ≡ get_or rows i d)) (sym ok) k;
    }
