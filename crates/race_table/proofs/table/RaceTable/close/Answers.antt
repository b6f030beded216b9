use Rattle.std.proofs.Common.{rules, ◌≡◌, ℕ, List, ◌+◌, ◌<◌, ◌≤◌, length, slice_index, drop, arith, sym, ap, ◌∙◌}
use Rattle.std.specs.Mem.Slots.{slots_items}
use Rattle.race_table.proofs.Whole.{closed, word_bound, at_index, filled}
use Rattle.race_table.proofs.table.RaceTable.close.Goals as goal

pub overflow_cast-winners : goal.overflow_cast-winners
overflow_cast-winners c =
    let key = c.args.self.table.shared.key in
    let final = c.close_with-closed.ensures.values.2 in
    let within : c.loop-i.i < key.strata = omega (arith, c.requires.room) in
    let bound : slice_index final.0.words (c.loop-i.i + 1) ≤ key.seats = word_bound key.strata key.seats final.0.words final.0.views final.1.0 c.loop-i.i within in
    let same : slice_index final.0.words (c.loop-i.i + 1) ≡ c.word.result =
    ap (λ (l : List ℕ). slice_index l (c.loop-i.i + 1)) final.2 ∙ at_index (slots_items c.close_with-closed.result.words) (c.loop-i.i + 1) c.word.result c.word.ensures in
    let small : c.word.result ≤ 17 = omega (arith, c.args.self.few) in
    search rules

pub returns : goal.returns
returns c =
    let key = c.args.self.table.shared.key in
    let v = c.args.pass.seat.me.0 in
    let final = c.close_with-closed.ensures.values.2 in
    let s = final.0 in
    let part : 0 < v.parts = omega (arith, c.args.pass.size) in
    let total : slice_index s.words 0 ≡ c.word-total.result =
    ap (λ (l : List ℕ). slice_index l 0) final.2 ∙ at_index (slots_items c.close_with-closed.result.words) 0 c.word-total.result c.word-total.ensures in
    let wide : length (slots_items c.close_with-closed.result.words) ≡ key.strata + 1 = ap length (sym final.2) ∙ final.1.0.wide in
    let room : length c.loop-i.winners ≡ key.strata = c.loop-i.auto.winners ∙ c.requires.room in
    let words : drop 1 s.words ≡ c.loop-i.winners =
    ap (drop 1) final.2 ∙ filled (slots_items c.close_with-closed.result.words) c.loop-i.winners key.strata wide room (λ k below. c.loop-i.invariant k (omega (arith, c.requires.room))) in
    rw (← total, ← words) (closed key.strata key.seats s.words s.views final.1.0 c.args.pass.seat.id v final.1.1 part c.requires.all)
