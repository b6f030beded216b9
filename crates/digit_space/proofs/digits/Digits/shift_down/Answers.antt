use Rattle.std.proofs.Common.{◌≡◌, ℕ, ◌-◌, ◌<◌, List, ◌++◌, length, take, drop, replicate, ap, sym, subst, ◌∙◌, arith}
use Rattle.std.proofs.lemmas.List.{length-take, length-drop}
use borrow.Rule.Slice.PartMut.{put_mid}
use Rattle.digit_space.specs.Model.{IsDigitSpace, IsDigitRow, width}
use Rattle.digit_space.proofs.Entries.{last_put}
use Rattle.digit_space.proofs.Shifts.{moved_down, no_depth, copied_down, block_fits, down_fits}
use Rattle.digit_space.proofs.digits.Digits.shift_down.Goals as goal

-- src/digits.rt:192:5
pub returns-then-self-gt0-clause-quotient : goal.returns-then-self-gt0-clause-quotient
returns-then-self-gt0-clause-quotient c =
    let g = c.args.self.now in
    let s = subst IsDigitSpace c.self.view_is c.self.invariant.0 in
    let row = c.args.row.now in
    let new : List ℕ = put_mid (length row - c.len-corners.result) (length c.copy_within.new.self - (length row - c.len-corners.result)) c.copy_within.new.self c.fill.new.self in
    let en : c.len-corners.result ≡ length g.basis = c.len-corners.ensures ∙ ap (λ z. length z.basis) c.self.view_is in
    let deep : 0 < g.depth = subst (λ z. 0 < z.depth) c.self.view_is c.if-self-gt0.true in
    let room = block_fits g row c.requires.row deep in
    let lr : length row ≡ width g = c.requires.row.0 in
    let n = c.len-corners.result in
    let kept = length row - n in
    let copied = c.copy_within.new.self in
    let part : take kept copied ≡ drop n row = copied_down n kept row copied c.copy_within.ensures.len (omega arith) c.copy_within.ensures.by_index.0 in
    let long : length (take (length copied - kept) (drop kept copied)) ≡ n = (let t = length-take (length copied - kept) (drop kept copied) in let q = length-drop kept copied in let l = c.copy_within.ensures.len in omega arith) in
    let zeros : c.fill.new.self ≡ replicate n 0 = c.fill.ensures.after (λ y q. q) ∙ ap (λ k. replicate k 0) long in
    let e : new ≡ drop (length g.basis) row ++ replicate (length g.basis) 0 =
    sym (last_put kept (length copied - kept) copied c.fill.new.self (omega arith))
    ∙ ap (λ z. z ++ c.fill.new.self) part ∙ ap (λ z. drop n row ++ z) zeros ∙ ap (λ k. drop k row ++ replicate k 0) en in
    let fits : IsDigitRow g new = subst (IsDigitRow g) (sym e) (down_fits g s row c.requires.row deep) in
    moved_down g s row new c.requires.row c.requires.first deep e fits

-- src/digits.rt:192:5
pub returns-else-self-gt0-clause-quotient : goal.returns-else-self-gt0-clause-quotient
returns-else-self-gt0-clause-quotient c =
    let g = c.args.self.now in
    let s = subst IsDigitSpace c.self.view_is c.self.invariant.0 in
    let none : g.depth ≡ 0 = sym (ap (λ z. z.depth) c.self.view_is) ∙ (let w = c.if-self-gt0.false in omega arith) in
    no_depth g s c.args.row.now c.args.row.now none c.requires.row.0
