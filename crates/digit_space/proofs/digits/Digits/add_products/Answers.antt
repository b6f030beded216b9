use Rattle.std.proofs.Common.{◌≡◌, ◌+◌, ◌-◌, ◌%◌, length, take, drop, get_or, ap, subst, ◌∙◌, arith}
use Rattle.std.proofs.lemmas.List.{take_all, length-drop, length-replicate}
use Rattle.lane_rows.specs.Rows.{AreResidues}
use Rattle.digit_space.specs.Model.{IsDigitSpace, width}
use Rattle.digit_space.specs.Adding.{rows_from, sum_at}
use Rattle.digit_space.proofs.Entries.{last_put}
use Rattle.digit_space.proofs.Added.{BlocksAdded, start, next, finish, room}
use Rattle.digit_space.proofs.digits.Digits.add_products.Goals as goal

-- src/digits.rt:182:9
pub loop-from-init : goal.loop-from-init
loop-from-init c =
    start c.args.self.now (subst IsDigitSpace c.self.view_is c.self.invariant.0) (rows_from c.args.border.now c.args.products.now c.args.first) c.args.row.now c.requires.row c.args.out.now c.requires.out

-- src/digits.rt:182:9
pub loop-from-preserved : goal.loop-from-preserved
loop-from-preserved c =
    let g = c.args.self.now in
    let p = g.curve.prime in
    let s = subst IsDigitSpace c.self.view_is c.self.invariant.0 in
    let f = rows_from c.args.border.now c.args.products.now c.args.first in
    let N = c.len-corners.result in
    let en : N ≡ length g.basis = c.len-corners.ensures ∙ ap (λ z. length z.basis) c.self.view_is in
    let ep : c.deref.result.now.prime ≡ p = ap (λ z. z.prime) (c.deref.ensures ∙ ap (λ z. z.curve) c.self.view_is) in
    let from = c.loop-from.from in
    let to = from - N in
    let out = c.loop-from.out in
    let rest = c.add_block.new.out in
    let old = take (length out - to) (drop to out) in
    let a = take (to + N - to) (drop to c.args.row.now) in
    let lo : length out ≡ width g = c.loop-from.auto.out ∙ ap length c.requires.out ∙ length-replicate (width g) 0 in
    let r = room g s f c.args.row.now c.requires.row from out c.loop-from.invariant c.loop-from-test.true in
    let eo : old ≡ drop to out = take_all (length out - to) (drop to out) (let w = length-drop to out in omega arith) in
    let ea : a ≡ take (length g.basis) (drop to c.args.row.now) = ap (λ n. take n (drop to c.args.row.now)) (let w : to + N - to ≡ length g.basis = omega arith in w) in
    subst (BlocksAdded g f c.args.row.now to) (last_put to (length out - to) out rest (omega arith))
    (next g s f c.args.row.now c.requires.row from to out old rest a lo c.loop-from.invariant c.loop-from-test.true (ap (λ n. from - n) en) eo ea
    (subst (λ q. AreResidues q rest) ep c.add_block.ensures.residues) c.add_block.auto.out
    (λ t j. c.add_block.ensures.entries t j ∙ ap (λ q. (get_or old t 0 + sum_at a f t) % q) ep))

-- src/digits.rt:161:5
pub returns : goal.returns
returns c =
    let g = c.args.self.now in
    let s = subst IsDigitSpace c.self.view_is c.self.invariant.0 in
    let f = rows_from c.args.border.now c.args.products.now c.args.first in
    let lo : length c.loop-from.out ≡ width g = c.loop-from.auto.out ∙ ap length c.requires.out ∙ length-replicate (width g) 0 in
    λ q hq hm. finish g s f c.args.row.now c.requires.row c.loop-from.from c.loop-from.out lo c.loop-from.invariant (let w = c.loop-from-test.false in omega arith) q hq hm
