use Rattle.std.proofs.Common.{◌≡◌, ◌+◌, ◌-◌, ◌≤◌, ◌⊎◌, inl, inr, ◌++◌, ◌∷◌, length, take, drop, arith, sym, ap, ◌∙◌}
use Rattle.monomials.proofs.Order.{same_dp, turn_up}
use Rattle.polys.proofs.Merge.{Merged, merge_start, merge_left, merge_right, merge_both, merge_none, merge_end, left_at, coeff_at}
use Rattle.module_division.proofs.division.merge_sum.Goals.{then-coeff-ne0+in_ok-push-in-Equal, else-coeff-ne0, then-loop-i-test+else-j-b, else-loop-i-test}
use Rattle.module_division.proofs.division.merge_sum.Goals as goal

pub loop-i-init : goal.loop-i-init
loop-i-init c = record {
  i_in = omega arith;
  j_in = omega arith;
  merged = rw c.clear.ensures.items (merge_start c.args.p c.args.a.now c.args.b.now c.requires.left.canonical c.requires.right.canonical);
}

pub loop-i-preserved-in-Greater : goal.loop-i-preserved-in-Greater
loop-i-preserved-in-Greater c =
    let p = c.args.p in
    let a = c.args.a.now in
    let b = c.args.b.now in
    let s = c.index-a-i.result in
    let u = c.index-b-j.result in
    let i = c.loop-i.i in
    let j = c.loop-i.j in
    let qa : drop i a ≡ s ∷ drop (i + 1) a = left_at a i s (omega arith) c.index-a-i.is in
    let qb : drop j b ≡ u ∷ drop (j + 1) b = left_at b j u (omega arith) c.index-b-j.is in
    record {
      i_in = omega arith;
      j_in = omega arith;
      merged =
          rw c.in_ok-push-in-Greater.ensures.items
          (merge_left p c.loop-i.out.items s (drop (i + 1) a) (drop j b) a b (rw qa at c.loop-i.invariant.merged) (rw qb (sym c.in-Greater.ensures)));
    }

pub loop-i-preserved-in-Less : goal.loop-i-preserved-in-Less
loop-i-preserved-in-Less c =
    let p = c.args.p in
    let a = c.args.a.now in
    let b = c.args.b.now in
    let s = c.index-a-i.result in
    let u = c.index-b-j.result in
    let i = c.loop-i.i in
    let j = c.loop-i.j in
    let qa : drop i a ≡ s ∷ drop (i + 1) a = left_at a i s (omega arith) c.index-a-i.is in
    let qb : drop j b ≡ u ∷ drop (j + 1) b = left_at b j u (omega arith) c.index-b-j.is in
    record {
      i_in = omega arith;
      j_in = omega arith;
      merged =
          rw c.in_ok-push-in-Less.ensures.items
          (merge_right p c.loop-i.out.items u (drop i a) (drop (j + 1) b) a b (rw qb at c.loop-i.invariant.merged) (rw qa (turn_up s.mono u.mono (sym c.in-Less.ensures))));
    }

pub add-coeff-requires-clause-left : goal.add-coeff-requires-clause-left
add-coeff-requires-clause-left c = (coeff_at c.args.p c.args.a.now c.loop-i.i c.index-a-i.result c.requires.left.canonical (omega arith) c.index-a-i.is).1

pub add-coeff-requires-clause-right : goal.add-coeff-requires-clause-right
add-coeff-requires-clause-right c = (coeff_at c.args.p c.args.b.now c.loop-i.j c.index-b-j.result c.requires.right.canonical (omega arith) c.index-b-j.is).1

pub loop-i-preserved : goal.loop-i-preserved
loop-i-preserved c =
    let p = c.args.p in
    let a = c.args.a.now in
    let b = c.args.b.now in
    let s = c.index-a-i.result in
    let u = c.index-b-j.result in
    let i = c.loop-i.i in
    let j = c.loop-i.j in
    let qa : drop i a ≡ s ∷ drop (i + 1) a = left_at a i s (omega arith) c.index-a-i.is in
    let qb : drop j b ≡ u ∷ drop (j + 1) b = left_at b j u (omega arith) c.index-b-j.is in
    let m : Merged p c.loop-i.out.items (s ∷ drop (i + 1) a) (u ∷ drop (j + 1) b) a b = rw (qa, qb) at c.loop-i.invariant.merged in
    let same : s.mono ≡ u.mono = same_dp s.mono u.mono (sym c.in-Equal.ensures) in
    let sum = c.add-coeff.ensures.sum in
    record {
      i_in = omega arith;
      j_in = omega arith;
      merged =
          elim c.if-coeff-ne0.branch [
            | then-coeff-ne0+in_ok-push-in-Equal w ↦
                rw (w.out-is, w.in_ok-push-in-Equal.ensures.items)
                (merge_both p c.loop-i.out.items s u (drop (i + 1) a) (drop (j + 1) b) a b m same c.add-coeff.result sum (let h = w.if-coeff-ne0.true in omega arith))
            | else-coeff-ne0 w ↦
                rw w.out-is
                (merge_none p c.loop-i.out.items s u (drop (i + 1) a) (drop (j + 1) b) a b m same (sym sum ∙ w.if-coeff-ne0.false))
          ];
    }

pub returns : goal.returns
returns c =
    let ends : (length c.args.a.now ≤ c.loop-i.i) ⊎ (length c.args.b.now ≤ c.loop-i.j) =
    elim c.loop-i-test.branch [
      | then-loop-i-test+else-j-b w ↦ inr (omega (arith, w.if-j-b.false))
      | else-loop-i-test w ↦ inl (omega (arith, w.loop-i-test.false))
    ] in
    c.in_ok-extend_from_slice-2.ensures.items ∙ ap (λ x. x ++ take (length c.args.b.now - c.loop-i.j) (drop c.loop-i.j c.args.b.now)) c.in_ok-extend_from_slice.ensures.items
    ∙ merge_end c.args.p c.loop-i.out.items c.args.a.now c.args.b.now c.loop-i.i c.loop-i.j c.loop-i.invariant.merged ends
