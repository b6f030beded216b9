use Rattle.std.proofs.Common.{◌≡◌, ℕ, ◌+◌, ◌-◌, ◌<◌, ◌≤◌, List, [], ◌∷◌, length, get_or, drop, sym, ap, ◌∙◌, subst, arith}
use Rattle.std.specs.declared.cmp.Ordering.TheVariants.{Greater}
use Rattle.std.proofs.lemmas.List.{drop_more, drop_all}
use Rattle.monomials.specs.Mono.{Monomial, unit, cmp_dp}
use Rattle.module_division.specs.Rows.{AreFalling}
use Rattle.module_division.proofs.RowTerms.{falling_more}
use Rattle.module_division.proofs.columns.are_falling.Goals.{else-i-columns-via-then-i-columns+else-not-is_greater, else-i-columns-via-else-i-columns}
use Rattle.module_division.proofs.columns.are_falling.Goals as goal

-- one more monomial at the front: it is the last one of all, or greater than the next one
at_last : (ms : List Monomial) (k : ℕ) → k < length ms → length ms ≤ k + 1 → AreFalling (drop k ms)
at_last ms k l last =
    let q : drop k ms ≡ get_or ms k unit ∷ [] = drop_more ms k unit l ∙ ap (λ x. get_or ms k unit ∷ x) (drop_all (k + 1) ms last) in
    subst AreFalling (sym q) (tt, tt)

at_next : (ms : List Monomial) (k : ℕ) (m w : Monomial) → k + 1 < length ms → m ≡ get_or ms k m → w ≡ get_or ms (k + 1) w → cmp_dp m w ≡ Greater → AreFalling (drop (k + 1) ms) → AreFalling (drop k ms)
at_next ms k m w l em ew g h =
    let a : drop (k + 1) ms ≡ w ∷ drop (k + 1 + 1) ms = drop_more ms (k + 1) w l ∙ ap (λ x. x ∷ drop (k + 1 + 1) ms) (sym ew) in
    let b : drop k ms ≡ m ∷ w ∷ drop (k + 1 + 1) ms = drop_more ms k m (omega arith) ∙ (λ j. sym em j ∷ a j) in
    subst AreFalling (sym b) (falling_more m w (drop (k + 1 + 1) ms) g (subst AreFalling a h))

pub loop-i-preserved : goal.loop-i-preserved
loop-i-preserved c =
    let ms = c.args.columns.now in
    let k = c.loop-i.i - 1 in
    let t = c.loop-i-test.true in
    let e : c.loop-i.i ≡ k + 1 = omega arith in
    let inside = c.loop-i.invariant.inside in
    record {
      inside = omega arith;
      falling = elim c.else-i-columns.branch [
        | else-i-columns-via-then-i-columns+else-not-is_greater w ↦ let l = w.if-i-columns.true in at_next ms k w.index-columns-i.result w.index-columns-i-then-i-columns.result (omega arith) w.index-columns-i.is w.index-columns-i-then-i-columns.is (w.is_greater.ensures w.if-not-is_greater.false) (subst (λ n. AreFalling (drop n ms)) e c.loop-i.invariant.falling)
        | else-i-columns-via-else-i-columns w ↦ let l = w.if-i-columns.false in at_last ms k (omega arith) (omega arith)
      ];
    }
