use Rattle.std.proofs.Common.{◌∙◌, ◌<◌, ◌+◌, All, length, subst, sym, ap, arith, ⊎_elim}
use Rattle.std.proofs.lemmas.List.Elements.{All-nil, All-push}
use Rattle.prime_field.specs.Primes.{IsPrime}
use Rattle.lane_rows.specs.Rows.{AreResidues}
use Rattle.frobenius_split.specs.Parts.{value}
use Rattle.frobenius_split.proofs.SplitLaws.{Left, Rising, below_more, left_end, left_other, left_root, left_start, rising_push}
use Rattle.frobenius_split.proofs.idempotents.roots_of.Goals as goal

pub loop-c-init : goal.loop-c-init
loop-c-init c =
    let A = c.args.a.now in
    record {
      residues = subst (AreResidues A.prime) (sym c.new-roots.ensures) (All-nil (λ x. x < A.prime));
      below = subst (All (λ x. x < 0)) (sym c.new-roots.ensures) (All-nil (λ x. x < 0));
      rising = λ i j l m. absurd (omega (arith, ap length c.new-roots.ensures, m));
      left = λ prime laws. subst (Left A prime laws c.args.u.now c.args.e.now 0) (sym c.new-roots.ensures) (left_start A prime laws c.args.u.now c.args.e.now c.requires.fixed);
    }

pub loop-c-preserved : goal.loop-c-preserved
loop-c-preserved c =
    let A = c.args.a.now in
    let k = c.loop-c.c in
    let w = c.loop-c.invariant in
    let roots = c.loop-c.roots in
    let small : c.loop-c.c < c.args.a.now.prime = omega (arith, c.loop-c-test.true, c.get-p.ensures.value, c.prime.ensures) in
    let value_is = c.value_at-value.ensures.value ∙ ap (λ q. value q c.args.coefficients.now k) c.prime-in-loop-c.ensures in
    let below : value c.args.a.now.prime c.args.coefficients.now c.loop-c.c < c.args.a.now.prime = subst (λ x. x < A.prime) value_is (subst (λ q. c.value_at-value.result < q) c.prime-in-loop-c.ensures c.value_at-value.ensures.residue) in
    record {
      residues = ⊎_elim (λ h. subst (AreResidues A.prime) (sym h.1) (All-push (λ x. x < A.prime) roots k w.residues small)) (λ h. subst (AreResidues A.prime) (sym h.1) w.residues) c.in_ok-roots.ensures;
      below = ⊎_elim (λ h. subst (All (λ x. x < k + 1)) (sym h.1) (All-push (λ x. x < k + 1) roots k (below_more roots k w.below) (omega arith))) (λ h. subst (All (λ x. x < k + 1)) (sym h.1) (below_more roots k w.below)) c.in_ok-roots.ensures;
      rising = ⊎_elim (λ h. subst Rising (sym h.1) (rising_push roots k w.below w.rising)) (λ h. subst Rising (sym h.1) w.rising) c.in_ok-roots.ensures;
      left = λ prime laws. ⊎_elim
          (λ h. subst (Left A prime laws c.args.u.now c.args.e.now (k + 1)) (sym h.1) (left_root A prime laws c.args.u.now c.args.e.now k roots small (w.left prime laws)))
          (λ h. subst (Left A prime laws c.args.u.now c.args.e.now (k + 1)) (sym h.1) (left_other A prime laws c.args.u.now c.args.e.now k roots c.args.coefficients.now small c.requires.vanishes below (λ z. h.0 (value_is ∙ z)) (w.left prime laws)))
          c.in_ok-roots.ensures;
    }

pub returns-clause-lowered : goal.returns-clause-lowered
returns-clause-lowered c =
    let A = c.args.a.now in
    let prime = subst IsPrime (c.get-p.ensures.value ∙ c.prime.ensures) c.get-p.ensures.prime in
    left_end A prime c.one-one.ensures.laws c.args.u.now c.args.e.now c.loop-c.c c.loop-c.roots (omega (arith, c.loop-c-test.false, c.get-p.ensures.value, c.prime.ensures, c.loop-c.auto.c-end)) (c.loop-c.invariant.left prime c.one-one.ensures.laws)
