use Rattle.std.proofs.Common.{◌≡◌, ◌<◌, ◌≤◌, ◌∷◌, [], length, get_or, arith, ap, sym, subst, ◌∙◌, ⊎_elim, length-append}
use Rattle.std.proofs.lemmas.Bool.{cases_lt}
use Rattle.std.proofs.lemmas.List.{get_or_append_left, get_or_push}
use Rattle.std.proofs.lemmas.List.Elements.{All-from_get_or}
use Rattle.finite_algebra.specs.Elements.{IsElement}
use Rattle.frobenius_map.specs.Powers.{IsPowerOfUnit}
use Rattle.frobenius_map.proofs.graph.powers.Goals as goal

pub loop-k-preserved : goal.loop-k-preserved
loop-k-preserved c =
    let pushed = c.in_ok-push.ensures.ok in
    let k = c.loop-k.k in
    let S = c.args.a.now in
    record {
      graph = c.in_ok-row.ensures.graph;
      long = ap length pushed ∙ omega (arith, length-append c.loop-k.rows (c.in_ok-row.row ∷ []), c.loop-k.invariant.long);
      powers = λ j h. subst (IsPowerOfUnit S j) (sym (ap (λ rs. get_or rs j []) pushed)) (⊎_elim
          (λ (a : j < k). subst (IsPowerOfUnit S j) (sym (get_or_append_left c.loop-k.rows (c.in_ok-row.row ∷ []) [] j (omega (arith, c.loop-k.invariant.long)))) (c.loop-k.invariant.powers j a))
          (λ (a : k ≤ j). let same : k ≡ j = omega arith in
          subst (IsPowerOfUnit S j) (sym (get_or_push c.loop-k.rows c.in_ok-row.row [] j (omega (arith, c.loop-k.invariant.long)))) (subst (λ m. IsPowerOfUnit S m c.in_ok-row.row) same c.in_ok-row.ensures.power))
          (cases_lt j k));
    }

pub returns : goal.returns
returns c =
    let S = c.args.a.now in
    let end : c.loop-k.k ≡ S.dimension = omega (arith, c.dimension-k-end.ensures) in
    record {
      count = c.loop-k.invariant.long ∙ end;
      rows = All-from_get_or (IsElement S) c.loop-k.rows [] (λ j l. (c.loop-k.invariant.powers j (omega (arith, c.loop-k.invariant.long))).fits);
      powers = λ j l. (c.loop-k.invariant.powers j (omega arith)).power;
    }
