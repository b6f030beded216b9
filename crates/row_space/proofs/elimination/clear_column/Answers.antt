use Rattle.std.proofs.Common.{◌≡◌, ◌≢◌, ℕ, ◌+◌, ◌-◌, ◌*◌, ◌%◌, ◌<◌, [], length, get_or, arith, ap, sym, ◌∙◌, subst, ⊎_elim}
use Rattle.std.proofs.lemmas.Bool.{cases_eq}
use Rattle.std.proofs.lemmas.List.{get_or_default}
use Rattle.row_space.specs.Echelon.{IsRow}
use Rattle.row_space.proofs.Written.{twice_here, twice_there}
use Rattle.row_space.proofs.elimination.clear_column.Goals as goal

pub loop-i-preserved : goal.loop-i-preserved
loop-i-preserved c =
    let i = c.loop-i.i in
    let inside : i < length c.loop-i.rows = omega arith in
    let here = λ (j : ℕ) (e : j ≡ i). twice_here c.loop-i.rows i j c.replace-old.new.dest c.cleared.result [] inside e in
    let there = λ (j : ℕ) (ne : j ≢ i). twice_there c.loop-i.rows i j c.replace-old.new.dest c.cleared.result [] ne in
    let was : c.replace-old.result ≡ get_or c.args.rows.now i [] =
    c.replace-old.ensures.value ∙ get_or_default c.loop-i.rows i c.index-rows-i.result [] inside ∙ c.loop-i.invariant.kept i (omega arith) in
    record {
      rows = λ j h. ⊎_elim
          (λ (e : j ≡ i). subst (IsRow c.args.p (length c.args.row.now)) (sym (here j e)) c.cleared.ensures.fits)
          (λ (ne : j ≢ i). subst (IsRow c.args.p (length c.args.row.now)) (sym (there j ne)) (c.loop-i.invariant.rows j h))
          (cases_eq j i);
      done = λ j k h l. ⊎_elim
          (λ (e : j ≡ i). ap (λ r. get_or r k 0) (here j e) ∙ c.cleared.ensures.entries k l
          ∙ ap (λ r. (get_or r k 0 + (c.args.p - get_or r c.args.pivot 0) * get_or c.args.row.now k 0) % c.args.p) (was ∙ ap (λ m. get_or c.args.rows.now m []) (sym e)))
          (λ (ne : j ≢ i). ap (λ r. get_or r k 0) (there j ne) ∙ c.loop-i.invariant.done j k (omega arith) l)
          (cases_eq j i);
      kept = λ j h. there j (omega arith) ∙ c.loop-i.invariant.kept j (omega arith);
    }

pub returns : goal.returns
returns c = record {
  rows = λ k d h.
      subst (IsRow c.args.p (length c.args.row.now)) (get_or_default c.loop-i.rows k [] d h) (c.loop-i.invariant.rows k (omega arith));
  entries = λ i k h l. c.loop-i.invariant.done i k (omega arith) l;
}
