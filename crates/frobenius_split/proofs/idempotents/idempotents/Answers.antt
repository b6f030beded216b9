use Rattle.std.proofs.Common.{◌≡◌, ◌∙◌, ◌<◌, ◌+◌, [], ℕ, List, All, get_or, arith, subst, sym}
use native.Mathlib.Decide.{ℕ_discrete}
use Rattle.std.proofs.lemmas.List.{get_or_default}
use Rattle.prime_field.specs.Primes.{IsPrime}
use Rattle.prime_field.proofs.Table.{positive_of_prime}
use Rattle.comm_ring.specs.Modules.{InSpan}
use Rattle.comm_ring.proofs.Modules as Modules
use Rattle.comm_ring.proofs.Residues.{residues}
use Rattle.finite_algebra.specs.Elements.{elements}
use Rattle.finite_algebra.proofs.Products.{module_of}
use Rattle.frobenius_split.specs.Idempotents.{IsFixed, IsNumberAt}
use Rattle.frobenius_split.proofs.idempotents.idempotents.Goals as goal

pub loop-k-init : goal.loop-k-init
loop-k-init c = record {
  whole = c.in_ok-es.ensures;
  prime = c.in_ok-whole.ensures.shape.0;
  width = c.in_ok-whole.ensures.shape.1;
  members = λ f h. subst (λ (us : List (List ℕ)). InSpan (elements c.args.a.now) us f) c.as_slice.ensures (c.in_ok-whole.ensures.members f h);
  numbers = λ j l. absurd (omega arith);
}

pub split_outside-requires-clause-fixed : goal.split_outside-requires-clause-fixed
split_outside-requires-clause-fixed c =
    let A = c.args.a.now in
    let prime = subst IsPrime (c.get-p.ensures.value ∙ c.prime.ensures) c.get-p.ensures.prime in
    let positive = positive_of_prime A.prime prime in
    let k = c.loop-k.k in
    let us = c.args.us.now in
    let row_is = c.as_slice-in-loop-k.ensures ∙ c.index-us-k.is ∙ get_or_default c.args.us.now c.loop-k.k c.index-us-k.result [] c.loop-k-test.true in
    subst (IsFixed A) (sym row_is) ((c.requires.fixed.fixed (get_or us k []) (c.requires.fixed.rows k [] c.loop-k-test.true)).0 (Modules.span_self (residues A.prime positive) (module_of A positive) us k [] c.loop-k-test.true))

pub loop-k-preserved : goal.loop-k-preserved
loop-k-preserved c =
    let A = c.args.a.now in
    let k = c.loop-k.k in
    let us = c.args.us.now in
    let row_is = c.as_slice-in-loop-k.ensures ∙ c.index-us-k.is ∙ get_or_default c.args.us.now c.loop-k.k c.index-us-k.result [] c.loop-k-test.true in
    record {
      whole = c.in_ok-parts.ensures.parts;
      prime = c.in_ok-parts.ensures.shape.0;
      width = c.in_ok-parts.ensures.shape.1;
      members = c.in_ok-parts.ensures.members;
      numbers = λ j l. go c j l (ℕ_discrete j k);
    }
  where
    go : (c : goal.In_ok-parts) → (j : ℕ) → j < c.loop-k.k + 1 → Dec (j ≡ c.loop-k.k) → All (IsNumberAt c.args.a.now (get_or c.args.us.now j [])) c.in_ok-parts.parts
    go c j l (yes e) = subst (λ i. All (IsNumberAt c.args.a.now (get_or c.args.us.now i [])) c.in_ok-parts.parts) (sym e)
        (subst (λ (u : List ℕ). All (IsNumberAt c.args.a.now u) c.in_ok-parts.parts) (c.as_slice-in-loop-k.ensures ∙ c.index-us-k.is ∙ get_or_default c.args.us.now c.loop-k.k c.index-us-k.result [] c.loop-k-test.true) c.in_ok-parts.ensures.numbers)
    go c j l (no n) = c.in_ok-parts.ensures.keeps (get_or c.args.us.now j []) (c.loop-k.invariant.numbers j (omega arith))
