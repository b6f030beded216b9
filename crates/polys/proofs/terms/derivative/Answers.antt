use Rattle.std.proofs.Common.{◌≡◌, ℕ, ◌<◌, ◌≤◌, ◌%◌, ◌*◌, ◌++◌, List, [], ◌∷◌, length, take, get_or, arith, sym, ap, ◌∙◌, subst}
use native.Mathlib.Nat.{mod-lt}
use Rattle.std.proofs.lemmas.List.{take_all}
use Rattle.monomials.specs.Mono.{IsMono, times}
use Rattle.polys.specs.declared.term.Term.{Term}
use Rattle.polys.specs.Terms.{EachMono}
use Rattle.polys.specs.Poly.{IsVector}
use Rattle.polys.proofs.Derivatives.{derived_list, derived_more, derived_none, derived_is, derived_vector, quotient_is, variable_under, positive_from_rest}
use Rattle.polys.proofs.Each.{every_append}
use Rattle.polys.proofs.Merge.{coeff_at, mono_at}
use Rattle.polys.proofs.Products.{product_below, sevens}
use Rattle.polys.proofs.terms.derivative.Goals.{then-exponent-ne0+in_ok-push, else-exponent-ne0}
use Rattle.polys.proofs.terms.derivative.Goals as goal

pub overflow_mul-t : goal.overflow_mul-t
overflow_mul-t c =
    let m = c.get-modulus.result in
    let e = c.get-modulus.ensures.value in
    let r = c.get-modulus.ensures.range in
    let two = r.0 in
    let low = coeff_at c.args.p c.args.a.now c.loop-t.t-index c.t-item.result c.requires.terms.canonical c.loop-t-test.true c.t-item.is in
    let below = low.1 in
    let rest : c.exponent.result % m < m = mod-lt c.exponent.result (omega arith) in
    let h = product_below m c.t-item.result.coeff (c.exponent.result % m) r.1 (omega arith) rest in
    omega arith

pub quotient-requires-clause-exponents : goal.quotient-requires-clause-exponents
quotient-requires-clause-exponents c =
    let a = c.t-item.result.mono.exponents in
    let pos : 0 < get_or a c.args.v 0 = subst (λ n. 0 < n) c.exponent.ensures (positive_from_rest c.exponent.result c.get-modulus.result c.if-exponent-ne0.true) in
    λ i. subst (λ w. get_or w.exponents i 0 ≤ get_or a i 0) (sym c.var.ensures.value) (variable_under 7 a c.args.v pos i)

pub loop-t-preserved : goal.loop-t-preserved
loop-t-preserved c =
    let m = c.get-modulus.result in
    let v = c.args.v in
    let a = c.args.a.now in
    let i = c.loop-t.t-index in
    let t = c.t-item.result in
    let e = c.get-modulus.ensures.value in
    let low = coeff_at c.args.p a i t c.requires.terms.canonical c.loop-t-test.true c.t-item.is in
    let below = low.1 in
    let mono = mono_at IsMono a i t c.requires.terms.monos c.loop-t-test.true c.t-item.is in
    let x : c.exponent.result ≡ get_or t.mono.exponents v 0 = c.exponent.ensures in
    elim c.if-exponent-ne0.branch [
      | then-exponent-ne0+in_ok-push w ↦
          let ne = w.if-exponent-ne0.true in
          let has : 0 < get_or t.mono.exponents v 0 % m = subst (λ n. 0 < n % m) x (omega arith) in
          let pos : 0 < get_or t.mono.exponents v 0 = subst (λ n. 0 < n) x (positive_from_rest c.exponent.result m ne) in
          let q = quotient_is v t w.quotient.result mono.seven w.quotient.ensures.known.seven (omega arith) pos (ap (times w.quotient.result) (sym w.var.ensures.value) ∙ w.quotient.ensures.value) in
          let one : Term = record { coeff = (t.coeff * (c.exponent.result % m)) % m; mono = w.quotient.result } in
          let pushed : c.if-exponent-ne0.out.items ≡ c.loop-t.out.items ++ one ∷ [] = ap (λ o. o.items) w.out-is ∙ w.in_ok-push.ensures.items in
          record {
            so_far =
                derived_more m v a c.loop-t.out.items c.if-exponent-ne0.out.items i t w.quotient.result c.get-modulus.ensures.prime c.loop-t-test.true c.t-item.is
                c.loop-t.invariant.so_far low.0 (omega arith) has q (pushed ∙ (λ k. c.loop-t.out.items ++ record { coeff = (t.coeff * (x k % m)) % m; mono = w.quotient.result } ∷ []));
            monos = subst (EachMono IsMono) (sym pushed) (every_append IsMono c.loop-t.out.items (one ∷ []) c.loop-t.invariant.monos (w.quotient.ensures.known, tt));
          }
      | else-exponent-ne0 w ↦
          let z : get_or t.mono.exponents v 0 % m ≡ 0 = ap (λ (n : ℕ). n % m) (sym x) ∙ w.if-exponent-ne0.false in
          let same : c.if-exponent-ne0.out.items ≡ c.loop-t.out.items = ap (λ o. o.items) w.out-is in
          record {
            so_far = same ∙ derived_none m v a c.loop-t.out.items i t c.loop-t-test.true c.t-item.is c.loop-t.invariant.so_far z;
            monos = subst (EachMono IsMono) (sym same) c.loop-t.invariant.monos;
          }
    ]

whole : (p m v i : ℕ) (a out : List Term) → m ≡ p → length a ≤ i → out ≡ derived_list m v (take i a) → out ≡ derived_list p v a
whole p m v i a out e h so = so ∙ (λ k. derived_list (e k) v (take_all i a h k))

pub returns-clause-value : goal.returns-clause-value
returns-clause-value c =
    let p = c.args.p in
    let a = c.args.a.now in
    let e = c.get-modulus.ensures.value in
    let r = c.get-modulus.ensures.range in
    let two = r.0 in
    whole p c.get-modulus.result c.args.v c.loop-t.t-index a c.loop-t.out.items e c.loop-t-test.false c.loop-t.invariant.so_far
    ∙ derived_is p c.args.v a (omega arith) (omega arith) c.requires.terms.canonical (sevens a c.requires.terms.monos)

pub returns-clause-known : goal.returns-clause-known
returns-clause-known c =
    let p = c.args.p in
    let a = c.args.a.now in
    let e = c.get-modulus.ensures.value in
    let r = c.get-modulus.ensures.range in
    let two = r.0 in
    let w = whole p c.get-modulus.result c.args.v c.loop-t.t-index a c.loop-t.out.items e c.loop-t-test.false c.loop-t.invariant.so_far in
    subst (IsVector p) (sym w)
    (derived_vector p c.args.v a (omega arith) (omega arith) c.requires.terms.canonical (sevens a c.requires.terms.monos) (subst (EachMono IsMono) w c.loop-t.invariant.monos))
