-- Rows of products, one after the other.
use Rattle.std.proofs.Common.{◌≡◌, ℕ, ◌+◌, ◌<◌, ◌≤◌, List, [], ◌∷◌, ◌++◌, length, take, get_or, sym, ap, ◌∙◌, subst, arith, ⊎_elim, length-append}
use Rattle.std.proofs.lemmas.Bool.{cases_lt}
use Rattle.std.proofs.lemmas.List.{get_or_append_left, get_or_push, get_or-take, length-take-le}
use Rattle.polys.specs.declared.term.Term.{Term}
use Rattle.polys.specs.Terms.{mul}
use Rattle.polys.specs.Curve.{data_of}
use Rattle.digit_laws.specs.Digits.{AreDigits}
use Rattle.digit_space.specs.Model.{DigitData, value_of}
use Rattle.point_quotient.specs.Quotients.{AreTimes}

module _ (g : DigitData) (T : ℕ) (q : List Term) where
  -- the row has the digits of the product of q and the other row's polynomial
  abbrev IsTimes : List ℕ → List ℕ → Type 0
  IsTimes row made = AreDigits (data_of g.curve) g.basis T (mul g.curve.prime q (value_of g row)) made

  pub times_more : (list made new : List (List ℕ)) (i : ℕ) (front : List ℕ) → i < length list → AreTimes g T q (take i list) made → new ≡ made ++ front ∷ []
      → AreDigits (data_of g.curve) g.basis T (mul g.curve.prime q (value_of g (get_or list i []))) front → AreTimes g T q (take (i + 1) list) new
  times_more list made new i front l t e d =
      let n : length (take i list) ≡ i = length-take-le i list (omega arith) in
      let m : length (take (i + 1) list) ≡ i + 1 = length-take-le (i + 1) list (omega arith) in
      let k : length made ≡ i = t.count ∙ n in
      record {
        count = ap length e ∙ length-append made (front ∷ []) ∙ omega arith;
        each = λ j h. subst (λ r. IsTimes r (get_or new j [])) (sym (get_or-take (i + 1) list j [] (omega arith))) (subst (IsTimes (get_or list j [])) (sym (ap (λ rs. get_or rs j []) e))
            (⊎_elim
            (λ (a : j < i). subst (IsTimes (get_or list j [])) (sym (get_or_append_left made (front ∷ []) [] j (omega arith)))
            (subst (λ r. IsTimes r (get_or made j [])) (get_or-take i list j [] a) (t.each j (omega arith))))
            (λ (a : i ≤ j).
            let same : i ≡ j = omega arith in
            subst (IsTimes (get_or list j [])) (sym (get_or_push made front [] j (omega arith))) (subst (λ z. IsTimes (get_or list z []) front) same d))
            (cases_lt j i)));
      }
