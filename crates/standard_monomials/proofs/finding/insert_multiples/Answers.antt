use Rattle.std.proofs.Common.{◌≡◌, ◌+◌, arith, refl, sym, ap, ◌∙◌, subst}
use Rattle.monomials.specs.Mono.{Monomial, times, variable}
use Rattle.graded_modules.specs.Module.{IsLeadMultiple}
use Rattle.standard_monomials.specs.Finding.{terms_of, GainsMonomial, GainsMultiples}
use Rattle.standard_monomials.proofs.Steps.{skip, more}
use Rattle.standard_monomials.proofs.finding.insert_multiples.Goals.{then-not-is_lead_multiple+in_ok-insert, else-not-is_lead_multiple}
use Rattle.standard_monomials.proofs.finding.insert_multiples.Goals as goal

pub loop-v-preserved : goal.loop-v-preserved
loop-v-preserved c =
    let ds = terms_of c.args.basis.now in
    let m = c.args.m in
    let v = c.loop-v.v in
    let old = c.args.found.now.items in
    let mid = c.loop-v.found.items in
    let next_is : c.product-next.result ≡ times m (variable v) = c.product-next.ensures.value ∙ ap (times m) c.var.ensures.value in
    elim c.if-not-is_lead_multiple.branch [
      | then-not-is_lead_multiple+in_ok-insert w ↦
          let outside : IsLeadMultiple ds (times m (variable v)) → ⊥ = λ h. (let q = w.if-not-is_lead_multiple.ensures.1 (subst (IsLeadMultiple ds) (sym next_is) h) in absurd (grind arith)) in
          subst (λ (f : _). GainsMultiples ds (v + 1) m old f.items) (sym w.found-is)
          (more ds m v old mid w.insert.new.found.items c.requires.seven (omega arith) c.loop-v.invariant outside
          (subst (λ (x : Monomial). GainsMonomial x mid w.insert.new.found.items) next_is w.in_ok-insert.ensures.gains))
      | else-not-is_lead_multiple w ↦
          subst (λ (f : _). GainsMultiples ds (v + 1) m old f.items) (sym w.found-is)
          (skip ds m v old mid c.loop-v.invariant (subst (IsLeadMultiple ds) next_is (w.if-not-is_lead_multiple.ensures.0 refl)))
    ]
