use Rattle.std.proofs.Common.{◌≡◌, inl, inr, ◌≤◌, get_or, sym, ap, ◌∙◌, subst, arith}
use Rattle.std.proofs.Math.Nat.{eq-or-lt_of_le}
use Rattle.std.proofs.lemmas.List.{get_or_default}
use Rattle.polys.specs.Poly.{Polynomial}
use Rattle.module_basis.specs.Basis.{IsHigh}
use Rattle.module_basis.proofs.Whole.{none_high}
use Rattle.module_basis.proofs.basis.has_high_vector.Goals as goal

pub loop-k-preserved : goal.loop-k-preserved
loop-k-preserved c j d l h =
    let le : j ≤ c.loop-k.k = omega arith in
    elim (eq-or-lt_of_le le) [
      | inl s ↦
          let at : get_or c.args.vectors.now j d ≡ c.index-vectors-k.result =
          ap (λ m. get_or c.args.vectors.now m d) s ∙ get_or_default c.args.vectors.now c.loop-k.k d c.index-vectors-k.result c.loop-k-test.true ∙ sym c.index-vectors-k.is in
          let yes = c.is_high.ensures.1 (subst (λ (f : Polynomial). IsHigh c.args.shift c.args.cap f.terms) at h) in
          let nay = c.if-is_high.false in
          absurd (cc)
      | inr r ↦ c.loop-k.invariant j d r h
    ]

pub returns : goal.returns
returns c = (λ e. absurd (cc), λ h. absurd (none_high c.args.shift c.args.cap c.args.vectors.now (λ k d l. c.loop-k.invariant k d (let t = c.loop-k-test.false in omega arith)) h))
