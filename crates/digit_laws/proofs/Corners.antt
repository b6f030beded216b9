-- The corners of a curve are one list.
use Rattle.std.proofs.Common.{◌≡◌, List, [], ◌∷◌}
use Rattle.std.specs.List.{Contains}
use Rattle.monomials.specs.Mono.{Monomial, Divides}
use Rattle.polys.specs.declared.term.Term.{Term}
use Rattle.polys.specs.Terms.{IsMonic}
use Rattle.polys.specs.Ideal.{InIdeal}
use Rattle.polys.specs.Curve.{CurveData}
use Rattle.ideal_laws.proofs.Unique.{same_rising}
use Rattle.std.proofs.lemmas.List.Elements.{All-contains}
use Rattle.graded_modules.specs.Vector.{lead_mono}
use Rattle.graded_modules.specs.Module.{IsLeadMultiple}
use Rattle.monomials.proofs.Factors.{divides_trans as divides_chain}
use Rattle.digit_laws.specs.Digits.{AreCornersOf}
use Rattle.digit_laws.specs.Laws.{CornersAreUnique}

module _ (A : CurveData) where
  abbrev In : List Term → Type 0
  In f = InIdeal A.prime A.variables (A.denominator ∷ A.ideal) f

  -- a lead of a member is a multiple of a lead of the basis
  lead_multiple : (ns : List Monomial) → AreCornersOf A ns → (b : List Term) → IsMonic b → In b → (m : Monomial) → (k : AreCornersOf A ns) → Divides (lead_mono b) m → IsLeadMultiple k.basis m
  lead_multiple ns j [] w i m k h = absurd w
  lead_multiple ns j (t ∷ f) w i m k h = let l = k.standard.leads t f i in (l.0, l.1, divides_chain (lead_mono l.0) t.mono m l.2 h)

  moved : (ms ns : List Monomial) (k : AreCornersOf A ms) (j : AreCornersOf A ns) (m : Monomial) → Contains ms m → Contains ns m
  moved ms ns k j m h =
      let s = (k.all.exact m).0 h in
      (j.all.exact m).1 (record {
        affine = s.affine;
        outside = λ l. s.outside (lead_multiple ms k l.0 (All-contains IsMonic j.basis l.0 j.standard.monic l.1) (All-contains In j.basis l.0 j.standard.members l.1) m k l.2);
      })

  pub unique : (ms ns : List Monomial) → AreCornersOf A ms → AreCornersOf A ns → ms ≡ ns
  unique ms ns k j = same_rising ms ns k.rising j.rising (moved ms ns k j) (moved ns ms j k)

pub corners_law : CornersAreUnique
corners_law A c ms ns k j = unique A ms ns k j
