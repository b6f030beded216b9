use Rattle.std.proofs.Common.{◌≡◌, ℕ, ◌≤◌, ◌<◌, List, take, All, sym, subst, arith}
use Rattle.row_space.specs.Echelon.{IsRow}
use Rattle.row_space.specs.Subspace.{Subspace, FitsIn}
use Rattle.point_quotient.specs.Quotients.{AreGenerators, HasFronts}
use Rattle.over_module.specs.Raising.{IsSpannedBy}
use Rattle.comm_ring.specs.Modules.{InSpan}
use Rattle.comm_ring.specs.Rows.{rows as rows_of}
use Rattle.point_quotient.proofs.FrontRows as Fronts
use Rattle.point_quotient.proofs.fronts.with_fronts.Goals as goal

made : (low : Subspace) (m w : ℕ) → m ≤ w → 2 ≤ low.prime → low.width ≡ m → All (FitsIn low) low.basis → (rows : List (List ℕ)) → AreGenerators m w low.basis rows
    → (space : Subspace) → IsSpannedBy low.prime w rows space → HasFronts w m low space
made low m w short two width fit rows g space s = record {
  prime = s.prime;
  width = s.width;
  reduced = s.reduced;
  members = λ row h. (
    λ i. subst (λ n. InSpan (rows_of low.prime n) low.basis (take m row)) (sym width) (Fronts.into low.prime positive m w short low.basis fits rows g row ((s.members row).0 i)),
    λ i. (s.members row).1 (Fronts.out low.prime positive m w short low.basis fits rows g row (subst (λ n. InSpan (rows_of low.prime n) low.basis (take m row)) width i)),
  );
}
  where
    positive : 0 < low.prime
    positive = omega arith

    fits : All (IsRow low.prime m) low.basis
    fits = subst (λ n. All (IsRow low.prime n) low.basis) width fit

fitting : (low : Subspace) (m : ℕ) → low.width ≡ m → All (FitsIn low) low.basis → All (IsRow low.prime m) low.basis
fitting low m width fit = subst (λ n. All (IsRow low.prime n) low.basis) width fit

pub spanned-requires : goal.spanned-requires
spanned-requires c =
    let low = c.args.low.now in
    let m = c.args.first in
    let w = c.args.width in
    let two = c.requires.two in
    let g : AreGenerators m w low.basis c.in_ok-rows.rows = subst (λ b. AreGenerators m w b c.in_ok-rows.rows) c.rows-basis.ensures.basis c.in_ok-rows.ensures in
    subst (λ z. All (IsRow z w) c.as_slice.result.now) (sym c.prime.ensures)
    (subst (All (IsRow low.prime w)) (sym c.as_slice.ensures)
    (Fronts.generators_fit low.prime (omega arith) m w c.requires.places two low.basis (fitting low m c.requires.low c.requires.rows) c.in_ok-rows.rows g))

pub returns : goal.returns
returns c =
    let low = c.args.low.now in
    let m = c.args.first in
    let w = c.args.width in
    let two = c.requires.two in
    let g : AreGenerators m w low.basis c.in_ok-rows.rows = subst (λ b. AreGenerators m w b c.in_ok-rows.rows) c.rows-basis.ensures.basis c.in_ok-rows.ensures in
    let s : IsSpannedBy low.prime w c.in_ok-rows.rows c.in_ok-space.space =
    subst (λ z. IsSpannedBy z w c.in_ok-rows.rows c.in_ok-space.space) c.prime.ensures (subst (λ z. IsSpannedBy c.prime.result w z c.in_ok-space.space) c.as_slice.ensures c.in_ok-space.ensures) in
    made low m w c.requires.places two c.requires.low c.requires.rows c.in_ok-rows.rows g c.in_ok-space.space s
