use Rattle.std.proofs.Common.{◌≡◌, ◌↔◌, ◌-◌, ◌*◌, IsTrue, length, take, ap, ap₂, sym, subst, ◌∙◌}
use Rattle.row_space.specs.Subspace.{FitsIn, IsIn}
use Rattle.over_module.specs.Raising.{behind_zeros}
use Rattle.over_module.proofs.Compared.{contains_is, contains_fits, own_power}
use Rattle.over_module.proofs.over.Over.has.Goals as goal
use Rattle.over_module.proofs.over.Over.has.Goals.{After-as_slice-2}

moved : (c : After-as_slice-2) → c.as_slice-2.result.now ≡ behind_zeros (length c.args.digits.now.basis * (c.args.self.now.power - c.args.k)) (take (length c.args.digits.now.basis * c.args.k) c.in_ok-row.row)
moved c =
    c.as_slice-2.ensures ∙ c.in_ok-moved.ensures
    ∙ ap₂ (λ m n. behind_zeros (m * (n - c.args.k)) (take (m * c.args.k) c.as_slice.result.now)) c.dimension-corners.ensures.corners c.power.ensures
    ∙ ap (λ r. behind_zeros (length c.args.digits.now.basis * (c.args.self.now.power - c.args.k)) (take (length c.args.digits.now.basis * c.args.k) r)) c.as_slice.ensures

pub contains-requires : goal.contains-requires
contains-requires c =
    let o = c.args.self.now in
    let w = (goal.at.contains-requires c).After-as_slice-2 in
    subst (λ s. FitsIn s c.as_slice-2.result.now) (sym c.rows-space.ensures.value)
    (subst (FitsIn o.rows) (sym (moved w))
    (contains_fits o o o.power c.rows-space.ensures.known c.rows-space.ensures.known (own_power o) c.args.digits.now c.basis-basis.ensures.known c.requires.curve
    c.args.f.now.terms c.requires.poly.poly c.args.k c.requires.power c.requires.depth c.in_ok-row.row c.in_ok-row.ensures))

pub returns : goal.returns
returns c =
    let o = c.args.self.now in
    let w = (goal.at.returns c).After-as_slice-2 in
    let both = contains_is o o o.power c.rows-space.ensures.known c.rows-space.ensures.known (own_power o) c.args.digits.now c.basis-basis.ensures.known c.requires.curve
    c.args.f.now.terms c.requires.poly.poly c.args.k c.requires.power c.requires.depth c.in_ok-row.row c.in_ok-row.ensures in
    let row = behind_zeros (length c.args.digits.now.basis * (o.power - c.args.k)) (take (length c.args.digits.now.basis * c.args.k) c.in_ok-row.row) in
    let found : IsTrue c.in_ok-found.found ↔ IsIn o.rows row =
    subst (λ r. IsTrue c.in_ok-found.found ↔ IsIn o.rows r) (moved w)
    (subst (λ s. IsTrue c.in_ok-found.found ↔ IsIn s c.as_slice-2.result.now) c.rows-space.ensures.value c.in_ok-found.ensures) in
    ((λ t. both.0 (found.0 t)), λ r. found.1 (both.1 r))
