use Rattle.std.proofs.Common.{◌∙◌, ◌<◌, ℕ, List, length, get_or, map, All, arith, ap, refl, sym, subst, length-append}
use Rattle.prime_field.specs.Primes.{IsPrime}
use Rattle.row_space.specs.Echelon.{IsRow, entries_at}
use Rattle.frobenius_split.specs.Frames.{ArePlacesOf}
use Rattle.frobenius_map.proofs.Stages.{kernel_members}
use Rattle.frobenius_split.proofs.FrameLaws.{columns_fit, ideal_by_columns}
use Rattle.frobenius_split.proofs.frames.ideal_of.Goals as goal

pub kernel_backward-requires : goal.kernel_backward-requires
kernel_backward-requires c =
    let A = c.args.a.now in
    let qs = c.args.inverse.now in
    let F = c.args.frame.now in
    let places = c.in_ok-places.places in
    let columns = c.as_slice-3.result.now in
    let placed = subst (λ (ns : List ℕ). ArePlacesOf ns (length ns) c.args.k c.in_ok-places.places) c.as_slice.ensures c.in_ok-places.ensures in
    let is = c.as_slice-3.ensures ∙ c.in_ok-values.ensures ∙ ap (λ (ps : List ℕ). map (entries_at ps) c.args.inverse.now) c.as_slice-2.ensures in
    let within = λ (t : ℕ) (l : t < length c.in_ok-places.places).
    let m : get_or c.in_ok-places.places t 0 < length c.args.frame.now.numbers = placed.within t l in
    let h : get_or c.in_ok-places.places t 0 < c.args.a.now.dimension = omega (arith, c.requires.frame.count, length-append c.args.frame.now.rows c.args.nilpotent.now.basis, c.requires.inverse.long) in h in
    subst (λ (q : ℕ). All (IsRow q c.len.result) columns) (sym c.prime-2.ensures) (subst (λ (m : ℕ). All (IsRow A.prime m) columns) (sym c.len.ensures)
    (subst (λ (cs : List (List ℕ)). All (IsRow A.prime (length places)) cs) (sym is) (columns_fit A.prime A.dimension places qs within c.requires.inverse.fits)))

pub returns : goal.returns
returns c =
    let A = c.args.a.now in
    let prime = subst IsPrime (c.get-p.ensures.value ∙ c.prime.ensures) c.get-p.ensures.prime in
    let qs = c.args.inverse.now in
    let F = c.args.frame.now in
    let places = c.in_ok-places.places in
    let columns = c.as_slice-3.result.now in
    let placed = subst (λ (ns : List ℕ). ArePlacesOf ns (length ns) c.args.k c.in_ok-places.places) c.as_slice.ensures c.in_ok-places.ensures in
    let is = c.as_slice-3.ensures ∙ c.in_ok-values.ensures ∙ ap (λ (ps : List ℕ). map (entries_at ps) c.args.inverse.now) c.as_slice-2.ensures in
    let space = c.in_ok-space.space in
    ideal_by_columns A prime c.one-one.ensures.laws c.args.nilpotent.now c.requires.nilpotent c.args.es.now F.rows F.numbers c.requires.es c.requires.frame qs c.requires.inverse c.args.k c.requires.k
    places placed columns is space (c.in_ok-space.ensures.shape.0 ∙ c.prime-2.ensures) c.in_ok-space.ensures.shape.1
    (λ v l. kernel_members space v c.prime-2.result A.prime c.len.result (length places) columns columns c.prime-2.ensures c.len.ensures refl (c.in_ok-space.ensures.members v l))
