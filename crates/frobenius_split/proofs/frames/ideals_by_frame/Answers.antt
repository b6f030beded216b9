use Rattle.std.proofs.Common.{◌∙◌, ◌++◌, ℕ, List, All, ap₂, sym, subst}
use Rattle.std.proofs.lemmas.List.Elements.{All-append}
use Rattle.row_space.specs.Echelon.{IsRow}
use Rattle.frobenius_split.proofs.frames.ideals_by_frame.Goals as goal

pub inverse_of-requires : goal.inverse_of-requires
inverse_of-requires c = record {
  rows =
      let A = c.args.a.now in
      let nil = c.args.nilpotent.now in
      let F = c.in_ok-frame.frame in
      let is = c.as_slice-2.ensures ∙ c.in_ok-rows.ensures ∙ ap₂ ◌++◌ c.as_slice.ensures c.rows.ensures.basis in
      let others = subst (λ (w : ℕ). All (IsRow A.prime w) nil.basis) c.requires.nilpotent.width (subst (λ (q : ℕ). All (IsRow q nil.width) nil.basis) c.requires.nilpotent.prime c.rows.ensures.reduced.1.rows) in
      subst (λ (q : ℕ). All (IsRow q c.dimension.result) c.as_slice-2.result.now) (sym c.prime-2.ensures) (subst (λ (n : ℕ). All (IsRow A.prime n) c.as_slice-2.result.now) (sym c.dimension.ensures)
      (subst (λ (rs : List (List ℕ)). All (IsRow A.prime A.dimension) rs) (sym is) (All-append (IsRow A.prime A.dimension) F.rows nil.basis c.in_ok-frame.ensures.rows others)));
}
