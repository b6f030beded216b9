use Rattle.std.proofs.Common.{IsTrue}
use Rattle.std.proofs.lemmas.Bool.{false≢true}
use Rattle.over_module.proofs.Compared.{same_of_both, left_of_same, right_of_same}
use Rattle.over_module.proofs.over.Over.same.Goals as goal

pub returns-then-not-branch : goal.returns-then-not-branch
returns-then-not-branch c = (
  (λ t. absurd (false≢true t)),
  λ e.
      let h = left_of_same c.args.self.now c.args.other.now c.in_ok-left.left c.in_ok-right.right c.max-power.result c.max-power.result c.in_ok-left.ensures c.in_ok-right.ensures c.requires e in
      let bad : ⊥ = (let t : IsTrue c.in_ok-holds.field-0 = c.in_ok-holds.ensures.1 h in cc) in
      absurd bad,
)

pub returns : goal.returns
returns c =
    let o = c.args.self.now in
    let q = c.args.other.now in
    let l = c.in_ok-left.left in
    let r = c.in_ok-right.right in
    let D = c.max-power.result in
    let yes : IsTrue c.in_ok-holds.field-0 = cc in (
      (λ t. same_of_both o q l r D D c.in_ok-left.ensures c.in_ok-right.ensures c.requires (c.in_ok-holds.ensures.0 yes) (c.in_ok-found.ensures.0 t)),
      λ e. c.in_ok-found.ensures.1 (right_of_same o q l r D D c.in_ok-left.ensures c.in_ok-right.ensures c.requires e),
    )
