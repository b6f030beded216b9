use Rattle.std.proofs.Common.{◌≡◌, ◌*◌, length, take, refl, sym, ap₂, subst}
use Rattle.std.specs.Result.{OnOk}
use Rattle.row_space.specs.Insertion.{IsInsertion}
use Rattle.corner_basis.specs.Tried.{AreTried}
use Rattle.corner_basis.proofs.Tried.{tried_lead, tried_standard}
use Rattle.corner_basis.proofs.staircase.Staircase.put.Goals.{in-Inserted+in_ok-push-in-Inserted+in_ok-push-in-Inserted-2, in-Dependent+in_ok-push-in-Dependent+in_ok-push-in-Dependent-2}
use Rattle.corner_basis.proofs.staircase.Staircase.put.Goals as goal

pub returns-clause-tried : goal.returns-clause-tried
returns-clause-tried c =
    let f = c.args.front.now in
    let old = c.args.self.now in
    let m = c.args.m in
    let row = c.args.row in
    let front = take c.entries.result c.as_slice.result.now in
    let is : take c.entries.result c.as_slice.result.now ≡ take (length f.digits.now.basis * f.blocks) row = ap₂ take c.entries.ensures.value c.as_slice.ensures in
    let s = c.entries.ensures.known in
    let moved = c.in_ok-insert.ensures.ok in
    elim c.match-branch-2.branch [
      | in-Inserted+in_ok-push-in-Inserted+in_ok-push-in-Inserted-2 w ↦
          let i = subst (IsInsertion old.span front c.insert.new.self) w.in-Inserted.is moved in
          subst (λ r. OnOk r (AreTried c.args.front.now c.match-branch-2.self)) (sym w.result-is) (subst (AreTried c.args.front.now) (sym w.self-is)
          (tried_standard f c.requires.front s old c.requires.tried m row front c.requires.new c.requires.row is
          (record { standard = w.push.new.self; standard_rows = w.push-in-Inserted.new.self; leads = old.leads; lead_rows = old.lead_rows; span = c.insert.new.self })
          i.0 i.1 w.rows-rows.ensures.reduced w.in_ok-push-in-Inserted.ensures.ok w.in_ok-push-in-Inserted-2.ensures.ok refl refl))
      | in-Dependent+in_ok-push-in-Dependent+in_ok-push-in-Dependent-2 w ↦
          let i = subst (IsInsertion old.span front c.insert.new.self) w.in-Dependent.is moved in
          subst (λ r. OnOk r (AreTried c.args.front.now c.match-branch-2.self)) (sym w.result-is) (subst (AreTried c.args.front.now) (sym w.self-is)
          (tried_lead f c.requires.front s old c.requires.tried m row front c.requires.new c.requires.row is
          (record { standard = old.standard; standard_rows = old.standard_rows; leads = w.push-in-Dependent.new.self; lead_rows = w.push-in-Dependent-2.new.self; span = c.insert.new.self })
          w.in-Dependent.field-0 i.0 i.1 refl refl w.in_ok-push-in-Dependent.ensures.ok w.in_ok-push-in-Dependent-2.ensures.ok))
    ]
