use Rattle.std.proofs.Common.{◌≡◌, ℕ, ◌+◌, ◌-◌, ◌*◌, ◌<◌, ◌≤◌, List, [], ◌∷◌, ◌++◌, length, get_or, vec_capacity, Some, arith, refl, sym, ap, subst, ◌∙◌, length-append}
use Rattle.std.specs.declared.vec.Vec.{Vec}
use Rattle.std.specs.declared.alloc.Global.{Global}
use Rattle.std.proofs.lemmas.List.Elements.{All-pop}
use Rattle.race_table.specs.Views.{back}
use Rattle.race_table.specs.Passes.{view_of, strata_of}
use Rattle.race_table.specs.declared.view.View.{View}
use Rattle.worker_gate.specs.Crews.{IsBlank}
use Rattle.worker_gate.specs.Hired.{MayBegin, HasNumber}
use Rattle.worker_gate.specs.declared.report.Report.{Report}
use Rattle.worker_gate.specs.declared.member.Worker.{Worker}
use Rattle.worker_gate.proofs.Places.{each-push, blank-front, blank-back}
use Rattle.worker_gate.proofs.crew.hire.Goals as goal

pub loop-reports-preserved : goal.loop-reports-preserved
loop-reports-preserved c =
    let old = c.loop-reports.invariant in
    let v = view_of c.loop-reports.pass in
    let table = c.args.table.now in
    let seats = (view_of c.args.pass.now).seats in
    let worker : Worker = record { pass = c.split-own.result; reports = c.in-Some.reports } in
    let items : c.loop-reports.rooms.items ≡ c.pop.new.self.items ++ c.in-Some.reports ∷ [] = c.in-Some.ensures.items in
    let lengths : length c.loop-reports.rooms.items ≡ length c.pop.new.self.items + 1 = ap length items ∙ length-append c.pop.new.self.items (c.in-Some.reports ∷ []) in
    let rooms = All-pop (λ (room : Vec Report Global). (room.items ≡ []) × (2 * strata_of table ≤ vec_capacity room)) c.loop-reports.rooms.items c.pop.new.self.items (Some c.in-Some.reports) items old.rooms in
    let pushed : length c.push_reserved.new.self.items ≡ length c.loop-reports.crew.items + 1 = ap length c.push_reserved.ensures.items ∙ length-append c.loop-reports.crew.items (worker ∷ []) in
    let number : HasNumber seats (length c.loop-reports.crew.items) (back v) = record {
      first = omega (arith, old.first, old.parts, old.all, c.requires.blank.1.1, c.requires.rooms.1);
      parts = refl;
    } in
    let ready : MayBegin table worker = record {
      belongs = c.split-own.ensures.tables.1;
      blank = subst IsBlank (sym c.split-own.ensures.new) (blank-back v);
      empty = rooms.1.0;
      room = rooms.1.1;
    } in
    record {
      table = c.split-own.ensures.tables.0;
      blank = subst IsBlank (sym c.split-own.ensures.rest) (blank-front v old.blank);
      first = ap (λ (u : View). u.first) c.split-own.ensures.rest ∙ old.first;
      parts = ap (λ (u : View). u.parts) c.split-own.ensures.rest ∙ (let e : v.parts - 1 ≡ length c.pop.new.self.items + 1 = omega (arith, old.parts) in e);
      rooms = rooms.0;
      places = omega (arith, old.places, c.push_reserved.ensures.capacity);
      all = omega (arith, old.all);
      hired = subst (λ (xs : List Worker). (k : ℕ) (d : Worker) → k < length xs → MayBegin table (get_or xs k d) × HasNumber seats k (view_of (get_or xs k d).pass)) (sym c.push_reserved.ensures.items)
          (each-push (λ k w. MayBegin table w × HasNumber seats k (view_of w.pass)) c.loop-reports.crew.items worker old.hired
          (ready, subst (HasNumber seats (length c.loop-reports.crew.items)) (sym c.split-own.ensures.new) number));
    }
