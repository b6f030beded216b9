use Rattle.std.proofs.Common.{◌≡◌, ℕ, ◌+◌, ◌*◌, ◌<◌, List, [], ◌∷◌, ◌++◌, length, get_or, arith, sym, ap, subst, ◌∙◌, length-append}
use Rattle.race_table.specs.Views.{united, was_told, HasAll}
use Rattle.race_table.specs.Passes.{view_of, strata_of}
use Rattle.race_table.specs.declared.view.View.{View}
use Rattle.worker_gate.specs.Crews.{Reported}
use Rattle.worker_gate.specs.Hired.{IsBack, HasNumber}
use Rattle.worker_gate.specs.declared.report.Report.{Report}
use Rattle.worker_gate.specs.declared.member.Worker.{Worker}
use Rattle.worker_gate.proofs.Counted.{reported-united, told-united, raced}
use Rattle.worker_gate.proofs.Places.{each-front, each-last}
use Rattle.worker_gate.proofs.crew.gather.Goals as goal

one_more : (n m : ℕ) → (n + 1) * m ≡ n * m + m
one_more n m = omega arith

pub loop-worker-preserved : goal.loop-worker-preserved
loop-worker-preserved g c =
    let old = c.loop-worker.invariant in
    let v = view_of c.loop-worker.pass in
    let w = view_of c.in-Some.worker.pass in
    let table = c.args.table.now in
    let seats = (view_of c.args.pass.now).seats in
    let stops = g.J.Jobs.may_stop c.args.jobs.now in
    let strange = g.B.BookOf.may_be_strange in
    let xs = c.pop.new.self.items in
    let worker = c.in-Some.worker in
    let items : c.loop-worker.crew.items ≡ xs ++ worker ∷ [] = c.in-Some.ensures.items in
    let lengths : length c.loop-worker.crew.items ≡ length xs + 1 = ap length items ∙ length-append xs (worker ∷ []) in
    let each = subst (λ (l : List Worker). (k : ℕ) (d : Worker) → k < length l → IsBack stops strange table (get_or l k d) × HasNumber seats k (view_of (get_or l k d).pass)) items old.rest in
    let last = each-last (λ k u. IsBack stops strange table u × HasNumber seats k (view_of u.pass)) xs worker each in
    let back = last.0 in
    let number = last.1 in
    let whole : view_of c.unite.new.self ≡ united v w = c.unite.ensures.whole in
    let all = c.loop-worker.all.items in
    let added : c.add_all.new.all.items ≡ all ++ worker.reports.items = c.add_all.ensures.items ∙ ap (λ (l : List Report). all ++ l) c.as_slice.ensures.value in
    let longer : length c.add_all.new.all.items ≡ length all + length worker.reports.items = ap length added ∙ length-append all worker.reports.items in
    let strata : w.strata ≡ v.strata = back.belongs.strata ∙ sym old.table.strata in
    let few = back.few in
    let m = 2 * strata_of table in
    let product : length c.loop-worker.crew.items * m ≡ length xs * m + m = ap (λ n. n * m) lengths ∙ one_more (length xs) m in
    let one = number.parts in
    record {
      table = c.unite.ensures.table;
      first = ap (λ (u : View). u.first) whole ∙ old.first;
      parts = (let e : (united v w).parts + length xs ≡ seats = omega (arith, old.parts) in ap (λ (u : View). u.parts + length xs) whole ∙ e);
      reported = subst (λ (l : List Report). Reported stops strange (view_of c.unite.new.self) l) (sym added)
          (subst (λ (u : View). Reported stops strange u (all ++ worker.reports.items)) (sym whole)
          (reported-united stops strange v w all worker.reports.items strata old.reported back.reported));
      rest = each-front (λ k u. IsBack stops strange table u × HasNumber seats k (view_of u.pass)) xs worker each;
      room = omega (arith, old.room, c.add_all.ensures.capacity);
      fewer = omega (arith, old.fewer);
      known = λ _. (ap was_told whole ∙ told-united v w back.told, c.unite.ensures.knows);
    }

pub returns-clause-raced : goal.returns-clause-raced
returns-clause-raced g c =
    let old = c.loop-worker.invariant in
    let v = view_of c.loop-worker.pass in
    let stops = g.J.Jobs.may_stop c.args.jobs.now in
    let strange = g.B.BookOf.may_be_strange in
    let empty : length c.loop-worker.crew.items ≡ 0 = omega (arith, c.in_default.ensures.cases.0, c.loop-worker.crew.ok) in
    let some_one : 0 < length c.args.crew.items = c.requires.crew.1 in
    let known = old.known (omega arith) in
    let seats : v.seats ≡ (view_of c.args.pass.now).seats = old.table.seats ∙ sym c.requires.table.seats in
    let all : HasAll v = (old.first, (let e : v.parts ≡ (view_of c.args.pass.now).seats = omega (arith, old.parts) in e ∙ sym seats)) in
    raced stops strange v c.loop-worker.all.items all known.0 known.1 old.reported
