use Rattle.std.proofs.Common.{◌≡◌, ℕ, ◌+◌, ◌*◌, ◌/◌, ◌%◌, ◌<◌, ◌≤◌, nat_lt, List, [], ◌∷◌, ◌++◌, length, arith, sym, ap, subst, ◌∙◌}
use Rattle.std.proofs.lemmas.List.{length-map, length-append}
use Rattle.race_table.specs.Views.{with_ticket, times_ticket}
use Rattle.race_table.specs.Passes.{view_of, strata_of}
use Rattle.race_table.specs.declared.view.View.{View}
use Rattle.worker_gate.specs.Ends.{EndsSo, drawn_pair}
use Rattle.worker_gate.specs.Crews.{Worked, Reported}
use Rattle.worker_gate.specs.declared.report.Report.{Report}
use Rattle.worker_gate.proofs.Counted.{few_tickets, once-push, below-push, goes, told-at_last}
use Rattle.worker_gate.proofs.worker.work.Goals as goal

pub returns-in-Spent-clause-worked : goal.returns-in-Spent-clause-worked
returns-in-Spent-clause-worked g c =
    let old = c.loop.invariant in
    let v = view_of c.loop.pass in
    let start = view_of c.args.pass.now in
    let sizes : v.strata ≡ start.strata = old.table.strata ∙ sym c.requires.table.strata in
    let few : length v.drawn ≤ 2 * strata_of c.args.table.now = few_tickets (2 * strata_of c.args.table.now) v.drawn old.once old.below in
    let same : length v.drawn ≡ length c.loop.reports.items = ap length old.reported.drawn ∙ length-map c.loop.reports.items drawn_pair in
    subst (λ (w : View). Worked (g.J.Jobs.may_stop c.args.jobs.now) g.B.BookOf.may_be_strange start w c.loop.reports.items) (sym c.in-Spent.ensures.ticket)
    record {
      first = old.first;
      parts = old.parts;
      told = told-at_last v.spent v.first;
      few = omega (arith, c.requires.table.strata);
      reported = record { drawn = old.reported.drawn; won = old.reported.won; just = old.reported.just };
    }

pub push_reserved-requires : goal.push_reserved-requires
push_reserved-requires g c =
    let old = c.loop.invariant in
    let v = view_of c.loop.pass in
    let t = c.in-Number.ticket in
    let drew = c.in-Number.ensures.ticket in
    let all = strata_of c.args.table.now in
    let within : t < 2 * all = omega (arith, drew.0, old.table.strata) in
    let few : length (v.drawn ++ (t, v.first) ∷ []) ≤ 2 * all = few_tickets (2 * all) (v.drawn ++ (t, v.first) ∷ [])
    (λ u. once-push u t v.first v.drawn drew.2 old.once) (λ u big. below-push (2 * all) u t v.first v.drawn within big (old.below u big)) in
    let same : length v.drawn ≡ length c.loop.reports.items = ap length old.reported.drawn ∙ length-map c.loop.reports.items drawn_pair in
    omega (arith, length-append v.drawn ((t, v.first) ∷ []), old.room, c.loop.reports.ok)

pub loop-preserved : goal.loop-preserved
loop-preserved g c =
    let old = c.loop.invariant in
    let v = view_of c.loop.pass in
    let w = view_of c.work_ticket-end.new.pass in
    let t = c.in-Number.ticket in
    let end = c.work_ticket-end.result in
    let drew = c.in-Number.ensures.ticket in
    let all = strata_of c.args.table.now in
    let k = c.strata-strata.result in
    let stops = g.J.Jobs.may_stop c.args.jobs.now in
    let strange = g.B.BookOf.may_be_strange in
    let within : t < 2 * all = omega (arith, drew.0, old.table.strata) in
    let size : k ≡ v.strata = c.strata-strata.ensures.strata ∙ sym old.table.strata in
    let so = subst (λ (n : ℕ). EndsSo stops strange (t / n) (t % n + 1) (with_ticket v t) end w) size
    (subst (λ (u : View). EndsSo stops strange (t / k) (t % k + 1) u end w) drew.1 c.work_ticket-end.ensures.end) in
    let on = goes stops strange v t c.loop.reports.items end w old.reported so in
    let seat : v.first ≡ c.number-seat.result = old.first ∙ sym c.number-seat.ensures in
    record {
      table = c.work_ticket-end.ensures.table;
      first = on.first ∙ old.first;
      parts = on.parts ∙ old.parts;
      untold = ap (λ (l : List ℕ). nat_lt 0 (length l)) on.spent ∙ old.untold;
      once = λ u. subst (λ (l : List (ℕ × ℕ)). times_ticket u l ≤ 1) (sym on.drawn) (once-push u t v.first v.drawn drew.2 old.once);
      below = λ u big. subst (λ (l : List (ℕ × ℕ)). times_ticket u l ≡ 0) (sym on.drawn) (below-push (2 * all) u t v.first v.drawn within big (old.below u big));
      room = omega (arith, old.room, c.push_reserved.ensures.capacity);
      reported = subst (λ (l : List Report). Reported stops strange w l) (sym c.push_reserved.ensures.items)
          (subst (λ (n : ℕ). Reported stops strange w (c.loop.reports.items ++ record { ticket = t; seat = n; end = end } ∷ [])) seat on.reported);
    }
