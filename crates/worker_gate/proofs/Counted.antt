-- Reports that are added one by one.
use Rattle.std.proofs.Common.{◌≡◌, ℕ, zero, suc, ◌+◌, ◌<◌, ◌≤◌, ◌==◌, ◌&&◌, nat_lt, true, List, [], ◌∷◌, ◌++◌, length, map, filter, count_by, arith, refl, sym, ap, subst, ◌∙◌, ⊎_elim}
use Rattle.std.proofs.lemmas.Bool.{cases_lt, cases_eq, lt-ltb, ltb-true}
use Rattle.std.proofs.lemmas.Bool.Decides.{nat_tests}
use Rattle.std.proofs.lemmas.List.{append-nil, map-append, length-append}
use Rattle.std.proofs.lemmas.List.Elements.{All-push, All-append, All-weaker, filter-append}
use Rattle.std.proofs.lemmas.List.Sums.{sum_by-cons, sum_by_push, sum_by-append}
use Rattle.std.proofs.lemmas.List.Folds.{fold-map}
use Rattle.race_table.specs.Answers.{Knows}
use Rattle.race_core.specs.State.{one_if}
use Rattle.race_core.proofs.Counting.{pair_itself, sum_below, below-same, below-add, below-zero, below-single}
use Rattle.race_core.specs.Tickets.{ticket_stratum, ticket_kind}
use Rattle.race_table.specs.Views.{times_pair, times_ticket, with_ticket, united, was_told, HasAll}
use Rattle.race_table.specs.declared.view.View.{View}
use Rattle.race_table.specs.declared.jobs.JobStop.{JobStop}
use Rattle.worker_gate.specs.Ends.{EndsSo, IsJust, AreJust, is_win, drawn_pair, won_pair, won_pairs}
use Rattle.worker_gate.specs.Crews.{Reported, Raced}
use Rattle.worker_gate.specs.declared.report.End.{End}
use Rattle.worker_gate.specs.declared.report.End.TheVariants.{Joined, Withdrawn, GaveUp, Strange}
use Rattle.worker_gate.specs.declared.report.Report.{Report}

below-le : (f : ℕ → ℕ) (m : ℕ) → ((t : ℕ) → f t ≤ 1) → sum_below f m ≤ m
below-le f zero once = omega arith
below-le f (suc m) once = omega (arith, once m, below-le f m once)

ticket-cons : (t : ℕ) (p : ℕ × ℕ) (ps : List (ℕ × ℕ)) → times_ticket t (p ∷ ps) ≡ one_if (p.0 == t) + times_ticket t ps
ticket-cons t p ps = sum_by-cons (λ q. one_if (q.0 == t)) p ps

same_number : (n : ℕ) → one_if (n == n) ≡ 1
same_number n = grind (arith, nat_tests)

is_small : (m : ℕ) (p : ℕ × ℕ) (ps : List (ℕ × ℕ)) → ((t : ℕ) → m ≤ t → times_ticket t (p ∷ ps) ≡ 0) → one_if (nat_lt p.0 m) ≡ 1
is_small m p ps none = ⊎_elim
    (λ below. let y = p.0 in let e : one_if (nat_lt p.0 m) ≡ 1 = grind (arith, nat_tests) in e)
    (λ above.
    let here : one_if (p.0 == p.0) ≡ 1 = same_number p.0 in
    absurd (omega (arith, none p.0 above, ticket-cons p.0 p ps)))
    (cases_lt p.0 m)

length-tickets : (m : ℕ) (pairs : List (ℕ × ℕ)) → ((t : ℕ) → m ≤ t → times_ticket t pairs ≡ 0) → length pairs ≡ sum_below (λ t. times_ticket t pairs) m
length-tickets m [] none = sym (below-zero m)
length-tickets m (p ∷ ps) none =
    let small : one_if (nat_lt p.0 m) ≡ 1 = is_small m p ps none in
    let rest : length ps ≡ sum_below (λ t. times_ticket t ps) m = length-tickets m ps (λ t h. omega (arith, ticket-cons t p ps, none t h)) in
    let split : sum_below (λ t. times_ticket t (p ∷ ps)) m ≡ sum_below (λ t. one_if (p.0 == t) + times_ticket t ps) m =
    below-same (λ t. times_ticket t (p ∷ ps)) (λ t. one_if (p.0 == t) + times_ticket t ps) m (λ t. ticket-cons t p ps) in
    omega (arith, rest, split, below-add (λ t. one_if (p.0 == t)) (λ t. times_ticket t ps) m, below-single p.0 m)

-- pairs of different tickets below m are at most m
pub few_tickets : (m : ℕ) (pairs : List (ℕ × ℕ)) → ((t : ℕ) → times_ticket t pairs ≤ 1) → ((t : ℕ) → m ≤ t → times_ticket t pairs ≡ 0) → length pairs ≤ m
few_tickets m pairs once none = omega (arith, length-tickets m pairs none, below-le (λ t. times_ticket t pairs) m once)

-- one more ticket, which was not there
pub ticket-push : (t x s : ℕ) (pairs : List (ℕ × ℕ)) → times_ticket t (pairs ++ (x, s) ∷ []) ≡ times_ticket t pairs + one_if (x == t)
ticket-push t x s pairs = sum_by_push (λ q. one_if (q.0 == t)) pairs (x, s)

pub once-push : (t x s : ℕ) (pairs : List (ℕ × ℕ)) → times_ticket x pairs ≡ 0 → ((u : ℕ) → times_ticket u pairs ≤ 1) → times_ticket t (pairs ++ (x, s) ∷ []) ≤ 1
once-push t x s pairs fresh once = ⊎_elim
    (λ e. let none : times_ticket t pairs ≡ 0 = subst (λ k. times_ticket k pairs ≡ 0) e fresh in let most : one_if (x == t) ≤ 1 = grind (arith, nat_tests) in omega (arith, ticket-push t x s pairs))
    (λ ne. let none : one_if (x == t) ≡ 0 = grind (arith, nat_tests) in omega (arith, ticket-push t x s pairs, once t))
    (cases_eq x t)

pub below-push : (m t x s : ℕ) (pairs : List (ℕ × ℕ)) → x < m → m ≤ t → times_ticket t pairs ≡ 0 → times_ticket t (pairs ++ (x, s) ∷ []) ≡ 0
below-push m t x s pairs small big old =
    let none : one_if (x == t) ≡ 0 = grind (arith, nat_tests) in
    omega (arith, ticket-push t x s pairs)

module _ (stops : ℕ → ℕ → JobStop → Type 0) (strange : Type 0) where
  -- a report stays just where more is known
  just-more : (strata : ℕ) (pairs more : List (ℕ × ℕ)) → ((i s : ℕ) → 0 < times_pair i s pairs → 0 < times_pair i s more) → (ticket : ℕ) (end : End)
      → IsJust stops strange strata pairs ticket end → IsJust stops strange strata more ticket end
  just-more strata pairs more knows ticket Joined just = just
  just-more strata pairs more knows ticket (Withdrawn s) just = knows (ticket_stratum strata ticket) s just
  just-more strata pairs more knows ticket (GaveUp stop) just = just
  just-more strata pairs more knows ticket Strange just = just

  pub all-more : (strata : ℕ) (pairs more : List (ℕ × ℕ)) (reports : List Report) → ((i s : ℕ) → 0 < times_pair i s pairs → 0 < times_pair i s more)
      → AreJust stops strange strata pairs reports → AreJust stops strange strata more reports
  all-more strata pairs more reports knows just = All-weaker (λ r. IsJust stops strange strata pairs r.ticket r.end) (λ r. IsJust stops strange strata more r.ticket r.end)
      (λ r h. just-more strata pairs more knows r.ticket r.end h) reports just

  -- what the work on a drawn ticket leaves
  pub record Goes (v : View) (t : ℕ) (reports : List Report) (end : End) (w : View) : Type 0 where
    pub first : w.first ≡ v.first
    pub parts : w.parts ≡ v.parts
    pub spent : w.spent ≡ v.spent
    pub drawn : w.drawn ≡ v.drawn ++ (t, v.first) ∷ []
    pub reported : Reported stops strange w (reports ++ record { ticket = t; seat = v.first; end = end } ∷ [])

  drawn-more : (v : View) (t : ℕ) (reports : List Report) (end : End) → v.drawn ≡ map drawn_pair reports
      → v.drawn ++ (t, v.first) ∷ [] ≡ map drawn_pair (reports ++ record { ticket = t; seat = v.first; end = end } ∷ [])
  drawn-more v t reports end e = ap (λ l. l ++ (t, v.first) ∷ []) e ∙ sym (map-append drawn_pair reports (record { ticket = t; seat = v.first; end = end } ∷ []))

  won-more : (strata : ℕ) (reports : List Report) (r : Report) → won_pairs strata (reports ++ r ∷ []) ≡ won_pairs strata reports ++ won_pairs strata (r ∷ [])
  won-more strata reports r = ap (map (won_pair strata)) (filter-append (λ q. is_win q.end) reports (r ∷ [])) ∙ map-append (won_pair strata) (filter (λ q. is_win q.end) reports) (filter (λ q. is_win q.end) (r ∷ []))

  told-grows : (i s j u : ℕ) (pairs : List (ℕ × ℕ)) → 0 < times_pair j u pairs → 0 < times_pair j u (pairs ++ (i, s) ∷ [])
  told-grows i s j u pairs some_pair = omega (arith, sum_by_push (λ q. one_if (q.0 == j && q.1 == u)) pairs (i, s))

  told-new : (i s : ℕ) (pairs : List (ℕ × ℕ)) → 0 < times_pair i s (pairs ++ (i, s) ∷ [])
  told-new i s pairs = omega (arith, sum_by_push (λ q. one_if (q.0 == i && q.1 == s)) pairs (i, s), pair_itself i s)

  pub goes : (v : View) (t : ℕ) (reports : List Report) (end : End) (w : View) → Reported stops strange v reports
      → EndsSo stops strange (ticket_kind v.strata t) (ticket_stratum v.strata t) (with_ticket v t) end w → Goes v t reports end w
  goes v t reports Joined w rep so = subst (Goes v t reports Joined) (sym so) record {
    first = refl;
    parts = refl;
    spent = refl;
    drawn = refl;
    reported = record {
      drawn = drawn-more v t reports Joined rep.drawn;
      won = ap (λ l. l ++ (ticket_stratum v.strata t, v.first) ∷ []) rep.won ∙ sym (won-more v.strata reports (record { ticket = t; seat = v.first; end = Joined }));
      just = All-push (λ r. IsJust stops strange v.strata v.told r.ticket r.end) reports (record { ticket = t; seat = v.first; end = Joined }) rep.just tt;
    };
  }
  goes v t reports (Withdrawn s) w rep so =
      let i = ticket_stratum v.strata t in
      let told = v.told ++ (i, s) ∷ [] in
      subst (Goes v t reports (Withdrawn s)) (sym so) record {
        first = refl;
        parts = refl;
        spent = refl;
        drawn = refl;
        reported = record {
          drawn = drawn-more v t reports (Withdrawn s) rep.drawn;
          won = rep.won ∙ sym (append-nil (won_pairs v.strata reports)) ∙ sym (won-more v.strata reports (record { ticket = t; seat = v.first; end = Withdrawn s }));
          just = All-push (λ r. IsJust stops strange v.strata told r.ticket r.end) reports (record { ticket = t; seat = v.first; end = Withdrawn s })
              (all-more v.strata v.told told reports (λ j u h. told-grows i s j u v.told h) rep.just) (told-new i s v.told);
        };
      }
  goes v t reports (GaveUp stop) w rep so = subst (Goes v t reports (GaveUp stop)) (sym so.0) record {
    first = refl;
    parts = refl;
    spent = refl;
    drawn = refl;
    reported = record {
      drawn = drawn-more v t reports (GaveUp stop) rep.drawn;
      won = rep.won ∙ sym (append-nil (won_pairs v.strata reports)) ∙ sym (won-more v.strata reports (record { ticket = t; seat = v.first; end = GaveUp stop }));
      just = All-push (λ r. IsJust stops strange v.strata v.told r.ticket r.end) reports (record { ticket = t; seat = v.first; end = GaveUp stop }) rep.just so.1;
    };
  }
  goes v t reports Strange w rep so = subst (Goes v t reports Strange) (sym so.0) record {
    first = refl;
    parts = refl;
    spent = refl;
    drawn = refl;
    reported = record {
      drawn = drawn-more v t reports Strange rep.drawn;
      won = ap (λ l. l ++ (ticket_stratum v.strata t, v.first) ∷ []) rep.won ∙ sym (won-more v.strata reports (record { ticket = t; seat = v.first; end = Strange }));
      just = All-push (λ r. IsJust stops strange v.strata v.told r.ticket r.end) reports (record { ticket = t; seat = v.first; end = Strange }) rep.just so.1;
    };
  }

pub told-at_last : (xs : List ℕ) (s : ℕ) → nat_lt 0 (length (xs ++ s ∷ [])) ≡ true
told-at_last xs s = lt-ltb 0 (length (xs ++ s ∷ [])) (omega (arith, length-append xs (s ∷ [])))

pub pairs-append : (i s : ℕ) (xs ys : List (ℕ × ℕ)) → times_pair i s (xs ++ ys) ≡ times_pair i s xs + times_pair i s ys
pairs-append i s xs ys = sum_by-append (λ q. one_if (q.0 == i && q.1 == s)) xs ys

-- two views made one, with the reports of both
pub reported-united : (stops : ℕ → ℕ → JobStop → Type 0) (strange : Type 0) (v w : View) (xs ys : List Report) → w.strata ≡ v.strata
    → Reported stops strange v xs → Reported stops strange w ys → Reported stops strange (united v w) (xs ++ ys)
reported-united stops strange v w xs ys same a b = record {
  drawn = ap (λ l. l ++ w.drawn) a.drawn ∙ ap (λ l. map drawn_pair xs ++ l) b.drawn ∙ sym (map-append drawn_pair xs ys);
  won = ap (λ l. l ++ w.won) a.won ∙ ap (λ l. won_pairs v.strata xs ++ l) (b.won ∙ ap (λ n. won_pairs n ys) same)
      ∙ sym (ap (map (won_pair v.strata)) (filter-append (λ q. is_win q.end) xs ys) ∙ map-append (won_pair v.strata) (filter (λ q. is_win q.end) xs) (filter (λ q. is_win q.end) ys));
  just = All-append (λ r. IsJust stops strange v.strata (v.told ++ w.told) r.ticket r.end) xs ys
      (all-more stops strange v.strata v.told (v.told ++ w.told) xs (λ i s h. omega (arith, pairs-append i s v.told w.told)) a.just)
      (all-more stops strange v.strata w.told (v.told ++ w.told) ys (λ i s h. omega (arith, pairs-append i s v.told w.told)) (subst (λ n. AreJust stops strange n w.told ys) same b.just));
}

-- how often a ticket is reported
pub reported-tickets : (t : ℕ) (reports : List Report) → times_ticket t (map drawn_pair reports) ≡ count_by (λ r. r.ticket == t) reports
reported-tickets t reports = fold-map (λ a (q : ℕ × ℕ). a + one_if (q.0 == t)) drawn_pair 0 reports

pub raced : (stops : ℕ → ℕ → JobStop → Type 0) (strange : Type 0) (v : View) (reports : List Report) → HasAll v → was_told v ≡ true → Knows v → Reported stops strange v reports
    → Raced stops strange v reports
raced stops strange v reports all told knows rep = record {
  all = all;
  told = told;
  drawn = rep.drawn;
  tickets = λ t. sym (reported-tickets t reports) ∙ ap (times_ticket t) (sym rep.drawn) ∙ knows.all_drawn all told t;
  won = rep.won;
  just = all-more stops strange v.strata v.told v.won reports (knows.told_won all) rep.just;
}

pub told-united : (v w : View) → was_told w ≡ true → was_told (united v w) ≡ true
told-united v w told = lt-ltb 0 (length (v.spent ++ w.spent)) (omega (arith, length-append v.spent w.spent, ltb-true 0 (length w.spent) told))
