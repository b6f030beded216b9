-- A stratum that nobody won has two reports of giving up.
use Rattle.std.proofs.Common.{◌≡◌, ℕ, ◌+◌, ◌-◌, ◌*◌, ◌%◌, ◌<◌, ◌≤◌, ◌==◌, ◌&&◌, nat_lt, Bool, true, false, List, [], ◌∷◌, map, filter, count_by, All, arith, refl, sym, ap, subst, ◌∙◌, ⊎_elim, ne_eqb}
use Rattle.std.proofs.lemmas.Bool.{cases_Bool, cases_lt, cases_eq, cond-true, cond-false}
use Rattle.std.proofs.lemmas.Bool.Decides.{nat_tests}
use Rattle.std.proofs.lemmas.List.Elements.{All-nil, All-cons, All-head, All-tail}
use Rattle.std.proofs.lemmas.List.Sums.{sum_by-cons}
use Rattle.std.proofs.Math.Nat.{add-mul-mod_self_left}
use native.Mathlib.Nat.{mod-eq_of_lt}
use Rattle.race_core.specs.State.{one_if}
use Rattle.race_core.specs.Tickets.{ticket_stratum}
use Rattle.race_table.specs.Views.{times_pair, times_stratum}
use Rattle.race_table.specs.declared.view.View.{View}
use Rattle.race_table.specs.declared.jobs.JobStop.{JobStop}
use Rattle.worker_gate.specs.Ends.{IsJust, AreJust, is_win, is_stop, won_pair, won_pairs}
use Rattle.worker_gate.specs.Crews.{Raced, UnwonGaveUp}
use Rattle.worker_gate.specs.declared.report.End.{End}
use Rattle.worker_gate.specs.declared.report.End.TheVariants.{Joined, Withdrawn, GaveUp, Strange}
use Rattle.worker_gate.specs.declared.report.Report.{Report}

-- a ticket of the second kind names the stratum of the ticket n before it
later_rest : (n t : ℕ) → 0 < n → n ≤ t → t < 2 * n → t % n ≡ t - n
later_rest n t some from below =
    let split : t ≡ (t - n) + n * 1 = omega arith in
    let small : t - n < n = omega arith in
    ap (λ x. x % n) split ∙ add-mul-mod_self_left (t - n) n 1 ∙ mod-eq_of_lt small

-- of the tickets below 2 n exactly j and j + n name the stratum j + 1
named_once : (n t j : ℕ) → 0 < n → t < 2 * n → j < n → one_if (t % n + 1 == j + 1) ≡ one_if (t == j) + one_if (t == j + n)
named_once n t j some below small = ⊎_elim
    (λ first.
    let rest : t % n ≡ t = mod-eq_of_lt first in
    let e : one_if (t + 1 == j + 1) ≡ one_if (t == j) + one_if (t == j + n) = grind (arith, nat_tests) in
    subst (λ r. one_if (r + 1 == j + 1) ≡ one_if (t == j) + one_if (t == j + n)) (sym rest) e)
    (λ later.
    let rest : t % n ≡ t - n = later_rest n t some later below in
    let e : one_if (t - n + 1 == j + 1) ≡ one_if (t == j) + one_if (t == j + n) = grind (arith, nat_tests) in
    subst (λ r. one_if (r + 1 == j + 1) ≡ one_if (t == j) + one_if (t == j + n)) (sym rest) e)
    (cases_lt t n)

with_true : (b : Bool) → one_if (b && true) ≡ one_if b
with_true true = refl
with_true false = refl

module _ (stops : ℕ → ℕ → JobStop → Type 0) (strange : Type 0) (n : ℕ) (won : List (ℕ × ℕ)) (i : ℕ) (unwon : times_stratum i won ≡ 0) where
  -- no seat has won the stratum
  no_pair : (s : ℕ) (pairs : List (ℕ × ℕ)) → times_pair i s pairs ≤ times_stratum i pairs
  no_pair s [] = omega arith
  no_pair s (p ∷ ps) =
      let here : one_if (p.0 == i && p.1 == s) ≤ one_if (p.0 == i) = grind (arith, nat_tests) in
      omega (arith, no_pair s ps, sum_by-cons (λ q. one_if (q.0 == i && q.1 == s)) p ps, sum_by-cons (λ q. one_if (q.0 == i)) p ps)

  -- a report of the stratum that is no win, and that ended for a cause, gave up
  gave_up : (t : ℕ) (end : End) → ticket_stratum n t ≡ i → is_win end ≡ false → IsJust stops strange n won t end → is_stop end ≡ true
  gave_up t Joined here lost just = absurd (cc)
  gave_up t (Withdrawn s) here lost just =
      let some_pair : 0 < times_pair i s won = subst (λ k. 0 < times_pair k s won) here just in
      absurd (omega (arith, unwon, no_pair s won))
  gave_up t (GaveUp stop) here lost just = refl
  gave_up t Strange here lost just = absurd (cc)

  -- one report, by its ticket
  one_report : (j : ℕ) → i ≡ j + 1 → j < n → (r : Report) → r.ticket < 2 * n → (ticket_stratum n r.ticket ≡ i → is_win r.end ≡ false) → IsJust stops strange n won r.ticket r.end
      → one_if (ticket_stratum n r.ticket == i && is_stop r.end) ≡ one_if (r.ticket == j) + one_if (r.ticket == j + n)
  one_report j e small r below lost just =
      let named : one_if (ticket_stratum n r.ticket == i) ≡ one_if (r.ticket == j) + one_if (r.ticket == j + n) =
      subst (λ k. one_if (ticket_stratum n r.ticket == k) ≡ one_if (r.ticket == j) + one_if (r.ticket == j + n)) (sym e)
      (named_once n r.ticket j (omega arith) below small)
      in
      ⊎_elim
      (λ here.
      let stop : is_stop r.end ≡ true = gave_up r.ticket r.end here (lost here) just in
      let both : one_if (ticket_stratum n r.ticket == i && true) ≡ one_if (ticket_stratum n r.ticket == i) = with_true (ticket_stratum n r.ticket == i) in
      subst (λ b. one_if (ticket_stratum n r.ticket == i && b) ≡ one_if (r.ticket == j) + one_if (r.ticket == j + n)) (sym stop) (both ∙ named))
      (λ elsewhere.
      let none : (ticket_stratum n r.ticket == i) ≡ false = ne_eqb (ticket_stratum n r.ticket) i elsewhere in
      ap (λ b. one_if (b && is_stop r.end)) none ∙ ap one_if (sym none) ∙ named)
      (cases_eq (ticket_stratum n r.ticket) i)

  all_reports : (j : ℕ) → i ≡ j + 1 → j < n → (rs : List Report) → All (λ r. r.ticket < 2 * n) rs → All (λ r. ticket_stratum n r.ticket ≡ i → is_win r.end ≡ false) rs
      → AreJust stops strange n won rs
      → count_by (λ r. ticket_stratum n r.ticket == i && is_stop r.end) rs ≡ count_by (λ r. r.ticket == j) rs + count_by (λ r. r.ticket == j + n) rs
  all_reports j e small [] below lost just = omega arith
  all_reports j e small (r ∷ rs) below lost just =
      let here = one_report j e small r (All-head (λ q. q.ticket < 2 * n) r rs below) (All-head (λ q. ticket_stratum n q.ticket ≡ i → is_win q.end ≡ false) r rs lost)
      (All-head (λ q. IsJust stops strange n won q.ticket q.end) r rs just)
      in
      let rest = all_reports j e small rs (All-tail (λ q. q.ticket < 2 * n) r rs below) (All-tail (λ q. ticket_stratum n q.ticket ≡ i → is_win q.end ≡ false) r rs lost)
      (All-tail (λ q. IsJust stops strange n won q.ticket q.end) r rs just)
      in
      omega (
        arith,
        here,
        rest,
        sum_by-cons (λ q. one_if (ticket_stratum n q.ticket == i && is_stop q.end)) r rs,
        sum_by-cons (λ q. one_if (q.ticket == j)) r rs,
        sum_by-cons (λ q. one_if (q.ticket == j + n)) r rs,
      )

-- a report of a stratum that no reported pair names is no win
lost_all : (n i : ℕ) (rs : List Report) → times_stratum i (won_pairs n rs) ≡ 0 → All (λ r. ticket_stratum n r.ticket ≡ i → is_win r.end ≡ false) rs
lost_all n i [] none = All-nil (λ r. ticket_stratum n r.ticket ≡ i → is_win r.end ≡ false)
lost_all n i (r ∷ rs) none =
    let more = filter (λ q. is_win q.end) rs in
    ⊎_elim
    (λ yes.
    let pairs : won_pairs n (r ∷ rs) ≡ won_pair n r ∷ won_pairs n rs = ap (map (won_pair n)) (cond-true (is_win r.end) (r ∷ more) more yes) in
    let counted : one_if (ticket_stratum n r.ticket == i) + times_stratum i (won_pairs n rs) ≡ 0 =
    sym (sum_by-cons (λ q. one_if (q.0 == i)) (won_pair n r) (won_pairs n rs)) ∙ ap (times_stratum i) (sym pairs) ∙ none
    in
    All-cons (λ q. ticket_stratum n q.ticket ≡ i → is_win q.end ≡ false) r rs
    (λ here. let one : one_if (ticket_stratum n r.ticket == i) ≡ 1 = grind (arith, nat_tests) in absurd (omega arith))
    (lost_all n i rs (omega arith)))
    (λ no.
    let pairs : won_pairs n (r ∷ rs) ≡ won_pairs n rs = ap (map (won_pair n)) (cond-false (is_win r.end) (r ∷ more) more no) in
    All-cons (λ q. ticket_stratum n q.ticket ≡ i → is_win q.end ≡ false) r rs (λ here. no) (lost_all n i rs (ap (times_stratum i) (sym pairs) ∙ none)))
    (cases_Bool (is_win r.end))

-- where no number from m on is a ticket, all tickets are below m
below_all : (m : ℕ) (rs : List Report) → ((t : ℕ) → m ≤ t → count_by (λ r. r.ticket == t) rs ≡ 0) → All (λ r. r.ticket < m) rs
below_all m [] none = All-nil (λ r. r.ticket < m)
below_all m (r ∷ rs) none = ⊎_elim
    (λ below. All-cons (λ q. q.ticket < m) r rs below (below_all m rs (λ t above. omega (arith, none t above, sum_by-cons (λ q. one_if (q.ticket == t)) r rs))))
    (λ above.
    let one : one_if (r.ticket == r.ticket) ≡ 1 = grind (arith, nat_tests) in
    absurd (omega (arith, none r.ticket above, sum_by-cons (λ q. one_if (q.ticket == r.ticket)) r rs)))
    (cases_lt r.ticket m)

pub unwon_law : (stops : ℕ → ℕ → JobStop → Type 0) (strange : Type 0) (w : View) (reports : List Report) → Raced stops strange w reports → UnwonGaveUp w reports
unwon_law stops strange w reports done i some most none =
    let n = w.strata in
    let j = i - 1 in
    let e : i ≡ j + 1 = omega arith in
    let counted = all_reports stops strange n w.won i none j e (omega arith) reports
    (below_all (2 * n) reports (λ t above. done.tickets t ∙ (let no : one_if (nat_lt t (2 * n)) ≡ 0 = grind (arith, nat_tests) in no)))
    (lost_all n i reports (ap (times_stratum i) (sym done.won) ∙ none))
    done.just
    in
    let first : one_if (nat_lt j (2 * n)) ≡ 1 = grind (arith, nat_tests) in
    let second : one_if (nat_lt (j + n) (2 * n)) ≡ 1 = grind (arith, nat_tests) in
    omega (arith, counted, done.tickets j, done.tickets (j + n))
