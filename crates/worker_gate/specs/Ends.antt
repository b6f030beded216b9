-- How the work on a ticket ends, and what reports say.
use Rattle.std.specs.Prelude.{ℕ, ◌≡◌, ◌<◌, Bool, true, false, List, map, filter, All}
use Rattle.race_core.specs.Tickets.{ticket_stratum, ticket_kind}
use Rattle.race_table.specs.Views.{with_won, with_told, times_pair}
use Rattle.race_table.specs.declared.view.View.{View}
use Rattle.race_table.specs.declared.jobs.JobStop.{JobStop}
use Rattle.worker_gate.specs.declared.report.End.{End}
use Rattle.worker_gate.specs.declared.report.End.TheVariants.{Joined, Withdrawn, GaveUp, Strange}
use Rattle.worker_gate.specs.declared.report.Report.{Report}

-- the view after the work on a ticket of the kind and the stratum i, and why it ended so
abbrev pub EndsSo : (ℕ → ℕ → JobStop → Type 0) → Type 0 → ℕ → ℕ → View → End → View → Type 0
EndsSo stops strange kind i v Joined w = w ≡ with_won v i
EndsSo stops strange kind i v (Withdrawn s) w = w ≡ with_told v i s
EndsSo stops strange kind i v (GaveUp stop) w = (w ≡ v) × stops kind i stop
EndsSo stops strange kind i v Strange w = (w ≡ with_won v i) × strange

-- the stratum was won
abbrev pub is_win : End → Bool
is_win Joined = true
is_win (Withdrawn s) = false
is_win (GaveUp stop) = false
is_win Strange = true

-- the job stopped
abbrev pub is_stop : End → Bool
is_stop Joined = false
is_stop (Withdrawn s) = false
is_stop (GaveUp stop) = true
is_stop Strange = false

-- the ticket and the seat of a report
abbrev pub drawn_pair : Report → ℕ × ℕ
drawn_pair r = (r.ticket, r.seat)

-- the stratum and the seat of a report
abbrev pub won_pair : ℕ → Report → ℕ × ℕ
won_pair strata r = (ticket_stratum strata r.ticket, r.seat)

-- the strata that the reports say were won, with their seats
abbrev pub won_pairs : ℕ → List Report → List (ℕ × ℕ)
won_pairs strata reports = map (won_pair strata) (filter (λ r. is_win r.end) reports)

-- why a report ends as it does; the pairs are those that say who won
abbrev pub IsJust : (ℕ → ℕ → JobStop → Type 0) → Type 0 → ℕ → List (ℕ × ℕ) → ℕ → End → Type 0
IsJust stops strange strata pairs ticket Joined = Unit {0}
IsJust stops strange strata pairs ticket (Withdrawn s) = 0 < times_pair (ticket_stratum strata ticket) s pairs
IsJust stops strange strata pairs ticket (GaveUp stop) = stops (ticket_kind strata ticket) (ticket_stratum strata ticket) stop
IsJust stops strange strata pairs ticket Strange = strange

abbrev pub AreJust : (ℕ → ℕ → JobStop → Type 0) → Type 0 → ℕ → List (ℕ × ℕ) → List Report → Type 0
AreJust stops strange strata pairs reports = All (λ r. IsJust stops strange strata pairs r.ticket r.end) reports

-- the end of a join
abbrev pub IsJoinEnd : Type 0 → End → Type 0
IsJoinEnd strange Joined = Unit {0}
IsJoinEnd strange (Withdrawn s) = ⊥
IsJoinEnd strange (GaveUp stop) = ⊥
IsJoinEnd strange Strange = strange
