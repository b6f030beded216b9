-- What a worker did, and what a crew did.
use Rattle.std.specs.Prelude.{ℕ, ◌≡◌, ◌*◌, ◌≤◌, ◌==◌, ◌&&◌, true, false, nat_lt, List, [], map, length, count_by}
use Rattle.race_core.specs.State.{one_if}
use Rattle.race_core.specs.Tickets.{ticket_stratum}
use Rattle.race_table.specs.Views.{was_told, times_stratum, HasAll}
use Rattle.race_table.specs.declared.view.View.{View}
use Rattle.race_table.specs.declared.jobs.JobStop.{JobStop}
use Rattle.worker_gate.specs.Ends.{drawn_pair, won_pairs, is_stop, AreJust}
use Rattle.worker_gate.specs.declared.report.Report.{Report}

-- nothing is drawn or won yet, and the tickets are not known to be spent
pub record IsBlank (v : View) : Type 0 where
  pub drawn : v.drawn ≡ []
  pub won : v.won ≡ []
  pub untold : was_told v ≡ false

-- the reports are what the view knows: its drawn list, its won list, and why each ended so
pub record Reported (stops : ℕ → ℕ → JobStop → Type 0) (strange : Type 0) (v : View) (reports : List Report) : Type 0 where
  pub drawn : v.drawn ≡ map drawn_pair reports
  pub won : v.won ≡ won_pairs v.strata reports
  pub just : AreJust stops strange v.strata v.told reports

-- a worker with the view v has drawn until the tickets were spent
pub record Worked (stops : ℕ → ℕ → JobStop → Type 0) (strange : Type 0) (v w : View) (reports : List Report) : Type 0 where
  pub first : w.first ≡ v.first
  pub parts : w.parts ≡ v.parts
  pub told : was_told w ≡ true
  pub few : length reports ≤ 2 * v.strata
  pub reported : Reported stops strange w reports

-- a race is over: each ticket has one report with the seat that drew it, those won are the won list, and each ended for a cause
pub record Raced (stops : ℕ → ℕ → JobStop → Type 0) (strange : Type 0) (w : View) (reports : List Report) : Type 0 where
  pub all : HasAll w
  pub told : was_told w ≡ true
  pub drawn : w.drawn ≡ map drawn_pair reports
  pub tickets : (t : ℕ) → count_by (λ r. r.ticket == t) reports ≡ one_if (nat_lt t (2 * w.strata))
  pub won : w.won ≡ won_pairs w.strata reports
  pub just : AreJust stops strange w.strata w.won reports

-- a stratum that nobody won has two reports of giving up
abbrev pub UnwonGaveUp : View → List Report → Type 0
UnwonGaveUp w reports = (i : ℕ) → 1 ≤ i → i ≤ w.strata → times_stratum i w.won ≡ 0
    → count_by (λ r. ticket_stratum w.strata r.ticket == i && is_stop r.end) reports ≡ 2
