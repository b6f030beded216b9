-- Lists of workers before and after their work.
use Rattle.std.specs.Prelude.{ℕ, ◌≡◌, ◌+◌, ◌*◌, ◌<◌, ◌≤◌, List, [], true, length, slice_index_or, vec_capacity, All}
use Rattle.race_table.specs.Views.{was_told}
use Rattle.race_table.specs.Passes.{view_of, strata_of, BelongsTo}
use Rattle.race_table.specs.declared.view.View.{View}
use Rattle.race_table.specs.declared.table.RaceTable.{RaceTable}
use Rattle.race_table.specs.declared.jobs.JobStop.{JobStop}
use Rattle.std.specs.declared.vec.Vec.{Vec}
use Rattle.std.specs.declared.alloc.Global.{Global}
use Rattle.worker_gate.specs.Crews.{IsBlank, Worked, Reported}
use Rattle.worker_gate.specs.declared.report.Report.{Report}
use Rattle.worker_gate.specs.declared.member.Worker.{Worker}

-- empty lists of reports with room for so many
abbrev pub AreRooms : ℕ → List (Vec Report Global) → Type 0
AreRooms size rooms = All (λ room. (room.items ≡ []) × (size ≤ vec_capacity room)) rooms

-- a worker that may begin
pub record MayBegin (table : RaceTable) (worker : Worker) : Type 0 where
  pub belongs : BelongsTo table worker.pass
  pub blank : IsBlank (view_of worker.pass)
  pub empty : worker.reports.items ≡ []
  pub room : 2 * strata_of table ≤ vec_capacity worker.reports

-- a worker that has worked from the view v on
pub record IsDone (stops : ℕ → ℕ → JobStop → Type 0) (strange : Type 0) (table : RaceTable) (v : View) (worker : Worker) : Type 0 where
  pub belongs : BelongsTo table worker.pass
  pub worked : Worked stops strange v (view_of worker.pass) worker.reports.items

-- the worker at place k has the number seats - k alone
pub record HasNumber (seats k : ℕ) (v : View) : Type 0 where
  pub first : v.first + k ≡ seats
  pub parts : v.parts ≡ 1

abbrev pub AreHired : RaceTable → ℕ → List Worker → Type 0
AreHired table seats crew = (k : ℕ) (d : Worker) → k < length crew → MayBegin table (slice_index_or crew k d) × HasNumber seats k (view_of (slice_index_or crew k d).pass)

abbrev pub AreDone : (ℕ → ℕ → JobStop → Type 0) → Type 0 → RaceTable → List Worker → List Worker → Type 0
AreDone stops strange table before later = (k : ℕ) (d : Worker) → k < length before → IsDone stops strange table (view_of (slice_index_or before k d).pass) (slice_index_or later k d)

-- a worker that has come back, with its reports
pub record IsBack (stops : ℕ → ℕ → JobStop → Type 0) (strange : Type 0) (table : RaceTable) (worker : Worker) : Type 0 where
  pub belongs : BelongsTo table worker.pass
  pub told : was_told (view_of worker.pass) ≡ true
  pub few : length worker.reports.items ≤ 2 * strata_of table
  pub reported : Reported stops strange (view_of worker.pass) worker.reports.items

abbrev pub AreBack : (ℕ → ℕ → JobStop → Type 0) → Type 0 → RaceTable → ℕ → List Worker → Type 0
AreBack stops strange table seats crew = (k : ℕ) (d : Worker) → k < length crew → IsBack stops strange table (slice_index_or crew k d) × HasNumber seats k (view_of (slice_index_or crew k d).pass)
