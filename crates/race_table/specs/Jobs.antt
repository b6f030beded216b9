-- What jobs and books answer.
use Rattle.race_table.specs.declared.jobs.Progress.{Progress}
use Rattle.race_table.specs.declared.jobs.Progress.TheVariants.{More, Whole}
use Rattle.race_table.specs.declared.jobs.Join.{Join}
use Rattle.race_table.specs.declared.jobs.Join.TheVariants.{Kept, Stranger}

-- a fact for each answer of an enlargement
abbrev pub MatchProgress : {D : Type 0} → Progress D → Type 0 → (D → Type 0) → Type 0
MatchProgress More P Q = P
MatchProgress (Whole done) P Q = Q done

-- a fact for the answer that a Done is a stranger's
abbrev pub IfStranger : {D : Type 0} → Join D → Type 0 → Type 0
IfStranger Kept P = Unit {0}
IfStranger (Stranger done) P = P
