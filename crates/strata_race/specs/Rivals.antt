-- The jobs of a race over the points of a curve.
use Rattle.std.specs.Prelude.{◌≡◌, ℕ, ◌-◌, Bool, List, slice_index_or}
use Rattle.polys.specs.declared.curve.Curve.{Curve}
use Rattle.curve_model.specs.declared.point.Point.{Point}
use Rattle.over_module.specs.Done.{DoneData}
use Rattle.race_table.specs.declared.jobs.JobStop.{JobStop}
use Rattle.race_table.specs.declared.jobs.JobStop.TheVariants.{Memory}
use Rattle.stratum_chain.specs.Chain.{ChainData, IsDoneBy, IsStarted, left_of}
use Rattle.strata_race.specs.declared.rival.Rival.{Rival}
use Rattle.strata_race.specs.declared.rival.Rival.TheVariants.{Digits}

-- ---- what is known of a rival, whichever it is

abbrev pub rival_stratum : Rival → ℕ
rival_stratum (Digits chain) = chain.stratum

abbrev pub rival_left : Rival → ℕ
rival_left (Digits chain) = left_of chain

abbrev pub rival_may_stop : Rival → JobStop → Type 0
rival_may_stop (Digits chain) stop = stop ≡ Memory

abbrev pub rival_is_whole : Rival → Bool
rival_is_whole (Digits chain) = chain.whole

abbrev pub IsDoneByRival : Rival → DoneData → Type 0
IsDoneByRival (Digits chain) done = IsDoneBy chain done

-- ---- the rivals of a run

-- what callers see of them: the curve and its points, and the limit of delta
pub record RivalsData : Type 0 where
  pub curve : Curve
  pub points : List Point
  pub limit : ℕ

abbrev pub rivals_data : Curve → List Point → ℕ → RivalsData
rivals_data c Ps L = record { curve = c; points = Ps; limit = L }

-- the chain stands at its first ring, with the work of the stratum to do
abbrev pub IsChainOf : RivalsData → ℕ → ChainData → Type 0
IsChainOf r i chain = IsStarted r.curve (slice_index_or r.points (i - 1) chain.point) i r.limit chain

-- the rival is such a chain
abbrev pub IsRivalOf : RivalsData → ℕ → Rival → Type 0
IsRivalOf r i (Digits chain) = IsChainOf r i chain
