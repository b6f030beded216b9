-- What the calls of a book answer.
use Rattle.std.specs.Prelude.{◌≡◌, ◌↔◌, ℕ, ◌+◌, ◌-◌, ◌<◌, ◌≤◌, List, [], ◌∷◌, ◌++◌, slice_index_or, length, Contains, Option, Some, None}
use Rattle.race_table.specs.declared.jobs.Join.{Join}
use Rattle.race_table.specs.declared.jobs.Join.TheVariants.{Kept, Stranger}
use Rattle.polys.specs.declared.curve.Curve.{Curve}
use Rattle.polys.specs.Curve.{data_of}
use Rattle.curve_model.specs.declared.point.Point.{Point}
use Rattle.curve_model.specs.Fraction.{Fraction, IsFraction}
use Rattle.curve_model.specs.Point.{basis_of}
use Rattle.curve_model.specs.Local.{Local}
use Rattle.curve_model.specs.Steps.{IsSumOfTwo}
use Rattle.over_laws.specs.Over.{OverData, InOver}
use Rattle.over_module.specs.Done.{DoneData}
use Rattle.over_module.specs.declared.done.Verdict.{Verdict}
use Rattle.over_module.specs.declared.done.Verdict.TheVariants.{Finished, TooLarge}
use Rattle.join_book.specs.Book.{BookData, IsWorkOf, IsVacant}

-- the book is of this curve, these points and this limit
pub record IsOf (c : Curve) (Ps : List Point) (L : ℕ) (b : BookData) : Type 0 where
  pub curve : b.curve ≡ c
  pub points : b.points ≡ Ps
  pub limit : b.limit ≡ L

-- and nothing was joined yet
pub record IsEmpty (c : Curve) (Ps : List Point) (L : ℕ) (b : BookData) : Type 0 where
  pub same : IsOf c Ps L b
  pub entries : b.entries ≡ []
  pub joined : b.joined ≡ []
  pub settled : b.settled ≡ 0

-- the book takes this work for the stratum that was won
pub record Takes (b : BookData) (won : ℕ × ℕ) (d : DoneData) : Type 0 where
  pub work : IsWorkOf b.curve b.points b.limit d
  pub stratum : d.stratum ≡ won.0
  pub vacant : IsVacant b.entries won.0

-- the book with one more entry
abbrev pub with_entry : BookData → ℕ × ℕ → DoneData → BookData
with_entry b won d = record b { entries = b.entries ++ d ∷ []; joined = b.joined ++ won ∷ [] }

-- a join
abbrev pub IsJoin : BookData → ℕ × ℕ → DoneData → Join DoneData → BookData → Type 0
IsJoin b won d Kept c = Takes b won d × (c ≡ with_entry b won d)
IsJoin b won d (Stranger e) c = ¬ (Takes b won d) × (e ≡ d) × (c ≡ b)

-- what a reader of a stratum's entry finds
abbrev pub IsEntryIn : List DoneData → ℕ → Option DoneData → Type 0
IsEntryIn entries i None = IsVacant entries i
IsEntryIn entries i (Some d) = Contains entries d × (d.stratum ≡ i)

-- the sum with what was done, if it adds a module
abbrev pub AddsVerdict : Curve → Point → OverData → Verdict → OverData → Type 0
AddsVerdict c P sum (Finished over) new =
    (f : Fraction) → IsFraction (data_of c) f → InOver new f ↔ IsSumOfTwo (data_of c) (InOver sum) (Local (data_of c) (basis_of P)) f
AddsVerdict c P sum TooLarge new = new ≡ sum

abbrev pub Adds : OverData → DoneData → OverData → Type 0
Adds sum d new = AddsVerdict d.curve d.point sum d.verdict new

-- one more entry, the next one in the order of joins, is settled, and its module is added to the sum; all else stays
pub record Settles (b c : BookData) : Type 0 where
  pub curve : c.curve ≡ b.curve
  pub points : c.points ≡ b.points
  pub limit : c.limit ≡ b.limit
  pub entries : c.entries ≡ b.entries
  pub joined : c.joined ≡ b.joined
  pub some_left : b.settled < length b.entries
  pub settled : c.settled ≡ b.settled + 1
  pub sum : (d : DoneData) → Adds b.sum (slice_index_or b.entries b.settled d) c.sum

-- ---- parts of the work

-- the point stands at the place of the stratum
abbrev pub IsAt : List Point → ℕ → Point → Type 0
IsAt Ps i P = (1 ≤ i) × (i ≤ length Ps) × (slice_index_or Ps (i - 1) P ≡ P)

-- what a join asks, by the fields of a book
abbrev pub IsTaken : Curve → List Point → ℕ → List DoneData → ℕ → DoneData → Type 0
IsTaken c Ps L entries i d = IsAt Ps i d.point × (d.stratum ≡ i) × (d.limit ≡ L) × (d.curve ≡ c) × IsVacant entries i
