-- What the sum of a book depends on.
use Rattle.std.specs.Prelude.{◌≡◌, ◌↔◌, ℕ, take, Contains}
use Rattle.polys.specs.Curve.{data_of}
use Rattle.curve_model.specs.Fraction.{Fraction, IsFraction}
use Rattle.over_laws.specs.Over.{InOver}
use Rattle.over_module.specs.Done.{DoneData}
use Rattle.join_book.specs.Book.{BookData, BookIs}

-- work for this stratum is settled
abbrev pub HasSettled : BookData → ℕ → Type 0
HasSettled b i = (d : DoneData) × Contains (take b.settled b.entries) d × (d.stratum ≡ i)

-- two books of one curve, the same points and one limit, in which the same strata are settled, have the same sum, in whatever order and
-- by whomever the strata were joined
abbrev pub SumsDependOnStrata : Type 0
SumsDependOnStrata =
    (b c : BookData) → BookIs b → BookIs c → c.curve ≡ b.curve → c.points ≡ b.points → c.limit ≡ b.limit
    → ((i : ℕ) → HasSettled b i ↔ HasSettled c i)
    → (f : Fraction) → IsFraction (data_of b.curve) f → InOver b.sum f ↔ InOver c.sum f
