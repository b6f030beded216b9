use Rattle.std.proofs.Common.{◌≡◌, ◌==◌, take, count_by}
use Rattle.race_core.proofs.parts.Parts.is_joined.Given as goal

-- no pair so far is of the stratum
abbrev pub invariant-loop-pair : goal.invariant-loop-pair
invariant-loop-pair l = count_by (λ p. p.0 == l.stratum) (take l.pair-index l.self.joined.items) ≡ 0
