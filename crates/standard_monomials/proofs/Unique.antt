-- An ideal has one dimension.
use Rattle.std.proofs.Common.{◌≡◌, ℕ, ◌<◌, List, sym, subst}
use Rattle.std.specs.declared.cmp.Ordering.{Ordering}
use Rattle.std.specs.declared.cmp.Ordering.TheVariants.{Less, Equal, Greater}
use Rattle.std.specs.Ordering.{nat_cmp, MatchOrdering}
use Rattle.std.specs.Cmp.{ranks}
use Rattle.polys.specs.declared.term.Term.{Term}
use Rattle.polys.specs.Ideal.{HasDim}
use Rattle.standard_monomials.specs.Laws.{DimensionsAreUnique}

not_less : (p n : ℕ) (gs : List (List Term)) (M N : ℕ) → HasDim p n gs M → HasDim p n gs N → M < N → ⊥
not_less p n gs M N a b l = b.least a.basis (subst (λ k. k < N) (sym a.as_many) l) a.spans

one : (p n : ℕ) (gs : List (List Term)) (M N : ℕ) → HasDim p n gs M → HasDim p n gs N → M ≡ N
one p n gs M N a b = go (nat_cmp M N) (ranks M N)
  where
    go : (r : Ordering) → MatchOrdering r (M < N) (M ≡ N) (N < M) → M ≡ N
    go Less h = absurd (not_less p n gs M N a b h)
    go Equal h = h
    go Greater h = absurd (not_less p n gs N M b a h)

pub unique_law : DimensionsAreUnique
unique_law = record { one = one; not_both = λ p n gs N a i. i a.basis a.spans }
