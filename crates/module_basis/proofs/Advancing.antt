-- From one degree to the next.
use Rattle.std.proofs.Common.{◌≡◌, ◌≢◌, ◌⊎◌, inl, inr, ℕ, ◌+◌, ◌<◌, ◌≤◌, suc, List, [], ◌∷◌, ◌++◌, length, get_or, take, drop, sym, ap, ◌∙◌, subst, arith, append-nil, drop-cons}
use Rattle.std.specs.List.{All, Contains}
use Rattle.std.proofs.lemmas.Bool.{cases_lt}
use Rattle.std.proofs.lemmas.List.{get_or_default, get_or-map}
use Rattle.std.proofs.lemmas.List.Elements.{All-append, All-push, All-take, All-weaker, All-contains, Contains-get_or}
use Rattle.std.proofs.Math.Nat.{eq-or-lt_of_le}
use Rattle.std.proofs.Math.Seq.{take-suc}
use Rattle.prime_field.specs.Primes.{IsPrime}
use Rattle.polys.specs.declared.term.Term.{Term}
use Rattle.polys.specs.Poly.{Polynomial, terms_of}
use Rattle.graded_modules.specs.Vector.{degree_at, lead_mono}
use Rattle.graded_modules.specs.Module.{InModule}
use Rattle.graded_modules.specs.SVector.{IsSettled, lead_lcm}
use Rattle.graded_modules.specs.Bases.{IsBasisBelow}
use Rattle.graded_modules.proofs.Members.{in_generator, in_larger}
use Rattle.prime_field.proofs.Table.{positive_of_prime as positive, above_one}
use Rattle.module_basis.specs.Gens.{AreGens}
use Rattle.module_division.specs.Vectors.{member}
use Rattle.module_basis.specs.declared.gens.Gens.{Gens}
use Rattle.module_basis.specs.declared.growing.Growing.{Growing}
use Rattle.module_basis.specs.declared.pairs.Pair.{Pair}
use Rattle.module_basis.specs.Growing.{pair_degree, pair_of, AreOfOneComponent, IsPair, IsParted, IsSettledPairOf, AreAwaited, IsGrowing, MayGrow, GainsVector}
use Rattle.module_division.proofs.Lists.{count_lists, lists_append}
use Rattle.module_basis.proofs.Growth.{pair_more, settled_more}
use Rattle.module_basis.proofs.Joining.{all_generators, awaited_pairs}
use Rattle.module_basis.proofs.Adding.{gone_through}

pub pair_at : (ps : List Pair) (i : ℕ) (q : Pair) → i < length ps → q ≡ get_or ps i q → drop i ps ≡ q ∷ drop (i + 1) ps
pair_at ps i q h e =
    let n : i + 1 ≡ suc i = omega arith in
    rw n (drop-cons ps i q h ∙ ap (λ x. x ∷ drop (suc i) ps) (sym e))

-- a generator of the list is in its module
pub generator_in : (gens : Gens) → AreGens gens → IsPrime gens.prime → (k : ℕ) (v : Polynomial) → k < length gens.vectors → v ≡ get_or gens.vectors k v
    → InModule gens.prime gens.variables (terms_of gens.vectors) v.terms
generator_in gens are prime k v h e =
    let n = count_lists gens.vectors in
    let at : get_or (terms_of gens.vectors) k v.terms ≡ v.terms = get_or-map (λ (f : Polynomial). f.terms) gens.vectors k v v.terms h ∙ ap (λ (f : Polynomial). f.terms) (sym e) in
    in_generator gens.prime gens.variables (terms_of gens.vectors) v.terms (above_one gens.prime prime) (λ k d i. (all_generators gens are k d i).vector) (k, omega arith, at)

-- the generators are taken in
pub ready_still : (gens : Gens) (e : ℕ) (old new : Growing) → MayGrow gens e old → IsGrowing gens e new → GainsVector gens e old new → MayGrow gens e new
ready_still gens e old new r growing g = record {
  growing = growing;
  late = subst (All (λ q. e ≤ q.degree)) (sym g.pairs)
      (All-append (λ q. e ≤ q.degree) old.pairs.items g.more_pairs r.late (All-weaker (λ q. e < q.degree) (λ q. e ≤ q.degree) (λ q h. omega arith) g.more_pairs g.late));
  awaited = subst (λ c. AreAwaited gens c (terms_of new.basis.items) new.pairs.items (length new.basis.items)) (sym g.cap)
      (subst (λ ps. AreAwaited gens old.cap (terms_of new.basis.items) ps (length new.basis.items)) (append-nil new.pairs.items)
      (g.awaited [] (subst (λ ps. AreAwaited gens old.cap (terms_of old.basis.items) ps (length old.basis.items)) (sym (append-nil old.pairs.items)) r.awaited)));
}

-- all of degree e is done
pub ready_next : (gens : Gens) (e cap : ℕ) (mid new : Growing) → IsPrime gens.prime → IsGrowing gens e new → new.cap ≡ cap
    → ((b : List Term) → Contains (terms_of mid.basis.items) b → Contains (terms_of new.basis.items) b)
    → All (λ q. e < q.degree) new.pairs.items → AreAwaited gens cap (terms_of new.basis.items) new.pairs.items (length new.basis.items)
    → ((f : List Term) → Contains (terms_of gens.vectors) f → degree_at gens.shift (lead_mono f) ≡ e → InModule gens.prime gens.variables (terms_of mid.basis.items) f)
    → MayGrow gens (e + 1) new
ready_next gens e cap mid new prime growing q larger late awaited members = record {
  growing = record {
    primes = growing.primes;
    pairs = growing.pairs;
    grown = record {
      below = record {
        vectors = b.vectors;
        monic = b.monic;
        members = b.members;
        generators = generators;
        apart = b.apart;
        settled = settled;
      };
      low = All-weaker (λ b. degree_at gens.shift (lead_mono b) ≤ e) (λ b. degree_at gens.shift (lead_mono b) ≤ e + 1) (λ b h. omega arith) (terms_of new.basis.items) growing.grown.low;
    };
  };
  late = All-weaker (λ q. e < q.degree) (λ q. e + 1 ≤ q.degree) (λ q h. omega arith) new.pairs.items late;
  awaited = subst (λ c. AreAwaited gens c (terms_of new.basis.items) new.pairs.items (length new.basis.items)) (sym q) awaited;
}
  where
    b : IsBasisBelow gens.prime gens.variables gens.shift (terms_of gens.vectors) (terms_of new.basis.items) e
    b = growing.grown.below

    generators : (t : Term) (f : List Term) → Contains (terms_of gens.vectors) (t ∷ f) → degree_at gens.shift t.mono < e + 1
        → InModule gens.prime gens.variables (terms_of new.basis.items) (t ∷ f)
    generators t f c l = go (cases_lt (degree_at gens.shift t.mono) e)
      where
        go : (degree_at gens.shift t.mono < e) ⊎ (e ≤ degree_at gens.shift t.mono) → InModule gens.prime gens.variables (terms_of new.basis.items) (t ∷ f)
        go (inl h) = growing.grown.below.generators t f c h
        go (inr h) =
            in_larger gens.prime gens.variables (terms_of mid.basis.items) (terms_of new.basis.items) (t ∷ f) (positive gens.prime prime)
            (λ k d i. in_generator gens.prime gens.variables (terms_of new.basis.items) (get_or (terms_of mid.basis.items) k d) (above_one gens.prime prime)
            (λ k d i. (growing.grown.below.vectors k d i).vector) (larger (get_or (terms_of mid.basis.items) k d) (Contains-get_or (terms_of mid.basis.items) k d i)))
            (members (t ∷ f) c (omega arith))

    settled : (i j : ℕ) (d : List Term) → i < j → j < length (terms_of new.basis.items)
        → (lead_mono (get_or (terms_of new.basis.items) i d)).component ≡ (lead_mono (get_or (terms_of new.basis.items) j d)).component
        → degree_at gens.shift (lead_lcm (get_or (terms_of new.basis.items) i d) (get_or (terms_of new.basis.items) j d)) < e + 1
        → IsSettled gens.prime gens.variables gens.shift (terms_of new.basis.items) (get_or (terms_of new.basis.items) i d) (get_or (terms_of new.basis.items) j d)
    settled i j d r l one low =
        let bs = terms_of new.basis.items in
        let n = count_lists new.basis.items in
        let mi : get_or bs i d ≡ member bs i = get_or_default bs i d [] (omega arith) in
        let mj : get_or bs j d ≡ member bs j = get_or_default bs j d [] l in
        let low' : pair_degree gens.shift bs i j < e + 1 = subst (λ y. degree_at gens.shift (lead_lcm (member bs i) y) < e + 1) mj (subst (λ x. degree_at gens.shift (lead_lcm x (get_or bs j d)) < e + 1) mi low) in
        let one' : AreOfOneComponent bs i j = ap (λ f. (lead_mono f).component) (sym mi) ∙ one ∙ ap (λ f. (lead_mono f).component) mj in
        let a = awaited i j r (omega arith) one' in
        let s : IsSettled gens.prime gens.variables gens.shift bs (member bs i) (member bs j) =
        elim a.waits [
          | inl s ↦ s
          | inr c ↦ absurd (let h : e < pair_degree gens.shift bs i j = All-contains (λ q. e < q.degree) new.pairs.items (pair_of gens.shift bs i j) late c in omega arith)
        ] in
        subst (λ x. IsSettled gens.prime gens.variables gens.shift bs x (get_or bs j d)) (sym mi) (subst (λ y. IsSettled gens.prime gens.variables gens.shift bs (member bs i) y) (sym mj) s)

-- the pairs of degree e are taken out, and the others wait
pub record IsBegun (gens : Gens) (e cap : ℕ) (bs : List (List Term)) (due later : List Pair) (count : ℕ) : Type 0 where
  pub late : All (λ q. e < q.degree) later
  pub later_pairs : All (IsPair gens.shift bs) later
  pub pairs : All (IsPair gens.shift bs) due
  pub awaited : AreAwaited gens cap bs (later ++ due) count

pub begins : (gens : Gens) (e : ℕ) (old : Growing) (due later : List Pair) → MayGrow gens e old → IsParted e old.pairs.items due later
    → IsBegun gens e old.cap (terms_of old.basis.items) due later (length old.basis.items)
begins gens e old due later r parted = record {
  late = λ k d h. (let x = parted.others k d h in let y = All-contains (λ q. e ≤ q.degree) old.pairs.items (get_or later k d) r.late x.1 in above y x.0);
  later_pairs = λ k d h. All-contains (IsPair gens.shift (terms_of old.basis.items)) old.pairs.items (get_or later k d) r.growing.pairs (parted.others k d h).1;
  pairs = λ k d h. All-contains (IsPair gens.shift (terms_of old.basis.items)) old.pairs.items (get_or due k d) r.growing.pairs (parted.of_degree k d h).1;
  awaited = λ i j h l one. awaited_pairs gens old.cap (terms_of old.basis.items) old.pairs.items (later ++ due) i j parted.whole (r.awaited i j h l one);
}
  where
    above : {d : ℕ} → e ≤ d → d ≢ e → e < d
    above {d} h n = go (eq-or-lt_of_le h)
      where
        go : (e ≡ d) ⊎ (e < d) → e < d
        go (inl q) = absurd (n (sym q))
        go (inr l) = l

-- one more pair is settled
pub gone_on : (gens : Gens) (e cap k : ℕ) (now new : Growing) (due : List Pair) (q : Pair) → k < length due → q ≡ get_or due k q → now.cap ≡ cap
    → AreAwaited gens cap (terms_of now.basis.items) (now.pairs.items ++ drop k due) (length now.basis.items) → GainsVector gens e now new
    → IsSettledPairOf gens (terms_of new.basis.items) q
    → AreAwaited gens cap (terms_of new.basis.items) (new.pairs.items ++ drop (k + 1) due) (length new.basis.items)
gone_on gens e cap k now new due q h eq c a g done =
    gone_through gens cap (terms_of new.basis.items) new.pairs.items (drop (k + 1) due) q (length new.basis.items) done
    (subst (λ ps. AreAwaited gens cap (terms_of new.basis.items) (new.pairs.items ++ ps) (length new.basis.items)) (pair_at due k q h eq)
    (subst (λ x. AreAwaited gens x (terms_of new.basis.items) (new.pairs.items ++ drop k due) (length new.basis.items)) c
    (g.awaited (drop k due) (subst (λ x. AreAwaited gens x (terms_of now.basis.items) (now.pairs.items ++ drop k due) (length now.basis.items)) (sym c) a))))

-- and so are those before it
pub one_settled : (gens : Gens) (e k : ℕ) (now new : Growing) (due : List Pair) (q : Pair) → k < length due → q ≡ get_or due k q → GainsVector gens e now new
    → All (IsPair gens.shift (terms_of now.basis.items)) due → All (IsSettledPairOf gens (terms_of now.basis.items)) (take k due)
    → IsSettledPairOf gens (terms_of new.basis.items) q → All (IsSettledPairOf gens (terms_of new.basis.items)) (take (k + 1) due)
one_settled gens e k now new due q h eq g pairs before here =
    let bs = terms_of now.basis.items in
    let cs = terms_of new.basis.items in
    let more : cs ≡ bs ++ terms_of g.more = ap terms_of g.vectors ∙ lists_append now.basis.items g.more in
    let n : k + 1 ≡ suc k = omega arith in
    subst (All (IsSettledPairOf gens cs)) (sym (ap (λ j. take j due) n ∙ take-suc due k q h ∙ ap (λ x. take k due ++ x ∷ []) (sym eq)))
    (All-push (IsSettledPairOf gens cs) (take k due) q
    (λ i d l. still i d (take k due) more (All-take (IsPair gens.shift bs) k due pairs i d l) (before i d l)) here)
  where
    still : (i : ℕ) (d : Pair) (ps : List Pair) → terms_of new.basis.items ≡ terms_of now.basis.items ++ terms_of g.more
        → IsPair gens.shift (terms_of now.basis.items) (get_or ps i d) → IsSettledPairOf gens (terms_of now.basis.items) (get_or ps i d)
        → IsSettledPairOf gens (terms_of new.basis.items) (get_or ps i d)
    still i d ps more pair s =
        let r = pair.rising in
        let l = pair.inside in
        settled_more gens (terms_of now.basis.items) (terms_of new.basis.items) (get_or ps i d).first (get_or ps i d).second (omega arith) l (terms_of g.more) more s

pub pairs_still : (gens : Gens) (e : ℕ) (now new : Growing) (waiting : List Pair) → GainsVector gens e now new → All (IsPair gens.shift (terms_of now.basis.items)) waiting
    → All (IsPair gens.shift (terms_of new.basis.items)) waiting
pairs_still gens e now new waiting g h =
    All-weaker (IsPair gens.shift (terms_of now.basis.items)) (IsPair gens.shift (terms_of new.basis.items))
    (λ q k. pair_more gens (terms_of now.basis.items) (terms_of new.basis.items) (terms_of g.more) q (ap terms_of g.vectors ∙ lists_append now.basis.items g.more) k) waiting h
