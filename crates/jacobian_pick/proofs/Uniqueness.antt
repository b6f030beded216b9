-- A problem has one answer.
use Rattle.std.proofs.Common.{◌≡◌, ◌≢◌, ◌⊎◌, inl, inr, ℕ, List, [], ◌∷◌, ◌++◌, Option, None, Some, length, append_assoc, refl, sym, ap, ◌∙◌, subst}
use Rattle.std.specs.Prelude.{Result, Ok, Err, IfOk, IfErr, MatchResult}
use Rattle.std.specs.List.{All}
use Rattle.std.proofs.lemmas.List.Elements.{All-nil, All-cons, All-head, All-tail}
use Rattle.polys.specs.declared.term.Term.{Term}
use Rattle.polys.specs.Ideal.{InIdeal}
use Rattle.polys.specs.Terms.{IsMonicOf}
use Rattle.lift_colon.specs.Lifted.{LiftedData}
use Rattle.problem.specs.Problem.{ProblemData}
use Rattle.jacobian_pick.specs.Candidates.{AreKept, AreKeptOf, AreFirst, AreSecond, AreThird, AreCandidates, jacobian_of, number_sums_of, variable_sums_of}
use Rattle.jacobian_pick.specs.Choice.{HasDeepIdeal, HasUnitIdeal, HasProperIdeal, HasDeepModule, IsZeroDivisor, IsAllowed, IsInfinite, IsWide, IsGood, IsPassedOver, IsGoodMultiple, IsFirstGood, sums_of, IsHandedIn, IsChosen, IsChosenBy, HasNoDenominator, IsReason, IsCause}
use Rattle.jacobian_pick.specs.Uniqueness.{CandidatesAreUnique, ChoicesAreUnique, IsFirstOf, FirstCandidatesAreChosen}
use Rattle.jacobian_pick.specs.declared.choosing.PickStop.{PickStop}
use Rattle.jacobian_pick.specs.declared.choosing.PickStop.TheVariants.{Deep, Unit, DenominatorDeep, ZeroDivisor, Infinite, Wide, NoDenominator, Memory}
use Rattle.jacobian_pick.proofs.Choices.{reason_is_bad, first_in_front, first_behind}
use Rattle.jacobian_pick.proofs.Monics.{monic_unique}

-- ---- the candidates

kept_unique : (p n : ℕ) (gs fs ms ns : List (List Term)) → AreKept p n gs fs ms → AreKept p n gs fs ns → ms ≡ ns
kept_unique p n gs [] ms ns a b = a ∙ sym b
kept_unique p n gs (f ∷ fs) ms ns (inl (i, a)) (inl (j, b)) = kept_unique p n gs fs ms ns a b
kept_unique p n gs (f ∷ fs) ms ns (inl (i, a)) (inr (j, m, rest, h, e, b)) = absurd (j i)
kept_unique p n gs (f ∷ fs) ms ns (inr (i, m, rest, h, e, a)) (inl (j, b)) = absurd (i j)
kept_unique p n gs (f ∷ fs) ms ns (inr (i, l, ls, h, e, a)) (inr (j, m, rest, k, q, b)) =
    e ∙ (λ x. monic_unique p f l m h k x ∷ kept_unique p n gs fs ls rest a b x) ∙ sym q

candidates_unique : (problem : ProblemData) (cs ds : List (List Term)) → AreCandidates problem cs → AreCandidates problem ds → cs ≡ ds
candidates_unique problem cs ds a b = a.joined ∙ (λ i. first i ++ second i ++ third i) ∙ sym b.joined
  where
    first : a.first ≡ b.first
    first = kept_unique _ _ _ _ a.first b.first a.are_first b.are_first

    second : a.second ≡ b.second
    second = kept_unique _ _ _ _ a.second b.second (subst (λ w. AreSecond problem w a.second) first a.are_second) b.are_second

    third : a.third ≡ b.third
    third = kept_unique _ _ _ _ a.third b.third (subst (λ w. AreThird problem w a.third) first a.are_third) b.are_third

pub candidates_law : CandidatesAreUnique
candidates_law = record { monic = monic_unique; kept = kept_unique; candidates = candidates_unique }

-- ---- the choice

module _ (problem : ProblemData) (cap : ℕ) where
  abbrev Passed : List Term → Type 0
  Passed f = IsPassedOver problem cap f

  -- what is good is not passed over
  not_passed : (f d : List Term) → IsGoodMultiple problem cap f d → Passed f → ⊥
  not_passed f d m (inl i) = m.outside i
  not_passed f d m (inr (o, e, h, bad)) = bad (subst (IsGood problem cap) (monic_unique problem.prime f d e m.monic h) m.good)

  -- two first good ones of one list
  first_of_two : (before more after rest : List (List Term)) (f g d e : List Term) → before ++ f ∷ after ≡ more ++ g ∷ rest → All Passed before → All Passed more
      → IsGoodMultiple problem cap f d → IsGoodMultiple problem cap g e → d ≡ e
  first_of_two [] [] after rest f g d e q a b m n = let s : g ≡ f = cc in monic_unique problem.prime f d e m.monic (subst (λ x. IsMonicOf problem.prime x e) s n.monic)
  first_of_two [] (y ∷ more) after rest f g d e q a b m n = let s : y ≡ f = cc in absurd (not_passed f d m (subst Passed s (All-head Passed y more b)))
  first_of_two (x ∷ before) [] after rest f g d e q a b m n = let s : x ≡ g = cc in absurd (not_passed g e n (subst Passed s (All-head Passed x before a)))
  first_of_two (x ∷ before) (y ∷ more) after rest f g d e q a b m n =
      let s : before ++ f ∷ after ≡ more ++ g ∷ rest = cc in
      first_of_two before more after rest f g d e s (All-tail Passed x before a) (All-tail Passed y more b) m n

  one_first : (fs : List (List Term)) (d e : List Term) → IsFirstGood problem cap fs d → IsFirstGood problem cap fs e → d ≡ e
  one_first fs d e a b = first_of_two a.before b.before a.after b.after a.member b.member d e (sym a.place ∙ b.place) a.passed b.passed a.multiple b.multiple

  -- no list whose members are all passed over has a good one
  none_at : (before after : List (List Term)) (f d : List Term) → All Passed (before ++ f ∷ after) → IsGoodMultiple problem cap f d → ⊥
  none_at [] after f d a m = not_passed f d m (All-head Passed f after a)
  none_at (x ∷ before) after f d a m = none_at before after f d (All-tail Passed x (before ++ f ∷ after) a) m

  none_good : (fs : List (List Term)) (d : List Term) → All Passed fs → IsFirstGood problem cap fs d → ⊥
  none_good fs d a h = none_at h.before h.after h.member d (subst (All Passed) h.place a) h.multiple

  first_unique : (ms ns : List (List Term)) → AreFirst problem ms → AreFirst problem ns → ms ≡ ns
  first_unique ms ns a b = kept_unique problem.prime (length problem.letters) problem.generators (jacobian_of problem) ms ns a b

  chosen_by : (o : Option (List Term)) (d e : List Term) → IsChosenBy problem cap o d → IsChosenBy problem cap o e → d ≡ e
  chosen_by (Some f) d e a b = monic_unique problem.prime f d e a.0 b.0
  chosen_by None d e (inl a) (inl b) = one_first (jacobian_of problem) d e a b
  chosen_by None d e (inl a) (inr b) = absurd (none_good (jacobian_of problem) d b.passed a)
  chosen_by None d e (inr a) (inl b) = absurd (none_good (jacobian_of problem) e a.passed b)
  chosen_by None d e (inr a) (inr b) =
      one_first (sums_of problem b.first) d e (subst (λ w. IsFirstGood problem cap (sums_of problem w) d) (first_unique a.first b.first a.are_first b.are_first) a.sum) b.sum

  pub chosen_unique : (d e : List Term) → IsChosen problem cap d → IsChosen problem cap e → d ≡ e
  chosen_unique d e a b = chosen_by problem.denominator d e a b

  -- ---- the first good one of the candidates

  abbrev Bad : List Term → Type 0
  Bad d = IsGood problem cap d → ⊥

  abbrev Kept : List (List Term) → List (List Term) → Type 0
  Kept fs ms = AreKeptOf problem fs ms

  -- all of a list are passed over exactly where none of what is kept of it is good
  bad_kept : (fs ms : List (List Term)) → Kept fs ms → All Passed fs → All Bad ms
  bad_kept [] ms k a = subst (All Bad) (sym k) (All-nil Bad)
  bad_kept (f ∷ fs) ms (inl (i, k)) a = bad_kept fs ms k (All-tail Passed f fs a)
  bad_kept (f ∷ fs) ms (inr (o, m, rest, h, e, k)) a =
      subst (All Bad) (sym e)
      (All-cons Bad m rest (λ g. not_passed f m (record { outside = o; monic = h; good = g }) (All-head Passed f fs a)) (bad_kept fs rest k (All-tail Passed f fs a)))

  passed_kept : (fs ms : List (List Term)) → Kept fs ms → All Bad ms → All Passed fs
  passed_kept [] ms k b = All-nil Passed
  passed_kept (f ∷ fs) ms (inl (i, k)) b = All-cons Passed f fs (inl i) (passed_kept fs ms k b)
  passed_kept (f ∷ fs) ms (inr (o, m, rest, h, e, k)) b =
      let c : All Bad (m ∷ rest) = subst (All Bad) e b in
      All-cons Passed f fs (inr (o, m, h, All-head Bad m rest c)) (passed_kept fs rest k (All-tail Bad m rest c))

  -- one more member in front
  kept_in_front : (m : List Term) (rest : List (List Term)) (d : List Term) → Bad m → IsFirstOf problem cap rest d → IsFirstOf problem cap (m ∷ rest) d
  kept_in_front m rest d b h = record { before = m ∷ h.before; after = h.after; place = ap (λ w. m ∷ w) h.place; bad = All-cons Bad m h.before b h.bad; good = h.good }

  passed_in_front : (f : List Term) (fs : List (List Term)) (d : List Term) → Passed f → IsFirstGood problem cap fs d → IsFirstGood problem cap (f ∷ fs) d
  passed_in_front f fs d p h =
      record { before = f ∷ h.before; member = h.member; after = h.after; place = ap (λ w. f ∷ w) h.place; passed = All-cons Passed f h.before p h.passed; multiple = h.multiple }

  first_at : (before after fs ms : List (List Term)) (f d : List Term) → Kept fs ms → fs ≡ before ++ f ∷ after → All Passed before → IsGoodMultiple problem cap f d → IsFirstOf problem cap ms d
  first_at before after [] ms f d k q a m = absurd (nothing before q)
    where
      nothing : (xs : List (List Term)) → [] ≡ xs ++ f ∷ after → ⊥
      nothing [] e = absurd (cc)
      nothing (x ∷ xs) e = absurd (cc)
  first_at [] after (g ∷ fs) ms f d (inl (i, k)) q a m = let s : g ≡ f = cc in absurd (m.outside (subst (InIdeal problem.prime (length problem.letters) problem.generators) s i))
  first_at [] after (g ∷ fs) ms f d (inr (o, x, rest, h, e, k)) q a m =
      let s : g ≡ f = cc in
      let t : x ≡ d = monic_unique problem.prime f x d (subst (λ y. IsMonicOf problem.prime y x) s h) m.monic in
      record { before = []; after = rest; place = e ∙ ap (λ y. y ∷ rest) t; bad = All-nil Bad; good = m.good }
  first_at (y ∷ before) after (g ∷ fs) ms f d (inl (i, k)) q a m = let s : fs ≡ before ++ f ∷ after = cc in first_at before after fs ms f d k s (All-tail Passed y before a) m
  first_at (y ∷ before) after (g ∷ fs) ms f d (inr (o, x, rest, h, e, k)) q a m =
      let s : fs ≡ before ++ f ∷ after = cc in
      let t : y ≡ g = cc in
      subst (λ w. IsFirstOf problem cap w d) (sym e)
      (kept_in_front x rest d (λ z. not_passed g x (record { outside = o; monic = h; good = z }) (subst Passed t (All-head Passed y before a)))
      (first_at before after fs rest f d k s (All-tail Passed y before a) m))

  first_kept : (fs ms : List (List Term)) (d : List Term) → Kept fs ms → IsFirstGood problem cap fs d → IsFirstOf problem cap ms d
  first_kept fs ms d k h = first_at h.before h.after fs ms h.member d k h.place h.passed h.multiple

  first_back : (before after fs ms : List (List Term)) (d : List Term) → Kept fs ms → ms ≡ before ++ d ∷ after → All Bad before → IsGood problem cap d → IsFirstGood problem cap fs d
  first_back before after [] ms d k q b g = absurd (nothing before (sym k ∙ q))
    where
      nothing : (xs : List (List Term)) → [] ≡ xs ++ d ∷ after → ⊥
      nothing [] e = absurd (cc)
      nothing (x ∷ xs) e = absurd (cc)
  first_back before after (f ∷ fs) ms d (inl (i, k)) q b g = passed_in_front f fs d (inl i) (first_back before after fs ms d k q b g)
  first_back [] after (f ∷ fs) ms d (inr (o, x, rest, h, e, k)) q b g =
      let t : x ≡ d = (let z : x ∷ rest ≡ d ∷ after = sym e ∙ q in cc) in
      record { before = []; member = f; after = fs; place = refl; passed = All-nil Passed; multiple = record { outside = o; monic = subst (IsMonicOf problem.prime f) t h; good = g } }
  first_back (y ∷ before) after (f ∷ fs) ms d (inr (o, x, rest, h, e, k)) q b g =
      let z : x ∷ rest ≡ y ∷ (before ++ d ∷ after) = sym e ∙ q in
      let s : rest ≡ before ++ d ∷ after = cc in
      let t : y ≡ x = cc in
      passed_in_front f fs d (inr (o, x, h, subst Bad t (All-head Bad y before b))) (first_back before after fs rest d k s (All-tail Bad y before b) g)

  -- what is kept of joined lists
  kept_joined : (fs gs ms ns : List (List Term)) → Kept fs ms → Kept gs ns → Kept (fs ++ gs) (ms ++ ns)
  kept_joined [] gs ms ns k l = subst (λ w. Kept gs (w ++ ns)) (sym k) l
  kept_joined (f ∷ fs) gs ms ns (inl (i, k)) l = inl (i, kept_joined fs gs ms ns k l)
  kept_joined (f ∷ fs) gs ms ns (inr (o, x, rest, h, e, k)) l = inr (o, x, rest ++ ns, h, ap (λ w. w ++ ns) e, kept_joined fs gs rest ns k l)

  module _ (cs : List (List Term)) (all : AreCandidates problem cs) where
    whole : Kept (jacobian_of problem ++ sums_of problem all.first) cs
    whole =
        subst (Kept (jacobian_of problem ++ sums_of problem all.first)) (sym (all.joined ∙ append_assoc all.first all.second all.third))
        (kept_joined (jacobian_of problem) (sums_of problem all.first) all.first (all.second ++ all.third) all.are_first
        (kept_joined (number_sums_of problem all.first) (variable_sums_of problem all.first) all.second all.third all.are_second all.are_third))

    into : (d : List Term) → IsChosenBy problem cap None d → IsFirstOf problem cap cs d
    into d (inl h) = first_kept _ cs d whole (first_in_front problem cap (jacobian_of problem) (sums_of problem all.first) d h)
    into d (inr h) =
        first_kept _ cs d whole
        (first_behind problem cap (jacobian_of problem) (sums_of problem all.first) d h.passed
        (subst (λ w. IsFirstGood problem cap (sums_of problem w) d) (first_unique h.first all.first h.are_first all.are_first) h.sum))

    -- a first good one of two lists is in the one or the other
    parted : (before xs ys after : List (List Term)) (f d : List Term) → xs ++ ys ≡ before ++ f ∷ after → All Passed before → IsGoodMultiple problem cap f d
        → IsFirstGood problem cap xs d ⊎ (All Passed xs × IsFirstGood problem cap ys d)
    parted before [] ys after f d q a m = inr (All-nil Passed, record { before = before; member = f; after = after; place = q; passed = a; multiple = m })
    parted [] (x ∷ xs) ys after f d q a m =
        let s : x ≡ f = cc in
        inl (record { before = []; member = x; after = xs; place = refl; passed = All-nil Passed; multiple = subst (λ y. IsGoodMultiple problem cap y d) (sym s) m })
    parted (y ∷ before) (x ∷ xs) ys after f d q a m =
        let s : xs ++ ys ≡ before ++ f ∷ after = cc in
        let t : y ≡ x = cc in
        more (subst Passed t (All-head Passed y before a)) (parted before xs ys after f d s (All-tail Passed y before a) m)
      where
        more : Passed x → IsFirstGood problem cap xs d ⊎ (All Passed xs × IsFirstGood problem cap ys d) → IsFirstGood problem cap (x ∷ xs) d ⊎ (All Passed (x ∷ xs) × IsFirstGood problem cap ys d)
        more p (inl h) = inl (passed_in_front x xs d p h)
        more p (inr (b, h)) = inr (All-cons Passed x xs p b, h)

    back : (d : List Term) → IsFirstOf problem cap cs d → IsChosenBy problem cap None d
    back d h =
        let g = first_back h.before h.after _ cs d whole h.place h.bad h.good in
        go (parted g.before (jacobian_of problem) (sums_of problem all.first) g.after g.member d g.place g.passed g.multiple)
      where
        go : IsFirstGood problem cap (jacobian_of problem) d ⊎ (All Passed (jacobian_of problem) × IsFirstGood problem cap (sums_of problem all.first) d) → IsChosenBy problem cap None d
        go (inl x) = inl x
        go (inr (p, x)) = inr (record { first = all.first; are_first = all.are_first; passed = p; sum = x })

pub first_candidates_law : FirstCandidatesAreChosen
first_candidates_law problem cap cs none all d = (
  λ h. into problem cap cs all d (subst (λ o. IsChosenBy problem cap o d) none h),
  λ h. subst (λ o. IsChosenBy problem cap o d) (sym none) (back problem cap cs all d h),
)

-- ---- reasons

-- what the reasons say, each under its name
data Reason (problem : ProblemData) (cap : ℕ) (d : List Term) (s : PickStop) : Type 0 where
  deep_module : s ≡ DenominatorDeep → HasDeepModule problem cap d → Reason problem cap d s
  divisor : s ≡ ZeroDivisor → IsZeroDivisor problem cap d → Reason problem cap d s
  infinite : s ≡ Infinite → IsAllowed problem cap d → IsInfinite problem d → Reason problem cap d s
  wide : s ≡ Wide → IsAllowed problem cap d → IsWide problem d → Reason problem cap d s

module _ (problem : ProblemData) (cap : ℕ) (d : List Term) where
  reason_of : (s : PickStop) → s ≢ Memory → IsReason problem cap d s → Reason problem cap d s
  reason_of Deep m r = absurd r
  reason_of Unit m r = absurd r
  reason_of DenominatorDeep m r = deep_module refl r
  reason_of ZeroDivisor m r = divisor refl r
  reason_of Infinite m r = infinite refl r.0 r.1
  reason_of Wide m r = wide refl r.0 r.1
  reason_of NoDenominator m r = absurd r
  reason_of Memory m r = absurd (m refl)

  one_of : (s t : PickStop) → Reason problem cap d s → Reason problem cap d t → s ≡ t
  one_of s t (deep_module e a) (deep_module k b) = e ∙ sym k
  one_of s t (deep_module e a) (divisor k b) = absurd (b.not_deep a)
  one_of s t (deep_module e a) (infinite k b i) = absurd (b.not_deep a)
  one_of s t (deep_module e a) (wide k b w) = absurd (b.not_deep a)
  one_of s t (divisor e a) (deep_module k b) = absurd (a.not_deep b)
  one_of s t (divisor e a) (divisor k b) = e ∙ sym k
  one_of s t (divisor e a) (infinite k b i) = absurd (a.not_regular b.regular)
  one_of s t (divisor e a) (wide k b w) = absurd (a.not_regular b.regular)
  one_of s t (infinite e a i) (deep_module k b) = absurd (a.not_deep b)
  one_of s t (infinite e a i) (divisor k b) = absurd (b.not_regular a.regular)
  one_of s t (infinite e a i) (infinite k b j) = e ∙ sym k
  one_of s t (infinite e a i) (wide k b w) = absurd (i w.2.basis w.2.spans)
  one_of s t (wide e a w) (deep_module k b) = absurd (a.not_deep b)
  one_of s t (wide e a w) (divisor k b) = absurd (b.not_regular a.regular)
  one_of s t (wide e a w) (infinite k b i) = absurd (i w.2.basis w.2.spans)
  one_of s t (wide e a w) (wide k b v) = e ∙ sym k

-- ---- causes

-- what the causes say, want of memory aside
data Cause (problem : ProblemData) (cap : ℕ) (s : PickStop) : Type 0 where
  deep_ideal : s ≡ Deep → HasDeepIdeal problem cap → Cause problem cap s
  unit_ideal : s ≡ Unit → (HasDeepIdeal problem cap → ⊥) → HasUnitIdeal problem → Cause problem cap s
  bad_denominator : HasProperIdeal problem cap → (d : List Term) → IsHandedIn problem d → IsReason problem cap d s → Cause problem cap s
  no_denominator : s ≡ NoDenominator → HasProperIdeal problem cap → HasNoDenominator problem cap → Cause problem cap s

module _ (problem : ProblemData) (cap : ℕ) where
  cause_of : (s : PickStop) → s ≢ Memory → IsCause problem cap s → Cause problem cap s
  cause_of Deep m c = deep_ideal refl c
  cause_of Unit m c = unit_ideal refl c.0 c.1
  cause_of DenominatorDeep m (p, (d, h, r)) = bad_denominator p d h r
  cause_of ZeroDivisor m (p, (d, h, r)) = bad_denominator p d h r
  cause_of Infinite m (p, (d, h, r)) = bad_denominator p d h r
  cause_of Wide m (p, (d, h, r)) = bad_denominator p d h r
  cause_of NoDenominator m c = no_denominator refl c.0 c.1
  cause_of Memory m c = absurd (m refl)

  -- one denominator is handed in
  handed_unique : (d e : List Term) → IsHandedIn problem d → IsHandedIn problem e → d ≡ e
  handed_unique d e (f, q, a) (g, k, b) =
      let s : g ≡ f = (let o : Some g ≡ Some f = sym k ∙ q in cc) in
      monic_unique problem.prime f d e a (subst (λ x. IsMonicOf problem.prime x e) s b)

  -- none is where none is handed in
  not_handed : (d : List Term) → IsHandedIn problem d → HasNoDenominator problem cap → ⊥
  not_handed d (f, q, a) n = let o : Some f ≡ None = sym q ∙ n.none in absurd (cc)

  one_reason : (s t : PickStop) → s ≢ Memory → t ≢ Memory → (d e : List Term) → IsHandedIn problem d → IsHandedIn problem e → IsReason problem cap d s → IsReason problem cap e t → s ≡ t
  one_reason s t m n d e h k a b =
      one_of problem cap e s t (reason_of problem cap e s m (subst (λ x. IsReason problem cap x s) (handed_unique d e h k) a)) (reason_of problem cap e t n b)

  one_cause : (s t : PickStop) → s ≢ Memory → t ≢ Memory → Cause problem cap s → Cause problem cap t → s ≡ t
  one_cause s t m n (deep_ideal e a) (deep_ideal k b) = e ∙ sym k
  one_cause s t m n (deep_ideal e a) (unit_ideal k b u) = absurd (b a)
  one_cause s t m n (deep_ideal e a) (bad_denominator p d h r) = absurd (p.not_deep a)
  one_cause s t m n (deep_ideal e a) (no_denominator k p h) = absurd (p.not_deep a)
  one_cause s t m n (unit_ideal e a u) (deep_ideal k b) = absurd (a b)
  one_cause s t m n (unit_ideal e a u) (unit_ideal k b v) = e ∙ sym k
  one_cause s t m n (unit_ideal e a u) (bad_denominator p d h r) = absurd (p.not_unit u)
  one_cause s t m n (unit_ideal e a u) (no_denominator k p h) = absurd (p.not_unit u)
  one_cause s t m n (bad_denominator p d h r) (deep_ideal k b) = absurd (p.not_deep b)
  one_cause s t m n (bad_denominator p d h r) (unit_ideal k b v) = absurd (p.not_unit v)
  one_cause s t m n (bad_denominator p d h r) (bad_denominator q e k x) = one_reason s t m n d e h k r x
  one_cause s t m n (bad_denominator p d h r) (no_denominator k q b) = absurd (not_handed d h b)
  one_cause s t m n (no_denominator e p a) (deep_ideal k b) = absurd (p.not_deep b)
  one_cause s t m n (no_denominator e p a) (unit_ideal k b v) = absurd (p.not_unit v)
  one_cause s t m n (no_denominator e p a) (bad_denominator q d h r) = absurd (not_handed d h a)
  one_cause s t m n (no_denominator e p a) (no_denominator k q b) = e ∙ sym k

  pub cause_unique : (s t : PickStop) → s ≢ Memory → t ≢ Memory → IsCause problem cap s → IsCause problem cap t → s ≡ t
  cause_unique s t m n a b = one_cause s t m n (cause_of s m a) (cause_of t n b)

  -- ---- a cause and a choice

  bad_choice : (s : PickStop) (d e : List Term) → s ≢ Memory → IsHandedIn problem e → IsReason problem cap e s → IsChosen problem cap d → ⊥
  bad_choice s d e m (f, q, h) r c =
      let k : IsChosenBy problem cap (Some f) d = subst (λ o. IsChosenBy problem cap o d) q c in
      reason_is_bad problem cap d s m (subst (λ x. IsReason problem cap x s) (monic_unique problem.prime f e d h k.0) r) k.1

  no_choice : (d : List Term) → HasNoDenominator problem cap → IsChosen problem cap d → ⊥
  no_choice d n c = go (subst (λ o. IsChosenBy problem cap o d) n.none c)
    where
      go : IsChosenBy problem cap None d → ⊥
      go (inl a) = none_good problem cap (jacobian_of problem) d n.passed a
      go (inr a) =
          none_good problem cap (sums_of problem n.first) d n.sums_passed
          (subst (λ w. IsFirstGood problem cap (sums_of problem w) d) (first_unique problem cap a.first n.first a.are_first n.are_first) a.sum)

  pub not_both : (s : PickStop) (d : List Term) → s ≢ Memory → IsCause problem cap s → HasProperIdeal problem cap → IsChosen problem cap d → ⊥
  not_both s d m a p c = go (cause_of s m a)
    where
      go : Cause problem cap s → ⊥
      go (deep_ideal e x) = p.not_deep x
      go (unit_ideal e x u) = p.not_unit u
      go (bad_denominator q e h r) = bad_choice s d e m h r c
      go (no_denominator e q h) = no_choice d h c

pub choices_law : ChoicesAreUnique
choices_law = record { chosen = chosen_unique; cause = cause_unique; not_both = not_both }

-- ---- answers

is_memory : (s : PickStop) → (s ≡ Memory) ⊎ (s ≢ Memory)
is_memory Deep = inr (λ e. absurd (cc))
is_memory Unit = inr (λ e. absurd (cc))
is_memory DenominatorDeep = inr (λ e. absurd (cc))
is_memory ZeroDivisor = inr (λ e. absurd (cc))
is_memory Infinite = inr (λ e. absurd (cc))
is_memory Wide = inr (λ e. absurd (cc))
is_memory NoDenominator = inr (λ e. absurd (cc))
is_memory Memory = inl refl

module _ (problem : ProblemData) (cap : ℕ) where
  -- a refusal is the one cause
  pub exact_refusal : (r : Result LiftedData PickStop) (t : PickStop) → r ≡ Err t → IsCause problem cap t → (s : PickStop) → s ≢ Memory → IsCause problem cap s → (r ≡ Err s) ⊎ (r ≡ Err Memory)
  exact_refusal r t q a s m b = go (is_memory t)
    where
      go : (t ≡ Memory) ⊎ (t ≢ Memory) → (r ≡ Err s) ⊎ (r ≡ Err Memory)
      go (inl e) = inr (q ∙ ap Err e)
      go (inr n) = inl (q ∙ ap Err (cause_unique problem cap t s n m a b))

  -- and comes with no choice
  pub complete_refusal : (r : Result LiftedData PickStop) (t : PickStop) → r ≡ Err t → IsCause problem cap t → HasProperIdeal problem cap → (d : List Term) → IsChosen problem cap d
      → MatchResult r (λ l. l.denominator.terms ≡ d) (λ s. s ≡ Memory)
  complete_refusal r t q a p d b = subst (λ (x : Result LiftedData PickStop). MatchResult x (λ l. l.denominator.terms ≡ d) (λ s. s ≡ Memory)) (sym q) (go (is_memory t))
    where
      go : (t ≡ Memory) ⊎ (t ≢ Memory) → t ≡ Memory
      go (inl e) = e
      go (inr n) = absurd (not_both problem cap t d n a p b)

  -- an answer is the one cause
  pub exact_answer : (r : Result LiftedData PickStop) → HasProperIdeal problem cap → IfOk r (λ l. IsChosen problem cap l.denominator.terms) → IfErr r (λ t. IsCause problem cap t)
      → (s : PickStop) → s ≢ Memory → IsCause problem cap s → (r ≡ Err s) ⊎ (r ≡ Err Memory)
  exact_answer (Ok l) p c a s m b = absurd (not_both problem cap s l.denominator.terms m b p c)
  exact_answer (Err t) p c a s m b = exact_refusal (Err t) t refl a s m b

  -- or the one choice
  pub complete_answer : (r : Result LiftedData PickStop) → IfOk r (λ l. IsChosen problem cap l.denominator.terms) → IfErr r (λ t. IsCause problem cap t)
      → HasProperIdeal problem cap → (d : List Term) → IsChosen problem cap d → MatchResult r (λ l. l.denominator.terms ≡ d) (λ s. s ≡ Memory)
  complete_answer (Ok l) c a p d b = chosen_unique problem cap l.denominator.terms d c b
  complete_answer (Err t) c a p d b = complete_refusal (Err t) t refl a p d b
