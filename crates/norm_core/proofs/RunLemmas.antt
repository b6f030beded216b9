-- What a run tells, by what was answered.
use Rattle.std.proofs.Common.{◌≡◌, ◌≢◌, ◌<◌, ◌⊎◌, ℕ, List, [], ◌∷◌, length, take, get_or, codes, refl, sym, ap, ◌∙◌, subst, inl, inr, Bool, true, false, arith}
use Rattle.std.specs.Prelude.{Option, None, Some, Result, Ok, Err, ◌==◌}
use Rattle.std.proofs.lemmas.Bool.Decides.{nat_tests}
use Rattle.std.specs.Io.KnownBytes.{Appends}
use Rattle.norm_core.specs.declared.refusals.Refusal.{Refusal}
use Rattle.command_line.specs.declared.asking.Limits.{Limits}
use Rattle.command_line.specs.declared.asking.Ask.{Ask}
use Rattle.command_line.specs.declared.asking.Ask.TheVariants.{Alone, Normal}
use Rattle.command_line.specs.declared.reading.WordFault.{WordFault}
use Rattle.command_line.specs.declared.reading.WordFault.TheVariants as fault
use Rattle.command_line.specs.Asks.{AskNothing, AsksFor}
use Rattle.norm_core.specs.Asking.{AsksAlone}
use Rattle.norm_core.specs.Telling.{Service, AsksNothing, OnlyUnder, Tells, Told, HasAnswer, ToTell, IsTold, IsCutShort, IsExact, IsComplete, IsStopped, HasStatus, outcome_status}

eq_or_ne : (a b : ℕ) → (a ≡ b) ⊎ (a ≢ b)
eq_or_ne a b = by_test (a == b) refl
  where
    by_test : (t : Bool) → (a == b) ≡ t → (a ≡ b) ⊎ (a ≢ b)
    by_test true e = inl (grind (arith, nat_tests))
    by_test false e = inr (λ same. grind (arith, nat_tests))

-- a run that ends with the status of its answer, unless a write fails, is exact
pub run-exact : (cap limit : ℕ) (left : Option (List ℕ)) (answer : Result (List ℕ) Refusal) (result : ℕ)
    → ((input text : List ℕ) (status : ℕ) → left ≡ Some input → Tells cap limit input status text → HasStatus answer status)
    → (result ≢ 21 → result ≡ outcome_status answer) → IsExact cap limit left result
run-exact cap limit left answer result exact same input text status known tells = by_result (eq_or_ne result 21)
  where
    by_status : result ≡ outcome_status answer → HasStatus answer status → (result ≡ status) ⊎ IsStopped result
    by_status e (inl h) = inl (e ∙ h)
    by_status e (inr h) = inr (subst IsStopped (sym e) h)

    by_result : (result ≡ 21) ⊎ (result ≢ 21) → (result ≡ status) ⊎ IsStopped result
    by_result (inl cut) = inr (inr (inl cut))
    by_result (inr kept) = by_status (same kept) (exact input text status known tells)

-- and it answers what has an answer
pub run-complete : (cap limit : ℕ) (left : Option (List ℕ)) (answer : Result (List ℕ) Refusal) (result : ℕ)
    → ((input : List ℕ) → left ≡ Some input → HasAnswer cap limit input → HasStatus answer 0)
    → (result ≢ 21 → result ≡ outcome_status answer) → IsComplete cap limit left result
run-complete cap limit left answer result complete same input known h = by_result (eq_or_ne result 21)
  where
    by_status : result ≡ outcome_status answer → HasStatus answer 0 → (result ≡ 0) ⊎ IsStopped result
    by_status e (inl zero) = inl (e ∙ zero)
    by_status e (inr stopped) = inr (subst IsStopped (sym e) stopped)

    by_result : (result ≡ 21) ⊎ (result ≢ 21) → (result ≡ 0) ⊎ IsStopped result
    by_result (inl cut) = inr (inr (inl cut))
    by_result (inr kept) = by_status (same kept) (complete input known h)

-- a run tells what is to be told, unless a write fails
pub run-told : (serves : Service) (left now held held_now : Option (List ℕ)) (status result : ℕ) (text : List ℕ)
    → (result ≢ 21 → (result ≡ status) × Appends held held_now text) → ToTell serves left now status text
    → IsStopped result ⊎ IsTold serves left now held held_now result
run-told serves left now held held_now status result text whole meant = by_result (eq_or_ne result 21)
  where
    by_result : (result ≡ 21) ⊎ (result ≢ 21) → IsStopped result ⊎ IsTold serves left now held held_now result
    by_result (inl cut) = inl (inr (inl cut))
    by_result (inr kept) = inr (text, subst (λ s. ToTell serves left now s text) (sym (whole kept).0) meant, (whole kept).1)

-- a run whose write failed was cut short
pub run-cut_short : (serves : Service) (left now held held_now : Option (List ℕ)) (status : ℕ) (text : List ℕ) → ToTell serves left now status text
    → ((n : ℕ) × (n < length text) × Appends held held_now (take n text)) → IsCutShort serves left now held held_now
run-cut_short serves left now held held_now status text meant part = record {
  status = status;
  text = text;
  written = part.0;
  meant = meant;
  part = part.1;
  gained = part.2;
}

pub told-text : (cap limit : ℕ) (left now : Option (List ℕ)) (status : ℕ) (a b : List ℕ) → a ≡ b → Told cap limit left now status b → Told cap limit left now status a
told-text cap limit left now status a b e told = subst (Told cap limit left now status) (sym e) told

-- ---- refusals

-- a refusal whose line is written whole, or which has none, ends with its status
pub refuse-status : (status result : ℕ) (K W : Type 0) → ((status ≡ 20) ⊎ (status ≡ 30) → (result ≡ status) × K)
    → ((status ≢ 20) × (status ≢ 30) → result ≢ 21 → (result ≡ status) × W) → result ≢ 21 → result ≡ status
refuse-status status result K W silent whole kept = by_status (eq_or_ne status 20) (eq_or_ne status 30)
  where
    by_status : (status ≡ 20) ⊎ (status ≢ 20) → (status ≡ 30) ⊎ (status ≢ 30) → result ≡ status
    by_status (inl fault) b = (silent (inl fault)).0
    by_status (inr a) (inl memory) = (silent (inr memory)).0
    by_status (inr a) (inr b) = (whole (a, b) kept).0

pub refuse-told : (serves : Service) (left now held held_now : Option (List ℕ)) (cap limit status result : ℕ) (line : List ℕ) (K R : Type 0)
    → serves cap limit → ((status ≡ 20) ⊎ (status ≡ 30) → (result ≡ status) × K)
    → ((status ≢ 20) × (status ≢ 30) → result ≢ 21 → (result ≡ status) × Appends held held_now line)
    → (status ≡ 30) ⊎ ((status ≡ 20) × R) ⊎ Told cap limit left now status line
    → IsStopped result ⊎ IsTold serves left now held held_now result
refuse-told serves left now held held_now cap limit status result line K R asked silent whole refused = by_status (eq_or_ne status 20) (eq_or_ne status 30)
  where
    by_telling : (status ≢ 20) → (status ≢ 30) → (status ≡ 30) ⊎ ((status ≡ 20) × R) ⊎ Told cap limit left now status line
        → IsStopped result ⊎ IsTold serves left now held held_now result
    by_telling a b (inl memory) = absurd (b memory)
    by_telling a b (inr (inl fault)) = absurd (a fault.0)
    by_telling a b (inr (inr told)) = run-told serves left now held held_now status result line (whole (a, b)) (inr (cap, limit, asked, told))

    by_status : (status ≡ 20) ⊎ (status ≢ 20) → (status ≡ 30) ⊎ (status ≢ 30) → IsStopped result ⊎ IsTold serves left now held held_now result
    by_status (inl fault) b = inl (inl ((silent (inl fault)).0 ∙ fault))
    by_status (inr a) (inl memory) = inl (inr (inr ((silent (inr memory)).0 ∙ memory)))
    by_status (inr a) (inr b) = by_telling a b refused

pub refuse-cut_short : (serves : Service) (left now held held_now : Option (List ℕ)) (cap limit status : ℕ) (line : List ℕ) (R : Type 0)
    → serves cap limit → (status ≡ 30) ⊎ ((status ≡ 20) × R) ⊎ Told cap limit left now status line
    → (status ≢ 20) × (status ≢ 30) × ((n : ℕ) × (n < length line) × Appends held held_now (take n line))
    → IsCutShort serves left now held held_now
refuse-cut_short serves left now held held_now cap limit status line R asked (inl memory) part = absurd (part.1 memory)
refuse-cut_short serves left now held held_now cap limit status line R asked (inr (inl fault)) part = absurd (part.0 fault.0)
refuse-cut_short serves left now held held_now cap limit status line R asked (inr (inr told)) part =
    run-cut_short serves left now held held_now status line (inr (cap, limit, asked, told)) part.2

-- ---- what was asked

-- what one service tells another tells too
pub record IsServedBy (serves other : Service) : Type 0 where
  pub each : (cap limit : ℕ) → serves cap limit → other cap limit
  pub none : AsksNothing serves → AsksNothing other

to_tell_by : (serves other : Service) (left now : Option (List ℕ)) (status : ℕ) (text : List ℕ) → IsServedBy serves other
    → ToTell serves left now status text → ToTell other left now status text
to_tell_by serves other left now status text s (inl h) = inl (s.none h.0, h.1, h.2)
to_tell_by serves other left now status text s (inr h) = inr (h.0, h.1, s.each h.0 h.1 h.2, h.3)

pub told_by : (serves other : Service) (left now held held_now : Option (List ℕ)) (result : ℕ) → IsServedBy serves other
    → IsStopped result ⊎ IsTold serves left now held held_now result → IsStopped result ⊎ IsTold other left now held held_now result
told_by serves other left now held held_now result s (inl stopped) = inl stopped
told_by serves other left now held held_now result s (inr told) =
    inr (told.0, to_tell_by serves other left now result told.0 s told.1, told.2)

pub cut_short_by : (serves other : Service) (left now held held_now : Option (List ℕ)) → IsServedBy serves other
    → IsCutShort serves left now held held_now → IsCutShort other left now held held_now
cut_short_by serves other left now held held_now s cut = record {
  status = cut.status;
  text = cut.text;
  written = cut.written;
  meant = to_tell_by serves other left now cut.status cut.text s cut.meant;
  part = cut.part;
  gained = cut.gained;
}

-- limits alone are a service of what asks for them
pub limits_served : (limits : Limits) (other : Service) → other limits.cap limits.limit → IsServedBy (OnlyUnder limits.cap limits.limit) other
limits_served limits other asked = record {
  each = λ cap limit h. subst (λ k. other k limit) (sym h.0) (subst (λ l. other limits.cap l) (sym h.1) asked);
  none = λ never. absurd (never limits.cap limits.limit (refl, refl));
}

-- what was read is what words ask for, unless memory ran out
abbrev IsRead : Result Ask WordFault → Ask → Type 0
IsRead read ask = (read ≡ Ok ask) ⊎ (read ≡ Err fault.Memory)

pub alone_limits : (read : Result Ask WordFault) (limits : Limits) (cap limit : ℕ) → read ≡ Ok (Alone limits)
    → IsRead read (Alone (record { cap = cap; limit = limit })) → (limits.cap ≡ cap) × (limits.limit ≡ limit)
alone_limits read limits cap limit e (inl h) =
    let same : limits ≡ record { cap = cap; limit = limit } = cc (e, h) in
    (ap (λ (l : Limits). l.cap) same, ap (λ (l : Limits). l.limit) same)
alone_limits read limits cap limit e (inr h) = absurd (cc (e, h))

-- for these limits a run is exact and complete
pub exact-for : (limits : Limits) (cap limit : ℕ) (left : Option (List ℕ)) (result : ℕ) → (limits.cap ≡ cap) × (limits.limit ≡ limit)
    → IsExact limits.cap limits.limit left result → IsExact cap limit left result
exact-for limits cap limit left result e exact =
    subst (λ k. IsExact k limit left result) e.0 (subst (λ l. IsExact limits.cap l left result) e.1 exact)

pub complete-for : (limits : Limits) (cap limit : ℕ) (left : Option (List ℕ)) (result : ℕ) → (limits.cap ≡ cap) × (limits.limit ≡ limit)
    → IsComplete limits.cap limits.limit left result → IsComplete cap limit left result
complete-for limits cap limit left result e complete =
    subst (λ k. IsComplete k limit left result) e.0 (subst (λ l. IsComplete limits.cap l left result) e.1 complete)

-- ---- the command's word

-- the words begin with `normal`
abbrev IsNormal : List (List ℕ) → Type 0
IsNormal words = (rest : List (List ℕ)) × (words ≡ codes "normal" ∷ rest)

pub asked_normal : (words : List (List ℕ)) (workers : ℕ) (limits : Limits) → AsksFor words (Normal workers limits) → IsNormal words
asked_normal words workers limits a = (a.rest, a.command)

pub not_both_commands : (words : List (List ℕ)) (limits : Limits) → IsNormal words → AsksFor words (Alone limits) → ⊥
not_both_commands words limits n a = absurd (omega (arith, ap (λ ws. length (get_or ws 0 [])) (sym n.1 ∙ a.command)))

-- words that begin with `normal` ask nothing of one seat
pub nothing_of_one : (words : List (List ℕ)) → IsNormal words → AsksNothing (AsksAlone words)
nothing_of_one words n cap limit a = not_both_commands words (record { cap = cap; limit = limit }) n a

-- other words that ask nothing of one seat ask for nothing
pub nothing_but_normal : (words : List (List ℕ)) → (IsNormal words → ⊥) → AsksNothing (AsksAlone words) → AskNothing words
nothing_but_normal words other h (Alone limits) a = h limits.cap limits.limit a
nothing_but_normal words other h (Normal workers limits) a = other (asked_normal words workers limits a)

-- words that are not read for want of memory ask for something
pub not_nothing : (read : Result Ask WordFault) (words : List (List ℕ)) → read ≡ Err fault.Memory → (AskNothing words → read ≡ Err fault.Usage) → AskNothing words → ⊥
not_nothing read words e h nothing = let gone = h nothing in absurd (cc (e, gone))

pub bool_clash : (b : Bool) → b ≡ true → b ≡ false → ⊥
bool_clash b is is_not = absurd (cc (is, is_not))
