-- Words that ask for an answer.
use Rattle.std.proofs.Common.{◌≡◌, ◌≤◌, ◌+◌, ℕ, List, [], ◌∷◌, ◌++◌, length, get_or, drop, codes, sym, ap, ◌∙◌, subst, arith, Option, None, Some, ◌⊎◌, inl, inr, refl, All, ◌≢◌, rules, append_assoc}
use Rattle.std.proofs.lemmas.List.Elements.{All-head, All-tail}
use Rattle.std.specs.Prelude.{⊤, IfSome}
use Rattle.std.specs.Option.{unwrap_or}
use Rattle.command_line.specs.declared.asking.Limits.{Limits}
use Rattle.module_basis.specs.declared.cap.TheConstants.{MAX_CAP}
use Rattle.command_line.specs.declared.options.Given.{Given}
use Rattle.command_line.specs.declared.options.Setting.{Setting}
use Rattle.command_line.specs.declared.options.Setting.TheVariants.{Workers, Degree, Delta}
use Rattle.command_line.specs.declared.options.TheConstants.{MAX_WORKERS, MAX_LIMIT}
use Rattle.command_line.specs.declared.asking.Ask.{Ask}
use Rattle.command_line.specs.declared.asking.Ask.TheVariants.{Alone, Normal}
use Rattle.command_line.specs.declared.asking.TheConstants.{DEFAULT_CAP, DEFAULT_WORKERS}
use Rattle.command_line.specs.Options.{IsNumberUpTo, IsSetting, IsJoined, Adds, Gives, none, apart, joined, nothing}
use Rattle.command_line.specs.Asks.{AreLimits, AreWithin, AsksFor, IsWithin, Sets, command_of}

-- texts without the byte of `=`
abbrev IsNoSign : ℕ → Type 0
IsNoSign c = c ≢ 61

abbrev HasNoSign : List ℕ → Type 0
HasNoSign = All IsNoSign

-- a text with that byte is none of them
no_sign_in : (xs ys : List ℕ) → HasNoSign (xs ++ 61 ∷ ys) → ⊥
no_sign_in [] ys h = (All-head IsNoSign 61 ys h) refl
no_sign_in (x ∷ xs) ys h = no_sign_in xs ys (All-tail IsNoSign x (xs ++ 61 ∷ ys) h)

-- such a text is cut at its first `=` in one way
one_cut : (xs us ys vs : List ℕ) → HasNoSign xs → HasNoSign us → xs ++ 61 ∷ ys ≡ us ++ 61 ∷ vs → (xs ≡ us) × (ys ≡ vs)
one_cut [] [] ys vs h k e = (refl, ap (drop 1) e)
one_cut [] (u ∷ us) ys vs h k e = absurd (All-head IsNoSign u us k (sym (ap (λ w. get_or w 0 0) e)))
one_cut (x ∷ xs) [] ys vs h k e = absurd (All-head IsNoSign x xs h (ap (λ w. get_or w 0 0) e))
one_cut (x ∷ xs) (u ∷ us) ys vs h k e =
    let rest = one_cut xs us ys vs (All-tail IsNoSign x xs h) (All-tail IsNoSign u us k) (ap (drop 1) e) in
    (ap (λ c. c ∷ xs) (ap (λ w. get_or w 0 0) e) ∙ ap (λ cs. u ∷ cs) rest.0, rest.1)

-- the names of the options have no `=`
workers_sign : HasNoSign (codes "--workers")
workers_sign = search rules

degree_sign : HasNoSign (codes "--degree")
degree_sign = search rules

delta_sign : HasNoSign (codes "--delta")
delta_sign = search rules

name_sign : (name value : List ℕ) (setting : Setting) → IsSetting name value setting → HasNoSign name
name_sign name value (Workers workers) h = subst HasNoSign (sym h.0) workers_sign
name_sign name value (Degree cap) h = subst HasNoSign (sym h.0) degree_sign
name_sign name value (Delta limit) h = subst HasNoSign (sym h.0) delta_sign

-- so no word is both a name and an option with its value
pub not_both : (word value : List ℕ) (setting other : Setting) → IsSetting word value setting → IsJoined word other → ⊥
not_both word value setting other h j = no_sign_in j.0 j.1 (subst HasNoSign (j.2 ∙ append_assoc j.0 (codes "=") j.1) (name_sign word value setting h))

-- a number is one number
one_number : (top : ℕ) (word other : List ℕ) (n m : ℕ) → word ≡ other → IsNumberUpTo top word n → IsNumberUpTo top other m → n ≡ m
one_number top word other n m e h k = subst (λ w. IsNumberUpTo top w m → n ≡ m) e (λ q. sym h.value ∙ q.value) k

-- a name and a value set one thing
pub one_setting : (name value : List ℕ) (a b : Setting) → IsSetting name value a → IsSetting name value b → a ≡ b
one_setting name value (Workers workers) (Workers other) h k = ap Workers (one_number MAX_WORKERS value value workers other refl h.1 k.1)
one_setting name value (Workers workers) (Degree cap) h k = absurd (omega (arith, ap length (sym h.0 ∙ k.0)))
one_setting name value (Workers workers) (Delta limit) h k = absurd (omega (arith, ap length (sym h.0 ∙ k.0)))
one_setting name value (Degree cap) (Workers workers) h k = absurd (omega (arith, ap length (sym h.0 ∙ k.0)))
one_setting name value (Degree cap) (Degree other) h k = ap Degree (one_number MAX_CAP value value cap other refl h.1 k.1)
one_setting name value (Degree cap) (Delta limit) h k = absurd (omega (arith, ap length (sym h.0 ∙ k.0)))
one_setting name value (Delta limit) (Workers workers) h k = absurd (omega (arith, ap length (sym h.0 ∙ k.0)))
one_setting name value (Delta limit) (Degree cap) h k = absurd (omega (arith, ap length (sym h.0 ∙ k.0)))
one_setting name value (Delta limit) (Delta other) h k = ap Delta (one_number MAX_LIMIT value value limit other refl h.1 k.1)

-- and so does one word
pub one_joined : (word : List ℕ) (a b : Setting) → IsJoined word a → IsJoined word b → a ≡ b
one_joined word a b h k =
    let cut = one_cut h.0 k.0 h.1 k.1 (name_sign h.0 h.1 a h.3) (name_sign k.0 k.1 b k.3) (sym (append_assoc h.0 (codes "=") h.1) ∙ sym h.2 ∙ k.2 ∙ append_assoc k.0 (codes "=") k.1) in
    one_setting h.0 h.1 a b h.3 (subst (λ v. IsSetting h.0 v b) (sym cut.1) (subst (λ n. IsSetting n k.1 b) (sym cut.0) k.3))

-- what the three parts make
all_parts : (a b : Given) → a.workers ≡ b.workers → a.degree ≡ b.degree → a.delta ≡ b.delta → a ≡ b
all_parts a b w e h = λ i. record { workers = w i; degree = e i; delta = h i }

one_after : (before : Given) (setting : Setting) (a b : Given) → Adds before setting a → Adds before setting b → a ≡ b
one_after before (Workers workers) a b h k = all_parts a b (h.1 ∙ sym k.1) (h.2 ∙ sym k.2) (h.3 ∙ sym k.3)
one_after before (Degree cap) a b h k = all_parts a b (h.2 ∙ sym k.2) (h.1 ∙ sym k.1) (h.3 ∙ sym k.3)
one_after before (Delta limit) a b h k = all_parts a b (h.2 ∙ sym k.2) (h.3 ∙ sym k.3) (h.1 ∙ sym k.1)

-- the first word is an option with its value
pub record IsJoinedFront (word : List ℕ) (behind : List (List ℕ)) (after : Given) : Type 0 where
  pub setting : Setting
  pub before : Given
  pub option : IsJoined word setting
  pub gives : Gives behind before
  pub adds : Adds before setting after

-- the first word is an option's name, and the next its value
pub record IsApartFront (word : List ℕ) (behind : List (List ℕ)) (after : Given) : Type 0 where
  pub value : List ℕ
  pub rest : List (List ℕ)
  pub setting : Setting
  pub before : Given
  pub is : behind ≡ value ∷ rest
  pub option : IsSetting word value setting
  pub gives : Gives rest before
  pub adds : Adds before setting after

-- what words that begin with this one are
pub front_of : (words : List (List ℕ)) (word : List ℕ) (behind : List (List ℕ)) (after : Given) → words ≡ word ∷ behind → Gives words after
    → IsJoinedFront word behind after ⊎ IsApartFront word behind after
front_of words word behind after e (none w g f h) = absurd (omega (arith, ap length (sym e ∙ f)))
front_of words word behind after e (apart w rest name value setting before g f option gives adds) =
    let same = sym f ∙ e in
    inr (record {
      value = value;
      rest = rest;
      setting = setting;
      before = before;
      is = sym (ap (drop 1) same);
      option = subst (λ n. IsSetting n value setting) (ap (λ ws. get_or ws 0 []) same) option;
      gives = gives;
      adds = adds;
    })
front_of words word behind after e (joined w rest first setting before g f option gives adds) =
    let same = sym f ∙ e in
    inl (record {
      setting = setting;
      before = before;
      option = subst (λ n. IsJoined n setting) (ap (λ ws. get_or ws 0 []) same) option;
      gives = subst (λ ws. Gives ws before) (ap (drop 1) same) gives;
      adds = adds;
    })

-- where there is no word, nothing is given
pub nothing_given : (words : List (List ℕ)) (given : Given) → words ≡ [] → Gives words given → given ≡ nothing
nothing_given words given e (none w g f h) = h
nothing_given words given e (apart w rest name value setting before g f option gives adds) = absurd (omega (arith, ap length (sym e ∙ f)))
nothing_given words given e (joined w rest first setting before g f option gives adds) = absurd (omega (arith, ap length (sym e ∙ f)))

-- words give one thing
pub one_given : (words : List (List ℕ)) (a b : Given) → Gives words a → Gives words b → a ≡ b
one_given words a b (none w g f h) k = h ∙ sym (nothing_given words b f k)
one_given words a b (apart w rest name value setting before g f option gives adds) k =
    elim (front_of words name (value ∷ rest) b f k) [
      | inl j ↦ absurd (not_both name value setting j.setting option j.option)
      | inr p ↦
          let same : value ≡ p.value = ap (λ ws. get_or ws 0 []) p.is in
          let one = one_setting name value setting p.setting option (subst (λ v. IsSetting name v p.setting) (sym same) p.option) in
          let start = one_given rest before p.before gives (subst (λ ws. Gives ws p.before) (sym (ap (drop 1) p.is)) p.gives) in
          one_after before setting a b adds (subst (λ s. Adds before s b) (sym one) (subst (λ g. Adds g p.setting b) (sym start) p.adds))
    ]
one_given words a b (joined w rest first setting before g f option gives adds) k =
    elim (front_of words first rest b f k) [
      | inl j ↦
          let one = one_joined first setting j.setting option j.option in
          let start = one_given rest before j.before gives j.gives in
          one_after before setting a b adds (subst (λ s. Adds before s b) (sym one) (subst (λ g. Adds g j.setting b) (sym start) j.adds))
      | inr p ↦ absurd (not_both first p.value p.setting setting p.option option)
    ]

-- an option in one word, before words of options
pub joined_found : (o : Option Given) (words : List (List ℕ)) (word : List ℕ) (behind : List (List ℕ)) (setting : Setting) (before : Given)
    → words ≡ word ∷ behind → IsJoined word setting → Gives behind before → IfSome o (λ after. Adds before setting after) → IfSome o (λ given. Gives words given)
joined_found None words word behind setting before e option gives adds = tt
joined_found (Some after) words word behind setting before e option gives adds = joined words behind word setting before after e option gives adds

pub joined_complete : (o : Option Given) (words : List (List ℕ)) (word : List ℕ) (behind : List (List ℕ)) (setting : Setting) (before : Given)
    → words ≡ word ∷ behind → IsJoined word setting → Gives behind before → ((after : Given) → Adds before setting after → o ≡ Some after)
    → (given : Given) → Gives words given → o ≡ Some given
joined_complete o words word behind setting before e option gives adding given k =
    elim (front_of words word behind given e k) [
      | inl j ↦
          let one = one_joined word setting j.setting option j.option in
          let start = one_given behind before j.before gives j.gives in
          adding given (subst (λ s. Adds before s given) (sym one) (subst (λ g. Adds g j.setting given) (sym start) j.adds))
      | inr p ↦ absurd (not_both word p.value p.setting setting p.option option)
    ]

-- an option in two words, before words of options
pub apart_found : (o : Option Given) (words : List (List ℕ)) (name value : List ℕ) (behind rest : List (List ℕ)) (setting : Setting) (before : Given)
    → words ≡ name ∷ behind → behind ≡ value ∷ rest → IsSetting name value setting → Gives rest before → IfSome o (λ after. Adds before setting after)
    → IfSome o (λ given. Gives words given)
apart_found None words name value behind rest setting before e h option gives adds = tt
apart_found (Some after) words name value behind rest setting before e h option gives adds =
    apart words rest name value setting before after (e ∙ ap (λ ws. name ∷ ws) h) option gives adds

-- a word that is no option with its value is an option's name
pub name_front : (words : List (List ℕ)) (word : List ℕ) (behind : List (List ℕ)) (given : Given) → words ≡ word ∷ behind
    → ((setting : Setting) → IsJoined word setting → None ≡ Some setting) → Gives words given → IsApartFront word behind given
name_front words word behind given e never k =
    elim (front_of words word behind given e k) [
      | inl j ↦ let gone = never j.setting j.option in absurd (cc gone)
      | inr p ↦ p
    ]

-- the words of an option's name, its value and the rest
pub record IsNamed (name value : List ℕ) (rest : List (List ℕ)) (after : Given) : Type 0 where
  pub setting : Setting
  pub before : Given
  pub option : IsSetting name value setting
  pub gives : Gives rest before
  pub adds : Adds before setting after

pub named : (words : List (List ℕ)) (name value : List ℕ) (behind rest : List (List ℕ)) (given : Given) → words ≡ name ∷ behind → behind ≡ value ∷ rest
    → ((setting : Setting) → IsJoined name setting → None ≡ Some setting) → Gives words given → IsNamed name value rest given
named words name value behind rest given e h never k =
    let p = name_front words name behind given e never k in
    let same = sym p.is ∙ h in
    record {
      setting = p.setting;
      before = p.before;
      option = subst (λ v. IsSetting name v p.setting) (ap (λ ws. get_or ws 0 []) same) p.option;
      gives = subst (λ ws. Gives ws p.before) (ap (drop 1) same) p.gives;
      adds = p.adds;
    }

pub apart_complete : (o : Option Given) (words : List (List ℕ)) (name value : List ℕ) (behind rest : List (List ℕ)) (setting : Setting) (before : Given)
    → words ≡ name ∷ behind → behind ≡ value ∷ rest → ((other : Setting) → IsJoined name other → None ≡ Some other) → IsSetting name value setting
    → Gives rest before → ((after : Given) → Adds before setting after → o ≡ Some after) → (given : Given) → Gives words given → o ≡ Some given
apart_complete o words name value behind rest setting before e h never option gives adding given k =
    let p = named words name value behind rest given e h never k in
    let one = one_setting name value setting p.setting option p.option in
    let start = one_given rest before p.before gives p.gives in
    adding given (subst (λ s. Adds before s given) (sym one) (subst (λ g. Adds g p.setting given) (sym start) p.adds))

-- how many words an option takes at most
abbrev places_of : Option ℕ → ℕ
places_of None = 0
places_of (Some n) = 2

abbrev places : Given → ℕ
places given = places_of given.workers + places_of given.degree + places_of given.delta

places_more : (before : Given) (setting : Setting) (after : Given) → Adds before setting after → places after ≡ places before + 2
places_more before (Workers workers) after h = omega (arith, ap places_of h.0, ap places_of h.1, ap places_of h.2, ap places_of h.3)
places_more before (Degree cap) after h = omega (arith, ap places_of h.0, ap places_of h.1, ap places_of h.2, ap places_of h.3)
places_more before (Delta limit) after h = omega (arith, ap places_of h.0, ap places_of h.1, ap places_of h.2, ap places_of h.3)

few_places : (words : List (List ℕ)) (given : Given) → Gives words given → length words ≤ places given
few_places words given (none w g f h) = omega (arith, ap length f)
few_places words given (apart w rest name value setting before g f option gives adds) =
    omega (arith, ap length f, few_places rest before gives, places_more before setting given adds)
few_places words given (joined w rest first setting before g f option gives adds) =
    omega (arith, ap length f, few_places rest before gives, places_more before setting given adds)

two_places : (o : Option ℕ) → places_of o ≤ 2
two_places None = omega arith
two_places (Some n) = omega arith

-- options take six words at most
pub few_words : (words : List (List ℕ)) (given : Given) → Gives words given → length words ≤ 6
few_words words given h = omega (arith, few_places words given h, two_places given.workers, two_places given.degree, two_places given.delta)

-- a number is from 1 to top, where there is one
abbrev MayBeWithin : ℕ → Option ℕ → Type 0
MayBeWithin top None = ⊤
MayBeWithin top (Some n) = (1 ≤ n) × (n ≤ top)

-- what is given is within the limits
record IsGivenWithin (given : Given) : Type 0 where
  pub workers : MayBeWithin MAX_WORKERS given.workers
  pub degree : MayBeWithin MAX_CAP given.degree
  pub delta : MayBeWithin MAX_LIMIT given.delta

more_within : (name value : List ℕ) (before : Given) (setting : Setting) (after : Given) → IsSetting name value setting → Adds before setting after
    → IsGivenWithin before → IsGivenWithin after
more_within name value before (Workers workers) after h adds w = record {
  workers = subst (MayBeWithin MAX_WORKERS) (sym adds.1) (h.1.some, h.1.most);
  degree = subst (MayBeWithin MAX_CAP) (sym adds.2) w.degree;
  delta = subst (MayBeWithin MAX_LIMIT) (sym adds.3) w.delta;
}
more_within name value before (Degree cap) after h adds w = record {
  workers = subst (MayBeWithin MAX_WORKERS) (sym adds.2) w.workers;
  degree = subst (MayBeWithin MAX_CAP) (sym adds.1) (h.1.some, h.1.most);
  delta = subst (MayBeWithin MAX_LIMIT) (sym adds.3) w.delta;
}
more_within name value before (Delta limit) after h adds w = record {
  workers = subst (MayBeWithin MAX_WORKERS) (sym adds.2) w.workers;
  degree = subst (MayBeWithin MAX_CAP) (sym adds.3) w.degree;
  delta = subst (MayBeWithin MAX_LIMIT) (sym adds.1) (h.1.some, h.1.most);
}

given_within : (words : List (List ℕ)) (given : Given) → Gives words given → IsGivenWithin given
given_within words given (none w g f h) = subst IsGivenWithin (sym h) (record { workers = tt; degree = tt; delta = tt })
given_within words given (apart w rest name value setting before g f option gives adds) =
    more_within name value before setting given option adds (given_within rest before gives)
given_within words given (joined w rest first setting before g f option gives adds) =
    more_within option.0 option.1 before setting given option.3 adds (given_within rest before gives)

-- and so is what stands in place of what is not
or_within : (top default : ℕ) (o : Option ℕ) → 1 ≤ default → default ≤ top → MayBeWithin top o → (1 ≤ unwrap_or o default) × (unwrap_or o default ≤ top)
or_within top default None some most h = (some, most)
or_within top default (Some n) some most h = h

limits_within : (given : Given) (limits : Limits) → IsGivenWithin given → AreLimits given limits → AreWithin limits
limits_within given limits w l =
    let cap = or_within MAX_CAP DEFAULT_CAP given.degree (omega arith) (omega arith) w.degree in
    let limit = or_within MAX_LIMIT MAX_LIMIT given.delta (omega arith) (omega arith) w.delta in
    record {
      some_cap = omega (arith, l.degree, cap.0);
      most_cap = omega (arith, l.degree, cap.1);
      some_limit = omega (arith, l.delta, limit.0);
      most_limit = omega (arith, l.delta, limit.1);
    }

sets_within : (given : Given) (ask : Ask) → IsGivenWithin given → Sets given ask → IsWithin ask
sets_within given (Alone limits) w s = limits_within given limits w s.1
sets_within given (Normal workers limits) w s =
    let seats = or_within MAX_WORKERS DEFAULT_WORKERS given.workers (omega arith) (omega arith) w.workers in
    (omega (arith, s.0, seats.0), omega (arith, s.0, seats.1), limits_within given limits w s.1)

-- what words ask for is within the limits
pub asks_within : (words : List (List ℕ)) (ask : Ask) → AsksFor words ask → IsWithin ask
asks_within words ask a = sets_within a.given ask (given_within a.rest a.given a.gives) a.sets

pub asked_within : (words : List (List ℕ)) (o : Option Ask) → IfSome o (AsksFor words) → IfSome o IsWithin
asked_within words None h = tt
asked_within words (Some ask) h = asks_within words ask h

-- ---- what a command's word and its options ask for

-- what the words behind the command's are
pub asks_behind : (words : List (List ℕ)) (first : List ℕ) (options : List (List ℕ)) (ask : Ask) → words ≡ first ∷ options → (a : AsksFor words ask)
    → Gives options a.given × (first ≡ command_of ask)
asks_behind words first options ask e a =
    let same = sym a.command ∙ e in
    (subst (λ ws. Gives ws a.given) (ap (drop 1) same) a.gives, sym (ap (λ ws. get_or ws 0 []) same))

pub asked_found : (o : Option Ask) (words : List (List ℕ)) (first : List ℕ) (options : List (List ℕ)) (given : Given) → words ≡ first ∷ options
    → Gives options given → IfSome o (λ ask. (first ≡ command_of ask) × Sets given ask) → IfSome o (AsksFor words)
asked_found None words first options given e gives h = tt
asked_found (Some ask) words first options given e gives h =
    record { rest = options; command = e ∙ ap (λ w. w ∷ options) h.0; given = given; gives = gives; sets = h.1 }

pub asked_complete : (o : Option Ask) (words : List (List ℕ)) (first : List ℕ) (options : List (List ℕ)) (given : Given) → words ≡ first ∷ options
    → Gives options given → ((ask : Ask) → first ≡ command_of ask → Sets given ask → o ≡ Some ask) → (ask : Ask) → AsksFor words ask → o ≡ Some ask
asked_complete o words first options given e gives h ask a =
    let b = asks_behind words first options ask e a in
    h ask b.1 (subst (λ g. Sets g ask) (one_given options a.given given b.0 gives) a.sets)

-- where no options are given, nothing is asked for
pub asked_nothing : (o : Option Ask) (words : List (List ℕ)) (first : List ℕ) (options : List (List ℕ)) → words ≡ first ∷ options
    → ((given : Given) → Gives options given → None ≡ Some given) → (ask : Ask) → AsksFor words ask → o ≡ Some ask
asked_nothing o words first options e never ask a =
    let gone = never a.given (asks_behind words first options ask e a).0 in
    absurd (cc gone)

-- more words than options take ask for nothing
pub asks_few : (words : List (List ℕ)) (first : List ℕ) (options : List (List ℕ)) (ask : Ask) → words ≡ first ∷ options → AsksFor words ask
    → length options ≤ 6
asks_few words first options ask e a = few_words options a.given (asks_behind words first options ask e a).0

-- where the words end at an option's name, or the next word is no value of it, nothing is given
pub no_value : (o : Option Given) (words : List (List ℕ)) (name : List ℕ) (behind : List (List ℕ)) → words ≡ name ∷ behind
    → ((other : Setting) → IsJoined name other → None ≡ Some other) → behind ≡ [] → (given : Given) → Gives words given → o ≡ Some given
no_value o words name behind e never none_behind given k =
    let p = name_front words name behind given e never k in
    absurd (omega (arith, ap length (sym none_behind ∙ p.is)))

pub no_setting : (o : Option Given) (words : List (List ℕ)) (name value : List ℕ) (behind rest : List (List ℕ)) → words ≡ name ∷ behind
    → behind ≡ value ∷ rest → ((other : Setting) → IsJoined name other → None ≡ Some other)
    → ((other : Setting) → IsSetting name value other → None ≡ Some other) → (given : Given) → Gives words given → o ≡ Some given
no_setting o words name value behind rest e h never unset given k =
    let p = named words name value behind rest given e h never k in
    let gone = unset p.setting p.option in
    absurd (cc gone)
