-- What words ask for.
use Rattle.std.specs.Prelude.{ℕ, ◌≡◌, ◌≤◌, List, ◌∷◌, codes, None}
use Rattle.std.specs.Option.{unwrap_or}
use Rattle.module_basis.specs.declared.cap.TheConstants.{MAX_CAP}
use Rattle.command_line.specs.declared.options.Given.{Given}
use Rattle.command_line.specs.declared.options.TheConstants.{MAX_WORKERS, MAX_LIMIT}
use Rattle.command_line.specs.declared.asking.Limits.{Limits}
use Rattle.command_line.specs.declared.asking.Ask.{Ask}
use Rattle.command_line.specs.declared.asking.Ask.TheVariants.{Alone, Normal}
use Rattle.command_line.specs.declared.asking.TheConstants.{DEFAULT_CAP, DEFAULT_WORKERS}
use Rattle.command_line.specs.Options.{Gives}

-- the options set these limits: without them the cap is 200, and the limit 64
pub record AreLimits (given : Given) (limits : Limits) : Type 0 where
  pub degree : limits.cap ≡ unwrap_or given.degree DEFAULT_CAP
  pub delta : limits.limit ≡ unwrap_or given.delta MAX_LIMIT

-- the command's word
abbrev pub command_of : Ask → List ℕ
command_of (Alone limits) = codes "alone"
command_of (Normal workers limits) = codes "normal"

-- the options set what is asked for: `alone` has no workers, and `normal` has 4 where no option says otherwise
abbrev pub Sets : Given → Ask → Type 0
Sets given (Alone limits) = (given.workers ≡ None) × AreLimits given limits
Sets given (Normal workers limits) = (workers ≡ unwrap_or given.workers DEFAULT_WORKERS) × AreLimits given limits

-- the words are a command's word, and behind it options, each at most once
pub record AsksFor (words : List (List ℕ)) (ask : Ask) : Type 0 where
  pub rest : List (List ℕ)
  pub command : words ≡ command_of ask ∷ rest
  pub given : Given
  pub gives : Gives rest given
  pub sets : Sets given ask

-- the words ask for nothing that is served
abbrev pub AskNothing : List (List ℕ) → Type 0
AskNothing words = (ask : Ask) → AsksFor words ask → ⊥

-- the limits are those that are served
pub record AreWithin (limits : Limits) : Type 0 where
  pub some_cap : 1 ≤ limits.cap
  pub most_cap : limits.cap ≤ MAX_CAP
  pub some_limit : 1 ≤ limits.limit
  pub most_limit : limits.limit ≤ MAX_LIMIT

-- and so are the workers
abbrev pub IsWithin : Ask → Type 0
IsWithin (Alone limits) = AreWithin limits
IsWithin (Normal workers limits) = (1 ≤ workers) × (workers ≤ MAX_WORKERS) × AreWithin limits
