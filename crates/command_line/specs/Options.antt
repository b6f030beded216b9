-- The options behind a command's word.
use Rattle.std.specs.Prelude.{ℕ, ◌≡◌, ◌≤◌, List, [], ◌∷◌, ◌++◌, length, codes, IsTrue, None, Some}
use Rattle.module_basis.specs.declared.cap.TheConstants.{MAX_CAP}
use Rattle.poly_text.specs.Digits.{number}
use Rattle.problem_form.specs.Words.{is_number}
use Rattle.command_line.specs.declared.options.Given.{Given}
use Rattle.command_line.specs.declared.options.Setting.{Setting}
use Rattle.command_line.specs.declared.options.Setting.TheVariants.{Workers, Degree, Delta}
use Rattle.command_line.specs.declared.options.TheConstants.{MAX_WORKERS, MAX_LIMIT}

-- the word has 1 to 4 digits, which write n, from 1 to top
pub record IsNumberUpTo (top : ℕ) (word : List ℕ) (n : ℕ) : Type 0 where
  pub digits : IsTrue (is_number word)
  pub short : length word ≤ 4
  pub value : number word ≡ n
  pub some : 1 ≤ n
  pub most : n ≤ top

-- an option's name and its value: `--workers` with 1 to 16, `--degree` with 1 to 1,000, or `--delta` with 1 to 64
abbrev pub IsSetting : List ℕ → List ℕ → Setting → Type 0
IsSetting name value (Workers workers) = (name ≡ codes "--workers") × IsNumberUpTo MAX_WORKERS value workers
IsSetting name value (Degree cap) = (name ≡ codes "--degree") × IsNumberUpTo MAX_CAP value cap
IsSetting name value (Delta limit) = (name ≡ codes "--delta") × IsNumberUpTo MAX_LIMIT value limit

-- both in one word, with a `=` between them
abbrev pub IsJoined : List ℕ → Setting → Type 0
IsJoined word setting = (name : List ℕ) × (value : List ℕ) × (word ≡ name ++ codes "=" ++ value) × IsSetting name value setting

-- the option was not given before; it is afterwards, and the others are as they were
abbrev pub Adds : Given → Setting → Given → Type 0
Adds before (Workers workers) after =
    (before.workers ≡ None) × (after.workers ≡ Some workers) × (after.degree ≡ before.degree) × (after.delta ≡ before.delta)
Adds before (Degree cap) after = (before.degree ≡ None) × (after.degree ≡ Some cap) × (after.workers ≡ before.workers) × (after.delta ≡ before.delta)
Adds before (Delta limit) after = (before.delta ≡ None) × (after.delta ≡ Some limit) × (after.workers ≡ before.workers) × (after.degree ≡ before.degree)

-- no option
abbrev pub nothing : Given
nothing = record { workers = None; degree = None; delta = None }

-- the words are options, each at most once: no word at all, or an option in two words or in one, before words that are
pub data Gives : List (List ℕ) → Given → Type 0 where
  none : (words : List (List ℕ)) (given : Given) → words ≡ [] → given ≡ nothing → Gives words given
  apart : (words rest : List (List ℕ)) (name value : List ℕ) (setting : Setting) (before after : Given) → words ≡ name ∷ value ∷ rest
      → IsSetting name value setting → Gives rest before → Adds before setting after → Gives words after
  joined : (words rest : List (List ℕ)) (word : List ℕ) (setting : Setting) (before after : Given) → words ≡ word ∷ rest
      → IsJoined word setting → Gives rest before → Adds before setting after → Gives words after
