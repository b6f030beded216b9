-- The tokens of a text: words and marks, with blanks and comments left out.
use Rattle.std.specs.Prelude.{ℕ, ◌≡◌, ◌==◌, ◌&&◌, ◌||◌, not, if◌then◌else◌, Bool, true, false, List, [], ◌∷◌}
use Rattle.std.specs.Char.{is_ascii_alphanumeric}

-- a space, a tabulator or one of the bytes that end a line
abbrev pub is_blank : ℕ → Bool
is_blank b = b == 32 || b == 9 || b == 10 || b == 13

-- a byte of a word: a letter, a digit or `_`
abbrev pub is_word_byte : ℕ → Bool
is_word_byte b = is_ascii_alphanumeric b || b == 95

-- the first byte passes the test
abbrev pub begins : (ℕ → Bool) → List ℕ → Bool
begins test [] = false
begins test (b ∷ text) = test b

-- a byte before the tokens; where it belongs to the first one's word it is put into it
abbrev pub extend : Bool → ℕ → List (List ℕ) → List (List ℕ)
extend true b (word ∷ ts) = (b ∷ word) ∷ ts
extend _ b ts = (b ∷ []) ∷ ts

-- the tokens of a text, or of one that begins inside a comment: a word is as long as it can be, each other byte is a
-- token of its own, and a comment goes from `//` to the end of its line
unfoldable pub tokens_from : Bool → List ℕ → List (List ℕ)
tokens_from in_comment [] = []
tokens_from true (b ∷ text) = tokens_from (not (b == 10)) text
tokens_from false (b ∷ text) =
    if is_word_byte b then extend (begins is_word_byte text) b (tokens_from false text)
    else (if is_blank b then tokens_from false text
    else (if b == 47 && begins (λ c. c == 47) text then tokens_from true text
    else ((b ∷ []) ∷ tokens_from false text)))

-- the tokens of a text
abbrev pub tokens : List ℕ → List (List ℕ)
tokens text = tokens_from false text

-- the text is empty, or a token begins with its first byte
abbrev pub StartsToken : List ℕ → Type 0
StartsToken [] = Unit {0}
StartsToken (b ∷ text) = (is_blank b ≡ false) × ((b == 47 && begins (λ c. c == 47) text) ≡ false)

-- the word at the front
abbrev pub front_word : List ℕ → List ℕ
front_word [] = []
front_word (b ∷ text) = if is_word_byte b then (b ∷ front_word text) else []

-- what stands behind the word at the front
abbrev pub behind_word : List ℕ → List ℕ
behind_word [] = []
behind_word (b ∷ text) = if is_word_byte b then behind_word text else (b ∷ text)
