-- The tokens of a text, byte by byte.
use Rattle.std.proofs.Common.{◌≡◌, ℕ, ◌==◌, ◌&&◌, ◌||◌, not, List, [], ◌∷◌, Bool, true, false, cond, length, ◌≢◌, ◌<◌, suc, take, subst, refl, sym, ap, ◌∙◌, arith}
use Rattle.std.proofs.lemmas.Bool.Decides.{nat_tests}
use Rattle.problem.proofs.Places.{same_number}
use Rattle.problem_form.specs.Tokens.{tokens, tokens_from, is_blank, is_word_byte, begins, extend, StartsToken, front_word, behind_word}

-- a blank is no byte of a word
no_word : (b n : ℕ) → (b == n) ≡ true → is_word_byte n ≡ false → is_word_byte b ≡ false
no_word b n test none = ap is_word_byte (same_number b n test) ∙ none

blank_is_no_word : (b : ℕ) → is_blank b ≡ true → is_word_byte b ≡ false
blank_is_no_word b = first (b == 32) refl
  where
    fourth : (t : Bool) → (b == 13) ≡ t → t ≡ true → is_word_byte b ≡ false
    fourth true is h = no_word b 13 is refl
    fourth false is h = absurd (cc)

    third : (t : Bool) → (b == 10) ≡ t → (t || b == 13) ≡ true → is_word_byte b ≡ false
    third true is h = no_word b 10 is refl
    third false is h = fourth (b == 13) refl h

    second : (t : Bool) → (b == 9) ≡ t → ((t || b == 10) || b == 13) ≡ true → is_word_byte b ≡ false
    second true is h = no_word b 9 is refl
    second false is h = third (b == 10) refl h

    first : (t : Bool) → (b == 32) ≡ t → (((t || b == 9) || b == 10) || b == 13) ≡ true → is_word_byte b ≡ false
    first true is h = no_word b 32 is refl
    first false is h = second (b == 9) refl h

-- ---- one byte

-- a text without bytes
pub no_bytes : (text : List ℕ) → length text ≡ 0 → text ≡ []
no_bytes [] none = refl
no_bytes (b ∷ text) none = absurd (omega arith)

pub comment_next : (b : ℕ) (text : List ℕ) → tokens_from true (b ∷ text) ≡ tokens_from (not (b == 10)) text
unfolding tokens_from
comment_next b text = refl

pub comment_end : (in_comment : Bool) → tokens_from in_comment [] ≡ []
unfolding tokens_from
comment_end in_comment = refl

pub word_next : (b : ℕ) (text : List ℕ) → is_word_byte b ≡ true → tokens (b ∷ text) ≡ extend (begins is_word_byte text) b (tokens text)
unfolding tokens_from
word_next b text word = rw word refl

pub blank_next : (b : ℕ) (text : List ℕ) → is_blank b ≡ true → tokens (b ∷ text) ≡ tokens text
unfolding tokens_from
blank_next b text blank = rw (blank_is_no_word b blank, blank) refl

pub slashes_next : (b : ℕ) (text : List ℕ) → (b == 47 && begins (λ c. c == 47) text) ≡ true → tokens (b ∷ text) ≡ tokens_from true text
unfolding tokens_from
slashes_next b text slashes = by_case (b == 47) refl slashes
  where
    by_case : (t : Bool) → (b == 47) ≡ t → (t && begins (λ c. c == 47) text) ≡ true → tokens (b ∷ text) ≡ tokens_from true text
    by_case false is h = absurd (cc)
    by_case true is h = rw (same_number b 47 is) (rw h refl)

pub mark_next : (b : ℕ) (text : List ℕ) → is_word_byte b ≡ false → is_blank b ≡ false → (b == 47 && begins (λ c. c == 47) text) ≡ false
    → tokens (b ∷ text) ≡ (b ∷ []) ∷ tokens text
unfolding tokens_from
mark_next b text word blank slashes = rw (word, blank, slashes) refl

-- ---- a word

pub front_next : (b : ℕ) (text : List ℕ) → is_word_byte b ≡ true → front_word (b ∷ text) ≡ b ∷ front_word text
front_next b text word = rw word refl

pub behind_next : (b : ℕ) (text : List ℕ) → is_word_byte b ≡ true → behind_word (b ∷ text) ≡ behind_word text
behind_next b text word = rw word refl

pub front_none : (b : ℕ) (text : List ℕ) → is_word_byte b ≡ false → front_word (b ∷ text) ≡ []
front_none b text word = rw word refl

pub behind_none : (b : ℕ) (text : List ℕ) → is_word_byte b ≡ false → behind_word (b ∷ text) ≡ b ∷ text
behind_none b text word = rw word refl

pub word_tokens : (b : ℕ) (text : List ℕ) → is_word_byte b ≡ true → tokens (b ∷ text) ≡ front_word (b ∷ text) ∷ tokens (behind_word (b ∷ text))
word_tokens b [] word = word_next b [] word ∙ rw (front_next b [] word, behind_next b [] word) refl
word_tokens b (c ∷ text) word = by_case (is_word_byte c) refl (word_tokens c text)
  where
    by_case : (t : Bool) → is_word_byte c ≡ t → (is_word_byte c ≡ true → tokens (c ∷ text) ≡ front_word (c ∷ text) ∷ tokens (behind_word (c ∷ text)))
        → tokens (b ∷ c ∷ text) ≡ front_word (b ∷ c ∷ text) ∷ tokens (behind_word (b ∷ c ∷ text))
    by_case true is more =
        word_next b (c ∷ text) word ∙ ap (λ (t : Bool). extend t b (tokens (c ∷ text))) is ∙ ap (extend true b) (more is)
        ∙ rw (front_next b (c ∷ text) word, behind_next b (c ∷ text) word) refl
    by_case false is more =
        word_next b (c ∷ text) word ∙ ap (λ (t : Bool). extend t b (tokens (c ∷ text))) is
        ∙ rw (front_next b (c ∷ text) word, behind_next b (c ∷ text) word, front_none c text is, behind_none c text is) refl

-- ---- the steps of the code's loops, over a text and its parts

pub in_comment : (rest after : List ℕ) (b : ℕ) → rest ≡ b ∷ after → b ≢ 10 → tokens_from true after ≡ tokens_from true rest
in_comment rest after b is more = sym (ap (tokens_from true) is ∙ comment_next b after ∙ ap (λ (t : Bool). tokens_from (not t) after) no_end)
  where
    no_end : (b == 10) ≡ false
    no_end = grind (arith, nat_tests)

pub comment_over : (rest after : List ℕ) (b : ℕ) → rest ≡ b ∷ after → b ≡ 10 → tokens after ≡ tokens_from true rest
comment_over rest after b is end = sym (ap (tokens_from true) is ∙ comment_next b after ∙ ap (λ (t : Bool). tokens_from (not t) after) ends)
  where
    ends : (b == 10) ≡ true
    ends = grind (arith, nat_tests)

pub comment_ended : (rest : List ℕ) → length rest ≡ 0 → tokens rest ≡ tokens_from true rest
unfolding tokens_from
comment_ended [] none = refl
comment_ended (b ∷ rest) none = absurd (omega arith)

pub behind_blank : (rest after : List ℕ) (b : ℕ) → rest ≡ b ∷ after → is_blank b ≡ true → tokens after ≡ tokens rest
behind_blank rest after b is blank = sym (ap tokens is ∙ blank_next b after blank)

pub behind_comment : (rest after end : List ℕ) (b : ℕ) → rest ≡ b ∷ after → (b == 47 && begins (λ c. c == 47) after) ≡ true → tokens end ≡ tokens_from true after
    → tokens end ≡ tokens rest
behind_comment rest after end b is slashes skipped = skipped ∙ sym (ap tokens is ∙ slashes_next b after slashes)

pub starts_token : (rest after : List ℕ) (b : ℕ) → rest ≡ b ∷ after → is_blank b ≡ false → (b == 47 && begins (λ c. c == 47) after) ≡ false → StartsToken rest
starts_token rest after b is blank slashes = let P : List ℕ → Type 0 = λ (t : List ℕ). StartsToken t in subst P (sym is) (blank, slashes)

pub no_token : (rest : List ℕ) → length rest ≡ 0 → tokens rest ≡ []
unfolding tokens_from
no_token [] none = refl
no_token (b ∷ rest) none = absurd (omega arith)

pub word_at : (start text after : List ℕ) (b : ℕ) (word behind : List ℕ) → tokens text ≡ tokens start → text ≡ b ∷ after → is_word_byte b ≡ true
    → word ≡ front_word text → behind ≡ behind_word text → tokens start ≡ word ∷ tokens behind
word_at start text after b word behind same is in_word front back =
    sym same ∙ ap tokens is ∙ word_tokens b after in_word ∙ sym (λ i. (front ∙ ap front_word is) i ∷ tokens ((back ∙ ap behind_word is) i))

-- the word at the front has a byte
pub word_shortens : (text after : List ℕ) (b : ℕ) → text ≡ b ∷ after → is_word_byte b ≡ true → length (behind_word text) < length text
word_shortens text after b is in_word = rw is (rw (behind_next b after in_word) (shortens after))
  where
    shortens : (t : List ℕ) → length (behind_word t) < suc (length t)
    shortens [] = omega arith
    shortens (c ∷ t) = by_case (is_word_byte c) (shortens t)
      where
        by_case : (test : Bool) → length (behind_word t) < suc (length t) → length (cond test (behind_word t) (c ∷ t)) < suc (suc (length t))
        by_case true h = omega arith
        by_case false h = omega arith

pub mark_at : (start text after : List ℕ) (b : ℕ) (word : List ℕ) → tokens text ≡ tokens start → text ≡ b ∷ after → StartsToken text → is_word_byte b ≡ false
    → word ≡ take 1 text → tokens start ≡ word ∷ tokens after
mark_at start text after b word same is starts none front =
    let P : List ℕ → Type 0 = λ (t : List ℕ). StartsToken t in
    let s : StartsToken (b ∷ after) = subst P is starts in
    sym same ∙ ap tokens is ∙ mark_next b after none s.0 s.1 ∙ sym (λ i. (front ∙ ap (take 1) is) i ∷ tokens after)
