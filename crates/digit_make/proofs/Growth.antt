-- Rows that grow block by block have the blocks that are asked for.
use Rattle.std.proofs.Common.{◌≡◌, ℕ, ◌+◌, ◌*◌, ◌<◌, ◌≤◌, List, [], ◌++◌, length, get_or, set, replicate, sym, ap, ◌∙◌, subst, arith}
use Rattle.std.specs.declared.cmp.Ordering.{Ordering}
use Rattle.std.specs.declared.cmp.Ordering.TheVariants.{Less, Equal, Greater}
use Rattle.std.specs.Ordering.{nat_cmp, MatchOrdering}
use Rattle.std.specs.Cmp.{ranks}
use Rattle.std.proofs.lemmas.List.{get_or_default, get_or-set_other, get_or-set_same, length-append, length-set}
use Rattle.std.proofs.lemmas.List.Elements.{All-from_get_or, All-get_or, All-replicate, All-weaker}
use Rattle.std.proofs.Math.Nat.{le_antisymm}
use Rattle.digit_make.specs.Blocks.{AreGrown, AreLong, HasBlocks, HaveBlocks}

more_blocks : (n a b most : ℕ) (row : List ℕ) → b ≤ a → HasBlocks n a most row → HasBlocks n b most row
more_blocks n a b most row l h = record { count = h.count; enough = (let e = h.enough in omega arith); within = h.within; whole = h.whole }

-- a row that has not just t blocks has more
one_more : (n t most : ℕ) (row : List ℕ) → HasBlocks n t most row → (length row ≡ n * t → ⊥) → HasBlocks n (t + 1) most row
one_more n t most row h o = record { count = h.count; enough = above (nat_cmp t h.count) (ranks t h.count); within = h.within; whole = h.whole }
  where
    above : (r : Ordering) → MatchOrdering r (t < h.count) (t ≡ h.count) (h.count < t) → t + 1 ≤ h.count
    above Less q = omega arith
    above Equal q = absurd (o (h.whole ∙ ap (λ z. n * z) (sym q)))
    above Greater q = absurd (let e = h.enough in omega arith)

-- a row that has just t blocks, and one behind them
appended : (n t most : ℕ) (row block : List ℕ) → length row ≡ n * t → length block ≡ n → t < most → HasBlocks n (t + 1) most (row ++ block)
appended n t most row block e f l = record { count = t + 1; enough = omega arith; within = omega arith; whole = omega (arith, length-append row block) }

-- the row number j has one block more
next_row : (n t most j : ℕ) (rows : List (List ℕ)) → AreGrown n t most j rows → ((d : List ℕ) → j < length rows → HasBlocks n (t + 1) most (get_or rows j d)) → AreGrown n t most (j + 1) rows
next_row n t most j rows g h = record { all = g.all; first = λ k d a l. go k d a l (nat_cmp k j) (ranks k j) }
  where
    go : (k : ℕ) (d : List ℕ) → k < j + 1 → k < length rows → (r : Ordering) → MatchOrdering r (k < j) (k ≡ j) (j < k) → HasBlocks n (t + 1) most (get_or rows k d)
    go k d a l Less q = g.first k d q l
    go k d a l Equal q = subst (λ z. HasBlocks n (t + 1) most (get_or rows z d)) (sym q) (h d (subst (λ z. z < length rows) q l))
    go k d a l Greater q = absurd (omega arith)

pub grown_skip : (n t most j : ℕ) (rows read : List (List ℕ)) (item : List ℕ) (long m : ℕ) → AreGrown n t most j rows → j < length rows
    → item ≡ get_or read j item → read ≡ rows → long ≡ length item → (long ≡ m * t → ⊥) → m ≡ n → AreGrown n t most (j + 1) rows
grown_skip n t most j rows read item long m g l e1 e2 e3 o e4 =
    next_row n t most j rows g (λ d k. one_more n t most (get_or rows j d) (g.all j d k) (λ e. o (e3 ∙ ap length (item_is d) ∙ e ∙ ap (λ z. z * t) (sym e4))))
  where
    item_is : (d : List ℕ) → item ≡ get_or rows j d
    item_is d = e1 ∙ ap (λ z. get_or z j item) e2 ∙ get_or_default rows j item d l

set_row : (n t most j : ℕ) (rows : List (List ℕ)) (row : List ℕ) → AreGrown n t most j rows → j < length rows → HasBlocks n (t + 1) most row → AreGrown n t most (j + 1) (set rows j row)
set_row n t most j rows row g l h =
    next_row n t most j (set rows j row)
    (record {
      all = λ k d a. go k d t (subst (λ z. k < z) (length-set rows j row) a) (more_blocks n (t + 1) t most row (omega arith) h) (g.all k d) (nat_cmp k j) (ranks k j);
      first = λ k d b a. go k d (t + 1) (subst (λ z. k < z) (length-set rows j row) a) h (g.first k d b) (nat_cmp k j) (ranks k j);
    })
    (λ d a. subst (HasBlocks n (t + 1) most) (sym (get_or-set_same rows j row d l)) h)
  where
    other : (k : ℕ) (d : List ℕ) (s : ℕ) → k < length rows → (k < length rows → HasBlocks n s most (get_or rows k d)) → (k ≡ j → ⊥) → HasBlocks n s most (get_or (set rows j row) k d)
    other k d s a f o = subst (HasBlocks n s most) (sym (get_or-set_other rows j k row d o)) (f a)

    go : (k : ℕ) (d : List ℕ) (s : ℕ) → k < length rows → HasBlocks n s most row → (k < length rows → HasBlocks n s most (get_or rows k d))
        → (r : Ordering) → MatchOrdering r (k < j) (k ≡ j) (j < k) → HasBlocks n s most (get_or (set rows j row) k d)
    go k d s a new f Less q = other k d s a f (λ e. absurd (omega arith))
    go k d s a new f Equal q = subst (λ z. HasBlocks n s most (get_or (set rows j row) z d)) (sym q) (subst (HasBlocks n s most) (sym (get_or-set_same rows j row d l)) new)
    go k d s a new f Greater q = other k d s a f (λ e. absurd (omega arith))

pub grown_row : (n t most j : ℕ) (rows list made read : List (List ℕ)) (item block : List ℕ) (long m : ℕ) → AreGrown n t most j rows → t < most → j < length rows
    → list ≡ rows → made ≡ set list j (get_or list j [] ++ block) → length block ≡ n → item ≡ get_or read j item → read ≡ rows → long ≡ length item → long ≡ m * t → m ≡ n
    → AreGrown n t most (j + 1) made
grown_row n t most j rows list made read item block long m g deep l e1 e2 e3 e4 e5 e6 e7 e8 =
    subst (AreGrown n t most (j + 1)) (sym (e2 ∙ ap (λ z. set z j (get_or z j [] ++ block)) e1))
    (set_row n t most j rows (get_or rows j [] ++ block) g l
    (appended n t most (get_or rows j []) block (ap length (sym item_is) ∙ sym e6 ∙ e7 ∙ ap (λ z. z * t) e8) e3 deep))
  where
    item_is : item ≡ get_or rows j []
    item_is = e4 ∙ ap (λ z. get_or z j item) e5 ∙ get_or_default rows j item [] l

pub grown_end : (n t most j : ℕ) (rows : List (List ℕ)) → AreGrown n t most j rows → length rows ≤ j → AreGrown n (t + 1) most 0 rows
grown_end n t most j rows g l = record { all = λ k d a. g.first k d (omega arith) a; first = λ k d b a. absurd (omega arith) }

-- ---- from the first to the last block

pub grown_start : (n most : ℕ) (rows : List (List ℕ)) → HaveBlocks n 0 most rows → AreGrown n 0 most 0 rows
grown_start n most rows h = record { all = λ k d l. All-get_or (HasBlocks n 0 most) rows k d l h; first = λ k d b l. absurd (omega arith) }

pub grown_long : (n most : ℕ) (rows : List (List ℕ)) → AreGrown n most most 0 rows → AreLong (n * most) rows
grown_long n most rows g = All-from_get_or (λ row. length row ≡ n * most) rows [] (λ i l. let b = g.all i [] l in b.whole ∙ ap (λ z. n * z) (le_antisymm b.within b.enough))

pub empty_blocks : (n most count : ℕ) (rows : List (List ℕ)) → rows ≡ replicate count [] → HaveBlocks n 0 most rows
empty_blocks n most count rows e = subst (HaveBlocks n 0 most) (sym e) (All-replicate (HasBlocks n 0 most) count [] (record { count = 0; enough = omega arith; within = omega arith; whole = omega arith }))

pub blocks_within : (n m a b : ℕ) (rows : List (List ℕ)) → n ≡ m → a ≤ b → HaveBlocks m 0 a rows → HaveBlocks n 0 b rows
blocks_within n m a b rows e l h =
    subst (λ z. HaveBlocks z 0 b rows) (sym e)
    (All-weaker (HasBlocks m 0 a) (HasBlocks m 0 b) (λ row k. record { count = k.count; enough = k.enough; within = (let w = k.within in omega arith); whole = k.whole }) rows h)

pub nothing_blocks : (n most : ℕ) (row : List ℕ) → row ≡ [] → HasBlocks n 0 most row
nothing_blocks n most row e = subst (HasBlocks n 0 most) (sym e) (record { count = 0; enough = omega arith; within = omega arith; whole = omega arith })
