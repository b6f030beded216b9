use Rattle.std.proofs.Common.{ℕ, [], ◌∷◌, ◌++◌, refl, sym, append-nil}
use Rattle.std.specs.Prelude.{map, codes, slice_index}
use Rattle.norm_text.specs.Joined.{separator_part}
use Rattle.norm_text.proofs.Joins.{joined_rest-first, joined_rest-next, printed-two}
use Rattle.norm_text.proofs.printing.print_letters.Goals as goal

pub loop-letter-init : goal.loop-letter-init
loop-letter-init c = record {
  done = [];
  printed = sym (append-nil c.args.out.now);
  whole = joined_rest-first (codes ",") (map (λ x. x ∷ []) c.args.letters.now);
}

pub loop-letter-preserved : goal.loop-letter-preserved
loop-letter-preserved c =
    let loop = c.loop-letter.invariant in
    let x : ℕ = slice_index c.args.letters.now c.loop-letter.letter-index in
    record {
      done = (loop.done ++ separator_part c.loop-letter.is_first (codes ",")) ++ (x ∷ []);
      printed = printed-two _ _ _ _ _ _ _ c.in_ok-push.ensures.ok c.in_ok-print_separator.ensures loop.printed;
      whole = joined_rest-next (codes ",") _ loop.done (λ x. x ∷ []) c.args.letters.now c.loop-letter.is_first c.loop-letter.letter-index x 0 c.loop-letter-test.true refl loop.whole;
    }
