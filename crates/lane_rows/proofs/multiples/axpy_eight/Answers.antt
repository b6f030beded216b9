use Rattle.std.proofs.Common.{◌+◌, ◌*◌, ◌%◌, ◌<◌, ◌≤◌, length, get_or, arith, ap, ◌∙◌}
use Rattle.std.proofs.lemmas.Simd.{get_or-chunk, get_or-put_chunk_below, get_or-put_chunk_at, get_or-put_chunk_above}
use Rattle.std.proofs.Math.Nat.{add-mod-mod}
use Rattle.lane_rows.proofs.multiples.axpy_eight.Goals as goal

pub products_modulo-requires-clause-residues : goal.products_modulo-requires-clause-residues
products_modulo-requires-clause-residues c = λ j h. rw (get_or-chunk c.args.at 8 c.args.row.now j 0 h) (c.requires.row.1 j h)

pub sums_modulo-sums-requires-clause-x : goal.sums_modulo-sums-requires-clause-x
sums_modulo-sums-requires-clause-x c = λ j h. rw (get_or-chunk c.args.at 8 c.args.into.now j 0 h) (c.requires.into.1 j h)

pub returns-clause-inside : goal.returns-clause-inside
returns-clause-inside c = λ j h.
    let long : j < length c.sums_modulo-sums.result = omega (arith, c.sums_modulo-sums.ensures.long) in
    let room : c.args.at + length c.sums_modulo-sums.result ≤ length c.args.into.now = omega (arith, c.sums_modulo-sums.ensures.long, c.requires.into.0) in
    get_or-put_chunk_at c.args.at c.args.into.now c.sums_modulo-sums.result j 0 long room
    ∙ c.sums_modulo-sums.ensures.sums j h
    ∙ ap (λ n. (n + get_or c.products_modulo.result j 0) % c.args.p) (get_or-chunk c.args.at 8 c.args.into.now j 0 h)
    ∙ ap (λ n. (get_or c.args.into.now (c.args.at + j) 0 + n) % c.args.p) (c.products_modulo.ensures.products j h)
    ∙ add-mod-mod (get_or c.args.into.now (c.args.at + j) 0) _ c.args.p
    ∙ ap (λ n. (get_or c.args.into.now (c.args.at + j) 0 + c.args.c * n) % c.args.p) (get_or-chunk c.args.at 8 c.args.row.now j 0 h)

pub returns-clause-below : goal.returns-clause-below
returns-clause-below c = λ k h. get_or-put_chunk_below c.args.at c.args.into.now c.sums_modulo-sums.result k 0 h

pub returns-clause-above : goal.returns-clause-above
returns-clause-above c = λ k h.
    let past : c.args.at + length c.sums_modulo-sums.result ≤ k = omega (arith, c.sums_modulo-sums.ensures.long, h) in
    get_or-put_chunk_above c.args.at c.args.into.now c.sums_modulo-sums.result k 0 past
