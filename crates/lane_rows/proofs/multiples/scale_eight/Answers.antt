use Rattle.std.proofs.Common.{◌+◌, ◌*◌, ◌%◌, ◌<◌, ◌≤◌, length, arith, ap, ◌∙◌}
use Rattle.std.proofs.lemmas.Simd.{get_or-chunk, get_or-put_chunk_below, get_or-put_chunk_at, get_or-put_chunk_above}
use Rattle.lane_rows.proofs.multiples.scale_eight.Goals as goal

pub products_modulo-products-requires-clause-residues : goal.products_modulo-products-requires-clause-residues
products_modulo-products-requires-clause-residues c = λ j h. rw (get_or-chunk c.args.at 8 c.args.row.now j 0 h) (c.requires.row.1 j h)

pub returns-clause-inside : goal.returns-clause-inside
returns-clause-inside c = λ j h.
    let long : j < length c.products_modulo-products.result = omega (arith, c.products_modulo-products.ensures.long) in
    let room : c.args.at + length c.products_modulo-products.result ≤ length c.args.row.now = omega (arith, c.products_modulo-products.ensures.long, c.requires.row.0) in
    get_or-put_chunk_at c.args.at c.args.row.now c.products_modulo-products.result j 0 long room
    ∙ c.products_modulo-products.ensures.products j h
    ∙ ap (λ n. (c.args.c * n) % c.args.p) (get_or-chunk c.args.at 8 c.args.row.now j 0 h)

pub returns-clause-below : goal.returns-clause-below
returns-clause-below c = λ k h. get_or-put_chunk_below c.args.at c.args.row.now c.products_modulo-products.result k 0 h

pub returns-clause-above : goal.returns-clause-above
returns-clause-above c = λ k h.
    let past : c.args.at + length c.products_modulo-products.result ≤ k = omega (arith, c.products_modulo-products.ensures.long, h) in
    get_or-put_chunk_above c.args.at c.args.row.now c.products_modulo-products.result k 0 past
