use Rattle.std.proofs.Common.{◌≡◌, ◌∙◌, ◌∷◌, [], ap, sym, subst, get_or, ◌+◌, ◌%◌, ◌<◌, length, rules}
use Rattle.digit_plan.specs.Planned.{IsPlace, monomial_at}
use Rattle.digit_make.specs.Rows.{HasBlockAt, Adds}
use Rattle.digit_make.proofs.Steps.{read_made, read_residues, adds_read, adds_corner}
use Rattle.digit_make.proofs.blocks.add_block.Goals as goal

pub add_row_block-requires-clause-row : goal.add_row_block-requires-clause-row
add_row_block-requires-clause-row c =
    let plan = c.args.plan.now in
    read_residues plan c.requires.plan c.get-p.result plan.border c.args.rows.now.border c.as_slice.result.now c.in-Border.j c.index-as_slice-j.result c.as_slice-in-Border.result.now
    (c.get-p.ensures.value ∙ ap (λ z. z.prime) c.deref.ensures) c.requires.rows.border (subst (IsPlace plan) c.in-Border.is c.requires.place) c.as_slice.ensures c.index-as_slice-j.is c.as_slice-in-Border.ensures

pub add_row_block-requires-in-Outer-clause-row : goal.add_row_block-requires-in-Outer-clause-row
add_row_block-requires-in-Outer-clause-row c =
    let plan = c.args.plan.now in
    read_residues plan c.requires.plan c.get-p.result plan.outer c.args.rows.now.outer c.as_slice-in-Outer.result.now c.in-Outer.j c.index-as_slice-j-in-Outer.result c.as_slice-in-Outer-2.result.now
    (c.get-p.ensures.value ∙ ap (λ z. z.prime) c.deref.ensures) c.requires.rows.outer (subst (IsPlace plan) c.in-Outer.is c.requires.place) c.as_slice-in-Outer.ensures c.index-as_slice-j-in-Outer.is c.as_slice-in-Outer-2.ensures

pub returns-in-Corner-clause-adds : goal.returns-in-Corner-clause-adds
returns-in-Corner-clause-adds c =
    let plan = c.args.plan.now in
    let p : c.get-p.result ≡ plan.curve.value.prime = c.get-p.ensures.value ∙ ap (λ z. z.prime) c.deref.ensures in
    subst (λ z. Adds plan c.args.t c.args.out.now (record { coeff = c.args.c; mono = monomial_at plan z } ∷ []) c.add_corner_block.new.out) (sym c.in-Corner.is)
    (adds_corner plan c.requires.plan c.args.t c.args.c c.in-Corner.i c.args.out.now c.add_corner_block.new.out (subst (IsPlace plan) c.in-Corner.is c.requires.place) (search rules)
    (λ e. c.add_corner_block.ensures.first e ∙ ap (λ q. (get_or c.args.out.now c.in-Corner.i 0 + c.args.c) % q) p) c.add_corner_block.ensures.others)

pub returns-in-Border-clause-adds : goal.returns-in-Border-clause-adds
returns-in-Border-clause-adds c =
    let plan = c.args.plan.now in
    subst (λ z. Adds plan c.args.t c.args.out.now (record { coeff = c.args.c; mono = monomial_at plan z } ∷ []) c.add_row_block.new.out) (sym c.in-Border.is)
    (adds_read plan c.requires.plan c.get-p.result c.args.t c.args.c plan.border c.args.rows.now.border c.as_slice.result.now c.in-Border.j c.index-as_slice-j.result c.as_slice-in-Border.result.now
    c.args.out.now c.add_row_block.new.out
    (c.get-p.ensures.value ∙ ap (λ z. z.prime) c.deref.ensures) c.requires.rows.border c.requires.plan.border (subst (IsPlace plan) c.in-Border.is c.requires.place) c.as_slice.ensures c.index-as_slice-j.is c.as_slice-in-Border.ensures
    c.requires.out (search rules) (read_made plan c.requires.plan c.args.t (length c.args.out.now) c.args.rows.now.border c.as_slice.result.now c.in-Border.j c.index-as_slice-j.result c.as_slice-in-Border.result.now
    (subst (λ z. c.in-Border.j < z) (sym c.requires.rows.border.count) (subst (IsPlace plan) c.in-Border.is c.requires.place)) c.as_slice.ensures c.index-as_slice-j.is c.as_slice-in-Border.ensures c.requires.out.0
    (subst (HasBlockAt plan c.args.rows.now c.args.t) c.in-Border.is c.requires.made)) c.add_row_block.ensures.sum)

pub returns-in-Outer-clause-adds : goal.returns-in-Outer-clause-adds
returns-in-Outer-clause-adds c =
    let plan = c.args.plan.now in
    subst (λ z. Adds plan c.args.t c.args.out.now (record { coeff = c.args.c; mono = monomial_at plan z } ∷ []) c.add_row_block-in-Outer.new.out) (sym c.in-Outer.is)
    (adds_read plan c.requires.plan c.get-p.result c.args.t c.args.c plan.outer c.args.rows.now.outer c.as_slice-in-Outer.result.now c.in-Outer.j c.index-as_slice-j-in-Outer.result c.as_slice-in-Outer-2.result.now
    c.args.out.now c.add_row_block-in-Outer.new.out
    (c.get-p.ensures.value ∙ ap (λ z. z.prime) c.deref.ensures) c.requires.rows.outer c.requires.plan.outer (subst (IsPlace plan) c.in-Outer.is c.requires.place) c.as_slice-in-Outer.ensures c.index-as_slice-j-in-Outer.is c.as_slice-in-Outer-2.ensures
    c.requires.out (search rules) (read_made plan c.requires.plan c.args.t (length c.args.out.now) c.args.rows.now.outer c.as_slice-in-Outer.result.now c.in-Outer.j c.index-as_slice-j-in-Outer.result c.as_slice-in-Outer-2.result.now
    (subst (λ z. c.in-Outer.j < z) (sym c.requires.rows.outer.count) (subst (IsPlace plan) c.in-Outer.is c.requires.place)) c.as_slice-in-Outer.ensures c.index-as_slice-j-in-Outer.is c.as_slice-in-Outer-2.ensures c.requires.out.0
    (subst (HasBlockAt plan c.args.rows.now c.args.t) c.in-Outer.is c.requires.made)) c.add_row_block-in-Outer.ensures.sum)

pub add_row_block-requires-clause-made : goal.add_row_block-requires-clause-made
add_row_block-requires-clause-made c =
    let plan = c.args.plan.now in
    read_made plan c.requires.plan c.args.t (length c.args.out.now) c.args.rows.now.border c.as_slice.result.now c.in-Border.j c.index-as_slice-j.result c.as_slice-in-Border.result.now
    (subst (λ z. c.in-Border.j < z) (sym c.requires.rows.border.count) (subst (IsPlace plan) c.in-Border.is c.requires.place)) c.as_slice.ensures c.index-as_slice-j.is c.as_slice-in-Border.ensures c.requires.out.0
    (subst (HasBlockAt plan c.args.rows.now c.args.t) c.in-Border.is c.requires.made)

pub add_row_block-requires-in-Outer-clause-made : goal.add_row_block-requires-in-Outer-clause-made
add_row_block-requires-in-Outer-clause-made c =
    let plan = c.args.plan.now in
    read_made plan c.requires.plan c.args.t (length c.args.out.now) c.args.rows.now.outer c.as_slice-in-Outer.result.now c.in-Outer.j c.index-as_slice-j-in-Outer.result c.as_slice-in-Outer-2.result.now
    (subst (λ z. c.in-Outer.j < z) (sym c.requires.rows.outer.count) (subst (IsPlace plan) c.in-Outer.is c.requires.place)) c.as_slice-in-Outer.ensures c.index-as_slice-j-in-Outer.is c.as_slice-in-Outer-2.ensures c.requires.out.0
    (subst (HasBlockAt plan c.args.rows.now c.args.t) c.in-Outer.is c.requires.made)
