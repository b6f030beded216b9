use Rattle.std.proofs.Common.{rules, ◌≡◌, ℕ, ◌+◌, ◌<◌, ◌≤◌, List, [], ◌∷◌, ◌++◌, length, map, IsTrue, arith, refl, sym, ap, ap₂, subst, ◌∙◌}
use Rattle.std.proofs.lemmas.List.{length-map}
use Rattle.over_module.specs.Done.{DoneData}
use Rattle.join_book.specs.Answers.{Takes, with_entry}
use Rattle.join_book.specs.Book.{BookData, BookIs}
use Rattle.join_book.specs.Inside.{book_of}
use Rattle.join_book.proofs.Books.{took, asked, room, joins}
use Rattle.join_book.proofs.book.BookBookOf.join.Goals as goal

pub push_reserved-requires : goal.push_reserved-requires
push_reserved-requires c =
    let b = book_of c.self.inside in
    let yes : IsTrue c.is_taken.result = search rules in
    let takes = took b c.spend-stratum.result c.args.done c.deref.result.now c.as_slice-points.result.now c.as_slice-entries.result.now
    c.deref.ensures c.as_slice-points.ensures c.as_slice-entries.ensures.value (c.is_taken.ensures.0 yes) in
    let free : length c.self.inside.entries.items < length c.self.inside.points = room b c.spend-stratum.result c.args.done c.self.invariant.0 c.verdict-known.ensures.known takes in
    omega (arith, free, c.self.inside.entries.ok, c.self.invariant.1.0)

pub push_reserved-requires-2 : goal.push_reserved-requires-2
push_reserved-requires-2 c =
    let b = book_of c.self.inside in
    let yes : IsTrue c.is_taken.result = search rules in
    let takes = took b c.spend-stratum.result c.args.done c.deref.result.now c.as_slice-points.result.now c.as_slice-entries.result.now
    c.deref.ensures c.as_slice-points.ensures c.as_slice-entries.ensures.value (c.is_taken.ensures.0 yes) in
    let free : length c.self.inside.entries.items < length c.self.inside.points = room b c.spend-stratum.result c.args.done c.self.invariant.0 c.verdict-known.ensures.known takes in
    let same : length c.self.inside.joined.items ≡ length c.self.inside.entries.items =
    sym (length-map c.self.inside.joined.items (λ p. p.0)) ∙ (ap length c.self.invariant.0.strata ∙ length-map c.self.inside.entries.items (λ (d : DoneData). d.stratum)) in
    omega (arith, free, same, c.self.inside.joined.ok, c.self.invariant.1.1)

pub invariant_of-self : goal.invariant_of-self
invariant_of-self c =
    let b = book_of c.self.inside in
    let yes : IsTrue c.is_taken.result = search rules in
    let takes = took b c.spend-stratum.result c.args.done c.deref.result.now c.as_slice-points.result.now c.as_slice-entries.result.now
    c.deref.ensures c.as_slice-points.ensures c.as_slice-entries.ensures.value (c.is_taken.ensures.0 yes) in
    let kept : BookIs (with_entry b c.spend-stratum.result c.args.done) = joins b c.spend-stratum.result c.args.done c.self.invariant.0 c.verdict-known.ensures.known takes in
    let with : (es : List DoneData) (js : List (ℕ × ℕ)) → BookData = λ es js. record b { entries = es; joined = js } in (
      subst (λ (es : List DoneData). BookIs (with es c.push_reserved-2.new.self.items)) (sym c.push_reserved.ensures.items)
          (subst (λ (js : List (ℕ × ℕ)). BookIs (with (b.entries ++ c.args.done ∷ []) js)) (sym c.push_reserved-2.ensures.items) kept),
      (omega (arith, c.self.invariant.1.0, c.push_reserved.ensures.capacity), omega (arith, c.self.invariant.1.1, c.push_reserved-2.ensures.capacity)),
    )

pub returns-then-not-is_taken : goal.returns-then-not-is_taken
returns-then-not-is_taken c =
    let b = book_of c.self.inside in
    let no : IsTrue c.is_taken.result → ⊥ = search rules in
    let view : book_of c.self.inside ≡ c.args.self.now = search rules in
    let won : c.spend-stratum.result ≡ c.args.won = search rules in (
      (λ t. no (c.is_taken.ensures.1 (asked b c.spend-stratum.result c.args.done c.deref.result.now c.as_slice-points.result.now c.as_slice-entries.result.now
          c.deref.ensures c.as_slice-points.ensures c.as_slice-entries.ensures.value
          (subst (λ w. Takes b w c.args.done) (sym won) (subst (λ z. Takes z c.args.won c.args.done) (sym view) t))))),
      refl,
      refl,
    )

pub returns : goal.returns
returns c =
    let b = book_of c.self.inside in
    let yes : IsTrue c.is_taken.result = search rules in
    let view : book_of c.self.inside ≡ c.args.self.now = search rules in
    let won : c.spend-stratum.result ≡ c.args.won = search rules in
    let takes = took b c.spend-stratum.result c.args.done c.deref.result.now c.as_slice-points.result.now c.as_slice-entries.result.now
    c.deref.ensures c.as_slice-points.ensures c.as_slice-entries.ensures.value (c.is_taken.ensures.0 yes) in
    let with : (es : List DoneData) (js : List (ℕ × ℕ)) → BookData = λ es js. record b { entries = es; joined = js } in
    let made : with c.push_reserved.new.self.items c.push_reserved-2.new.self.items ≡ with_entry b c.spend-stratum.result c.args.done =
    ap₂ with c.push_reserved.ensures.items c.push_reserved-2.ensures.items in (
      subst (λ w. Takes c.args.self.now w c.args.done) won (subst (λ z. Takes z c.spend-stratum.result c.args.done) view takes),
      made ∙ ap₂ (λ z w. with_entry z w c.args.done) view won,
    )
