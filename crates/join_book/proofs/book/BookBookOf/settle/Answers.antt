use Rattle.std.proofs.Common.{rules, ◌≡◌, ◌+◌, ◌<◌, List, length, get_or, sym}
use Rattle.join_book.specs.Answers.{Adds}
use Rattle.join_book.specs.Inside.{book_of}
use Rattle.join_book.proofs.Books.{settles}
use Rattle.join_book.proofs.book.BookBookOf.settle.Goals as goal

pub invariant_of-self-2 : goal.invariant_of-self-2
invariant_of-self-2 c =
    let b = book_of c.self.inside in
    let d = c.index.result.now in
    let left : c.self.inside.settled < length c.self.inside.entries.items = search rules in
    let next : get_or c.self.inside.entries.items c.self.inside.settled d ≡ d = sym c.index.ensures in
    let adds : Adds c.self.inside.sum d c.add_done.new.sum = search rules in
    (settles b d c.self.invariant.0 left next c.add_done.new.sum c.add_done.ensures.curve adds, c.self.invariant.1)
