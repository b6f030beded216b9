-- The fields of a book.
use Rattle.std.specs.Prelude.{◌≤◌, length, vec_capacity}
use Rattle.join_book.specs.declared.book.Book.TheInside.{Inside}
use Rattle.join_book.specs.Book.{BookData}

abbrev pub book_of : Inside → BookData
book_of b = record {
  curve = b.curve.value;
  points = b.points;
  limit = b.limit;
  entries = b.entries.items;
  joined = b.joined.items;
  settled = b.settled;
  sum = b.sum;
}

-- there is room for an entry of each stratum
abbrev pub HasRoom : Inside → Type 0
HasRoom b = (length b.points ≤ vec_capacity b.entries) × (length b.points ≤ vec_capacity b.joined)
