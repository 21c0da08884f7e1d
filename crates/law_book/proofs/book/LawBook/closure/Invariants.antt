use Rattle.std.proofs.Common.{ℕ, ◌^◌, ◌<◌, Bool}
use Rattle.words.specs.Words.{Member, Within}
use Rattle.law_book.specs.Books.{laws_of}
use Rattle.law_book.specs.Laws.{Least}
use Rattle.law_book.proofs.Closure.{room}
use Rattle.law_book.proofs.book.LawBook.closure.Given as goal

abbrev pub invariant-loop-next : goal.invariant-loop-next
invariant-loop-next l =
    Within l.initial.grown l.grown
    × ((f : ℕ) (v : Bool) → Member l.grown f v → Least (laws_of l.self) (Member l.initial.grown) f v)
    × (l.grown.truths < 2 ^ 32)
    × (l.grown.falses < 2 ^ 32)

abbrev pub decreases-loop-next : goal.decreases-loop-next
decreases-loop-next l = room l.grown
