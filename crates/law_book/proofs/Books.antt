-- What a book's invariant gives.
use Rattle.std.proofs.Common.{◌≡◌, ℕ, ◌<◌, List, length, get_or, ap, subst, arith}
use Rattle.std.specs.List.{Contains}
use Rattle.std.proofs.lemmas.List.Elements.{All-contains}
use Rattle.law_book.specs.declared.book.LawBook.{LawBook}
use Rattle.law_book.specs.declared.law.Law.{Law}
use Rattle.law_book.specs.Books.{laws_of}
use Rattle.law_book.proofs.Tables.{Read, no_law, stands_at}
use Rattle.law_book.specs.Laws.{Good}

-- the head of every law of a book is a fluent of a word
pub bounded_from : (b : LawBook) (law : Law) → Contains (laws_of b) law → law.head.fluent < 32
bounded_from b law at = omega (arith, (All-contains (Good b.sizes.fluents b.sizes.actions) (laws_of b) law b.good at).fluent, b.sizes.in_range)

-- the law that a loop over the table of a book reads, from the slice that is lent
pub read_at : (b : LawBook) (lent : List Law) (i : ℕ) → lent ≡ laws_of b → i < length lent → Read (laws_of b) i (get_or lent i no_law)
read_at b lent i e l =
    let law : Law = get_or lent i no_law in
    let is : law ≡ get_or (laws_of b) i no_law = ap (λ xs. get_or xs i no_law) e in
    let within : i < length (laws_of b) = subst (λ xs. i < length xs) e l in
    record { within = within; is = is; bounded = bounded_from b law (stands_at (laws_of b) i law within is) }
