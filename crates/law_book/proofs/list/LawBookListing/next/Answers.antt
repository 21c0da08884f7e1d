use Rattle.words.proofs.Smallest.{smallest_like}
use Rattle.theory.specs.Turning.{Turning}
use Rattle.law_book.specs.Books.{book_meaning}
use Rattle.law_book.proofs.list.LawBookListing.next.Goals as goal

pub returns : goal.returns
returns c =
    let m = book_meaning c.args.self.now in
    smallest_like (Turning m c.args.s c.args.a c.turnable.result) (m.Step c.args.s c.args.a) c.args.least c.next_turning.result
    (λ t _ h. h.step) (λ t _ h. record { step = h; turned = c.turnable.ensures.covers t h }) c.next_turning.ensures
