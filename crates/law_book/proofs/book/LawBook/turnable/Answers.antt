use Rattle.law_book.specs.Books.{laws_of}
use Rattle.law_book.proofs.Turns.{can_turn, covers}
use Rattle.law_book.proofs.book.LawBook.turnable.Goals as goal

pub returns : goal.returns
returns c =
    let b = c.args.self.now in
    record {
      value = can_turn b.sizes.fluents (laws_of b) c.args.s c.args.a c.caused.result c.contrary_to.result c.caused.ensures.value c.contrary_to.ensures;
      covers = covers b.sizes.fluents (laws_of b) c.args.s c.args.a c.caused.result c.contrary_to.result c.caused.ensures.value c.contrary_to.ensures b.sizes.actions b.sizes.in_range.1;
    }
