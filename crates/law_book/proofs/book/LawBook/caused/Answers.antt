use Rattle.std.proofs.Common.{◌≡◌, true, inl, inr, ⊎_elim}
use Rattle.law_book.specs.Laws.{base}
use Rattle.law_book.specs.Books.{laws_of}
use Rattle.law_book.specs.Leastness.{CausedIsLeast}
use Rattle.law_book.proofs.Closure.{least_closed, least_smallest, caused_from}
use Rattle.law_book.proofs.book.LawBook.caused.Goals as goal

caused_is_least : CausedIsLeast
caused_is_least fluents laws s a t = (
  record {
    effects = λ f v e. base (inl e);
    commons = λ f v e. base (inr e);
    closed = least_closed laws _;
  },
  λ P h f v x. least_smallest laws _ (λ g w. P g w ≡ true) (λ g w. ⊎_elim (h.effects g w) (h.commons g w)) h.closed x,
)

pub returns : goal.returns
returns c =
    let b = c.args.self.now in
    record {
      value = caused_from b.sizes.fluents (laws_of b) c.args.s c.args.a c.args.t c.common-common.result c.with_effects-given.result c.closure.result
          b.sizes.in_range.1 c.common-common.ensures c.with_effects-given.ensures c.closure.ensures;
      least = caused_is_least;
    }
