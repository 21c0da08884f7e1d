use Rattle.std.proofs.lemmas.Bool.Decides.{not_from_Decides}
use Rattle.law_book.specs.Books.{laws_of}
use Rattle.law_book.proofs.Steps.{none_contrary_from, all_caused_to}
use Rattle.law_book.proofs.book.LawBook.fault.Goals as goal

pub returns-then-not-within-2 : goal.returns-then-not-within-2
returns-then-not-within-2 c = (
  c.has_state.ensures.0 c.if-not-has_state.false,
  c.if-a-self.false,
  c.permits.ensures.0 c.if-not-permits.false,
  c.has_state-2.ensures.0 c.if-not-has_state-2.false,
  none_contrary_from c.args.self.now.sizes.fluents (laws_of c.args.self.now) c.args.s c.args.a c.args.t c.caused-caused.result c.common-own.result
      c.args.self.now.sizes.in_range.1 c.caused-caused.ensures.value c.common-own.ensures (c.within.ensures.0 c.if-not-within.false),
  λ h. not_from_Decides _ c.within-2.ensures c.if-not-within-2.true
      (all_caused_to c.args.self.now.sizes.fluents (laws_of c.args.self.now) c.args.s c.args.a c.args.t c.caused-caused.result c.common-own.result
      c.args.self.now.sizes.in_range.1 c.caused-caused.ensures.value c.common-own.ensures h),
)
