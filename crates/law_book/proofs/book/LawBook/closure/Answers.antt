use Rattle.std.proofs.Common.{arith}
use Rattle.std.proofs.lemmas.Bool.Decides.{not_from_Decides}
use Rattle.words.specs.Words.{Member}
use Rattle.law_book.specs.Books.{laws_of}
use Rattle.law_book.specs.Laws.{base}
use Rattle.law_book.proofs.Closure.{least_smallest, least_join, room_falls}
use Rattle.law_book.proofs.book.LawBook.closure.Goals as goal

pub loop-next-init : goal.loop-next-init
loop-next-init c = (λ f v m. m, λ f v m. base m, omega arith, omega arith)

pub returns-then-within : goal.returns-then-within
returns-then-within c f v = (
  c.loop-next.invariant.1 f v,
  λ x. least_smallest (laws_of c.args.self.now) (Member c.args.set) (Member c.loop-next.grown) c.loop-next.invariant.0
      (c.pass-next.ensures.closed (c.within.ensures.0 c.if-within.true)) x,
)

pub loop-next-smaller : goal.loop-next-smaller
loop-next-smaller c =
    room_falls c.loop-next.grown c.pass-next.result (omega arith) (omega arith) (omega arith) (omega arith) c.pass-next.ensures.keeps
    (not_from_Decides _ c.within.ensures c.if-within.false)

pub loop-next-preserved : goal.loop-next-preserved
loop-next-preserved c = (
  λ f v m. c.pass-next.ensures.keeps f v (c.loop-next.invariant.0 f v m),
  λ f v m. least_join (laws_of c.args.self.now) (Member c.loop-next.grown) (Member c.args.set) c.loop-next.invariant.1 f v (c.pass-next.ensures.sound f v m),
  omega arith,
  omega arith,
)
