use Rattle.std.proofs.Common.{◌+◌, sym, subst}
use Rattle.std.proofs.lemmas.Bool.Decides.{not_from_Decides}
use Rattle.words.specs.declared.literals.Literals.{Literals}
use Rattle.law_book.specs.Books.{laws_of}
use Rattle.law_book.proofs.Books.{read_at}
use Rattle.law_book.proofs.Tables.{Gathered, gather_more, gather_same}
use Rattle.law_book.proofs.book.LawBook.with_effects.Goals as goal
use Rattle.law_book.proofs.book.LawBook.with_effects.Goals.{then-takes_effect, else-takes_effect}

pub loop-law-preserved : goal.loop-law-preserved
loop-law-preserved c =
    let laws = laws_of c.args.self.now in
    let i = c.loop-law.law-index in
    let read = read_at c.args.self.now c.deref-law-items.result.now i c.deref-law-items.ensures.value c.loop-law-test.true in
    let P : Literals → Type 0 = λ m. Gathered laws c.args.s c.args.a c.args.set m (i + 1) in
    elim c.if-takes_effect.branch [
      | then-takes_effect w ↦ subst P (sym w.grown-is) (gather_more laws i _ read c.args.set c.loop-law.grown w.with-grown.result w.with-grown.ensures
          c.args.s c.args.a c.loop-law.invariant (c.takes_effect.ensures.0 w.if-takes_effect.true))
      | else-takes_effect w ↦ subst P (sym w.grown-is) (gather_same laws i _ read c.args.s c.args.a c.args.set c.loop-law.grown c.loop-law.invariant
          (not_from_Decides _ c.takes_effect.ensures w.if-takes_effect.false))
    ]
