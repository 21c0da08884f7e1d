use Rattle.std.proofs.Common.{◌+◌, sym, subst}
use Rattle.std.proofs.lemmas.Bool.Decides.{not_from_Decides}
use Rattle.words.specs.declared.literals.Literals.{Literals}
use Rattle.law_book.specs.Books.{laws_of}
use Rattle.law_book.proofs.Books.{read_at}
use Rattle.law_book.proofs.Tables.{Passed, pass_none, pass_more, pass_same}
use Rattle.law_book.proofs.book.LawBook.pass.Goals as goal
use Rattle.law_book.proofs.book.LawBook.pass.Goals.{then-fires, else-fires}

pub loop-law-init : goal.loop-law-init
loop-law-init c = pass_none (laws_of c.args.self.now) c.args.set

pub loop-law-preserved : goal.loop-law-preserved
loop-law-preserved c =
    let laws = laws_of c.args.self.now in
    let i = c.loop-law.law-index in
    let read = read_at c.args.self.now c.deref-law-items.result.now i c.deref-law-items.ensures.value c.loop-law-test.true in
    let P : Literals → Type 0 = λ m. Passed laws c.args.set m (i + 1) in
    elim c.if-fires.branch [
      | then-fires w ↦ subst P (sym w.grown-is) (pass_more laws i _ read c.args.set c.loop-law.grown w.with-grown.result w.with-grown.ensures
          c.loop-law.invariant (c.fires.ensures.0 w.if-fires.true))
      | else-fires w ↦ subst P (sym w.grown-is) (pass_same laws i _ read c.args.set c.loop-law.grown c.loop-law.invariant
          (not_from_Decides _ c.fires.ensures w.if-fires.false))
    ]
