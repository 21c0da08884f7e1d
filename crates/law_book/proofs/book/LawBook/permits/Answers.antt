use Rattle.std.proofs.Common.{◌-◌, ◌↔◌, List, length, take, drop, sym, subst, Any}
use Rattle.std.proofs.lemmas.List.{take_rest}
use Rattle.law_book.specs.declared.law.Law.{Law}
use Rattle.law_book.specs.Laws.{Permits, MayRun}
use Rattle.law_book.specs.Books.{laws_of}
use Rattle.law_book.proofs.Permissions.{runs_from}
use Rattle.law_book.proofs.book.LawBook.permits.Goals as goal

pub returns-in-Some : goal.returns-in-Some
returns-in-Some c =
    let laws = laws_of c.args.self.now in
    let k = c.in-Some.first in
    let P : List Law → Type 0 = λ xs. MayRun laws c.args.s c.args.a ↔ Any (Permits c.args.s c.args.a) xs in
    let runs = subst P (sym (take_rest laws k)) (runs_from laws c.args.s c.args.a k c.in-Some.ensures.some) in
    let lent = subst (λ xs. P (take (length xs - k) (drop k xs))) (sym c.deref.ensures.value) runs in
    (λ yes. lent.1 (c.some_permits.ensures.0 yes), λ may. c.some_permits.ensures.1 (lent.0 may))
