-- The laws of Twin.
use Rattle.std.specs.Prelude.{List, [], ◌∷◌}
use Rattle.law_book.specs.declared.law.Law.{Law}
use Rattle.law_book.specs.Laws.{static_law, dynamic_law, executability_law}
use Rattle.packs.specs.Short.{on_of, body_of}

-- 1 if 0 and not 2; 2 if 0 and not 1; the action causes 0 if not 0, and may run with all three false
abbrev pub twin_laws : List Law
twin_laws =
    static_law (on_of 1) (body_of 1 4)
    ∷ static_law (on_of 2) (body_of 1 2)
    ∷ dynamic_law 0 (on_of 0) (body_of 0 1)
    ∷ executability_law 0 (body_of 0 7)
    ∷ []
