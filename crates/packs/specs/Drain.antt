-- The laws of Drain: fluents 0 cold, 1 full, 2 drain; actions 0 thaw, 1 release, 2 discharge.
use Rattle.std.specs.Prelude.{List, [], ◌∷◌}
use Rattle.law_book.specs.declared.law.Law.{Law}
use Rattle.law_book.specs.Laws.{static_law, dynamic_law, executability_law}
use Rattle.packs.specs.Short.{on_of, off_of, body_of}

-- drain if cold; drain if full; thaw causes not cold, release not drain, discharge not full; each may run if its fluent is true
abbrev pub drain_laws : List Law
drain_laws =
    static_law (on_of 2) (body_of 1 0)
    ∷ static_law (on_of 2) (body_of 2 0)
    ∷ dynamic_law 0 (off_of 0) (body_of 0 0)
    ∷ dynamic_law 1 (off_of 2) (body_of 0 0)
    ∷ dynamic_law 2 (off_of 1) (body_of 0 0)
    ∷ executability_law 0 (body_of 1 0)
    ∷ executability_law 1 (body_of 4 0)
    ∷ executability_law 2 (body_of 2 0)
    ∷ []
