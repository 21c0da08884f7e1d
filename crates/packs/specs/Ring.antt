-- The laws of Ring.
use Rattle.std.specs.Prelude.{List, [], ◌∷◌}
use Rattle.law_book.specs.declared.law.Law.{Law}
use Rattle.law_book.specs.Laws.{static_law}
use Rattle.packs.specs.Short.{on_of, body_of}

-- 1 if 0; 0 if 1
abbrev pub ring_laws : List Law
ring_laws = static_law (on_of 1) (body_of 1 0) ∷ static_law (on_of 0) (body_of 2 0) ∷ []
