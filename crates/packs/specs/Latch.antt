-- The tables of Latch: fluents 0 shut, 1 locked; actions 0 press, 1 lock, 2 unlock, 3 lift.
use Rattle.std.specs.Prelude.{ℕ, List, [], ◌∷◌}
use Rattle.transition_graph.specs.declared.link.Link.{Link}
use Rattle.transition_graph.specs.Tables.{link_of}

-- open, shut, and shut and locked
abbrev pub latch_states : List ℕ
latch_states = 0 ∷ 1 ∷ 3 ∷ []

-- press shuts the open lid or leaves it open, lock and unlock act on the shut one, lift opens it where it is not locked
abbrev pub latch_links : List Link
latch_links = link_of 0 0 1 ∷ link_of 0 0 0 ∷ link_of 1 1 3 ∷ link_of 3 2 1 ∷ link_of 1 3 0 ∷ []
