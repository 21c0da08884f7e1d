-- What a graph is made of, and what it means.
use Rattle.std.specs.Prelude.{ℕ, List, vec_items}
use Rattle.theory.specs.Meaning.{Meaning}
use Rattle.transition_graph.specs.declared.graph.TransitionGraph.{TransitionGraph}
use Rattle.transition_graph.specs.declared.link.Link.{Link}
use Rattle.transition_graph.specs.Tables.{meaning_of}

-- the state table of the graph
abbrev pub states_of : TransitionGraph → List ℕ
states_of g = vec_items g.states

-- the link table of the graph
abbrev pub links_of : TransitionGraph → List Link
links_of g = vec_items g.links

-- what the graph means
abbrev pub graph_meaning : TransitionGraph → Meaning
graph_meaning g = meaning_of g.sizes.fluents g.sizes.actions (states_of g) (links_of g)
