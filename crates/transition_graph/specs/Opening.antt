-- What the opening of a transition graph answers.
use Rattle.std.specs.Prelude.{◌≡◌, ℕ, ◌≤◌, List, ◌∷◌, ◌++◌, length, Ok, Err, vec_items, Result, Vec}
use Rattle.std.specs.declared.alloc.Global.{Global}
use Rattle.refusal.specs.declared.part.Part.TheVariants.{State, Link as LinkPart}
use Rattle.refusal.specs.declared.reason.Reason.TheVariants.{TableLength}
use Rattle.refusal.specs.Entries.{entries_refused}
use Rattle.refusal.specs.Order.{Ground, by, First, NoneFits}
use Rattle.refusal.specs.Refusals.{plain}
use Rattle.theory.specs.declared.unopened.Unopened.{Unopened}
use Rattle.theory.specs.Meaning.{Same}
use Rattle.theory.specs.Sizes.{InRange, sizes_refused}
use Rattle.transition_graph.specs.declared.graph.TransitionGraph.{TransitionGraph}
use Rattle.transition_graph.specs.declared.link.Link.{Link}
use Rattle.transition_graph.specs.Graphs.{states_of, links_of, graph_meaning}
use Rattle.transition_graph.specs.Tables.{GoodState, GoodLink, GoodTables, meaning_of}

-- the lengths that the tables may have: 1 to 1,024 states, at most 4,096 links
pub record Lengths (states : List ℕ) (links : List Link) : Type 0 where
  pub some_state : 1 ≤ length states
  pub few_states : length states ≤ 1024
  pub few_links : length links ≤ 4096

-- the sizes and tables that open
pub record Opens (fluents actions : ℕ) (states : List ℕ) (links : List Link) : Type 0 where
  pub sized : InRange fluents actions
  pub lengths : Lengths states links
  pub good : GoodTables fluents actions states links

-- the first state that breaks its rule; then, the first link that does
abbrev pub tables_refused : ℕ → ℕ → List ℕ → List Link → List Ground
tables_refused fluents actions states links =
    entries_refused State (GoodState fluents) states ++ entries_refused LinkPart (GoodLink actions states) links

-- sizes out of range; then, a table of a wrong length; then, the first bad entry
abbrev pub open_refused : ℕ → ℕ → List ℕ → List Link → List Ground
open_refused fluents actions states links =
    sizes_refused fluents actions
    ++ (by (plain TableLength) (Lengths states links → ⊥) ∷ tables_refused fluents actions states links)

-- the graph has exactly these sizes and tables: it means what they mean, and keeps both tables in their order
pub record GraphOf (fluents actions : ℕ) (states : List ℕ) (links : List Link) (g : TransitionGraph) : Type 0 where
  pub means : Same (graph_meaning g) (meaning_of fluents actions states links)
  pub state_table : states_of g ≡ states
  pub link_table : links_of g ≡ links

-- What opens is the graph of these sizes and tables. What does not is refused by the first ground that fits, and both
-- tables come back as they were handed in.
abbrev pub Opened : ℕ → ℕ → Vec ℕ Global → Vec Link Global → Result TransitionGraph (Unopened (Vec ℕ Global × Vec Link Global)) → Type 0
Opened fluents actions states links (Ok g) =
    Opens fluents actions (vec_items states) (vec_items links)
    × NoneFits (open_refused fluents actions (vec_items states) (vec_items links))
    × GraphOf fluents actions (vec_items states) (vec_items links) g
Opened fluents actions states links (Err u) =
    First (open_refused fluents actions (vec_items states) (vec_items links)) u.refusal
    × (u.tables.0 ≡ states)
    × (u.tables.1 ≡ links)
