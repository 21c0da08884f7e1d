-- The tables of a transition graph, and their meaning.
use Rattle.std.specs.Prelude.{ℕ, ◌^◌, ◌<◌, List, All, Contains}
use Rattle.theory.specs.Meaning.{Meaning}
use Rattle.transition_graph.specs.declared.link.Link.{Link}

-- an entry of the state table is a word of the fluents
abbrev pub GoodState : ℕ → ℕ → Type 0
GoodState fluents s = s < 2 ^ fluents

-- an entry of the link table has one of the actions, and both its ends stand in the state table
pub record GoodLink (actions : ℕ) (states : List ℕ) (link : Link) : Type 0 where
  pub action : link.action < actions
  pub from : Contains states link.from
  pub to : Contains states link.to

-- every entry of both tables keeps its rule
pub record GoodTables (fluents actions : ℕ) (states : List ℕ) (links : List Link) : Type 0 where
  pub all_states : All (GoodState fluents) states
  pub all_links : All (GoodLink actions states) links

-- the link from s by a to t
abbrev pub link_of : ℕ → ℕ → ℕ → Link
link_of s a t = record { from = s; action = a; to = t }

-- the meaning of the tables: the states are the entries of the one, the steps the links of the other
abbrev pub meaning_of : ℕ → ℕ → List ℕ → List Link → Meaning
meaning_of fluents actions states links = record {
  fluents = fluents;
  actions = actions;
  State = Contains states;
  Step = λ s a t. Contains links (link_of s a t);
}
