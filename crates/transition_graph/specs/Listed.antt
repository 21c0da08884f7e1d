-- Lemmas for the ranges of a graph's meaning: the proof in src/judge.rt may cite only what stands in specs/. A word either
-- stands in a table or does not, so what good tables say of one holds of these.
use Rattle.std.specs.Prelude.{ℕ, true, List, Contains}
use Rattle.std.proofs.Math.Bool.{Bool-set}
use Rattle.std.proofs.Math.Logic.{∥∥₁_elim}
use Rattle.std.proofs.Math.Bridge.{le_prop}
use Rattle.std.proofs.lemmas.Bool.Decides.{Decides-eqb}
use Rattle.std.proofs.lemmas.List.Elements.{All-contains}
use Rattle.std.proofs.lemmas.Map.Made.{is_member-Decides}
use Rattle.theory.specs.Meaning.{Ranged}
use Rattle.theory.specs.Sizes.{InRange}
use Rattle.transition_graph.specs.declared.link.Link.{Link}
use Rattle.transition_graph.specs.Tables.{GoodState, GoodLink, GoodTables, link_of, meaning_of}

module _ (fluents actions : ℕ) (states : List ℕ) (links : List Link) (in_range : InRange fluents actions) (good : ∥ GoodTables fluents actions states links ∥₁) where
  -- a word of which good tables say that it stands in the state table does so
  stands : (x : ℕ) → (GoodTables fluents actions states links → Contains states x) → Contains states x
  stands x h = let d = is_member-Decides Decides-eqb states x in d.0 (∥∥₁_elim good (Bool-set _ true) (λ k. d.1 (h k)))

  of_link : (link : Link) → Contains links link → GoodTables fluents actions states links → GoodLink actions states link
  of_link link h k = All-contains (GoodLink actions states) links link k.all_links h

  -- the meaning of good tables is in range
  pub ranged_from : Ranged (meaning_of fluents actions states links)
  ranged_from = record {
    sizes = in_range;
    state_below = λ s h. ∥∥₁_elim good le_prop (λ k. All-contains (GoodState fluents) states s k.all_states h);
    step_from = λ s a t h. stands s (λ k. (of_link (link_of s a t) h k).from);
    step_action = λ s a t h. ∥∥₁_elim good le_prop (λ k. (of_link (link_of s a t) h k).action);
    step_to = λ s a t h. stands t (λ k. (of_link (link_of s a t) h k).to);
  }
