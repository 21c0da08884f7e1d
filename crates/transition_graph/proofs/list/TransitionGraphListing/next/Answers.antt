use Rattle.transition_graph.specs.Graphs.{links_of}
use Rattle.transition_graph.proofs.Ends.{smallest_of}
use Rattle.transition_graph.proofs.list.TransitionGraphListing.next.Goals as goal

pub returns : goal.returns
returns c = rw (c.smallest_end.ensures, c.deref.ensures.value) (smallest_of c.args.s c.args.a c.args.least (links_of c.args.self.now))
