-- The cells so far were told, and the next tokens are at hand.
use Rattle.std.proofs.Common.{ℕ, List, length}
use Rattle.sdf_stream.specs.Streams.{IsAmid, IsOpened}
use Rattle.sdf_stream.proofs.streams.Stream.tell.Given as goal

abbrev pub invariant-more : goal.invariant-more
invariant-more g l = record {
  ready : g.V.Visit.ready l.visitor;
  amid : (text : List ℕ) → IsOpened text l.fn.self → IsAmid text l.fn.self.unit.power l.fn.self.divider (g.V.Visit.came l.fn.visitor l.visitor) l.window l.more;
}

abbrev pub decreases-more : goal.decreases-more
decreases-more g l = length l.window.rest.now
