-- The heads so far were read, and the next tokens are at hand.
use Rattle.std.proofs.Common.{◌≡◌, List, [], false, length, true}
use Rattle.sdf_tree.specs.Kinds.{is_right}
use Rattle.sdf_tree.specs.Meant.{sdf_of}
use Rattle.sdf_tree.specs.Rules.{mark}
use Rattle.sdf_tree.specs.Written.{FilePart}
use Rattle.sdf_windows.specs.Movable.{Says}
use Rattle.sdf_stream.specs.Streams.{AreParts}
use Rattle.sdf_stream.specs.Windows.{seen}
use Rattle.sdf_stream.proofs.streams.open_sdf.Given as goal

abbrev pub invariant-more : goal.invariant-more
invariant-more l = record {
  read : (ps : List FilePart) × AreParts l.text (seen l.window) l.window true l.said.0.power l.said.1 ps × ((sdf_of ps).cells ≡ []);
  closes : l.more ≡ false → Says (mark is_right) (seen l.window) tt;
}

abbrev pub decreases-more : goal.decreases-more
decreases-more l = length l.window.rest.now
