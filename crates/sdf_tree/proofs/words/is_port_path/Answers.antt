-- The names are those of a port's path.
use Rattle.sdf_tree.specs.Words.{divider_byte, is_port_path}
use Rattle.sdf_tree.proofs.PathLaws.{port_is}
use Rattle.sdf_tree.proofs.words.is_port_path.Goals as goal

pub returns : goal.returns
unfolding is_port_path
returns c = port_is (divider_byte c.args.divider) c.byte.result c.args.text.now c.is_path.result c.byte.ensures c.is_path.ensures
