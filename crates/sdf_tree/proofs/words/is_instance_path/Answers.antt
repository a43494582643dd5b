-- The names are those of an instance's path.
use Rattle.sdf_tree.specs.Words.{divider_byte, is_instance_path}
use Rattle.sdf_tree.proofs.PathLaws.{instance_is}
use Rattle.sdf_tree.proofs.words.is_instance_path.Goals as goal

pub returns : goal.returns
unfolding is_instance_path
returns c = instance_is (divider_byte c.args.divider) c.byte.result c.args.text.now c.is_path.result c.byte.ensures c.is_path.ensures
