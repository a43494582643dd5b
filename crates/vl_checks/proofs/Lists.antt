-- What stands behind a comma in a list is read exactly.
use Rattle.std.proofs.Common.{refl}
use Rattle.grammar.specs.Exact.{Exact}
use Rattle.grammar.specs.Rule.{◌▸◌}
use Rattle.vl_token.specs.declared.symbols.Symbol.TheVariants.{Comma}
use Rattle.vl_tree.specs.Kinds.{kind_of}
use Rattle.vl_tree.specs.Paths.{pair}
use Rattle.vl_tree.specs.Rules.{mark}
use Rattle.vl_tree.proofs.AllKinds.{apart}
use Rattle.vl_tree.proofs.Building.{behind, the_mark}
use Rattle.vl_tree.proofs.PathsExact.{pair-exact}

pub comma_pair : Exact kind_of (mark Comma ▸ pair)
comma_pair = behind (the_mark Comma) pair-exact (apart _ _ refl)
