-- What is repeated is read exactly: what stands behind a comma in a list, and what needs no comma.
use Rattle.std.proofs.Common.{true, false, refl}
use Rattle.grammar.specs.Exact.{Exact}
use Rattle.grammar.specs.Rule.{◌▸◌}
use Rattle.vl_token.specs.declared.symbols.Symbol.TheVariants.{Comma}
use Rattle.vl_tree.specs.Amounts.{specparam}
use Rattle.vl_tree.specs.Kinds.{kind_of}
use Rattle.vl_tree.specs.Paths.{term}
use Rattle.vl_tree.specs.Rules.{mark}
use Rattle.vl_tree.specs.Specify.{specify_item}
use Rattle.vl_tree.proofs.AllKinds.{apart}
use Rattle.vl_tree.proofs.AmountsExact.{specparam-exact}
use Rattle.vl_tree.proofs.Building.{behind, the_mark}
use Rattle.vl_tree.proofs.PathsExact.{term-exact}
use Rattle.vl_tree.proofs.SpecifyExact.{specify_item-exact}

pub comma_specparam : Exact kind_of (mark Comma ▸ specparam)
comma_specparam = behind (the_mark Comma) specparam-exact (apart _ _ refl)

pub comma_term : Exact kind_of (mark Comma ▸ term)
comma_term = behind (the_mark Comma) term-exact (apart _ _ refl)

-- ---- what is repeated without commas

pub limited_item : Exact kind_of (specify_item true)
limited_item = specify_item-exact true

pub lifted_item : Exact kind_of (specify_item false)
lifted_item = specify_item-exact false
