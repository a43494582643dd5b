-- What is repeated is read exactly: what stands behind a comma in a list, and what needs no comma.
use Rattle.std.proofs.Common.{ℕ, Bool, refl}
use Rattle.grammar.specs.Exact.{Exact}
use Rattle.grammar.specs.Rule.{◌▸◌}
use Rattle.vl_token.specs.declared.symbols.Symbol.TheVariants.{Comma}
use Rattle.vl_tree.specs.Amounts.{specparam}
use Rattle.vl_tree.specs.Expressions.{name, expression_to, expression}
use Rattle.vl_tree.specs.Items.{net_name, join, gate_instance, named_connection, instance, item}
use Rattle.vl_tree.specs.Modules.{head_port, part}
use Rattle.vl_tree.specs.Paths.{term, pair}
use Rattle.vl_tree.specs.Specify.{specify_item}
use Rattle.vl_tree.specs.Primitives.{declaration, cell, row}
use Rattle.vl_tree.specs.Kinds.{kind_of}
use Rattle.vl_tree.specs.Rules.{mark, optional}
use Rattle.vl_tree.proofs.AllKinds.{apart}
use Rattle.vl_tree.proofs.Building.{the_mark, behind, perhaps}
use Rattle.vl_tree.proofs.AmountsExact.{specparam-exact}
use Rattle.vl_tree.proofs.ExpressionsExact.{name-exact, expression_to-exact, expression-exact}
use Rattle.vl_tree.proofs.ItemsExact.{net_name-exact, join-exact, gate_instance-exact, named_connection-exact, instance-exact, item-exact}
use Rattle.vl_tree.proofs.ModulesExact.{head_port-exact, part-exact}
use Rattle.vl_tree.proofs.PathsExact.{term-exact, pair-exact}
use Rattle.vl_tree.proofs.SpecifyExact.{specify_item-exact}
use Rattle.vl_tree.proofs.PrimitivesExact.{declaration-exact, cell-exact, row-exact}

pub comma_name : Exact kind_of (mark Comma ▸ name)
comma_name = behind (the_mark Comma) name-exact (apart _ _ refl)

pub comma_expression : (d : ℕ) → Exact kind_of (mark Comma ▸ expression_to d)
comma_expression d = behind (the_mark Comma) (expression_to-exact d) (apart _ _ refl)

pub comma_net_name : Exact kind_of (mark Comma ▸ net_name)
comma_net_name = behind (the_mark Comma) net_name-exact (apart _ _ refl)

pub comma_join : Exact kind_of (mark Comma ▸ join)
comma_join = behind (the_mark Comma) join-exact (apart _ _ refl)

pub comma_gate_instance : Exact kind_of (mark Comma ▸ gate_instance)
comma_gate_instance = behind (the_mark Comma) gate_instance-exact (apart _ _ refl)

pub comma_named_connection : Exact kind_of (mark Comma ▸ named_connection)
comma_named_connection = behind (the_mark Comma) named_connection-exact (apart _ _ refl)

pub comma_instance : Exact kind_of (mark Comma ▸ instance)
comma_instance = behind (the_mark Comma) instance-exact (apart _ _ refl)

pub comma_head_port : Exact kind_of (mark Comma ▸ head_port)
comma_head_port = behind (the_mark Comma) head_port-exact (apart _ _ refl)

pub comma_option : Exact kind_of (mark Comma ▸ optional expression)
comma_option = behind (the_mark Comma) (perhaps expression-exact refl) (apart _ _ refl)

pub comma_term : Exact kind_of (mark Comma ▸ term)
comma_term = behind (the_mark Comma) term-exact (apart _ _ refl)

pub comma_pair : Exact kind_of (mark Comma ▸ pair)
comma_pair = behind (the_mark Comma) pair-exact (apart _ _ refl)

pub comma_specparam : Exact kind_of (mark Comma ▸ specparam)
comma_specparam = behind (the_mark Comma) specparam-exact (apart _ _ refl)

-- ---- what is repeated without commas

pub one_specify_item : (limited : Bool) → Exact kind_of (specify_item limited)
one_specify_item limited = specify_item-exact limited

pub one_item : Exact kind_of item
one_item = item-exact

pub one_declaration : Exact kind_of declaration
one_declaration = declaration-exact

pub one_cell : Exact kind_of cell
one_cell = cell-exact

pub one_row : Exact kind_of row
one_row = row-exact

pub one_part : Exact kind_of part
one_part = part-exact
