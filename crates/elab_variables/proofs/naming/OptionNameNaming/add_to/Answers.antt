-- A copy without a name names nothing.
use Rattle.std.proofs.Common.{refl}
use Rattle.std.specs.Option.{option_map}
use Rattle.vl_tree.specs.Seen.{view_name}
use Rattle.elab_variables.specs.Naming.{key_texts, names_listed}
use Rattle.elab_variables.proofs.ItemNames.{none-given}
use Rattle.elab_variables.proofs.naming.OptionNameNaming.add_to.Goals as goal

pub returns-in-None : goal.returns-in-None
returns-in-None c = none-given (λ n. names_listed (option_map view_name n)) (key_texts c.args.known.now.keys) c.args.self.now _ c.in-None.is refl
