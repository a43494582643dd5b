-- All but timing checks name nothing.
use Rattle.std.proofs.Common.{refl}
use Rattle.vl_tree.specs.Seen.{view_specify_item}
use Rattle.elab_variables.specs.Naming.{key_texts, names_of_specify}
use Rattle.elab_variables.proofs.ItemNames.{none-given}
use Rattle.elab_variables.proofs.naming.SpecifyItemNaming.add_to.Goals as goal

pub returns-in-Specparams : goal.returns-in-Specparams
returns-in-Specparams c = none-given (λ i. names_of_specify (view_specify_item i)) (key_texts c.args.known.now.keys) c.args.self.now _ c.in-Specparams.is refl

pub returns-in-Path : goal.returns-in-Path
returns-in-Path c = none-given (λ i. names_of_specify (view_specify_item i)) (key_texts c.args.known.now.keys) c.args.self.now _ c.in-Path.is refl

pub returns-in-PulseStyle : goal.returns-in-PulseStyle
returns-in-PulseStyle c = none-given (λ i. names_of_specify (view_specify_item i)) (key_texts c.args.known.now.keys) c.args.self.now _ c.in-PulseStyle.is refl
