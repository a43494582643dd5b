-- The module that stands ready at a place of the definitions.
use Rattle.std.specs.Prelude.{Option, Some, None}
use Rattle.elab_modules.specs.declared.library.Ready as code_ready
use Rattle.elab_modules.specs.declared.library.Ready.TheVariants as ready
use Rattle.elab_modules.specs.declared.prepared.Prepared.{Prepared}

abbrev pub module_in : Option code_ready.Ready → Option Prepared
module_in None = None
module_in (Some (ready.Module p)) = Some p
module_in (Some (ready.Primitive k)) = None

abbrev pub module_at : Option (Option code_ready.Ready) → Option Prepared
module_at None = None
module_at (Some part) = module_in part
