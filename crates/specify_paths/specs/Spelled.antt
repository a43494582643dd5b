-- That the conditions which are kept are what their tokens spell.
use Rattle.specify_paths.specs.declared.statements.ModuleCondition as code_condition
use Rattle.specify_paths.specs.declared.statements.ModuleCondition.TheVariants as code
use Rattle.specify_paths.specs.Seen.{IsRead}

abbrev pub IsSpelled : code_condition.ModuleCondition → Type 0
IsSpelled code.Always = Unit {0}
IsSpelled (code.If e) = IsRead e.tokens e
IsSpelled code.IfNone = Unit {0}
