-- The only tree.
use Rattle.std.proofs.Common.{◌∙◌, ap, sym}
use Rattle.std.proofs.lemmas.Result.{IfOk-weaker}
use Rattle.vl_tree.specs.Seen.{view_source}
use Rattle.fit_inside.specs.Inside.{is_flat}
use Rattle.fit_inside.proofs.InsideLaws.{no-refusal, same-tree}
use Rattle.fit_inside.proofs.inside.are_flat.Goals as goal

pub returns-in-Ok-clause-taken : goal.returns-in-Ok-clause-taken
returns-in-Ok-clause-taken c =
    IfOk-weaker c.is_flat.result _ _ (λ flat e t. record { tree = view_source c.in-Ok.tree; are_tree = c.in-Ok.ensures.found; flat = sym e ∙ t }) c.is_flat.ensures

pub returns-in-Ok-clause-only : goal.returns-in-Ok-clause-only
returns-in-Ok-clause-only c = λ t.
    IfOk-weaker c.is_flat.result _ _ (λ flat e. e ∙ ap is_flat (same-tree t.tree c.parse.result c.in-Ok.tree c.in-Ok.is (c.parse.ensures.only t.tree t.are_tree)) ∙ t.flat) c.is_flat.ensures

pub returns-in-Err-Fault-clause-only : goal.returns-in-Err-Fault-clause-only
returns-in-Err-Fault-clause-only c = λ t. absurd
    (no-refusal c.parse.result c.in-Err-Fault.field-0 c.in-Err-Fault.field-0-0 c.in-Err-Fault.field-0-1 t.tree c.in-Err-Fault.is c.in-Err-Fault.field-0-is (c.parse.ensures.only t.tree t.are_tree))
