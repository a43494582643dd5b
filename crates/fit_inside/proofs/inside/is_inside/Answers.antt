-- The only tokens.
use Rattle.std.specs.Prelude.{Ok, map}
use Rattle.std.proofs.Common.{◌∙◌, ap, sym}
use Rattle.std.proofs.lemmas.Result.{IfOk-weaker}
use Rattle.vl_lex.specs.Seen.{texts}
use Rattle.vl_token.specs.Seen.{lexeme}
use Rattle.fit_inside.proofs.InsideLaws.{is-inside, are-flat, no-fault, same-tokens}
use Rattle.fit_inside.proofs.inside.is_inside.Goals as goal

pub returns-in-Ok-clause-inside : goal.returns-in-Ok-clause-inside
returns-in-Ok-clause-inside c =
    IfOk-weaker c.are_flat.result _ _
    (λ flat h t. is-inside (texts c.args.files.now) (map lexeme c.in-Ok.tokens.items) (map lexeme c.deref.result.now) (ap (map lexeme) c.deref.ensures.value) c.in-Ok.ensures.found (h t))
    c.are_flat.ensures.taken

pub returns-in-Ok-clause-only : goal.returns-in-Ok-clause-only
returns-in-Ok-clause-only c = λ i.
    c.are_flat.ensures.only (are-flat (texts c.args.files.now) (map lexeme c.deref.result.now) i (same-tokens c.lex.result c.in-Ok.tokens i.is_tree.tokens c.in-Ok.is (c.lex.ensures.only (Ok i.is_tree.tokens) i.is_tree.are_tokens) ∙ ap (map lexeme) (sym c.deref.ensures.value)))

pub returns-in-Err-Fault-clause-only : goal.returns-in-Err-Fault-clause-only
returns-in-Err-Fault-clause-only c = λ i. absurd
    (no-fault c.lex.result c.in-Err-Fault.field-0 c.in-Err-Fault.field-0-0 c.in-Err-Fault.field-0-1 i.is_tree.tokens c.in-Err-Fault.is c.in-Err-Fault.field-0-is (c.lex.ensures.only (Ok i.is_tree.tokens) i.is_tree.are_tokens))
