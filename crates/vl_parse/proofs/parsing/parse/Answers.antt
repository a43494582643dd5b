-- Reading all tokens gives the tree, or the failing token.
use Rattle.std.proofs.Common.{map}
use Rattle.grammar.proofs.Laws.{all_found, all_failed, one_value}
use Rattle.vl_token.specs.Seen.{lexeme}
use Rattle.vl_tree.specs.Kinds.{kind_of}
use Rattle.vl_tree.specs.Modules.{source}
use Rattle.vl_tree.specs.Seen.{view_source}
use Rattle.vl_tree.proofs.ModulesExact.{source-exact}
use Rattle.vl_parse.proofs.Failed.{failed_at}
use Rattle.vl_parse.proofs.parsing.parse.Goals as goal

pub returns-in-Ok-clause-found : goal.returns-in-Ok-clause-found
returns-in-Ok-clause-found c = all_found kind_of source source-exact (map lexeme c.args.tokens.now) (view_source c.in-Ok.tree) c.in-Ok.ensures

pub returns-in-Ok-clause-only : goal.returns-in-Ok-clause-only
returns-in-Ok-clause-only c = λ tree spelled.
    let found = all_found kind_of source source-exact (map lexeme c.args.tokens.now) (view_source c.in-Ok.tree) c.in-Ok.ensures in
    one_value kind_of source source-exact (map lexeme c.args.tokens.now) (view_source c.in-Ok.tree) tree found spelled

pub returns-in_ok-kind-in-Err-At-clause-only : goal.returns-in_ok-kind-in-Err-At-clause-only
returns-in_ok-kind-in-Err-At-clause-only c = λ tree spelled.
    let failed = failed_at c.in-Err-At.field-0 c.in-Err-At.at _ c.in-Err-At.field-0-is c.in-Err-At.ensures in
    (all_failed kind_of source source-exact (map lexeme c.args.tokens.now) c.in-Err-At.at failed).none tree spelled

pub returns-in_ok-kind-in-Err-At-clause-fault : goal.returns-in_ok-kind-in-Err-At-clause-fault
returns-in_ok-kind-in-Err-At-clause-fault c =
    let failed = failed_at c.in-Err-At.field-0 c.in-Err-At.at _ c.in-Err-At.field-0-is c.in-Err-At.ensures in
    (c.in-Err-At.at, all_failed kind_of source source-exact (map lexeme c.args.tokens.now) c.in-Err-At.at failed, c.place_of_fault.ensures, c.in_ok-kind-in-Err-At.ensures)
