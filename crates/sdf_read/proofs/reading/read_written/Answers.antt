-- Reading all tokens gives the parts, or the failing token.
use Rattle.std.proofs.Common.{map, true}
use Rattle.grammar.proofs.Laws.{all_found, all_failed, one_value}
use Rattle.sdf_lex.specs.Seen.{lexeme}
use Rattle.sdf_tree.specs.Files.{file}
use Rattle.sdf_tree.specs.Kinds.{kind_of}
use Rattle.sdf_tree.specs.Seen.{view_file}
use Rattle.sdf_tree.proofs.FilesExact.{file-exact}
use Rattle.sdf_read.proofs.Failed.{failed_at}
use Rattle.sdf_read.proofs.reading.read_written.Goals as goal

pub returns-in-Ok-clause-found : goal.returns-in-Ok-clause-found
returns-in-Ok-clause-found c = all_found kind_of (file true) (file-exact true) (map lexeme c.args.tokens.now) (view_file c.in-Ok.file) c.in-Ok.ensures

pub returns-in-Ok-clause-only : goal.returns-in-Ok-clause-only
returns-in-Ok-clause-only c = λ parts spelled.
    let found = all_found kind_of (file true) (file-exact true) (map lexeme c.args.tokens.now) (view_file c.in-Ok.file) c.in-Ok.ensures in
    one_value kind_of (file true) (file-exact true) (map lexeme c.args.tokens.now) (view_file c.in-Ok.file) parts found spelled

pub returns-in_ok-kind-in-Err-At-clause-only : goal.returns-in_ok-kind-in-Err-At-clause-only
returns-in_ok-kind-in-Err-At-clause-only c = λ parts spelled.
    let failed = failed_at c.in-Err-At.field-0 c.in-Err-At.at _ c.in-Err-At.field-0-is c.in-Err-At.ensures in
    (all_failed kind_of (file true) (file-exact true) (map lexeme c.args.tokens.now) c.in-Err-At.at failed).none parts spelled

pub returns-in_ok-kind-in-Err-At-clause-fault : goal.returns-in_ok-kind-in-Err-At-clause-fault
returns-in_ok-kind-in-Err-At-clause-fault c =
    let failed = failed_at c.in-Err-At.field-0 c.in-Err-At.at _ c.in-Err-At.field-0-is c.in-Err-At.ensures in
    (c.in-Err-At.at, all_failed kind_of (file true) (file-exact true) (map lexeme c.args.tokens.now) c.in-Err-At.at failed, c.place_of_fault.ensures, c.in_ok-kind-in-Err-At.ensures)
