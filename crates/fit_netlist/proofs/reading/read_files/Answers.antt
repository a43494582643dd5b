-- The tokens, and their tree.
use Rattle.std.specs.Prelude.{map}
use Rattle.std.proofs.Common.{ap}
use Rattle.std.proofs.lemmas.Result.{IfOk-weaker}
use Rattle.vl_lex.specs.Seen.{texts}
use Rattle.vl_token.specs.Seen.{lexeme}
use Rattle.vl_tree.specs.Seen.{view_source}
use Rattle.fit_netlist.proofs.ReadingLaws.{is-tree}
use Rattle.fit_netlist.proofs.reading.read_files.Goals as goal

pub returns-clause-read : goal.returns-clause-read
returns-clause-read c =
    IfOk-weaker c.read_tree.result _ _
    (λ tree h. is-tree (texts c.args.files.now) (map lexeme c.in_ok-tokens.tokens.items) (map lexeme c.deref.result.now) (view_source tree) (ap (map lexeme) c.deref.ensures.value) c.in_ok-tokens.ensures.read h)
    c.read_tree.ensures.read
