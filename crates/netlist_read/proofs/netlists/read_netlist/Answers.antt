-- What each phase answers is what the whole may answer.
use Rattle.std.proofs.Common.{option_map}
use Rattle.std.proofs.lemmas.Result.{err_from_is_err_and, IfErr-weaker}
use Rattle.vl_lex.specs.Seen.{texts}
use Rattle.vl_tree.specs.Seen.{view_source}
use Rattle.netlist_read.proofs.Joining.{exit-by, text-refused, source-exit, meaning-exit}
use Rattle.netlist_read.proofs.netlists.read_netlist.Goals as goal

pub returns-in_err-tokens-clause-refused : goal.returns-in_err-tokens-clause-refused
returns-in_err-tokens-clause-refused c =
    exit-by _ c.from_residual.result c.in_err-tokens.field-0.0 (err_from_is_err_and c.from_residual.result c.from_residual.ensures.1)
    (text-refused (texts c.args.files.now) (option_map (λ n. n.now) c.args.top) c.args.corner c.in_err-tokens.field-0.0 c.in_err-tokens.ensures.refused)

pub returns-in_err-source-clause-refused : goal.returns-in_err-source-clause-refused
returns-in_err-source-clause-refused c =
    exit-by _ c.from_residual-in_err-source.result c.in_err-source.field-0.0 (err_from_is_err_and c.from_residual-in_err-source.result c.from_residual-in_err-source.ensures.1)
    (source-exit (texts c.args.files.now) (option_map (λ n. n.now) c.args.top) c.args.corner c.in_ok-tokens.tokens.items c.deref.result.now c.end_of.result c.in_err-source.field-0.0
    c.deref.ensures.value c.end_of.ensures c.in_ok-tokens.ensures.read c.in_err-source.ensures.refused)

pub returns-clause-refused : goal.returns-clause-refused
returns-clause-refused c =
    IfErr-weaker c.read_circuit.result _ _
    (λ r h. meaning-exit (texts c.args.files.now) (option_map (λ n. n.now) c.args.top) c.args.corner c.in_ok-tokens.tokens.items c.deref.result.now (view_source c.in_ok-source.source) r
    c.deref.ensures.value c.in_ok-tokens.ensures.read c.in_ok-source.ensures.read h)
    c.read_circuit.ensures.refused
