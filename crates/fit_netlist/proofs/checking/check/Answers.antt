-- All of it is taken, and all that is below the top is in it.
use Rattle.std.specs.Prelude.{map, option_map}
use Rattle.std.proofs.Common.{◌∙◌, sym}
use Rattle.vl_lex.specs.Seen.{texts}
use Rattle.vl_tree.specs.Seen.{view_source}
use Rattle.fit_parts.specs.Below.{holds}
use Rattle.fit_parts.specs.Parts.{heading_seen}
use Rattle.fit_netlist.proofs.CheckingLaws.{is-kept}
use Rattle.fit_netlist.proofs.checking.check.Goals as goal

pub returns-clause-accepted : goal.returns-clause-accepted
returns-clause-accepted c = (view_source c.in_ok-tree.tree, c.in_ok-tree.ensures.read)

pub returns-clause-kept : goal.returns-clause-kept
returns-clause-kept c = λ expanded tokens lexes headings.
    is-kept (option_map (λ n. n.now) c.args.top) expanded (texts c.args.files.now) c.args.lines.now (view_source c.in_ok-tree.tree) (holds c.in_ok-below.below) (map heading_seen c.args.headings.now) tokens
    lexes headings c.in_ok-tree.ensures.read (c.in_ok-is_whole.ensures c.if-not-branch.false) (sym c.all_outside.ensures ∙ c.if-not-all_outside.false)
