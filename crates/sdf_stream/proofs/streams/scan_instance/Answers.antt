-- The tokens at hand are all that was read.
use Rattle.std.proofs.Common.{◌∙◌}
use Rattle.std.proofs.lemmas.Option.{IfSome_then}
use Rattle.sdf_tree.specs.Files.{instance}
use Rattle.sdf_tree.specs.Seen.{view_instance}
use Rattle.sdf_tree.proofs.FilesExact.{instance-exact}
use Rattle.sdf_stream.proofs.Wholes.{next_is}
use Rattle.sdf_stream.proofs.streams.scan_instance.Goals as goal

pub returns : goal.returns
returns c =
    IfSome_then c.all_of.result c.all_of.ensures
    (λ found e. next_is (instance c.args.divider) (instance-exact c.args.divider) (λ i. view_instance i) c.instance.result c.args.window.now c.opens.new.window c.close.new.window c.deref.result.now found c.len.result c.in_ok-opens.ensures c.in_ok-close.ensures c.deref.ensures.value c.instance.ensures e (c.len.ensures ∙ c.close.new.window.tokens.ok.0))
