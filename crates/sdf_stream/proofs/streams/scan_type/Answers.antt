-- The tokens at hand are all that was read.
use Rattle.std.proofs.Common.{◌∙◌}
use Rattle.std.proofs.lemmas.Option.{IfSome_then}
use Rattle.sdf_tree.specs.Files.{cell_type}
use Rattle.sdf_tree.proofs.FilesExact.{cell_type-exact}
use Rattle.sdf_stream.proofs.Wholes.{next_is}
use Rattle.sdf_stream.proofs.streams.scan_type.Goals as goal

pub returns : goal.returns
returns c =
    IfSome_then c.all_of.result c.all_of.ensures
    (λ text e. next_is cell_type cell_type-exact (λ t. t.now) c.cell_type.result c.args.window.now c.opens.new.window c.close.new.window c.deref.result.now text c.len.result c.in_ok-opens.ensures c.in_ok-close.ensures c.deref.ensures.value c.cell_type.ensures e (c.len.ensures ∙ c.close.new.window.tokens.ok.0))
