-- One head more, and the end.
use Rattle.std.proofs.Common.{◌++◌, ◌∷◌, [], ℤ, refl, subst, sym, true}
use Rattle.sdf_tree.specs.Seen.{view_head}
use Rattle.sdf_tree.specs.Written.{a_head}
use Rattle.sdf_tree.specs.declared.words.Divider.{Divider}
use Rattle.sdf_stream.specs.Streams.{AreParts}
use Rattle.sdf_stream.specs.Windows.{seen}
use Rattle.sdf_stream.proofs.Filing.{head_more, no_cells_more, no_parts}
use Rattle.sdf_stream.proofs.streams.open_sdf.Goals as goal

pub more-init : goal.more-init
more-init c = record {
  read = ([], no_parts c.args.text.now c.in_ok-window.window c.opens.new.window c.in_ok-more.more c.in_ok-window.ensures c.in_ok-more.ensures, refl);
  closes = c.in_ok-more.ensures.closes;
}

pub more-preserved : goal.more-preserved
more-preserved c =
    let text = c.args.text.now in
    let a = c.more.window in
    let b = c.scan_head.new.window in
    let d = c.opens-in-more.new.window in
    let h = view_head c.in_ok-head.head in
    let i = c.more.invariant in
    let ps = i.read.0 in
    record {
      read = (
        ps ++ a_head h ∷ [],
        subst (λ (said : ℤ × Divider). AreParts text (seen d) d true said.0 said.1 (ps ++ a_head h ∷ [])) (sym c.with_head-said.ensures) (head_more text a b d c.in_ok-more-2.more c.more.said.0.power c.more.said.1 ps h i.read.1 c.in_ok-head.ensures c.in_ok-more-2.ensures),
        no_cells_more text ps h i.read.2,
      );
      closes = c.in_ok-more-2.ensures.closes;
    }

pub returns : goal.returns
returns c =
    let i = c.more.invariant in
    record { parts = i.read.0; read = i.read.1; no_cells = i.read.2; closes = i.closes }
