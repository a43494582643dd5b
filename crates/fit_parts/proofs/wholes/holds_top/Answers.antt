-- No top is named.
use Rattle.std.specs.Prelude.{ℕ, List, Option, map, option_map}
use Rattle.std.specs.Borrow.{Bor}
use Rattle.std.proofs.Common.{◌∙◌, ap, sym, subst}
use Rattle.vl_tree.specs.Seen.{view_part, view_source}
use Rattle.fit_parts.specs.Below.{HoldsTop, holds, is_seen}
use Rattle.fit_parts.specs.Parts.{heading_seen}
use Rattle.fit_parts.specs.Trees.{uses}
use Rattle.fit_parts.proofs.WholeLaws.{top-held}
use Rattle.fit_parts.proofs.wholes.holds_top.Goals as goal

pub returns : goal.returns
returns c = λ held.
    let read = map heading_seen c.args.read.now in
    let tree = view_source c.args.tree.now in
    subst (λ (t : Option (Bor (List ℕ))). HoldsTop (holds c.args.below.now) (option_map (λ n. n.now) t) read tree) (sym c.in_default.is)
    (top-held (holds c.args.below.now) (λ n. is_seen n c.in_ok-used.used.keys) tree read (option_map (λ n. n.now) c.in_ok-only.only)
    (λ n. c.in_ok-used.ensures n ∙ ap (λ ps. uses (map view_part ps) n) c.deref.ensures.value) c.in_ok-only.ensures (c.holds_name.ensures held))
