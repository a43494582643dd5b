-- All three hold.
use Rattle.std.specs.Prelude.{map}
use Rattle.std.proofs.Common.{◌∙◌, ap, sym, subst}
use Rattle.vl_tree.specs.Seen.{view_part, view_source}
use Rattle.fit_parts.specs.Below.{IsClosedBelow, holds, is_seen}
use Rattle.fit_parts.specs.Trees.{defines}
use Rattle.fit_parts.proofs.WholeLaws.{all-close, all-stay}
use Rattle.fit_parts.proofs.wholes.is_whole.Goals as goal

pub returns : goal.returns
returns c = λ stay. record {
  holds_top = c.in_ok-holds_top.ensures c.if-not-branch.false;
  is_closed =
      subst (λ ps. IsClosedBelow (holds c.args.below.now) (map view_part ps)) c.deref.ensures.value
      (all-close (holds c.args.below.now) c.deref.result.now (sym c.all_close.ensures ∙ c.if-not-all_close.false));
  stays =
      all-stay (λ n. is_seen n c.in_ok-defined.defined.keys) (holds c.args.below.now) (view_source c.args.tree.now) c.args.read.now
      (λ n. c.in_ok-defined.ensures n ∙ ap (λ ps. defines (map view_part ps) n) c.deref-2.ensures.value) (sym c.all_stay.ensures ∙ stay);
}
