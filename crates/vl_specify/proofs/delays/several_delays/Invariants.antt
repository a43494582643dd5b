-- The delays that are left make of those so far all.
use Rattle.std.proofs.Common.{◌≡◌, ◌-◌, ◌∷◌, length, map}
use Rattle.grammar.specs.Rule.{◌∙∙◌, mapped}
use Rattle.vl_token.specs.Seen.{lexeme}
use Rattle.vl_tree.specs.Amounts.{more_delays, path_delay}
use Rattle.vl_tree.specs.Seen.{view_amounts}
use Rattle.vl_specify.proofs.DelayLists.{rest_behind}
use Rattle.vl_specify.proofs.delays.several_delays.Given as goal

abbrev pub invariant-more : goal.invariant-more
invariant-more l = rest_behind l.limited (map lexeme l.tokens) view_amounts l.delays.items (length l.delays.items) l.next ≡ (mapped (λ x. x.0 ∷ x.1) (path_delay ∙∙ more_delays l.limited)).read (map lexeme l.tokens) l.at

abbrev pub decreases-more : goal.decreases-more
decreases-more l = length (map lexeme l.tokens) - l.next
