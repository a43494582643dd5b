-- The parts so far with those that are left are all parts.
use Rattle.std.proofs.Common.{◌≡◌, ◌-◌, length, map}
use Rattle.grammar.proofs.Loops.{rest_of_list}
use Rattle.vl_token.specs.declared.symbols.Symbol.TheVariants as symbol
use Rattle.vl_token.specs.Seen.{lexeme}
use Rattle.vl_tree.specs.Kinds.{kind_of, is_symbol}
use Rattle.vl_tree.specs.Rules.{listed}
use Rattle.vl_terms.proofs.lists.listed.Given as goal

abbrev pub invariant-more : goal.invariant-more
invariant-more g l =
    let p = g.P.ListPart in
    rest_of_list kind_of p.rule (is_symbol symbol.Comma) (map lexeme l.tokens) p.view l.parts.items l.next ≡ (listed p.rule).read (map lexeme l.tokens) l.at

abbrev pub decreases-more : goal.decreases-more
decreases-more g l = length (map lexeme l.tokens) - l.next
