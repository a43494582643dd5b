-- The parts so far with those that are left are all parts.
use Rattle.std.proofs.Common.{◌≡◌, ◌-◌, length, map}
use Rattle.vl_token.specs.Seen.{lexeme}
use Rattle.vl_terms.specs.Lists.{read_behind}
use Rattle.vl_terms.proofs.lists.many_behind.Given as goal

abbrev pub invariant-more : goal.invariant-more
invariant-more g l =
    let p = g.P.ListPart in
    read_behind (map p.view l.parts.items) p.rule (map lexeme l.tokens) l.next ≡ read_behind (map p.view l.fn.parts.items) p.rule (map lexeme l.tokens) l.at

abbrev pub decreases-more : goal.decreases-more
decreases-more g l = length (map lexeme l.tokens) - l.next
