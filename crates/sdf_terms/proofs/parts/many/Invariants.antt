-- The parts so far with those that are left are all parts.
use Rattle.std.proofs.Common.{◌≡◌, ◌-◌, length, map}
use Rattle.grammar.proofs.Loops.{rest_of_many}
use Rattle.sdf_lex.specs.Seen.{lexeme}
use Rattle.sdf_tree.specs.Kinds.{kind_of}
use Rattle.sdf_tree.specs.Rules.{many}
use Rattle.sdf_terms.proofs.parts.many.Given as goal

abbrev pub invariant-more : goal.invariant-more
invariant-more g l =
    let p = g.P.Part in
    rest_of_many kind_of (p.rule l.form) (map lexeme l.tokens) p.view l.parts.items l.next ≡ (many (p.rule l.form)).read (map lexeme l.tokens) l.at

abbrev pub decreases-more : goal.decreases-more
decreases-more g l = length (map lexeme l.tokens) - l.next
