-- Behind no parts stand all parts.
use Rattle.vl_token.specs.Seen.{lexeme}
use Rattle.std.proofs.Common.{map}
use Rattle.vl_terms.proofs.Behind.{behind_none, gives_same}
use Rattle.vl_terms.proofs.lists.many.Goals as goal

pub returns : goal.returns
returns g c =
    let p = g.P.ListPart in
    gives_same _ c.many_behind.result _ _ (behind_none p.view c.new.result.items p.rule (map lexeme c.args.tokens.now) c.args.at c.new.ensures.items) c.many_behind.ensures
