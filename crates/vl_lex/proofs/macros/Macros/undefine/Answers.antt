use Rattle.std.proofs.Common.{Bor, ℕ, List, nat_eq}
use Rattle.indexmap.specs.IndexMap.{get}
use lib.Pointwise.{pointwise}
use Rattle.vl_lex.proofs.MacroLaws.{text_gone}
use Rattle.vl_lex.proofs.macros.Macros.undefine.Goals as goal

pub returns : goal.returns
returns c =
    text_gone c.args.name.now (λ q. get (λ (a : Bor (List ℕ)) (b : Bor (List ℕ)). pointwise nat_eq a.now b.now) c.args.self.now.texts q) (λ q. get (λ (a : Bor (List ℕ)) (b : Bor (List ℕ)). pointwise nat_eq a.now b.now) c.swap_remove.new.self q)
    c.swap_remove.ensures.updates.0
