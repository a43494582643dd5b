use Rattle.std.proofs.Common.{Bor, ℕ, List, nat_eq}
use Rattle.indexmap.specs.IndexMap.{get}
use lib.Pointwise.{pointwise}
use Rattle.vl_lex.proofs.MacroLaws.{text_put}
use Rattle.vl_lex.proofs.macros.Macros.define.Goals as goal

pub returns : goal.returns
returns c =
    text_put c.args.name.now (λ q. get (λ (a : Bor (List ℕ)) (b : Bor (List ℕ)). pointwise nat_eq a.now b.now) c.args.self.now.texts q) (λ q. get (λ (a : Bor (List ℕ)) (b : Bor (List ℕ)). pointwise nat_eq a.now b.now) c.insert.new.self q)
    _ c.in_ok-insert.ensures.updates.0
