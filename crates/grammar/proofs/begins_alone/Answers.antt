-- The tokens in front are the same with others behind them.
use Rattle.std.proofs.Common.{◌++◌, length, refl, sym}
use Rattle.grammar.proofs.Printing.{agree_before}
use Rattle.grammar.proofs.begins_alone.Goals as goal

pub returns : goal.returns
returns g c =
    let exact = g.G.Grammar.exact in
    λ front back.
    let same = agree_before front (front ++ back) back refl 0 in
    (exact.begins_alone (front ++ back) front 0 (length front) (λ n lo hi. sym (same n lo hi)), exact.begins_alone front (front ++ back) 0 (length front) same)
