-- The lines by their places, which the closure gives.
use Rattle.std.proofs.Common.{rules}
use Rattle.std.proofs.lemmas.List.Sorted.{answers_always}
use Rattle.fit_changes.proofs.LineLaws.{are-sorted}
use Rattle.fit_changes.proofs.lines.sort_lines.Goals as goal

pub returns : goal.returns
returns c =
    are-sorted c.args.lines.now.items c.sort_by_key.new.self.items c.sort_by_key.ensures.permutation
    (c.in_ok-sort_by_key.ensures.sorted (λ l. (l.file, l.number)) (answers_always _ _ _ (λ f a r g h. search rules)))
    (c.sort_by_key.ensures.stable (λ l. (l.file, l.number)) (answers_always _ _ _ (λ f a r g h. search rules)))
