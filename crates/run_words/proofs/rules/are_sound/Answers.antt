use Rattle.std.proofs.Common.{sym, ap, ◌∙◌, ◌&&◌}
use Rattle.run_words.proofs.RuleLaws.{sound_by, unsound_by, unknown_by}
use Rattle.run_words.proofs.rules.are_sound.Goals as goal
use Rattle.run_words.proofs.rules.are_sound.Goals.{then-are_known, else-are_known}

pub returns-then-are_single : goal.returns-then-are_single
returns-then-are_single c = elim c.if-are_known.branch [
  | then-are_known w ↦ sound_by c.are_known.result w.are_single.result c.args.options.now c.args.netlists.now c.args.arguments.now c.requires c.are_known.ensures w.are_single.ensures
      w.if-are_known.true (sym w.value-is ∙ c.if-are_single.true)
  | else-are_known w ↦ absurd cc
]

pub returns-else-are_single : goal.returns-else-are_single
returns-else-are_single c = elim c.if-are_known.branch [
  | then-are_known w ↦ c.if-are_single.false ∙ unsound_by c.are_known.result w.are_single.result c.args.options.now c.args.arguments.now c.are_known.ensures w.are_single.ensures
      (ap (λ b. b && w.are_single.result) w.if-are_known.true ∙ sym w.value-is ∙ c.if-are_single.false)
  | else-are_known w ↦ c.if-are_single.false ∙ unknown_by c.args.options.now c.args.arguments.now (sym w.if-are_known.false ∙ c.are_known.ensures)
]
