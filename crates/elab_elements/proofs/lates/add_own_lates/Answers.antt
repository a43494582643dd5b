-- The Lates are those of the definition.
use Rattle.std.proofs.Common.{flat_map, zip}
use Rattle.std.proofs.lemmas.Result.{on_ok_weaker}
use Rattle.elab_model.specs.Nets.{nets}
use Rattle.elab_elements.specs.Words.{copy_numbers, late_puts}
use Rattle.elab_elements.proofs.LateMeaning.{lates-within, member-lates}
use Rattle.elab_elements.proofs.Meaning.{adds}
use Rattle.elab_elements.proofs.Putting.{if_err-weaker, refuses-count}
use Rattle.elab_elements.proofs.lates.add_own_lates.Goals as goal

pub returns-clause-elements : goal.returns-clause-elements
returns-clause-elements c =
    on_ok_weaker c.add_lates.result
    (λ puts. λ delays udps source top s x h. adds delays udps (nets source top) c.args.made.now c.add_lates.new.made _ _
    (member-lates delays udps source top c.args.number c.args.prepared.now c.args.row.now c.args.driven.now c.args.first c.args.at x s c.own.result.now h c.own.ensures.own c.own.ensures.row) puts)
    c.add_lates.ensures.puts

pub returns-clause-refused : goal.returns-clause-refused
returns-clause-refused c =
    if_err-weaker c.add_lates.result _ _
    (λ r refused. λ source top s x h.
    refuses-count c.args.made.now (flat_map (late_puts c.args.number c.args.row.now) (zip c.own.result.now (copy_numbers c.args.first c.args.driven.now c.own.result.now))) _ r
    (lates-within source top c.args.number c.args.prepared.now c.args.row.now c.args.driven.now c.args.first c.args.at x s c.own.result.now h c.own.ensures.own c.own.ensures.row) refused)
    c.add_lates.ensures.refused
