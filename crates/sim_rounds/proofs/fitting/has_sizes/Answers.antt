use Rattle.std.proofs.Common.{◌≡◌, ◌∙◌, arith, sym}
use Rattle.std.proofs.lemmas.List.{length-map}
use Rattle.std.proofs.lemmas.Bool.{eqb-true, false≢true}
use Rattle.sg_circuit.specs.Seen.{circuit_seen}
use Rattle.sim_rounds.specs.MomentsSeen.{change_seen, moment_seen}
use Rattle.sim_rounds.proofs.FittingLaws.{known_seen, sizes_by}
use Rattle.sim_rounds.proofs.fitting.has_sizes.Goals as goal
use Rattle.sim_rounds.proofs.fitting.has_sizes.Goals.{then-len, else-len, then-len-2, else-len-2}

pub returns-then-len-3 : goal.returns-then-len-3
returns-then-len-3 c =
    let m = c.args.moment.now in
    let parts = c.args.parts.now in
    elim c.if-len-2.branch [
      | then-len-2 w ↦
          elim c.if-len.branch [
            | then-len v ↦
                let checks : w.len-then-len-2-2.result ≡ w.len-then-len-2-3.result = eqb-true w.len-then-len-2-2.result w.len-then-len-2-3.result (sym w.value-is ∙ c.if-len-3.true) in
                let stamps : v.len-then-len.result ≡ v.len-then-len-2.result = eqb-true v.len-then-len.result v.len-then-len-2.result (sym v.value-is ∙ w.if-len-2.true) in
                sizes_by c.are_known.result (circuit_seen parts) (moment_seen m)
                (omega (arith, v.if-len.true, c.len.ensures, c.len-2.ensures, m.nets.ok.0, parts.nets.ok.0))
                (length-map m.stamps.items change_seen ∙ omega (arith, stamps, v.len-then-len.ensures, v.len-then-len-2.ensures, m.stamps.ok.0, parts.nets.ok.0))
                (omega (arith, checks, w.len-then-len-2-2.ensures, w.len-then-len-2-3.ensures, m.latest.ok.0, parts.checks.ok.0))
                (known_seen c.are_known.result parts c.deref.result.now m.pending.items c.len-then-len-3.result c.deref.ensures.value (c.len-then-len-3.ensures ∙ parts.elements.ok.0) c.are_known.ensures)
            | else-len v ↦ absurd (v.if-len.false (eqb-true c.len.result c.len-2.result (sym v.value-is ∙ w.if-len-2.true)))
          ]
      | else-len-2 w ↦ absurd (false≢true (sym w.if-len-2.false ∙ (sym w.value-is ∙ c.if-len-3.true)))
    ]
