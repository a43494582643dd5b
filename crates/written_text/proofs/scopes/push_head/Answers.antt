use Rattle.std.specs.Prelude.{codes, ◌∷◌, []}
use Rattle.written_model.specs.Text.{tick_text}
use Rattle.written_text.proofs.TextLaws.{three_added}
use Rattle.written_text.proofs.scopes.push_head.Goals as goal

pub returns : goal.returns
returns c =
    three_added c.extend_from_slice-2.result c.args.text.now.items (codes "(DELAYFILE (SDFVERSION \"3.0\") (DIVIDER /) (TIMESCALE ") (tick_text c.args.tick.power) (codes ")") (10 ∷ [])
    c.extend_from_slice.new.self.items c.push_tick.new.text.items c.extend_from_slice-2.new.self.items c.in_ok-extend_from_slice.ensures.items c.in_ok-push_tick.ensures c.extend_from_slice-2.ensures.items
