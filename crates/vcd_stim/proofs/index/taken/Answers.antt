-- The nets of other codes stay.
use Rattle.std.specs.Prelude.{ℕ, List, bytes_eq}
use Rattle.std.specs.Borrow.{Bor}
use Rattle.indexmap.specs.IndexMap.{get_by}
use Rattle.vcd_stim.proofs.TableLaws.{key, others-stay}
use Rattle.vcd_stim.proofs.index.taken.Goals as goal

pub returns-in-Some-clause-others : goal.returns-in-Some-clause-others
returns-in-Some-clause-others c =
    others-stay c.args.code.now (λ d. get_by (λ (k : Bor (List ℕ)). bytes_eq d k.now) c.args.table.now) (λ d. get_by (λ (k : Bor (List ℕ)). bytes_eq d k.now) c.swap_remove.new.self)
    (λ d. c.swap_remove.ensures.updates.0 (key d))
