-- A dump is one stimulus at most.
use Rattle.std.proofs.Common.{ℕ, ◌≡◌, List, [], Option, Some, None, sym, ap, ◌∙◌}
use Rattle.sg_circuit.specs.Circuit.{Circuit}
use Rattle.sg_stimulus.specs.Stimulus.{Stimulus}
use Rattle.vcd_form.proofs.Whole.{one_dump}
use Rattle.vcd_form.specs.Words.{words}
use Rattle.vcd_form.specs.Written.{Front, Item}
use Rattle.vcd_model.specs.Reading.{IsRead}
use Rattle.vcd_model.specs.Stimulus.{wave_stimulus}

abbrev items_in : Option (ℕ × List Item) → List Item
items_in None = []
items_in (Some body) = body.1

abbrev stimulus_in : Circuit → List ℕ → Front → Stimulus
stimulus_in circuit scope f = wave_stimulus circuit scope f.sections (items_in f.body)

pub read-once : (text : List ℕ) (circuit : Circuit) (scope : List ℕ) (one other : Stimulus) → IsRead text circuit scope one → IsRead text circuit scope other → one ≡ other
read-once text circuit scope one other h k =
    let f : Front = record { sections = h.sections; body = Some (h.definitions, h.items) } in
    let g : Front = record { sections = k.sections; body = Some (k.definitions, k.items) } in
    h.is_stimulus ∙ ap (stimulus_in circuit scope) (one_dump (words text) f g h.spelled k.spelled) ∙ sym k.is_stimulus
