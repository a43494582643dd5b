-- One transition comes, all others stay.
use Rattle.std.proofs.Common.{sym, ap, ◌∙◌, if◌then◌else◌}
use Rattle.std.specs.List.{insert}
use Rattle.pulse_list.proofs.OrderLaws.{IsInserted, inserted_pairs, inserted_falls}
use Rattle.pulse_list.proofs.plain.insert.Goals as goal

pub returns-clause-pairs : goal.returns-clause-pairs
returns-clause-pairs c =
    let xs = c.args.pending.now.items in
    let done : IsInserted xs c.deref.result.now c.insert-inserted.new.self.items c.place_of.result c.args.new = record {
      same = c.deref.ensures.value;
      within = c.place_of.ensures.within;
      place = c.place_of.ensures.place;
      items = c.insert-inserted.ensures.items ∙ ap (λ b. if b then insert xs c.place_of.result c.args.new else xs) (sym c.if-prove.ensures.value);
    } in
    inserted_pairs _ _ _ _ _ done c.requires.later

pub returns-clause-falls : goal.returns-clause-falls
returns-clause-falls c =
    let xs = c.args.pending.now.items in
    let done : IsInserted xs c.deref.result.now c.insert-inserted.new.self.items c.place_of.result c.args.new = record {
      same = c.deref.ensures.value;
      within = c.place_of.ensures.within;
      place = c.place_of.ensures.place;
      items = c.insert-inserted.ensures.items ∙ ap (λ b. if b then insert xs c.place_of.result c.args.new else xs) (sym c.if-prove.ensures.value);
    } in
    inserted_falls _ _ _ _ _ done c.requires.falls
