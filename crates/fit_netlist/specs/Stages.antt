-- What is wished beside the netlist.
use Rattle.std.specs.Prelude.{◌≡◌, ◌==◌, ◌<◌, ◌&&◌, ℕ, Bool, not, List, length}
use Rattle.fit_changes.specs.Rounds.{read}
use Rattle.fit_items.specs.declared.wishes.Wishes as wishes
use Rattle.fit_text.specs.declared.given.Given as given

-- no change is wished
abbrev pub wishes_nothing : wishes.Wishes → Bool
wishes_nothing w =
    length w.supply0.now == 0 && (length w.supply1.now == 0 && (length w.cut.now == 0 && (length w.drop.now == 0
    && (not w.drop_missing && (length w.no_checks.now == 0 && length w.no_notifier.now == 0)))))

-- nor is a macro defined
abbrev pub asks_nothing : given.Given → wishes.Wishes → Bool
asks_nothing g w = length g.defines.now == 0 && wishes_nothing w
