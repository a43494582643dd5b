-- Delays that no gate may have are refused.
use Rattle.std.specs.Prelude.{◌≡◌, ℕ, ℤ, Bool, true, ◌||◌, Option, Some, nat_lt, map, length, refl}
use Rattle.std.specs.List.{IsAmong, list_any}
use Rattle.std.proofs.Common.{sym, ◌∙◌, ap, arith, subst}
use Rattle.std.proofs.lemmas.List.{length-map}
use Rattle.sg_delay.specs.declared.corners.Corner.{Corner}
use Rattle.vl_token.specs.Tokens.{Timescale}
use Rattle.vl_tree.specs.Tree.{Delay, Module}
use Rattle.elab_model.specs.declared.kinds.ElabKind.TheVariants.{BadDelay}
use Rattle.elab_model.specs.Delays.{ticks_of}
use Rattle.elab_model.specs.Faults.{fault, fault_if}
use Rattle.elab_model.specs.TerminalFaults.{delay_faults}
use Rattle.elab_primitives.specs.Delays.{are_refused, is_too_long}

among-true : (b : Bool) (d : Delay) → b ≡ true → IsAmong (fault_if b BadDelay d.place) (fault BadDelay d.place)
among-true b d h = subst (λ t. IsAmong (fault_if t BadDelay d.place) (fault BadDelay d.place)) (sym h) (0, (omega arith, refl))

pub too-long : (most : ℕ) (corner : Corner) (tick : ℤ) (m : Module) (s : Timescale) (o : Option Delay) (d : Delay) → o ≡ Some d → m.settings.scale ≡ s
    → are_refused most (map (ticks_of corner tick s) d.values) ≡ true → IsAmong (delay_faults most corner tick m o) (fault BadDelay d.place)
too-long most corner tick m s o d e is h =
    let g : are_refused most (map (ticks_of corner tick m.settings.scale) d.values) ≡ true = subst (λ t. are_refused most (map (ticks_of corner tick t) d.values) ≡ true) (sym is) h in
    let f : (nat_lt most (length d.values) || list_any is_too_long (map (ticks_of corner tick m.settings.scale) d.values)) ≡ true =
    ap (λ n. nat_lt most n || list_any is_too_long (map (ticks_of corner tick m.settings.scale) d.values)) (sym (length-map d.values (ticks_of corner tick m.settings.scale))) ∙ g in
    subst (λ x. IsAmong (delay_faults most corner tick m x) (fault BadDelay d.place)) (sym e) (among-true _ d f)
