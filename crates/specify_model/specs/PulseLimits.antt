-- The limits of pulses that specparams give to paths (IEEE 1364-2005, 14.6.1): PATHPULSE$in$out to those from the port in to the port
-- out, PATHPULSE$ to all others.
use Rattle.std.specs.Prelude.{ℕ, List, [], ◌∷◌, ◌++◌, Bool, true, false, ◌&&◌, ◌==◌, Option, Some, None, unwrap_or, bytes_eq, drop, map, find, filter, if◌then◌else◌}
use Rattle.std.specs.List.{last_or}
use Rattle.std.specs.Option.{option_map, option_or}
use Rattle.sg_circuit.specs.declared.scopes.Port.{Port}
use Rattle.sg_circuit.specs.declared.scopes.Port.TheVariants as port
use Rattle.elab_model.specs.Bits.{variable_named}
use Rattle.elab_model.specs.Hierarchy.{is_empty}
use Rattle.elab_model.specs.Names.{Variable}
use Rattle.specify_model.specs.Blocks.{Pulse}
use Rattle.specify_model.specs.Values.{Measure, ticks}

-- reject and error, in ticks; an error limit that isn't there is the reject limit
abbrev pub limit_ticks : Measure → Pulse → ℕ × ℕ
limit_ticks by p = (ticks by p.reject, ticks by (unwrap_or p.error p.reject))

-- what the name says behind PATHPULSE$, which has so many bytes
abbrev pub front_length : ℕ
front_length = 10

abbrev pub ends_text : Pulse → List ℕ
ends_text p = drop front_length p.name.text

-- $
abbrev pub dollar : ℕ
dollar = 36

-- what stands before and behind each $, from the left
abbrev pub cuts : List ℕ → List (List ℕ × List ℕ)
cuts [] = []
cuts (b ∷ bs) = (if b == dollar then ([], bs) ∷ [] else []) ++ map (λ c. (b ∷ c.0, c.1)) (cuts bs)

abbrev pub is_outside : Port → Bool
is_outside port.Input = true
is_outside port.Output = true
is_outside port.Inner = false

abbrev pub found_port : Option Variable → Bool
found_port None = false
found_port (Some v) = is_outside v.port

abbrev pub is_port : List Variable → List ℕ → Bool
is_port vs n = found_port (variable_named vs n)

-- the ports that a name says: the first $ whose two sides are ports divides them
abbrev pub are_ports : List Variable → List ℕ × List ℕ → Bool
are_ports vs c = is_port vs c.0 && is_port vs c.1

abbrev pub named_ends : List Variable → Pulse → Option (List ℕ × List ℕ)
named_ends vs p = find (are_ports vs) (cuts (ends_text p))

abbrev pub are_ends : List ℕ → List ℕ → Option (List ℕ × List ℕ) → Bool
are_ends i o None = false
are_ends i o (Some e) = bytes_eq i e.0 && bytes_eq o e.1

abbrev pub is_for_ends : List Variable → List ℕ → List ℕ → Pulse → Bool
is_for_ends vs i o p = are_ends i o (named_ends vs p)

abbrev pub is_for_others : Pulse → Bool
is_for_others p = is_empty (ends_text p)

-- of several that apply alike the last holds
abbrev pub last_of : (Pulse → Bool) → List Pulse → Option Pulse
last_of applies ps = last_or None (filter applies ps)

-- the limits of the paths from one port to another, where a text gives them
abbrev pub Limits : Type 0
Limits = List ℕ → List ℕ → Option (ℕ × ℕ)

abbrev pub limits_of : Measure → List Variable → List Pulse → Limits
limits_of by vs ps i o = option_map (limit_ticks by) (option_or (last_of (is_for_ends vs i o) ps) (last_of is_for_others ps))
