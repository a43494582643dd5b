-- That a moment fits a circuit has one proof at most.
use Rattle.std.specs.Prelude.{ℕ, List, [], ◌∷◌, Option, Some, None}
use Rattle.std.specs.Coded.{Coded, Coded-set, codes}
use Rattle.std.proofs.Props.{props}
use Rattle.sg_logic.specs.declared.values.Value.{Value}
use Rattle.sg_model.specs.Pending.{Follows, IsAbove}
use Rattle.sg_model.specs.Machine.{Stamp}
use Rattle.sg_circuit.specs.declared.nets.Driver.{Driver}
use Rattle.sg_circuit.specs.Circuit.{Circuit}
use Rattle.time_checks.specs.declared.latest.Latest.{Latest}
use Rattle.time_checks.specs.Falling.{AreBy, IsBy}
use Rattle.sim_rounds.specs.Moments.{Fits, IsStampOf, Moment}

coded_value : Coded Value
coded_value = Prim.hlevel codes

value_set : IsSet Value
value_set = Coded-set coded_value

values_set : IsSet (List Value)
values_set = Coded-set (Prim.hlevel (codes, coded_value))

IsAbove-prop : (time : ℕ) (xs : List (ℕ × Value)) → IsProp (IsAbove time xs)
IsAbove-prop time [] = Prim.hlevel props
IsAbove-prop time (p ∷ ps) = Prim.hlevel props

Follows-prop : (xs : List (ℕ × Value)) (present : Value) (now : ℕ) → IsProp (Follows xs present now)
Follows-prop [] present now = Prim.hlevel props
Follows-prop (p ∷ ps) present now = Prim.hlevel (props, IsAbove-prop, Follows-prop ps present now)

IsBy-prop : (time : ℕ) (o : Option ℕ) → IsProp (IsBy time o)
IsBy-prop time None = Prim.hlevel props
IsBy-prop time (Some t) = Prim.hlevel props

AreBy-prop : (time : ℕ) (ls : List Latest) → IsProp (AreBy time ls)
AreBy-prop time [] = Prim.hlevel props
AreBy-prop time (known ∷ more) = Prim.hlevel (props, IsBy-prop, AreBy-prop time more)

IsStampOf-prop : (time : ℕ) (driver : Driver) (value : Value) (o : Option Stamp) → IsProp (IsStampOf time driver value o)
IsStampOf-prop time driver value None = Prim.hlevel (props, value_set)
IsStampOf-prop time driver value (Some s) = Prim.hlevel (props, value_set)

pub Fits-prop : (circuit : Circuit) (m : Moment) → IsProp (Fits circuit m)
Fits-prop circuit m = Prim.hlevel (props, value_set, values_set, Follows-prop, AreBy-prop, IsStampOf-prop)
