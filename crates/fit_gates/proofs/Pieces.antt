-- The gates of one operator by their tables: each equation is looked at value by value.
use Rattle.std.specs.Prelude.{◌≡◌, Bool, true, false, List, [], ◌∷◌, if◌then◌else◌, refl}
use Rattle.sg_logic.specs.declared.values.Value.{Value}
use Rattle.sg_logic.specs.declared.values.Value.TheVariants.{Zero, One, X, Z}
use Rattle.sg_logic.specs.Values.{z_as_x}
use Rattle.sg_logic.specs.Gate.{gate_value, inverse, is_one, is_zero}
use Rattle.sg_logic.specs.declared.gates.GateKind.TheVariants as gate
use Rattle.fit_gates.specs.declared.terms.Bitwise.{Bitwise}
use Rattle.fit_gates.specs.declared.terms.Bitwise.TheVariants as bitwise
use Rattle.fit_gates.specs.declared.terms.Reduction.{Reduction}
use Rattle.fit_gates.specs.declared.terms.Reduction.TheVariants as reduction
use Rattle.fit_gates.specs.declared.terms.Logical.{Logical}
use Rattle.fit_gates.specs.declared.terms.Logical.TheVariants as logical
use Rattle.fit_gates.specs.Values.{bit, bitwise_value, case_equality, choice_value, equality, gated_value, logical_value, reduction_value, standard_choice}
use Rattle.fit_gates.specs.Gates.{all_kind, bitwise_kind, control_kind, each_kind, logical_kind, match_value, reduction_kind}

-- what makes a comparison 0, and what leaves it 1, as its gates show it
abbrev pub bad : Bool → Value → Bool
bad true = is_zero
bad false = is_one

abbrev pub good : Bool → Value → Bool
good true = is_one
good false = is_zero

abbrev pub is_on : Value → Bool
is_on Zero = true
is_on One = true
is_on X = true
is_on Z = false

pub not_gate : (a : Value) → gate_value gate.Not (a ∷ []) ≡ inverse a
not_gate Zero = refl
not_gate One = refl
not_gate X = refl
not_gate Z = refl

pub reduction_gate : (op : Reduction) (vs : List Value) → gate_value (reduction_kind op) vs ≡ reduction_value op vs
reduction_gate reduction.And vs = refl
reduction_gate reduction.Nand vs = refl
reduction_gate reduction.Or vs = refl
reduction_gate reduction.Nor vs = refl
reduction_gate reduction.Xor vs = refl
reduction_gate reduction.Xnor vs = refl

pub bitwise_gate : (op : Bitwise) (a b : Value) → gate_value (bitwise_kind op) (a ∷ b ∷ []) ≡ bitwise_value op a b
bitwise_gate bitwise.And a b = refl
bitwise_gate bitwise.Or a b = refl
bitwise_gate bitwise.Xor a b = refl
bitwise_gate bitwise.Xnor a b = refl

pub logical_gate : (op : Logical) (a b : Value) → gate_value (logical_kind op) (a ∷ b ∷ []) ≡ logical_value op (z_as_x a) (z_as_x b)
logical_gate logical.And Zero Zero = refl
logical_gate logical.And Zero One = refl
logical_gate logical.And Zero X = refl
logical_gate logical.And Zero Z = refl
logical_gate logical.And One Zero = refl
logical_gate logical.And One One = refl
logical_gate logical.And One X = refl
logical_gate logical.And One Z = refl
logical_gate logical.And X Zero = refl
logical_gate logical.And X One = refl
logical_gate logical.And X X = refl
logical_gate logical.And X Z = refl
logical_gate logical.And Z Zero = refl
logical_gate logical.And Z One = refl
logical_gate logical.And Z X = refl
logical_gate logical.And Z Z = refl
logical_gate logical.Or Zero Zero = refl
logical_gate logical.Or Zero One = refl
logical_gate logical.Or Zero X = refl
logical_gate logical.Or Zero Z = refl
logical_gate logical.Or One Zero = refl
logical_gate logical.Or One One = refl
logical_gate logical.Or One X = refl
logical_gate logical.Or One Z = refl
logical_gate logical.Or X Zero = refl
logical_gate logical.Or X One = refl
logical_gate logical.Or X X = refl
logical_gate logical.Or X Z = refl
logical_gate logical.Or Z Zero = refl
logical_gate logical.Or Z One = refl
logical_gate logical.Or Z X = refl
logical_gate logical.Or Z Z = refl

pub choice_gate : (condition a b : Value) → choice_value condition a b ≡ choice_value (z_as_x condition) a b
choice_gate Zero Zero Zero = refl
choice_gate Zero Zero One = refl
choice_gate Zero Zero X = refl
choice_gate Zero Zero Z = refl
choice_gate Zero One Zero = refl
choice_gate Zero One One = refl
choice_gate Zero One X = refl
choice_gate Zero One Z = refl
choice_gate Zero X Zero = refl
choice_gate Zero X One = refl
choice_gate Zero X X = refl
choice_gate Zero X Z = refl
choice_gate Zero Z Zero = refl
choice_gate Zero Z One = refl
choice_gate Zero Z X = refl
choice_gate Zero Z Z = refl
choice_gate One Zero Zero = refl
choice_gate One Zero One = refl
choice_gate One Zero X = refl
choice_gate One Zero Z = refl
choice_gate One One Zero = refl
choice_gate One One One = refl
choice_gate One One X = refl
choice_gate One One Z = refl
choice_gate One X Zero = refl
choice_gate One X One = refl
choice_gate One X X = refl
choice_gate One X Z = refl
choice_gate One Z Zero = refl
choice_gate One Z One = refl
choice_gate One Z X = refl
choice_gate One Z Z = refl
choice_gate X Zero Zero = refl
choice_gate X Zero One = refl
choice_gate X Zero X = refl
choice_gate X Zero Z = refl
choice_gate X One Zero = refl
choice_gate X One One = refl
choice_gate X One X = refl
choice_gate X One Z = refl
choice_gate X X Zero = refl
choice_gate X X One = refl
choice_gate X X X = refl
choice_gate X X Z = refl
choice_gate X Z Zero = refl
choice_gate X Z One = refl
choice_gate X Z X = refl
choice_gate X Z Z = refl
choice_gate Z Zero Zero = refl
choice_gate Z Zero One = refl
choice_gate Z Zero X = refl
choice_gate Z Zero Z = refl
choice_gate Z One Zero = refl
choice_gate Z One One = refl
choice_gate Z One X = refl
choice_gate Z One Z = refl
choice_gate Z X Zero = refl
choice_gate Z X One = refl
choice_gate Z X X = refl
choice_gate Z X Z = refl
choice_gate Z Z Zero = refl
choice_gate Z Z One = refl
choice_gate Z Z X = refl
choice_gate Z Z Z = refl

pub control_gate : (at : Bool) (condition a : Value) → gate_value (control_kind at) (a ∷ condition ∷ []) ≡ gated_value at (z_as_x condition) a
control_gate true Zero Zero = refl
control_gate true Zero One = refl
control_gate true Zero X = refl
control_gate true Zero Z = refl
control_gate true One Zero = refl
control_gate true One One = refl
control_gate true One X = refl
control_gate true One Z = refl
control_gate true X Zero = refl
control_gate true X One = refl
control_gate true X X = refl
control_gate true X Z = refl
control_gate true Z Zero = refl
control_gate true Z One = refl
control_gate true Z X = refl
control_gate true Z Z = refl
control_gate false Zero Zero = refl
control_gate false Zero One = refl
control_gate false Zero X = refl
control_gate false Zero Z = refl
control_gate false One Zero = refl
control_gate false One One = refl
control_gate false One X = refl
control_gate false One Z = refl
control_gate false X Zero = refl
control_gate false X One = refl
control_gate false X X = refl
control_gate false X Z = refl
control_gate false Z Zero = refl
control_gate false Z One = refl
control_gate false Z X = refl
control_gate false Z Z = refl

pub pair_bad : (equal : Bool) (a b : Value) → bad equal (gate_value (each_kind equal) (a ∷ b ∷ [])) ≡ is_zero (equality a b)
pair_bad true Zero Zero = refl
pair_bad true Zero One = refl
pair_bad true Zero X = refl
pair_bad true Zero Z = refl
pair_bad true One Zero = refl
pair_bad true One One = refl
pair_bad true One X = refl
pair_bad true One Z = refl
pair_bad true X Zero = refl
pair_bad true X One = refl
pair_bad true X X = refl
pair_bad true X Z = refl
pair_bad true Z Zero = refl
pair_bad true Z One = refl
pair_bad true Z X = refl
pair_bad true Z Z = refl
pair_bad false Zero Zero = refl
pair_bad false Zero One = refl
pair_bad false Zero X = refl
pair_bad false Zero Z = refl
pair_bad false One Zero = refl
pair_bad false One One = refl
pair_bad false One X = refl
pair_bad false One Z = refl
pair_bad false X Zero = refl
pair_bad false X One = refl
pair_bad false X X = refl
pair_bad false X Z = refl
pair_bad false Z Zero = refl
pair_bad false Z One = refl
pair_bad false Z X = refl
pair_bad false Z Z = refl

pub pair_good : (equal : Bool) (a b : Value) → good equal (gate_value (each_kind equal) (a ∷ b ∷ [])) ≡ is_one (equality a b)
pair_good true Zero Zero = refl
pair_good true Zero One = refl
pair_good true Zero X = refl
pair_good true Zero Z = refl
pair_good true One Zero = refl
pair_good true One One = refl
pair_good true One X = refl
pair_good true One Z = refl
pair_good true X Zero = refl
pair_good true X One = refl
pair_good true X X = refl
pair_good true X Z = refl
pair_good true Z Zero = refl
pair_good true Z One = refl
pair_good true Z X = refl
pair_good true Z Z = refl
pair_good false Zero Zero = refl
pair_good false Zero One = refl
pair_good false Zero X = refl
pair_good false Zero Z = refl
pair_good false One Zero = refl
pair_good false One One = refl
pair_good false One X = refl
pair_good false One Z = refl
pair_good false X Zero = refl
pair_good false X One = refl
pair_good false X X = refl
pair_good false X Z = refl
pair_good false Z Zero = refl
pair_good false Z One = refl
pair_good false Z X = refl
pair_good false Z Z = refl

pub pair_on : (equal : Bool) (a b : Value) → is_on (gate_value (each_kind equal) (a ∷ b ∷ [])) ≡ true
pair_on true Zero Zero = refl
pair_on true Zero One = refl
pair_on true Zero X = refl
pair_on true Zero Z = refl
pair_on true One Zero = refl
pair_on true One One = refl
pair_on true One X = refl
pair_on true One Z = refl
pair_on true X Zero = refl
pair_on true X One = refl
pair_on true X X = refl
pair_on true X Z = refl
pair_on true Z Zero = refl
pair_on true Z One = refl
pair_on true Z X = refl
pair_on true Z Z = refl
pair_on false Zero Zero = refl
pair_on false Zero One = refl
pair_on false Zero X = refl
pair_on false Zero Z = refl
pair_on false One Zero = refl
pair_on false One One = refl
pair_on false One X = refl
pair_on false One Z = refl
pair_on false X Zero = refl
pair_on false X One = refl
pair_on false X X = refl
pair_on false X Z = refl
pair_on false Z Zero = refl
pair_on false Z One = refl
pair_on false Z X = refl
pair_on false Z Z = refl

pub match_bad : (equal b : Bool) (a : Value) → bad equal (match_value b equal a) ≡ is_zero (case_equality a (bit b))
match_bad true true Zero = refl
match_bad true true One = refl
match_bad true true X = refl
match_bad true true Z = refl
match_bad true false Zero = refl
match_bad true false One = refl
match_bad true false X = refl
match_bad true false Z = refl
match_bad false true Zero = refl
match_bad false true One = refl
match_bad false true X = refl
match_bad false true Z = refl
match_bad false false Zero = refl
match_bad false false One = refl
match_bad false false X = refl
match_bad false false Z = refl

pub match_good : (equal b : Bool) (a : Value) → good equal (match_value b equal a) ≡ is_one (case_equality a (bit b))
match_good true true Zero = refl
match_good true true One = refl
match_good true true X = refl
match_good true true Z = refl
match_good true false Zero = refl
match_good true false One = refl
match_good true false X = refl
match_good true false Z = refl
match_good false true Zero = refl
match_good false true One = refl
match_good false true X = refl
match_good false true Z = refl
match_good false false Zero = refl
match_good false false One = refl
match_good false false X = refl
match_good false false Z = refl

pub match_on : (equal b : Bool) (a : Value) → is_on (match_value b equal a) ≡ true
match_on true true Zero = refl
match_on true true One = refl
match_on true true X = refl
match_on true true Z = refl
match_on true false Zero = refl
match_on true false One = refl
match_on true false X = refl
match_on true false Z = refl
match_on false true Zero = refl
match_on false true One = refl
match_on false true X = refl
match_on false true Z = refl
match_on false false Zero = refl
match_on false false One = refl
match_on false false X = refl
match_on false false Z = refl

pub lone_gate : (equal : Bool) (a : Value) → gate_value (all_kind equal) (a ∷ []) ≡ z_as_x a
lone_gate true Zero = refl
lone_gate true One = refl
lone_gate true X = refl
lone_gate true Z = refl
lone_gate false Zero = refl
lone_gate false One = refl
lone_gate false X = refl
lone_gate false Z = refl

pub on_stays : (a : Value) → is_on a ≡ true → z_as_x a ≡ a
on_stays Zero h = refl
on_stays One h = refl
on_stays X h = refl
on_stays Z h = cc

-- what is read as x where a list's gate gives it
settled_if : (a b : Bool) (u w : Value) → z_as_x u ≡ u → z_as_x w ≡ w → z_as_x (if a then u else if b then w else X) ≡ (if a then u else if b then w else X)
settled_if true b u w p q = p
settled_if false true u w p q = q
settled_if false false u w p q = refl

pub settled_gate : (equal : Bool) (vs : List Value) → z_as_x (gate_value (all_kind equal) vs) ≡ gate_value (all_kind equal) vs
settled_gate true vs = settled_if _ _ Zero One refl refl
settled_gate false vs = settled_if _ _ One Zero refl refl

-- `?:` here is the standard's, but for a z that is chosen
pub choice_is_standard : (condition a b : Value) → is_on a ≡ true → is_on b ≡ true → choice_value condition a b ≡ standard_choice condition a b
choice_is_standard Zero Zero Zero p q = refl
choice_is_standard Zero Zero One p q = refl
choice_is_standard Zero Zero X p q = refl
choice_is_standard Zero Zero Z p q = cc
choice_is_standard Zero One Zero p q = refl
choice_is_standard Zero One One p q = refl
choice_is_standard Zero One X p q = refl
choice_is_standard Zero One Z p q = cc
choice_is_standard Zero X Zero p q = refl
choice_is_standard Zero X One p q = refl
choice_is_standard Zero X X p q = refl
choice_is_standard Zero X Z p q = cc
choice_is_standard Zero Z Zero p q = cc
choice_is_standard Zero Z One p q = cc
choice_is_standard Zero Z X p q = cc
choice_is_standard Zero Z Z p q = cc
choice_is_standard One Zero Zero p q = refl
choice_is_standard One Zero One p q = refl
choice_is_standard One Zero X p q = refl
choice_is_standard One Zero Z p q = cc
choice_is_standard One One Zero p q = refl
choice_is_standard One One One p q = refl
choice_is_standard One One X p q = refl
choice_is_standard One One Z p q = cc
choice_is_standard One X Zero p q = refl
choice_is_standard One X One p q = refl
choice_is_standard One X X p q = refl
choice_is_standard One X Z p q = cc
choice_is_standard One Z Zero p q = cc
choice_is_standard One Z One p q = cc
choice_is_standard One Z X p q = cc
choice_is_standard One Z Z p q = cc
choice_is_standard X Zero Zero p q = refl
choice_is_standard X Zero One p q = refl
choice_is_standard X Zero X p q = refl
choice_is_standard X Zero Z p q = cc
choice_is_standard X One Zero p q = refl
choice_is_standard X One One p q = refl
choice_is_standard X One X p q = refl
choice_is_standard X One Z p q = cc
choice_is_standard X X Zero p q = refl
choice_is_standard X X One p q = refl
choice_is_standard X X X p q = refl
choice_is_standard X X Z p q = cc
choice_is_standard X Z Zero p q = cc
choice_is_standard X Z One p q = cc
choice_is_standard X Z X p q = cc
choice_is_standard X Z Z p q = cc
choice_is_standard Z Zero Zero p q = refl
choice_is_standard Z Zero One p q = refl
choice_is_standard Z Zero X p q = refl
choice_is_standard Z Zero Z p q = cc
choice_is_standard Z One Zero p q = refl
choice_is_standard Z One One p q = refl
choice_is_standard Z One X p q = refl
choice_is_standard Z One Z p q = cc
choice_is_standard Z X Zero p q = refl
choice_is_standard Z X One p q = refl
choice_is_standard Z X X p q = refl
choice_is_standard Z X Z p q = cc
choice_is_standard Z Z Zero p q = cc
choice_is_standard Z Z One p q = cc
choice_is_standard Z Z X p q = cc
choice_is_standard Z Z Z p q = cc
