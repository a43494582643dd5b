-- Trees, as the definitions see them: without where they lie in memory.
use Rattle.std.specs.Prelude.{ℕ, Bool, List, [], ◌∷◌, Option}
use Rattle.cond_expr.specs.Token.{Tok}
use Rattle.sg_logic.specs.declared.gates.GateKind.{GateKind}
use Rattle.sg_logic.specs.declared.values.Value.{Value}
use Rattle.sg_text.specs.declared.places.Place.{Place}
use Rattle.sg_time.specs.Spelling.{Number}
use Rattle.udp_rows.specs.declared.cells.RawRow.{RawRow}
use Rattle.vl_token.specs.Tokens.{Settings}
use Rattle.vl_tree.specs.declared.check_names.OneLimitCheck.{OneLimitCheck}
use Rattle.vl_tree.specs.declared.check_names.TwoLimitCheck.{TwoLimitCheck}
use Rattle.vl_tree.specs.declared.expressions.Select.{Select}
use Rattle.vl_tree.specs.declared.names.Direction.{Direction}
use Rattle.vl_tree.specs.declared.names.NetType.{NetType}
use Rattle.vl_tree.specs.declared.names.Range.{Range}
use Rattle.vl_tree.specs.declared.names.Supply.{Supply}
use Rattle.vl_tree.specs.declared.paths.Arrow.{Arrow}
use Rattle.vl_tree.specs.declared.paths.EdgePair.{EdgePair}
use Rattle.vl_tree.specs.declared.paths.Polarity.{Polarity}
use Rattle.vl_tree.specs.declared.specify.PulseStyle.{PulseStyle}

pub record Named : Type 0 where
  pub text : List ℕ
  pub place : Place

-- an expression, and several
mutual
  pub data Expression : Type 0 where
    signal : Named → Option Select → Expression
    sized : Place → List Value → Expression
    concatenation : Place → Expressions → Expression

  pub data Expressions : Type 0 where
    no_more : Expressions
    one_more : Expression → Expressions → Expressions

abbrev pub expressions : List Expression → Expressions
expressions [] = no_more
expressions (e ∷ es) = one_more e (expressions es)

pub data MinTypMax : Type 0 where
  one_number : Number → MinTypMax
  three_numbers : (min typ max : Number) → MinTypMax

pub record Delay : Type 0 where
  pub place : Place
  pub values : List MinTypMax

-- a declared net, perhaps with what it is joined to
pub record NetName : Type 0 where
  pub name : Named
  pub value : Option Expression

pub record Join : Type 0 where
  pub place : Place
  pub left : Expression
  pub right : Expression

pub record GateInstance : Type 0 where
  pub place : Place
  pub name : Option Named
  pub terminals : List Expression

pub record NamedConnection : Type 0 where
  pub place : Place
  pub port : Named
  pub value : Option Expression

pub data Connections : Type 0 where
  by_order : List (Option Expression) → Connections
  by_name : List NamedConnection → Connections

pub record Instance : Type 0 where
  pub place : Place
  pub name : Option Named
  pub connections : Connections

-- ---- specify blocks

-- a net, a bit of it, or several
pub record Term : Type 0 where
  pub name : Named
  pub select : Option Select

-- a word of a condition
pub record Word : Type 0 where
  pub place : Place
  pub token : Tok

-- a number, or a specparam's name
pub data Amount : Type 0 where
  a_number : Place → Number → Amount
  a_parameter : Named → Amount

-- an amount for all corners, or one for each
pub data Amounts : Type 0 where
  one_amount : Amount → Amounts
  three_amounts : (min typ max : Amount) → Amounts

pub record SignedAmount : Type 0 where
  pub negative : Bool
  pub amount : Amount

pub data Limit : Type 0 where
  one_limit : SignedAmount → Limit
  three_limits : (min typ max : SignedAmount) → Limit

pub data Specparam : Type 0 where
  a_value : Named → MinTypMax → Specparam
  pulse_limits : Named → (reject : MinTypMax) → (error : Option MinTypMax) → Specparam

-- the changes that an event is: rising ones, falling ones, or these
pub data EdgeWord : Type 0 where
  posedge negedge : EdgeWord
  pairs : List EdgePair → EdgeWord

pub data PathCondition : Type 0 where
  always if_none : PathCondition
  if_words : List Word → PathCondition

pub record DataSource : Type 0 where
  pub polarity : Option Polarity
  pub words : List Word

pub record Destination : Type 0 where
  pub terms : List Term
  pub source : Option DataSource

pub record SpecifyPath : Type 0 where
  pub place : Place
  pub condition : PathCondition
  pub edge : Option EdgeWord
  pub sources : List Term
  pub polarity : Option Polarity
  pub arrow : Arrow
  pub destination : Destination
  pub delays : List Amounts

pub record Event : Type 0 where
  pub place : Place
  pub edge : Option EdgeWord
  pub term : Term
  pub condition : Option (List Word)

pub data Check : Type 0 where
  one_limit_check : Place → OneLimitCheck → (reference data_event : Event) → Limit → (notifier : Option Named) → Check
  two_limit_check : Place → TwoLimitCheck → (reference data_event : Event) → (first second : Limit) → (notifier delayed_reference delayed_data : Option Named) → Check
  width_check : Place → (reference : Event) → Limit → (threshold : Option Limit) → (notifier : Option Named) → Check
  period_check : Place → (reference : Event) → Limit → (notifier : Option Named) → Check

pub data SpecifyItem : Type 0 where
  specparams : Place → List Specparam → SpecifyItem
  a_path : SpecifyPath → SpecifyItem
  pulse_style : Place → PulseStyle → List Term → SpecifyItem
  a_check : Check → SpecifyItem

pub record SpecifyBlock : Type 0 where
  pub place : Place
  pub items : List SpecifyItem

-- ---- modules and primitives

pub data Item : Type 0 where
  ports : Place → Direction → Option NetType → Option Range → List Named → Item
  nets : Place → NetType → Option Range → List NetName → Item
  supplies : Place → Supply → Option Range → List Named → Item
  registers : Place → List Named → Item
  assigns : Place → List Join → Item
  gates : Place → GateKind → Option Delay → List GateInstance → Item
  instances : Named → Option Delay → List Instance → Item
  specify_block : SpecifyBlock → Item

pub record PortDeclaration : Type 0 where
  pub place : Place
  pub direction : Direction
  pub net : Option NetType
  pub range : Option Range
  pub name : Named

pub data HeadPort : Type 0 where
  declared_port : PortDeclaration → HeadPort
  named_port : Named → HeadPort

pub data Head : Type 0 where
  head_names : List Named → Head
  head_declarations : PortDeclaration → List HeadPort → Head

pub record Module : Type 0 where
  pub place : Place
  pub settings : Settings
  pub name : Named
  pub head : Option (Option Head)
  pub items : List Item

pub data PrimitiveDeclaration : Type 0 where
  output_port : Place → (register : Bool) → Named → PrimitiveDeclaration
  output_register : Place → Named → PrimitiveDeclaration
  input_ports : Place → List Named → PrimitiveDeclaration

pub record Initial : Type 0 where
  pub place : Place
  pub name : Named
  pub value : Value

pub record Primitive : Type 0 where
  pub place : Place
  pub name : Named
  pub ports : List Named
  pub declarations : List PrimitiveDeclaration
  pub initial : Option Initial
  pub rows : List RawRow

pub data Part : Type 0 where
  a_module : Module → Part
  a_primitive : Primitive → Part

abbrev pub Source : Type 0
Source = List Part
