-- SDF files as they are written (IEEE 1497-2001, annex A), as definitions see them. Names and texts are as they are written,
-- and numbers are still words.
use Rattle.std.specs.Prelude.{ℕ, ℤ, Bool, List, Option}
use Rattle.cond_expr.specs.Token.{Tok}
use Rattle.sg_text.specs.declared.places.Place.{Place}
use Rattle.sdf_tree.specs.declared.tree.Edge.{Edge}
use Rattle.sdf_tree.specs.declared.tree.PairCheck.{PairCheck}
use Rattle.sdf_tree.specs.declared.tree.SingleCheck.{SingleCheck}
use Rattle.sdf_tree.specs.declared.tree.Skipped.{Skipped}
use Rattle.sdf_tree.specs.declared.tree.WindowCheck.{WindowCheck}
use Rattle.sdf_tree.specs.declared.words.Divider.{Divider}

-- a port, or another net: names joined by the divider, and a bit of it
pub record Port : Type 0 where
  pub path : List ℕ
  pub bit : Option ℤ

-- a port with an edge perhaps, and in a timing check perhaps with a condition
pub record Terminal : Type 0 where
  pub condition : Option (List Tok)
  pub edge : Option Edge
  pub port : Port

-- which paths an entry is for
pub data PathCondition : Type 0 where
  always otherwise : PathCondition
  if_words : List Tok → PathCondition

-- which instances a cell is for
pub data Instance : Type 0 where
  the_top all_of_type : Instance
  the_path : List ℕ → Instance

-- ---- numbers

pub record Number : Type 0 where
  pub place : Place
  pub text : List ℕ

-- a value for each corner, or none
pub record Value : Type 0 where
  pub min : Option Number
  pub typ : Option Number
  pub max : Option Number

-- the limits of pulses; a single one is both
pub record Limits : Type 0 where
  pub reject : Value
  pub error : Option Value

-- a delay and perhaps limits, at its first parenthesis
pub record Delay : Type 0 where
  pub place : Place
  pub delay : Value
  pub limits : Option Limits

-- ---- entries

pub data Body : Type 0 where
  io_path : PathCondition → (from : Terminal) → (to : Port) → (retains delays : List Delay) → Body
  port_delay : Port → List Delay → Body
  interconnect : (from to : Port) → List Delay → Body
  device : (output : Option Port) → List Delay → Body
  net_delay : Port → List Delay → Body

pub record Entry : Type 0 where
  pub place : Place
  pub body : Body

pub data Group : Type 0 where
  absolute increment : List Entry → Group
  path_pulse : Place → (percent : Bool) → Option (Port × Port) → (reject : Value) → (error : Option Value) → Group

pub data CheckBody : Type 0 where
  pair_check : PairCheck → (first second : Terminal) → (limit : Value) → CheckBody
  window_check : WindowCheck → (first second : Terminal) → (first_limit second_limit : Value) → CheckBody
  single_check : SingleCheck → Terminal → (limit : Value) → CheckBody
  skipped_check : Skipped → CheckBody

pub record Check : Type 0 where
  pub place : Place
  pub body : CheckBody

-- ---- cells and heads

pub data Part : Type 0 where
  delays : List Group → Part
  checks : List Check → Part
  skipped_part : Place → Skipped → Part

pub record Cell : Type 0 where
  pub cell_type : List ℕ
  pub instance : Instance
  pub parts : List Part

-- a head: a text or a value, which have no effect, the divider, or the power of ten of seconds that is the unit
pub data Head : Type 0 where
  text_head : Head
  divider_head : Divider → Head
  unit_head : ℤ → Head
  value_head : Option Value → Head

-- heads stand before cells
pub data FilePart : Type 0 where
  a_head : Head → FilePart
  a_cell : Cell → FilePart
