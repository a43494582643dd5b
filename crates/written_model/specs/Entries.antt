-- The entries of a written SDF file, scope by scope (IEEE 1497-2001, delay and timing check entries). What an entry is for is its key, over nets. An entry for more stands before those that
-- are for less, since of the entries for one place the last holds.
use Rattle.std.specs.Prelude.{ℕ, ◌+◌, ◌==◌, ℤ, pos, List, [], ◌∷◌, map, Option, Some, None, flat_map, if◌then◌else◌, slice_index_or}
use Rattle.std.specs.List.{filter}
use Rattle.std.specs.Option.{option_map}
use Rattle.sg_logic.specs.declared.edges.Edge as netlist
use Rattle.sg_logic.specs.declared.edges.TheConstants.{POSEDGE, NEGEDGE}
use Rattle.cond_expr.specs.Token.{Tok}
use Rattle.sg_circuit.specs.declared.checks.CheckKind.{CheckKind}
use Rattle.sg_circuit.specs.declared.checks.CheckKind.TheVariants as kind
use Rattle.sg_circuit.specs.declared.checks.Event.{Event}
use Rattle.sg_circuit.specs.Timings.{Timing, limits_of}
use Rattle.sg_circuit.specs.Paths as specify
use Rattle.sg_circuit.specs.Circuit.{Circuit}
use Rattle.sdf_tree.specs.declared.tree.Edge.{Edge}
use Rattle.sdf_tree.specs.declared.tree.Edge.TheVariants.{Posedge, Negedge}
use Rattle.sdf_tree.specs.Written.{PathCondition, always, otherwise, if_words}
use Rattle.annotation_model.specs.Same.{bare, is_edge}
use Rattle.annotation_model.specs.Spots.{Spot, leg_spot, path_spot, spots, Checked, all_checked}
use Rattle.written_model.specs.declared.parts.Part.{Part}
use Rattle.written_model.specs.declared.parts.Part.TheVariants as part

-- ---- values

-- a transition's delay and the limits of its pulses, in ticks (IEEE 1364-2005, 14.6)
pub record Numbers : Type 0 where
  pub delay : ℕ
  pub reject : ℕ
  pub error : ℕ

abbrev pub numbers_of : Timing → Numbers
numbers_of t = record { delay = t.delay; reject = (limits_of t).0; error = (limits_of t).1 }

-- ---- keys

-- the edges that have a word; another isn't written
abbrev pub edge_of : Option netlist.Edge → Option Edge
edge_of edge = if is_edge (Some POSEDGE) edge then Some Posedge else if is_edge (Some NEGEDGE) edge then Some Negedge else None

-- a condition is written without the parentheses round it
abbrev pub condition_of : specify.PathCondition → PathCondition
condition_of specify.Always = always
condition_of (specify.If written bound) = if_words (bare written)
condition_of specify.IfNone = otherwise

pub record PathKey : Type 0 where
  pub input : ℕ
  pub output : ℕ
  pub edge : Option Edge
  pub condition : PathCondition

pub record EventKey : Type 0 where
  pub net : ℕ
  pub edge : Option Edge
  pub condition : Option (List Tok)

pub record CheckKey : Type 0 where
  pub part : Part
  pub refer : EventKey
  pub datum : Option EventKey

-- how much a key asks for: edges, conditions and `ifnone`
abbrev pub one_if : {A : Type 0} → Option A → ℕ
one_if None = 0
one_if (Some a) = 1

abbrev pub condition_rank : PathCondition → ℕ
condition_rank always = 0
condition_rank (if_words words) = 1
condition_rank otherwise = 1

abbrev pub path_rank : PathKey → ℕ
path_rank k = one_if k.edge + condition_rank k.condition

abbrev pub event_rank : EventKey → ℕ
event_rank k = one_if k.edge + one_if k.condition

abbrev pub datum_rank : Option EventKey → ℕ
datum_rank None = 0
datum_rank (Some k) = event_rank k

abbrev pub check_rank : CheckKey → ℕ
check_rank k = event_rank k.refer + datum_rank k.datum

-- ---- entries

-- the delays of what leads to a port's net
pub record LegEntry : Type 0 where
  pub net : ℕ
  pub numbers : List Numbers

pub record PathEntry : Type 0 where
  pub key : PathKey
  pub numbers : List Numbers

pub record CheckEntry : Type 0 where
  pub key : CheckKey
  pub limit : ℤ

abbrev pub legs_at : ℕ → Spot → List LegEntry
legs_at s (leg_spot scope inputs output timings) = if scope == s then record { net = output; numbers = map numbers_of timings } ∷ [] else []
legs_at s (path_spot scope output path) = []

abbrev pub path_key : ℕ → specify.Path → PathKey
path_key output p = record { input = p.input; output = output; edge = edge_of p.edge; condition = condition_of p.condition }

abbrev pub paths_at : ℕ → Spot → List PathEntry
paths_at s (leg_spot scope inputs output timings) = []
paths_at s (path_spot scope output path) = if scope == s then record { key = path_key output path; numbers = map numbers_of path.timings } ∷ [] else []

-- each part of a check is an entry of its own, with its limit (IEEE 1364-2005, 15.2, 15.3)
abbrev pub limit_at : List ℤ → ℕ → ℤ
limit_at limits n = slice_index_or limits n (pos 0)

abbrev pub parts_of : CheckKind → List ℤ → List (Part × ℤ)
parts_of kind.Setup limits = (part.Setup, limit_at limits 0) ∷ []
parts_of kind.Hold limits = (part.Hold, limit_at limits 0) ∷ []
parts_of kind.Recovery limits = (part.Recovery, limit_at limits 0) ∷ []
parts_of kind.Removal limits = (part.Removal, limit_at limits 0) ∷ []
parts_of kind.Skew limits = (part.Skew, limit_at limits 0) ∷ []
parts_of kind.Setuphold limits = (part.Setup, limit_at limits 0) ∷ (part.Hold, limit_at limits 1) ∷ []
parts_of kind.Recrem limits = (part.Recovery, limit_at limits 0) ∷ (part.Removal, limit_at limits 1) ∷ []
parts_of kind.Width limits = (part.Width, limit_at limits 0) ∷ []
parts_of kind.Period limits = (part.Period, limit_at limits 0) ∷ []

abbrev pub event_key : Event → Option (List Tok) → EventKey
event_key e written = record { net = e.net; edge = edge_of e.edge; condition = option_map bare written }

abbrev pub check_entry : Checked → Part × ℤ → CheckEntry
check_entry k p = record {
  key = record {
    part = p.0;
    refer = event_key k.timing.refer k.written.refer;
    datum = option_map (λ (e : Event). event_key e k.written.datum) k.timing.datum;
  };
  limit = p.1;
}

abbrev pub checks_at : ℕ → Checked → List CheckEntry
checks_at s k = if k.check.scope == s then map (check_entry k) (parts_of k.timing.kind k.timing.limits) else []

-- ---- the entries of a scope

-- in text order: by element, or by check
abbrev pub legs : Circuit → ℕ → List LegEntry
legs c s = flat_map (legs_at s) (spots c)

abbrev pub path_entries : Circuit → ℕ → List PathEntry
path_entries c s = flat_map (paths_at s) (spots c)

abbrev pub check_entries : Circuit → ℕ → List CheckEntry
check_entries c s = flat_map (checks_at s) (all_checked c)

-- as they are written: those that ask for nothing, then those that ask for one thing, and so on; no key asks for more than four
abbrev pub by_rank : {A : Type 0} → (A → ℕ) → List A → List A
by_rank rank xs = flat_map (λ n. filter (λ x. rank x == n) xs) (0 ∷ 1 ∷ 2 ∷ 3 ∷ 4 ∷ [])

abbrev pub paths : Circuit → ℕ → List PathEntry
paths c s = by_rank (λ (e : PathEntry). path_rank e.key) (path_entries c s)

abbrev pub checks : Circuit → ℕ → List CheckEntry
checks c s = by_rank (λ (e : CheckEntry). check_rank e.key) (check_entries c s)
