-- How the lines of a body follow one another.
use Rattle.std.specs.Prelude.{ℕ, ℤ, zero, suc, ◌≡◌, ◌≢◌, ◌++◌, ◌<◌, ◌^◌, ◌⊎◌, List, [], ◌∷◌, codes, length}
use Rattle.std.specs.Fmt.{signed_decimal}
use Rattle.std.specs.declared.option.Option.{Option}
use Rattle.std.specs.declared.option.Option.TheVariants.{Some, None}
use Rattle.sg_logic.specs.declared.values.Value.{Value}
use Rattle.sg_model.specs.Machine.{Stamp}
use Rattle.time_checks.specs.declared.latest.Latest.{Latest}
use Rattle.sim_rounds.specs.Moments.{Pending}
use Rattle.wave_out.specs.Texts.{line}
use Rattle.sim_save.specs.Lines.{check_line, end_line, joined, net_line, number, pending_line, udp_line, word}
use Rattle.sim_save.specs.Faults.{IsPower, IsTime}
use Rattle.sim_save.specs.declared.kinds.Stop.{Stop}
use Rattle.sim_save.specs.declared.kinds.Stop.TheVariants as stop

-- what the numbers of a head are
pub record Counts : Type 0 where
  pub time : ℕ
  pub tick : ℤ
  pub nets : ℕ
  pub elements : ℕ
  pub udps : ℕ
  pub checks : ℕ

abbrev pub counts_line : Counts → List ℕ
counts_line h = line (codes "save" ++ number h.time ++ word (signed_decimal h.tick) ++ number h.nets ++ number h.elements ++ number h.udps ++ number h.checks)

pub record AreCounts (h : Counts) : Type 0 where
  pub time : h.time < 2 ^ 64
  pub tick : IsPower h.tick
  pub nets : h.nets < 2 ^ 32
  pub elements : h.elements < 2 ^ 32
  pub udps : h.udps < 2 ^ 32
  pub checks : h.checks < 2 ^ 32

abbrev pub IsChange : Value → Option Stamp → Type 0
IsChange value None = Unit {0}
IsChange value (Some s) = (s.time < 2 ^ 64) × (s.after ≡ value)

abbrev pub IsPending : Pending → Type 0
IsPending p = (p.driver < 2 ^ 32) × (p.time < 2 ^ 64)

abbrev pub IsLatest : Latest → Type 0
IsLatest l = IsTime l.refer × IsTime l.datum

abbrev pub counters_line : (last evaluations : ℕ) → List ℕ
counters_line last evaluations = line (codes "l" ++ number last ++ number evaluations)

-- a line of each kind, with numbers in their types
pub record IsHead (text : List ℕ) : Type 0 where
  pub counts : Counts
  pub is : text ≡ counts_line counts
  pub fit : AreCounts counts

pub record IsNet (text : List ℕ) : Type 0 where
  pub value : Value
  pub change : Option Stamp
  pub is : text ≡ net_line value change
  pub fit : IsChange value change

pub record IsTransition (text : List ℕ) : Type 0 where
  pub pending : Pending
  pub is : text ≡ pending_line pending
  pub fit : IsPending pending

pub record IsUdp (text : List ℕ) : Type 0 where
  pub state : Value
  pub is : text ≡ udp_line state

pub record IsCheck (text : List ℕ) : Type 0 where
  pub latest : Latest
  pub is : text ≡ check_line latest
  pub fit : IsLatest latest

pub record IsCounters (text : List ℕ) : Type 0 where
  pub last : ℕ
  pub evaluations : ℕ
  pub is : text ≡ counters_line last evaluations
  pub last_fits : last < 2 ^ 64
  pub evaluations_fit : evaluations < 2 ^ 64

-- what a body needs behind some of its lines
pub data Need : Type 0 where
  -- its head
  Head : Need
  -- so many lines of nets, any of transitions, and so many of primitives' states and of checks
  Nets : (nets udps checks : ℕ) → Need
  -- the same without nets and transitions
  Udps : (udps checks : ℕ) → Need
  -- the line of its end
  End : Need
  Nothing : Need

-- the line that comes next where no transition may
abbrev pub TakesLater : (udps checks : ℕ) → List ℕ → Need → Type 0
TakesLater (suc udps) checks text next = IsUdp text × (next ≡ Udps udps checks)
TakesLater zero (suc checks) text next = IsCheck text × (next ≡ Udps zero checks)
TakesLater zero zero text next = IsCounters text × (next ≡ End)

-- the line that comes next, and what is needed behind it
abbrev pub Takes : Need → List ℕ → Need → Type 0
Takes Head text next = (h : IsHead text) × (next ≡ Nets h.counts.nets h.counts.udps h.counts.checks)
Takes (Nets (suc nets) udps checks) text next = IsNet text × (next ≡ Nets nets udps checks)
Takes (Nets zero udps checks) text next = (IsTransition text × (next ≡ Nets zero udps checks)) ⊎ TakesLater udps checks text next
Takes (Udps udps checks) text next = TakesLater udps checks text next
Takes End text next = (text ≡ end_line) × (next ≡ Nothing)
Takes Nothing text next = ⊥

-- lines lead from one need to another
pub data Leads : Need → List (List ℕ) → Need → Type 0 where
  none : {a : Need} → Leads a [] a
  more : {a b c : Need} {text : List ℕ} {lines : List (List ℕ)} → Takes a text b → Leads b lines c → Leads a (text ∷ lines) c

-- reading ends too early: in front of the last so many bytes, which no line that may come begins
pub record EndsEarly (a : Need) (text : List ℕ) (left : ℕ) : Type 0 where
  pub lines : List (List ℕ)
  pub need : Need
  pub rest : List ℕ
  pub is : text ≡ joined lines ++ rest
  pub leads : Leads a lines need
  pub ends : (line more : List ℕ) (b : Need) → rest ≡ line ++ more → Takes need line b → ⊥
  pub early : need ≡ Nothing → rest ≡ [] → ⊥
  pub many : left ≡ length rest

-- memory runs out: behind a line that may come and isn't the head, so that no head asks for room by its numbers alone
pub record RunsOut (a : Need) (text : List ℕ) : Type 0 where
  pub lines : List (List ℕ)
  pub need : Need
  pub last : List ℕ
  pub next : Need
  pub rest : List ℕ
  pub is : text ≡ joined lines ++ last ++ rest
  pub leads : Leads a lines need
  pub takes : Takes need last next
  pub not_head : need ≢ Head

abbrev pub Stops : Need → List ℕ → Stop → Type 0
Stops a text (stop.Line left) = EndsEarly a text left
Stops a text stop.NoMemory = RunsOut a text
