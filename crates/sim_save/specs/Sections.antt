-- The lines of one kind that were read, and the text behind them.
use Rattle.std.specs.Prelude.{ℕ, ◌≡◌, ◌++◌, List, map, All}
use Rattle.std.specs.declared.option.Option.{Option}
use Rattle.sg_logic.specs.declared.values.Value.{Value}
use Rattle.time_checks.specs.declared.latest.Latest.{Latest}
use Rattle.sim_rounds.specs.declared.moments.LastChange.{LastChange}
use Rattle.sim_rounds.specs.declared.moments.Pending as code_pending
use Rattle.sim_rounds.specs.MomentsSeen.{change_seen, pending_seen}
use Rattle.sim_save.specs.Faults.{AreChanges}
use Rattle.sim_save.specs.Lines.{check_line, joined, net_lines, pending_line, udp_line}
use Rattle.sim_save.specs.Steps.{IsLatest, IsPending}

pub record AreNets (nets : List Value) (changes : List (Option LastChange)) (text left : List ℕ) : Type 0 where
  pub fit : AreChanges nets (map change_seen changes)
  pub is : text ≡ joined (net_lines nets (map change_seen changes)) ++ left

pub record AreTransitions (pending : List code_pending.Pending) (text left : List ℕ) : Type 0 where
  pub fit : All IsPending (map (λ p. pending_seen p) pending)
  pub is : text ≡ joined (map pending_line (map (λ p. pending_seen p) pending)) ++ left

pub record AreUdps (udps : List Value) (text left : List ℕ) : Type 0 where
  pub is : text ≡ joined (map udp_line udps) ++ left

pub record AreChecks (latest : List Latest) (text left : List ℕ) : Type 0 where
  pub fit : All IsLatest latest
  pub is : text ≡ joined (map check_line latest) ++ left
