-- What was asked for by words that were read: a run's numbers are in their ranges, and a design has a netlist.
use Rattle.std.proofs.Common.{◌≡◌, sym, ℕ, List, ◌≤◌, map, length, arith}
use Rattle.std.proofs.lemmas.List.{length-map}
use Rattle.std.specs.Prelude.{Some}
use Rattle.run_words.specs.declared.words.Asked as code_asked
use Rattle.run_words.specs.declared.words.Command as code_command
use Rattle.run_words.specs.declared.words.Asked.TheVariants as asked
use Rattle.run_words.specs.Words.{asked_of}
use Rattle.run_words.specs.WordsSeen.{asked_seen, command_seen}
use Rattle.run_words.proofs.Laws.{IsFit, IsRunFit, asked-fit}
use Rattle.signoff_top.specs.Tasks.{IsReady, IsRunReady}

run_ready : (c : code_command.Command) → IsRunFit (command_seen c) → IsRunReady c
run_ready c h =
    let some : 1 ≤ length (map (λ n. n.now) c.design.netlists.items) = h.netlists in
    ((h.rounds, h.wheel.0, h.wheel.1), omega (arith, some, length-map c.design.netlists.items (λ n. n.now)))

fit_ready : (x : code_asked.Asked) → IsFit (asked_seen x) → IsReady x
fit_ready (asked.Run c) h = run_ready c h
fit_ready (asked.Stop c s) h = run_ready c h
fit_ready (asked.Rest c state) h = run_ready c h
fit_ready (asked.Writing w) h =
    let some : 1 ≤ length (map (λ n. n.now) w.design.netlists.items) = h in
    omega (arith, some, length-map w.design.netlists.items (λ n. n.now))
fit_ready (asked.Bounds d) h =
    let some : 1 ≤ length (map (λ n. n.now) d.netlists.items) = h in
    omega (arith, some, length-map d.netlists.items (λ n. n.now))
fit_ready (asked.Case stages) h = tt

pub asked_ready : (ws : List (List ℕ)) (x : code_asked.Asked) → Some (asked_seen x) ≡ asked_of ws → IsReady x
asked_ready ws x e = fit_ready x (asked-fit ws (asked_seen x) (sym e))
