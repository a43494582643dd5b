-- Failures of the shelf, by the words that name the file.
use Rattle.std.proofs.Common.{refl, ◌≡◌, ◌∙◌, sym, ap, subst, lit<, arith, ℕ, List, [], ◌∷◌, ◌++◌}
use Rattle.std.proofs.lemmas.List.Elements.{Contains-append_left, Contains-append_right}
use Rattle.std.specs.Option.{option_to_list}
use Rattle.std.specs.Prelude.{Ok, Err, Option, Some, Contains}
use Rattle.sg_io.specs.Files.{File}
use Rattle.sg_circuit.specs.Circuit.{Circuit}
use Rattle.run_words.specs.Words.{Asked, a_run, a_stop, a_rest, a_writing, the_bounds, a_case, Command, Design, Stop, Writing, asked_of, command_of, design_names, design_of, file_of, names_in}
use Rattle.signoff_phases.specs.Phases.{Annotated, CircuitOutcome, DesignOutcome}
use Rattle.signoff_top.specs.Phases.{Task, CommandOutcome}
use Rattle.signoff_top.specs.Promises.{FaultAt, at_netlist, at_sdf, at_stimulus, at_state, NamesFaultAt}
use Rattle.signoff_phases.specs.Stops.{FailsAtDesign, in_netlist, in_sdf, FailsAtGiven, FailsAtOne, IfFailed}
use Rattle.signoff_phases.specs.declared.stop.Stop as code_stop
use Rattle.signoff_phases.specs.declared.stop.Stop.TheVariants as stop
use Rattle.signoff_phases.proofs.Composed.{failed_again}
use Rattle.signoff_phases.proofs.Named.{netlist_among, sdf_among}
use Rattle.signoff_phases.proofs.Putting.{both_same}

-- the files of a design are among those of what is asked
designed : (asked : Asked) (d : Design) (name : List ℕ) → design_of asked ≡ Some d → Contains (design_names d) name → Contains (names_in (Some asked)) name
designed (a_run c) d name e h =
    let same : c.design ≡ d = cc in Contains-append_left (design_names c.design) (file_of c.input ∷ c.vcd ∷ []) name (subst (λ x. Contains (design_names x) name) (sym same) h)
designed (a_stop c stop) d name e h =
    let same : c.design ≡ d = cc in Contains-append_left (design_names c.design) (file_of c.input ∷ c.vcd ∷ stop.save ∷ []) name (subst (λ x. Contains (design_names x) name) (sym same) h)
designed (a_rest c state) d name e h =
    let same : c.design ≡ d = cc in Contains-append_left (design_names c.design) (file_of c.input ∷ state ∷ c.vcd ∷ []) name (subst (λ x. Contains (design_names x) name) (sym same) h)
designed (a_writing w) d name e h =
    let same : w.design ≡ d = cc in Contains-append_left (design_names w.design) (w.out ∷ []) name (subst (λ x. Contains (design_names x) name) (sym same) h)
designed (the_bounds b) d name e h = let same : b ≡ d = cc in subst (λ x. Contains (design_names x) name) (sym same) h
designed (a_case stages) d name e h = cc

-- a failure on a file of the netlist
netlist_fault : (ws : List (List ℕ)) (old new : Option (List File)) (last : Option (List ℕ)) (asked : Asked) (d : Design)
    → asked_of ws ≡ Some asked → design_of asked ≡ Some d → new ≡ old → FailsAtOne d.netlists old last → NamesFaultAt ws old new last
netlist_fault ws old new last asked d e is k f = record {
  name = f.name;
  told = f.told;
  among = subst (λ o. Contains (names_in o) f.name) (sym e) (designed asked d f.name is (netlist_among d f.before f.after f.name f.split));
  place = both_same (λ before after. FaultAt ws before after f.name) old new k (λ files held.
      (let texts = f.read files held in at_netlist asked d f.before f.name f.after texts.0 e is f.split texts.1 refl));
}

-- so is the design of a run
pub run_design : (asked : Asked) (c : Command) → command_of asked ≡ Some c → design_of asked ≡ Some c.design
run_design (a_run own) c e = let same : own ≡ c = cc in ap (λ x. Some x.design) same
run_design (a_stop own stop) c e = let same : own ≡ c = cc in ap (λ x. Some x.design) same
run_design (a_rest own state) c e = let same : own ≡ c = cc in ap (λ x. Some x.design) same
run_design (a_writing w) c e = cc
run_design (the_bounds d) c e = cc
run_design (a_case stages) c e = cc

input_among : (asked : Asked) (c : Command) → command_of asked ≡ Some c → Contains (names_in (Some asked)) (file_of c.input)
input_among (a_run own) c e =
    let same : own ≡ c = cc in Contains-append_right (design_names own.design) (file_of own.input ∷ own.vcd ∷ []) (file_of c.input) (0, lit< tt, ap (λ x. file_of x.input) same)
input_among (a_stop own stop) c e =
    let same : own ≡ c = cc in Contains-append_right (design_names own.design) (file_of own.input ∷ own.vcd ∷ stop.save ∷ []) (file_of c.input) (0, lit< tt, ap (λ x. file_of x.input) same)
input_among (a_rest own state) c e =
    let same : own ≡ c = cc in Contains-append_right (design_names own.design) (file_of own.input ∷ state ∷ own.vcd ∷ []) (file_of c.input) (0, lit< tt, ap (λ x. file_of x.input) same)
input_among (a_writing w) c e = cc
input_among (the_bounds d) c e = cc
input_among (a_case stages) c e = cc

pub dump_among : (asked : Asked) (c : Command) (name : List ℕ) → command_of asked ≡ Some c → name ≡ c.vcd → Contains (names_in (Some asked)) name
dump_among (a_run own) c name e is =
    let same : own ≡ c = cc in Contains-append_right (design_names own.design) (file_of own.input ∷ own.vcd ∷ []) name (1, lit< tt, ap (λ x. x.vcd) same ∙ sym is)
dump_among (a_stop own stop) c name e is =
    let same : own ≡ c = cc in Contains-append_right (design_names own.design) (file_of own.input ∷ own.vcd ∷ stop.save ∷ []) name (1, lit< tt, ap (λ x. x.vcd) same ∙ sym is)
dump_among (a_rest own state) c name e is =
    let same : own ≡ c = cc in Contains-append_right (design_names own.design) (file_of own.input ∷ state ∷ own.vcd ∷ []) name (2, lit< tt, ap (λ x. x.vcd) same ∙ sym is)
dump_among (a_writing w) c name e is = cc
dump_among (the_bounds d) c name e is = cc
dump_among (a_case stages) c name e is = cc

pub save_among : (c : Command) (stop : Stop) → Contains (names_in (Some (a_stop c stop))) stop.save
save_among c stop = Contains-append_right (design_names c.design) (file_of c.input ∷ c.vcd ∷ stop.save ∷ []) stop.save (2, lit< tt, refl)

state_among : (c : Command) (state : List ℕ) → Contains (names_in (Some (a_rest c state))) state
state_among c state = Contains-append_right (design_names c.design) (file_of c.input ∷ state ∷ c.vcd ∷ []) state (1, lit< tt, refl)

pub out_among : (w : Writing) → Contains (names_in (Some (a_writing w))) w.out
out_among w = Contains-append_right (design_names w.design) (w.out ∷ []) w.out (0, lit< tt, refl)

-- a failure on the SDF file
sdf_fault : (ws : List (List ℕ)) (old new : Option (List File)) (last : Option (List ℕ)) (asked : Asked) (d : Design) (circuit : Circuit)
    → asked_of ws ≡ Some asked → design_of asked ≡ Some d → ((files : List File) → old ≡ Some files → CircuitOutcome d files (Ok circuit)) → new ≡ old
    → FailsAtGiven d.sdf last → NamesFaultAt ws old new last
sdf_fault ws old new last asked d circuit e is g k f = record {
  name = f.name;
  told = f.told;
  among = subst (λ o. Contains (names_in o) f.name) (sym e) (designed asked d f.name is (sdf_among d f.name f.is));
  place = both_same (λ before after. FaultAt ws before after f.name) old new k (λ files held. at_sdf asked d f.name circuit e is f.is (g files held) refl);
}

-- so is one on a file of a design
pub design_fault : (ws : List (List ℕ)) (old new : Option (List File)) (last : Option (List ℕ)) (asked : Asked) (d : Design)
    → asked_of ws ≡ Some asked → design_of asked ≡ Some d → new ≡ old → FailsAtDesign d old last → NamesFaultAt ws old new last
design_fault ws old new last asked d e is k (in_netlist f) = netlist_fault ws old new last asked d e is k f
design_fault ws old new last asked d e is k (in_sdf circuit h f) = sdf_fault ws old new last asked d circuit e is h k f

-- a failure on the file of what drives the inputs
pub failed_at_stimulus : (X Y : Type 0) (ws : List (List ℕ)) (old new : Option (List File)) (last : Option (List ℕ)) (asked : Asked) (c : Command) (annotated : Annotated) (s : code_stop.Stop)
    → asked_of ws ≡ Some asked → command_of asked ≡ Some c → ((files : List File) → old ≡ Some files → DesignOutcome c.design files (Ok annotated)) → new ≡ old
    → IfFailed {X = X} (last ≡ Some (file_of c.input)) (Err s) → IfFailed {X = Y} (NamesFaultAt ws old new last) (Err s)
failed_at_stimulus X Y ws old new last asked c annotated s e is g k h = failed_again X Y (last ≡ Some (file_of c.input)) (NamesFaultAt ws old new last) s (λ n. record {
  name = file_of c.input;
  told = n;
  among = subst (λ o. Contains (names_in o) (file_of c.input)) (sym e) (input_among asked c is);
  place = both_same (λ before after. FaultAt ws before after (file_of c.input)) old new k (λ files held. at_stimulus asked c annotated e is (g files held) refl);
}) h

-- a failure on the file of a saved moment
pub failed_at_state : (X Y : Type 0) (ws : List (List ℕ)) (old new : Option (List File)) (last : Option (List ℕ)) (c : Command) (state : List ℕ) (task : Task) (s : code_stop.Stop)
    → asked_of ws ≡ Some (a_rest c state) → ((files : List File) → old ≡ Some files → CommandOutcome c files (Ok task)) → new ≡ old
    → IfFailed {X = X} (last ≡ Some state) (Err s) → IfFailed {X = Y} (NamesFaultAt ws old new last) (Err s)
failed_at_state X Y ws old new last c state task s e g k h = failed_again X Y (last ≡ Some state) (NamesFaultAt ws old new last) s (λ n. record {
  name = state;
  told = n;
  among = subst (λ o. Contains (names_in o) state) (sym e) (state_among c state);
  place = both_same (λ before after. FaultAt ws before after state) old new k (λ files held. at_state c state task e (g files held) refl);
}) h
