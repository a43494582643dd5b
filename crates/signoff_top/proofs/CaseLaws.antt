-- The phases of a generated case, over its texts.
use Rattle.std.proofs.Common.{◌≡◌, ◌∙◌, ap, subst, ℕ, List, [], ◌∷◌, map}
use Rattle.std.specs.Global.{Vec}
use Rattle.std.specs.Prelude.{None, Result}
use Rattle.sg_circuit.specs.Circuit.{Circuit}
use Rattle.sg_stimulus.specs.Stimulus.{Stimulus}
use Rattle.gen_case.specs.Case.{netlist_of, sdf_of, stimulus_of}
use Rattle.run_words.specs.Words.{default_corner}
use Rattle.signoff_phases.specs.Phases.{Annotated, EntriesOutcome, NetlistOutcome, StimulusOutcome}
use Rattle.signoff_top.specs.Phases.{case_netlist, case_sdf, case_stimulus}
use Rattle.signoff_phases.specs.Stops.{Gives}
use Rattle.signoff_phases.specs.declared.stop.Stop as code_stop

pub netlist_given : {X : Type 0} {view : X → Circuit} {r : Result X code_stop.Stop} (stages : ℕ) (files : List (Vec ℕ)) (netlist : Vec ℕ) → files ≡ netlist ∷ [] → netlist.items ≡ netlist_of stages
    → Gives view (NetlistOutcome (case_netlist ∷ []) (map (λ f. f.items) files) None default_corner) r → Gives view (NetlistOutcome (case_netlist ∷ []) (netlist_of stages ∷ []) None default_corner) r
netlist_given {X} {view} {r} stages files netlist e is g =
    subst (λ ts. Gives view (NetlistOutcome (case_netlist ∷ []) ts None default_corner) r) (ap (λ (vs : List (Vec ℕ)). map (λ f. f.items) vs) e ∙ ap (λ (t : List ℕ). t ∷ []) is) g

pub entries_given : {X : Type 0} {view : X → Annotated} {r : Result X code_stop.Stop} (stages : ℕ) (text : List ℕ) (circuit : Circuit) → text ≡ sdf_of stages
    → Gives view (EntriesOutcome case_sdf text default_corner circuit) r → Gives view (EntriesOutcome case_sdf (sdf_of stages) default_corner circuit) r
entries_given {X} {view} {r} stages text circuit is g = subst (λ t. Gives view (EntriesOutcome case_sdf t default_corner circuit) r) is g

pub stimulus_given : {X : Type 0} {view : X → Stimulus} {r : Result X code_stop.Stop} (stages : ℕ) (text : List ℕ) (circuit : Circuit) → text ≡ stimulus_of stages
    → Gives view (StimulusOutcome case_stimulus text circuit) r → Gives view (StimulusOutcome case_stimulus (stimulus_of stages) circuit) r
stimulus_given {X} {view} {r} stages text circuit is g = subst (λ t. Gives view (StimulusOutcome case_stimulus t circuit) r) is g
