-- What the lists of nets that are driven tell of a netlist.
use Rattle.std.specs.Prelude.{◌≡◌, ℕ, ◌<◌, All, List, [], ◌∷◌, map, length, zip, Result, Ok, Err, IfOk, IfErr, refl}
use Rattle.std.specs.List.{AllByRecursion}
use Rattle.std.proofs.Common.{sym, ◌∙◌, ap, subst}
use Rattle.std.proofs.lemmas.List.{length-map}
use Rattle.std.proofs.lemmas.List.Elements.{All-from_recursion}
use Rattle.sg_circuit.specs.declared.elements.Element as code
use Rattle.sg_delay.specs.declared.corners.Corner.{Corner}
use Rattle.sg_text.specs.declared.places.Place.{Place}
use Rattle.vl_tree.specs.Tree.{Module, Source}
use Rattle.elab_model.specs.Drivers.{Drive, elements, stimulus_drives, check_drives}
use Rattle.elab_model.specs.Nets.{OwnNet, nets, number_of}
use Rattle.elab_model.specs.Numbered.{undriven}
use Rattle.circuit_model.specs.Circuits.{driving}
use Rattle.circuit_model.specs.Driving.{Driving}
use Rattle.elab_laws.specs.ElementLaws.{HasNets}
use Rattle.elab_laws.specs.Words.{Owns}
use Rattle.elab_laws.proofs.Drives.{drives-have_nets}
use Rattle.elab_laws.proofs.Homes.{number-below}
use Rattle.elab_laws.proofs.Lists.{all-map, all-map_back, all-weaker}
use Rattle.elab_laws.proofs.Members.{elements-have_nets}
use Rattle.elab_closed.proofs.Outputs.{driving-outputs}
use Rattle.elab_drivers.specs.Tables.{driving_of}
use Rattle.elab_hierarchy.specs.declared.instances.Placed.{Placed}
use Rattle.elab_checks.specs.Library.{Library}
use Rattle.elab_checks.specs.RowsType.{Rows}
use Rattle.elab_checks.specs.Placing.{Placing}
use Rattle.elab_scopes.specs.Driven.{AreNumbers, AreDriven}
use Rattle.elab_scopes.specs.declared.driven.DrivenNets.{DrivenNets}
use Rattle.vl_elab.specs.Made.{AreMade}

-- a clause on what is Ok, made weaker
pub ok-weaker : {A E : Type 0} (P Q : A → Type 0) (r : Result A E) → ((x : A) → P x → Q x) → IfOk r P → IfOk r Q
ok-weaker P Q (Ok x) f h = f x h
ok-weaker P Q (Err e) f h = tt

pub err-weaker : {A E : Type 0} (P Q : E → Type 0) (r : Result A E) → ((x : E) → P x → Q x) → IfErr r P → IfErr r Q
err-weaker P Q (Ok x) f h = tt
err-weaker P Q (Err e) f h = f e h

zip-maps : {A B C : Type 0} (f : A → B) (g : A → C) (xs : List A) → zip (map f xs) (map g xs) ≡ map (λ x. (f x, g x)) xs
zip-maps f g [] = refl
zip-maps f g (x ∷ xs) = ap (λ ys. (f x, g x) ∷ ys) (zip-maps f g xs)

-- ---- what the stimulus and the timing checks drive

pub inputs-placed : (source : Source) (top : Module) (inputs : DrivenNets) → AreDriven (nets source top) (stimulus_drives source top) inputs → length inputs.places.items ≡ length inputs.nets.items
inputs-placed source top inputs i =
    ap length i.places ∙ length-map (stimulus_drives source top) (λ d. d.place) ∙ sym (length-map (stimulus_drives source top) (λ d. number_of (nets source top) d.spot)) ∙ sym (ap length i.nets)

below-all : (all : List OwnNet) (ds : List Drive) → AllByRecursion (λ d. Owns d.spot all) ds → All (λ n. n < length all) (map (λ d. number_of all d.spot) ds)
below-all all ds h =
    All-from_recursion (λ n. n < length all) (map (λ d. number_of all d.spot) ds)
    (all-map (λ n. n < length all) (λ d. number_of all d.spot) ds (all-weaker (λ d. Owns d.spot all) (λ d. number_of all d.spot < length all) ds (λ d o. number-below d.spot all o) h))

pub inputs-within : (source : Source) (top : Module) (inputs : DrivenNets) → AreDriven (nets source top) (stimulus_drives source top) inputs → All (λ n. n < length (nets source top)) inputs.nets.items
inputs-within source top inputs i = subst (All (λ n. n < length (nets source top))) (sym i.nets) (below-all (nets source top) (stimulus_drives source top) (drives-have_nets source top).0)

pub regs-within : (source : Source) (top : Module) (regs : List ℕ) → AreNumbers (nets source top) (check_drives source top) regs → All (λ n. n < length (nets source top)) regs
regs-within source top regs r = subst (All (λ n. n < length (nets source top))) (sym r) (below-all (nets source top) (check_drives source top) (drives-have_nets source top).1)

-- ---- what the elements drive

module _ (source : Source) (top : Module) (corner : Corner) (placed : List Placed) (ready : Library) (numbers : Rows) (made : Placing) (m : AreMade source top corner placed ready numbers made) where
  pub nets-count : length numbers.nets.items ≡ length (nets source top)
  nets-count = ap length m.have_rows.all ∙ length-map (nets source top) undriven

  pub elements-placed : length made.places.items ≡ length made.elements.items
  elements-placed =
      ap length m.places ∙ length-map (elements source top corner) (λ c. c.place) ∙ sym (length-map (elements source top corner) (λ c. number_of (nets source top) c.output)) ∙ sym (ap length m.outputs)
      ∙ length-map made.elements.items (λ e. e.output)

  pub elements-count : length made.elements.items ≡ length (elements source top corner)
  elements-count = sym (length-map made.elements.items (λ e. e.output)) ∙ ap length m.outputs ∙ length-map (elements source top corner) (λ c. number_of (nets source top) c.output)

  pub outputs-within : All (λ e. e.output < length (nets source top)) made.elements.items
  outputs-within =
      let all = nets source top in
      let Below : ℕ → Type 0 = λ n. n < length all in
      let es = elements source top corner in
      let owned = elements-have_nets source top corner m.is_ready.sound in
      let each : AllByRecursion Below (map (λ c. number_of all c.output) es) =
      all-map Below (λ c. number_of all c.output) es
      (all-weaker (HasNets all) (λ c. number_of all c.output < length all) es (λ c o. number-below c.output all o.output) owned) in
      All-from_recursion (λ e. e.output < length all) made.elements.items (all-map_back Below (λ e. e.output) made.elements.items (subst (AllByRecursion Below) (sym m.outputs) each))

  -- the lists are what drives the nets
  pub driving-is : (inputs : DrivenNets) (regs : List ℕ) → AreDriven (nets source top) (stimulus_drives source top) inputs → AreNumbers (nets source top) (check_drives source top) regs
      → driving_of inputs.nets.items inputs.places.items (map (λ e. e.output) made.elements.items) made.places.items regs ≡ driving source top corner
  driving-is inputs regs i r = λ k. record { inputs = ins k; outputs = outs k; regs = r k }
    where
      ins : zip inputs.places.items inputs.nets.items ≡ (driving source top corner).inputs
      ins =
          ap (λ ps. zip ps inputs.nets.items) i.places ∙ ap (λ ns. zip (map (λ d. d.place) (stimulus_drives source top)) ns) i.nets
          ∙ zip-maps (λ d. d.place) (λ d. number_of (nets source top) d.spot) (stimulus_drives source top)

      outs : zip made.places.items (map (λ e. e.output) made.elements.items) ≡ (driving source top corner).outputs
      outs =
          ap (λ ps. zip ps (map (λ e. e.output) made.elements.items)) m.places ∙ ap (λ ns. zip (map (λ c. c.place) (elements source top corner)) ns) m.outputs
          ∙ zip-maps (λ c. c.place) (λ c. number_of (nets source top) c.output) (elements source top corner) ∙ sym (driving-outputs source top corner m.is_ready.sound)

  -- what is told of the lists is told of what drives the nets
  pub lists-driven : (inputs : DrivenNets) (regs : List ℕ) (input_nets : List ℕ) (input_places : List Place) (es : List code.Element) (places : List Place) (reg_nets : List ℕ)
      (count : ℕ) (P : ℕ → Driving → Type 0) → AreDriven (nets source top) (stimulus_drives source top) inputs → AreNumbers (nets source top) (check_drives source top) regs
      → input_nets ≡ inputs.nets.items → input_places ≡ inputs.places.items → es ≡ made.elements.items → places ≡ made.places.items → reg_nets ≡ regs → count ≡ length numbers.nets.items
      → P count (driving_of input_nets input_places (map (λ e. e.output) es) places reg_nets) → P (length (nets source top)) (driving source top corner)
  lists-driven inputs regs input_nets input_places es places reg_nets count P i r a b e f g h p =
      let same : driving_of input_nets input_places (map (λ e. e.output) es) places reg_nets ≡ driving source top corner =
      (λ x. driving_of (a x) (b x) (map (λ e. e.output) (e x)) (f x) (g x)) ∙ driving-is inputs regs i r in
      subst (λ n. P n (driving source top corner)) (h ∙ nets-count) (subst (P count) same p)
