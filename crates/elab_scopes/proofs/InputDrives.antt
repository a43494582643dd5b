-- What drives the inputs of an instance, as numbers and places.
use Rattle.std.specs.Prelude.{◌≡◌, ℕ, ◌+◌, ◌<◌, List, [], ◌∷◌, ◌++◌, true, false, length, map, flat_map, find, take, refl, bytes_eq, if◌then◌else◌}
use Rattle.std.proofs.Common.{sym, ◌∙◌, ap, subst}
use Rattle.std.proofs.lemmas.List.{append-nil}
use Rattle.sg_circuit.specs.declared.nets.Driver.{Driver}
use Rattle.sg_circuit.specs.declared.nets.Driver.TheVariants.{Stimulus}
use Rattle.sg_text.specs.declared.places.Place.{Place}
use Rattle.vl_tree.specs.Tree.{Source}
use Rattle.elab_model.specs.Bits.{positions}
use Rattle.elab_model.specs.Drivers.{variable_drives, port_place, input_drives}
use Rattle.elab_model.specs.Hierarchy.{Instance}
use Rattle.elab_model.specs.Homes.{home_of, is_input}
use Rattle.elab_model.specs.Names.{Variable}
use Rattle.elab_model.specs.Nets.{OwnNet, number_of}
use Rattle.elab_model.specs.Ports.{port_declarations}
use Rattle.elab_laws.specs.Handing.{variable_bits, number_at}
use Rattle.elab_variables.specs.Seen.{variable_at}
use Rattle.elab_bits.proofs.InRow.{blank}
use Rattle.elab_scopes.specs.declared.driven.DrivenNets.{DrivenNets}
use Rattle.elab_scopes.specs.Driven.{drive_numbers, drive_places, AreDriven, AddsDriven, same_place, declared_place}
use Rattle.elab_scopes.proofs.Steps.{flats-next}

pub numbers-driven : (all : List OwnNet) (source : Source) (s : Instance) (d : Driver) (p : Place) (v : Variable)
    → drive_numbers all (variable_drives source s d p v) ≡ map (number_at all source s) (variable_bits v)
numbers-driven all source s d p v = each (positions v.range)
  where
    each : (ps : List ℕ) → drive_numbers all (map (λ i. record { driver = d; place = p; spot = home_of source s v.name i }) ps) ≡ map (number_at all source s) (map (λ i. (v, i)) ps)
    each [] = refl
    each (i ∷ ps) = ap (λ ns. number_of all (home_of source s v.name i) ∷ ns) (each ps)

places-driven : (all : List OwnNet) (source : Source) (s : Instance) (d : Driver) (p : Place) (v : Variable)
    → drive_places (variable_drives source s d p v) ≡ map (same_place p) (map (number_at all source s) (variable_bits v))
places-driven all source s d p v = each (positions v.range)
  where
    each : (ps : List ℕ) → drive_places (map (λ i. record { driver = d; place = p; spot = home_of source s v.name i }) ps) ≡ map (same_place p) (map (number_at all source s) (map (λ i. (v, i)) ps))
    each [] = refl
    each (i ∷ ps) = ap (λ ns. p ∷ ns) (each ps)

-- a variable that is no input, and one that is
pub no-input : (all : List OwnNet) (source : Source) (s : Instance) (v : Variable) (made : DrivenNets) → is_input v.port ≡ false → AddsDriven all (input_drives source s v) made made
no-input all source s v made e =
    let place = port_place (find (λ d. bytes_eq v.name d.name.text) (port_declarations s.step.definition)) s.step.place in
    subst (λ b. AddsDriven all (if b then variable_drives source s Stimulus place v else []) made made) (sym e)
    (record { nets = sym (append-nil made.nets.items); places = sym (append-nil made.places.items) })

pub one-input : (all : List OwnNet) (source : Source) (s : Instance) (v : Variable) (place : Place) (bits : List ℕ) (old new : DrivenNets) → is_input v.port ≡ true
    → s.step.place ≡ s.step.definition.name.place → place ≡ declared_place s.step.definition v → bits ≡ map (number_at all source s) (variable_bits v)
    → new.nets.items ≡ old.nets.items ++ bits → new.places.items ≡ old.places.items ++ map (same_place place) bits → AddsDriven all (input_drives source s v) old new
one-input all source s v place bits old new e top p b n q =
    let declared = find (λ d. bytes_eq v.name d.name.text) (port_declarations s.step.definition) in
    let here : place ≡ port_place declared s.step.place = p ∙ ap (port_place declared) (sym top) in
    subst (λ c. AddsDriven all (if c then variable_drives source s Stimulus (port_place declared s.step.place) v else []) old new) (sym e) (record {
      nets = n ∙ ap (λ ns. old.nets.items ++ ns) (b ∙ sym (numbers-driven all source s Stimulus (port_place declared s.step.place) v));
      places = q ∙ ap (λ ns. old.places.items ++ map (same_place place) ns) b
          ∙ ap (λ at. old.places.items ++ map (same_place at) (map (number_at all source s) (variable_bits v))) here
          ∙ ap (λ ps. old.places.items ++ ps) (sym (places-driven all source s Stimulus (port_place declared s.step.place) v));
    })

-- one variable more
pub inputs-next : (all : List OwnNet) (source : Source) (s : Instance) (vs : List Variable) (i : ℕ) (old new : DrivenNets) → i < length vs
    → AddsDriven all (input_drives source s (variable_at vs i)) old new → AreDriven all (flat_map (input_drives source s) (take i vs)) old
    → AreDriven all (flat_map (input_drives source s) (take (i + 1) vs)) new
inputs-next all source s vs i old new lt a h = record {
  nets = flats-next (λ d. number_of all d.spot) (input_drives source s) old.nets.items new.nets.items vs i blank lt a.nets h.nets;
  places = flats-next (λ d. d.place) (input_drives source s) old.places.items new.places.items vs i blank lt a.places h.places;
}
