-- What the elements drive, by the numbers of nets.
use Rattle.std.specs.Prelude.{◌≡◌, ℕ, ◌||◌, List, [], ◌∷◌, Bool, true, false, if◌then◌else◌, length, map, refl}
use Rattle.std.specs.List.{AllByRecursion, list_any}
use Rattle.std.proofs.Common.{sym, ◌∙◌, ap, inl, inr}
use Rattle.sg_delay.specs.declared.corners.Corner.{Corner}
use Rattle.sg_text.specs.declared.places.Place.{Place}
use Rattle.vl_tree.specs.Tree.{Module, Source}
use Rattle.elab_model.specs.Drivers.{elements}
use Rattle.elab_model.specs.Elements.{Component}
use Rattle.elab_model.specs.Homes.{Spot, is_same_spot}
use Rattle.elab_model.specs.Nets.{OwnNet, nets, number_of}
use Rattle.elab_model.specs.Numbered.{element_of}
use Rattle.circuit_model.specs.Circuits.{driving, is_net, output_at}
use Rattle.circuit_model.specs.PathUses.{PathUse, circuit_elements, path_uses, with_paths}
use Rattle.elab_laws.specs.Laws.{AreSound}
use Rattle.elab_laws.specs.Words.{Owns}
use Rattle.elab_laws.proofs.Homes.{spot-same}
use Rattle.elab_laws.proofs.Lists.{In, all-weaker}
use Rattle.elab_laws.specs.ElementLaws.{HasNets}
use Rattle.elab_laws.proofs.Members.{elements-have_nets}

any-there : {A : Type 0} (p : A → Bool) (x : A) (xs : List A) → In x xs → p x ≡ true → list_any p xs ≡ true
any-there p x [] h e = absurd h
any-there p x (y ∷ xs) (inl g) e = ap (λ b. b || list_any p xs) (ap p (sym g) ∙ e)
any-there p x (y ∷ xs) (inr h) e = by (p y) (any-there p x xs h e)
  where
    by : (b : Bool) → list_any p xs ≡ true → (b || list_any p xs) ≡ true
    by true k = refl
    by false k = k

net-there : (all : List OwnNet) (spot : Spot) → Owns spot all → is_net all spot ≡ true
net-there all spot own = any-there (λ o. is_same_spot spot o.spot) own.owned all own.there (ap (is_same_spot spot) own.same ∙ spot-same spot)

-- an element's place, and the number of the net that it drives
abbrev pub placed_output : List OwnNet → Component → Place × ℕ
placed_output all c = (c.place, number_of all c.output)

outputs-placed : (all : List OwnNet) (cs : List Component) → AllByRecursion (λ c. Owns c.output all) cs → map (output_at all) cs ≡ map (placed_output all) cs
outputs-placed all [] h = refl
outputs-placed all (c ∷ cs) h = one (is_net all c.output) (net-there all c.output h.0) (outputs-placed all cs h.1)
  where
    one : (b : Bool) → b ≡ true → map (output_at all) cs ≡ map (placed_output all) cs
        → (c.place, if b then number_of all c.output else length all) ∷ map (output_at all) cs ≡ placed_output all c ∷ map (placed_output all) cs
    one true e k = ap (λ xs. placed_output all c ∷ xs) k
    one false e k = cc

pub driving-outputs : (source : Source) (top : Module) (corner : Corner) → AreSound source top corner → (driving source top corner).outputs ≡ map (placed_output (nets source top)) (elements source top corner)
driving-outputs source top corner sound =
    let all = nets source top in
    let es = elements source top corner in
    outputs-placed all es (all-weaker (HasNets all) (λ c. Owns c.output all) es (λ c o. o.output) (elements-have_nets source top corner sound))

same-numbers : (all : List OwnNet) (uses : List PathUse) (cs : List Component) → map (λ o. o.1) (map (placed_output all) cs) ≡ map (λ e. e.output) (map (λ c. element_of all (with_paths uses c)) cs)
same-numbers all uses [] = refl
same-numbers all uses (c ∷ cs) = ap (λ xs. number_of all c.output ∷ xs) (same-numbers all uses cs)

pub outputs-are : (source : Source) (top : Module) (corner : Corner) → AreSound source top corner → map (λ o. o.1) (driving source top corner).outputs ≡ map (λ e. e.output) (circuit_elements source top corner)
outputs-are source top corner sound =
    ap (λ os. map (λ o. o.1) os) (driving-outputs source top corner sound) ∙ same-numbers (nets source top) (path_uses source top corner) (elements source top corner)
