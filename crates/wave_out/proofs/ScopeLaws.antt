-- The scopes of the code's circuit are those of the definition's.
use Rattle.std.proofs.Common.{◌≡◌, ◌∙◌, sym, ap, subst, ℕ, ◌<◌, List, length, map}
use Rattle.std.proofs.lemmas.List.{length-map}
use Rattle.std.specs.Prelude.{All, Result, Ok, Err, IfOk}
use Rattle.sg_circuit.specs.declared.building.Pin.{Pin}
use Rattle.sg_circuit.specs.declared.circuits.Parts.{Parts}
use Rattle.sg_circuit.specs.declared.scopes.Scope as code_scope
use Rattle.sg_circuit.specs.Circuit.{Circuit}
use Rattle.sg_circuit.specs.Closed.{IsClosed}
use Rattle.sg_circuit.specs.Pins.{HasPins}
use Rattle.sg_circuit.specs.Seen.{circuit_seen, scope_seen}
use Rattle.wave_out.specs.Walk.{parent_pins, AreChildren}
use Rattle.wave_out.proofs.WalkLaws.{pins_within, are_children}

-- the pins that were made
pins_seen : (parts : Parts) (circuit : Circuit) (scopes : List code_scope.Scope) (pins ps : List Pin) → circuit_seen parts ≡ circuit → scopes ≡ parts.scopes.items
    → pins ≡ parent_pins 0 (map (λ s. scope_seen s) scopes) → ps ≡ pins → ps ≡ parent_pins 0 circuit.scopes
pins_seen parts circuit scopes pins ps seen same made e = e ∙ (made ∙ (ap (λ ss. parent_pins 0 (map (λ s. scope_seen s) ss)) same ∙ ap (λ c. parent_pins 0 c.scopes) seen))

pub as_many : (parts : Parts) (circuit : Circuit) (n : ℕ) → circuit_seen parts ≡ circuit → n ≡ length parts.scopes.items → n ≡ length circuit.scopes
as_many parts circuit n seen e = e ∙ (sym (length-map parts.scopes.items (λ s. scope_seen s)) ∙ ap (λ c. length c.scopes) seen)

pub pins_are_within : (parts : Parts) (circuit : Circuit) (scopes : List code_scope.Scope) (pins ps : List Pin) (n : ℕ) → circuit_seen parts ≡ circuit → IsClosed circuit → scopes ≡ parts.scopes.items
    → pins ≡ parent_pins 0 (map (λ s. scope_seen s) scopes) → ps ≡ pins → n ≡ length parts.scopes.items → All (λ (p : Pin). p.net < n) ps
pins_are_within parts circuit scopes pins ps n seen closed same made e many =
    subst (λ k. All (λ (p : Pin). p.net < k) ps) (sym (as_many parts circuit n seen many))
    (subst (λ xs. All (λ (p : Pin). p.net < length circuit.scopes) xs) (sym (pins_seen parts circuit scopes pins ps seen same made e)) (pins_within circuit closed))

pub children_made : {E : Type 0} (parts : Parts) (circuit : Circuit) (scopes : List code_scope.Scope) (pins ps : List Pin) (n : ℕ) (r : Result (List (List ℕ)) E) → circuit_seen parts ≡ circuit → scopes ≡ parts.scopes.items
    → pins ≡ parent_pins 0 (map (λ s. scope_seen s) scopes) → ps ≡ pins → n ≡ length parts.scopes.items → IfOk r (λ table. HasPins ps table) → IfOk r (λ table. length table ≡ n) → IfOk r (λ table. AreChildren circuit table)
children_made parts circuit scopes pins ps n (Ok table) seen same made e many h k =
    are_children circuit ps table (pins_seen parts circuit scopes pins ps seen same made e) h (k ∙ as_many parts circuit n seen many)
children_made parts circuit scopes pins ps n (Err why) seen same made e many h k = h
