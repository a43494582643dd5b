-- What a writer keeps of its circuit.
use Rattle.std.proofs.Common.{◌≡◌, ◌∙◌, sym, ap, subst, ℕ, ◌<◌, List, length, get_or, map}
use Rattle.std.proofs.lemmas.List.Elements.{All-nil, All-map}
use Rattle.std.specs.Prelude.{All}
use Rattle.sg_circuit.specs.declared.circuits.Parts.{Parts}
use Rattle.sg_circuit.specs.Circuit.{Circuit, Variable}
use Rattle.sg_circuit.specs.Closed.{IsClosed}
use Rattle.sg_circuit.specs.Seen.{circuit_seen}
use Rattle.wave_out.specs.declared.scopes.Visit.{Visit}
use Rattle.wave_out.specs.declared.scopes.Visit.TheVariants.{Enters, Leaves}
use Rattle.wave_out.specs.Scopes.{variables_at, variables_of, visits}
use Rattle.wave_out.specs.Walk.{IsVisit}
use Rattle.wave_out.proofs.ListLaws.{All-flat_map}
use Rattle.wave_out.proofs.WalkLaws.{are_visits}

-- each variable has nets of the circuit
abbrev HasNets : Circuit → Variable → Type 0
HasNets c x = All (λ n. n < length c.nets) x.bits

entered_nets : (c : Circuit) → IsClosed c → (v : Visit) → IsVisit (length c.scopes) v → All (HasNets c) (variables_at c v)
entered_nets c h (Enters s) l = h.bits s _ l
entered_nets c h Leaves l = All-nil (HasNets c)

variables_nets : (c : Circuit) → IsClosed c → All (HasNets c) (variables_of c)
variables_nets c h = All-flat_map (HasNets c) (variables_at c) (visits c) (λ i d l. entered_nets c h (get_or (visits c) i d) (are_visits c h i d l))

pub bits_within : (c : Circuit) (bs : List (List ℕ)) → IsClosed c → bs ≡ map (λ x. x.bits) (variables_of c) → All (λ b. All (λ n. n < length c.nets) b) bs
bits_within c bs h e = subst (λ xs. All (λ b. All (λ n. n < length c.nets) b) xs) (sym e) (All-map (λ b. All (λ n. n < length c.nets) b) (λ x. x.bits) (variables_of c) (variables_nets c h))

pub nets_many : (parts : Parts) (circuit : Circuit) (n : ℕ) → circuit_seen parts ≡ circuit → n ≡ length parts.nets.items → n ≡ length circuit.nets
nets_many parts circuit n seen e = e ∙ ap (λ c. length c.nets) seen
