-- Elements in plain words: what the lists of elements and places get.
use Rattle.std.specs.Prelude.{◌≡◌, ℕ, ◌+◌, ◌≤◌, List, ◌++◌, map, length}
use Rattle.sg_circuit.specs.declared.elements.Element as code
use Rattle.sg_circuit.specs.declared.elements.ElementKind.{ElementKind}
use Rattle.sg_text.specs.declared.places.Place.{Place}
use Rattle.sg_text.specs.declared.refusals.Refused.{Refused}
use Rattle.elab_model.specs.declared.kinds.ElabKind.{ElabKind}
use Rattle.elab_numbering.specs.Refusals.{RefusesCount}
use Rattle.elab_elements.specs.declared.placing.Placing.{Placing}

-- an element, its inputs as a list
pub record Wired : Type 0 where
  pub scope : ℕ
  pub inputs : List ℕ
  pub output : ℕ
  pub kind : ElementKind

abbrev pub wired : code.Element → Wired
wired e = record { scope = e.scope; inputs = e.inputs.items; output = e.output; kind = e.kind }

-- an element to be added, and its place
abbrev pub Put : Type 0
Put = Place × Wired

abbrev pub put : ℕ → Place → List ℕ → ℕ → ElementKind → Put
put scope place inputs output kind = (place, record { scope = scope; inputs = inputs; output = output; kind = kind })

-- these come behind those that were there
pub record Puts (old new : Placing) (ps : List Put) : Type 0 where
  pub elements : map wired new.elements.items ≡ map wired old.elements.items ++ map (λ p. p.1) ps
  pub places : new.places.items ≡ old.places.items ++ map (λ p. p.0) ps

-- with these there are too many, or there was no memory
abbrev pub RefusesPuts : Placing → List Put → Refused ElabKind → Type 0
RefusesPuts old ps r = (total : ℕ) → length old.elements.items + length ps ≤ total → RefusesCount total r
