-- Where the names of outputs, inputs and regs end.
use Rattle.std.specs.Prelude.{◌≡◌, ℕ, ◌+◌, ◌-◌, List, ◌++◌, map, length}
use Rattle.std.proofs.Common.{sym, ◌∙◌, ap, arith, take, drop, append_assoc, length-append}
use Rattle.std.proofs.lemmas.List.{take-map, drop-map, length-map}
use Rattle.std.proofs.Math.Seq.{take-append_seam, drop-append_seam, take-length}
use Rattle.vl_tree.specs.declared.names.Name as name
use Rattle.vl_tree.specs.Seen.{view_name}
use Rattle.vl_tree.specs.Tree.{Named, Primitive}
use Rattle.elab_model.specs.Primitives.{outputs, inputs, regs}
use Rattle.elab_model.specs.PrimitiveFaults.{initial_names}
use Rattle.elab_primitives.specs.declared.declared.Declared as code
use Rattle.elab_primitives.specs.Declarations.{IsDeclared}

front : (ns : List name.Name) (ls rs : List Named) (n : ℕ) → map view_name ns ≡ ls ++ rs → n ≡ length ls → map view_name (take n ns) ≡ ls
front ns ls rs n e l = sym (take-map view_name n ns) ∙ ap (take n) e ∙ ap (λ k. take k (ls ++ rs)) l ∙ take-append_seam ls rs

back : (ns : List name.Name) (ls rs : List Named) (n : ℕ) → map view_name ns ≡ ls ++ rs → n ≡ length ls → map view_name (drop n ns) ≡ rs
back ns ls rs n e l = sym (drop-map view_name n ns) ∙ ap (drop n) e ∙ ap (λ k. drop k (ls ++ rs)) l ∙ drop-append_seam ls rs

-- the names between two places
between : (ns : List name.Name) (ls ms rs : List Named) (n k : ℕ) → map view_name ns ≡ ls ++ (ms ++ rs) → n ≡ length ls → k ≡ length ls + length ms → map view_name (take (k - n) (drop n ns)) ≡ ms
between ns ls ms rs n k e l m =
    let d : k - n ≡ length ms = omega arith in
    front (drop n ns) ms rs (k - n) (back ns ls (ms ++ rs) n e l) d

-- the names from a place on
onwards : (ns : List name.Name) (ls rs : List Named) (n : ℕ) → map view_name ns ≡ ls ++ rs → n ≡ length ls → map view_name (take (length ns - n) (drop n ns)) ≡ rs
onwards ns ls rs n e l =
    let b : map view_name (drop n ns) ≡ rs = back ns ls rs n e l in
    let whole : length ns ≡ length ls + length rs = sym (length-map ns view_name) ∙ ap length e ∙ length-append ls rs in
    let d : length ns - n ≡ length rs = omega arith in
    sym (take-map view_name (length ns - n) (drop n ns)) ∙ ap (take (length ns - n)) b ∙ ap (λ k. take k rs) d ∙ take-length rs

joined : (p : Primitive) (d : code.Declared) (ns : List name.Name) → ns ≡ d.names.items → IsDeclared p d → map view_name ns ≡ outputs p ++ (inputs p ++ (regs p ++ initial_names p.initial))
joined p d ns e h = ap (map view_name) e ∙ h.names

joined-pairs : (p : Primitive) (d : code.Declared) (ns : List name.Name) → ns ≡ d.names.items → IsDeclared p d → map view_name ns ≡ (outputs p ++ inputs p) ++ (regs p ++ initial_names p.initial)
joined-pairs p d ns e h = joined p d ns e h ∙ sym (append_assoc (outputs p) (inputs p) (regs p ++ initial_names p.initial))

after-inputs : (p : Primitive) (d : code.Declared) → IsDeclared p d → d.after_inputs ≡ length (outputs p ++ inputs p)
after-inputs p d h = h.after_inputs ∙ sym (length-append (outputs p) (inputs p))

pub outputs-cut : (p : Primitive) (d : code.Declared) (ns : List name.Name) → ns ≡ d.names.items → IsDeclared p d → map view_name (take d.after_outputs ns) ≡ outputs p
outputs-cut p d ns e h = front ns (outputs p) (inputs p ++ (regs p ++ initial_names p.initial)) d.after_outputs (joined p d ns e h) h.after_outputs

pub inputs-cut : (p : Primitive) (d : code.Declared) (ns : List name.Name) → ns ≡ d.names.items → IsDeclared p d → map view_name (take (d.after_inputs - d.after_outputs) (drop d.after_outputs ns)) ≡ inputs p
inputs-cut p d ns e h = between ns (outputs p) (inputs p) (regs p ++ initial_names p.initial) d.after_outputs d.after_inputs (joined p d ns e h) h.after_outputs h.after_inputs

pub directions-cut : (p : Primitive) (d : code.Declared) (ns : List name.Name) → ns ≡ d.names.items → IsDeclared p d → map view_name (take d.after_inputs ns) ≡ outputs p ++ inputs p
directions-cut p d ns e h = front ns (outputs p ++ inputs p) (regs p ++ initial_names p.initial) d.after_inputs (joined-pairs p d ns e h) (after-inputs p d h)

pub regs-cut : (p : Primitive) (d : code.Declared) (ns : List name.Name) → ns ≡ d.names.items → IsDeclared p d → map view_name (take (d.after_regs - d.after_inputs) (drop d.after_inputs ns)) ≡ regs p
regs-cut p d ns e h =
    between ns (outputs p ++ inputs p) (regs p) (initial_names p.initial) d.after_inputs d.after_regs (joined-pairs p d ns e h) (after-inputs p d h)
    (h.after_regs ∙ ap (λ k. k + length (regs p)) (sym (length-append (outputs p) (inputs p))))

pub states-cut : (p : Primitive) (d : code.Declared) (ns : List name.Name) → ns ≡ d.names.items → IsDeclared p d
    → map view_name (take (length ns - d.after_inputs) (drop d.after_inputs ns)) ≡ regs p ++ initial_names p.initial
states-cut p d ns e h = onwards ns (outputs p ++ inputs p) (regs p ++ initial_names p.initial) d.after_inputs (joined-pairs p d ns e h) (after-inputs p d h)
