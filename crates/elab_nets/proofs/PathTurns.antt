-- The nets of a member that is a specify path have the next numbers.
use Rattle.std.specs.Prelude.{◌≡◌, ℕ, List, ◌∷◌, ◌++◌, length, map, refl}
use Rattle.std.specs.List.{range_with_len}
use Rattle.std.proofs.Common.{sym, ◌∙◌, ap}
use Rattle.std.proofs.lemmas.List.{length-map}
use Rattle.std.proofs.lemmas.Simd.{map-map}
use Rattle.sg_delay.specs.declared.corners.Corner.{Corner}
use Rattle.vl_tree.specs.Tree.{Module, Source, SpecifyPath}
use Rattle.elab_model.specs.Ends.{first_ends}
use Rattle.elab_model.specs.Hierarchy.{Instance, instances}
use Rattle.elab_model.specs.Members.{Member, path}
use Rattle.elab_model.specs.Nets.{nets, number_of, inner_net, member_nets}
use Rattle.elab_model.specs.Names.{Variable}
use Rattle.elab_model.specs.Numbered.{undriven}
use Rattle.elab_hierarchy.specs.declared.instances.Placed.{Placed}
use Rattle.elab_laws.specs.Laws.{AreSound}
use Rattle.elab_laws.specs.NumberLaws.{nets_before}
use Rattle.elab_laws.proofs.InOrder.{member-nets_have_places}
use Rattle.elab_modules.specs.declared.library.Library.{Library}
use Rattle.elab_nets.specs.Turns.{HasTurn, IsNext, IsSeenTo, end_number, members_of}
use Rattle.elab_nets.specs.declared.rows.Rows.{Rows}
use Rattle.elab_nets.proofs.ChildRows.{AreSame, lone-seen}

ends-numbered : (source : Source) (top : Module) (corner : Corner) (before after : List Instance) (s : Instance) (front behind : List (ℕ × Member)) (k : ℕ) (p : SpecifyPath) → AreSound source top corner
    → instances source top ≡ before ++ s ∷ after → members_of s ≡ front ++ (k, path p) ∷ behind
    → map (end_number source top s) (first_ends s.step.definition (k, path p)) ≡ range_with_len (nets_before source before s front) (length (first_ends s.step.definition (k, path p)))
ends-numbered source top corner before after s front behind k p sound here split =
    let bs = first_ends s.step.definition (k, path p) in
    sym (map-map (λ o. number_of (nets source top) o.spot) (inner_net s) bs) ∙ member-nets_have_places source top corner before after s front behind (k, path p) sound here split
    ∙ ap (range_with_len (nets_before source before s front)) (length-map bs (inner_net s))

-- what is added to the ends
ends-added : (source : Source) (top : Module) (corner : Corner) (before after : List Instance) (s : Instance) (k next : ℕ) (p : SpecifyPath) (old new : List ℕ) (count : ℕ) → AreSound source top corner
    → instances source top ≡ before ++ s ∷ after → IsNext source before s (k, path p) next count → new ≡ old ++ range_with_len count (length (first_ends s.step.definition (k, path p)))
    → new ≡ old ++ map (end_number source top s) (first_ends s.step.definition (k, path p))
ends-added source top corner before after s k next p old new count sound here at e =
    e ∙ ap (λ n. old ++ range_with_len n (length (first_ends s.step.definition (k, path p)))) at.nets_there
    ∙ ap (λ xs. old ++ xs) (sym (ends-numbered source top corner before after s at.front at.behind k p sound here at.split))

pub path-seen : (source : Source) (top : Module) (corner : Corner) (library : Library) (placed : List Placed) (rows new : Rows) (table : List Variable) (number : ℕ) (turn : HasTurn source top corner library placed rows table number)
    (k next : ℕ) (p : SpecifyPath) → new.nets.items ≡ rows.nets.items ++ map undriven (member_nets source turn.s (k, path p))
    → new.ends.items ≡ rows.ends.items ++ range_with_len (length rows.nets.items) (length (first_ends turn.s.step.definition (k, path p)))
    → new.outer ≡ rows.outer → new.outer_starts ≡ rows.outer_starts → AreSame rows new
    → (at : IsNext source turn.before turn.s (k, path p) next (length rows.nets.items)) → IsSeenTo source top turn.s (k, path p) at.levels next next at.behind rows new
path-seen source top corner library placed rows new table number turn k next p made ends o e same at =
    lone-seen source top turn.s (k, path p) at.levels next at.behind rows new refl made
    (ends-added source top corner turn.before turn.after turn.s k next p rows.ends.items new.ends.items (length rows.nets.items) turn.given.ready.sound turn.here at ends) o e same
