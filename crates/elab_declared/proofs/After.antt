-- Ports, one after another.
use Rattle.std.specs.Prelude.{◌≡◌, ℕ, suc, ◌<◌, List, [], ◌∷◌, ◌++◌, map, length, slice_index_or, refl}
use Rattle.std.proofs.Common.{sym, ◌∙◌, ap, drop, append_assoc, drop-cons}
use Rattle.std.proofs.lemmas.List.{map-append}
use Rattle.vl_tree.specs.declared.modules.HeadPort as port
use Rattle.vl_tree.specs.declared.modules.PortDeclaration as declaration
use Rattle.vl_tree.specs.Seen.{view_port_declaration, view_head_port}
use Rattle.vl_tree.specs.Tree.{Named, PortDeclaration, HeadPort, declared_port, named_port}
use Rattle.elab_model.specs.Ports.{ports_after, with_name}
use Rattle.elab_declared.specs.Words.{one_after}

-- what comes after a port has nothing of its name
same-after : (b : PortDeclaration) (n : Named) (ps : List HeadPort) → ports_after b ps ≡ ports_after (with_name b n) ps
same-after b n [] = refl
same-after b n (declared_port d ∷ ps) = refl
same-after b n (named_port m ∷ ps) = ap (λ qs. with_name b m ∷ qs) (same-after b n ps)

pub after-one : (b : PortDeclaration) (p : HeadPort) (ps : List HeadPort) → ports_after b (p ∷ ps) ≡ one_after b p ∷ ports_after (one_after b p) ps
after-one b (declared_port d) ps = refl
after-one b (named_port n) ps = ap (λ qs. with_name b n ∷ qs) (same-after b n ps)

-- one port more in the code's list
pub port-next : (d : port.HeadPort) (ports new : List declaration.PortDeclaration) (before after : declaration.PortDeclaration) (rest : List port.HeadPort) (i : ℕ) (whole : List PortDeclaration)
    → i < length rest → new ≡ ports ++ after ∷ [] → view_port_declaration after ≡ one_after (view_port_declaration before) (view_head_port (slice_index_or rest i d))
    → map view_port_declaration ports ++ ports_after (view_port_declaration before) (map view_head_port (drop i rest)) ≡ whole
    → map view_port_declaration new ++ ports_after (view_port_declaration after) (map view_head_port (drop (suc i) rest)) ≡ whole
port-next d ports new before after rest i whole lt e a h =
    ap (λ ps. map view_port_declaration ps ++ ports_after (view_port_declaration after) (map view_head_port (drop (suc i) rest))) e
    ∙ ap (λ ps. ps ++ ports_after (view_port_declaration after) (map view_head_port (drop (suc i) rest))) (map-append view_port_declaration ports (after ∷ []))
    ∙ append_assoc (map view_port_declaration ports) (view_port_declaration after ∷ []) (ports_after (view_port_declaration after) (map view_head_port (drop (suc i) rest)))
    ∙ ap (λ b. map view_port_declaration ports ++ b ∷ ports_after b (map view_head_port (drop (suc i) rest))) a
    ∙ ap (λ ps. map view_port_declaration ports ++ ps) (sym (after-one (view_port_declaration before) (view_head_port (slice_index_or rest i d)) (map view_head_port (drop (suc i) rest))))
    ∙ ap (λ ps. map view_port_declaration ports ++ ports_after (view_port_declaration before) (map view_head_port ps)) (sym (drop-cons rest i d lt))
    ∙ h
