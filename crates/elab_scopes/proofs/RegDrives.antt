-- What drives the regs of an instance, as numbers.
use Rattle.std.specs.Prelude.{◌≡◌, ℕ, ◌+◌, ◌<◌, List, [], ◌++◌, true, false, map, flat_map, find, take, length, bytes_eq, if◌then◌else◌}
use Rattle.std.proofs.Common.{sym, ◌∙◌, ap, subst}
use Rattle.std.proofs.lemmas.List.{append-nil, append_assoc}
use Rattle.sg_circuit.specs.declared.nets.Driver.TheVariants.{Notifier}
use Rattle.vl_tree.specs.Tree.{Source}
use Rattle.elab_model.specs.Drivers.{variable_drives, net_place, reg_drives}
use Rattle.elab_model.specs.Hierarchy.{Instance}
use Rattle.elab_model.specs.Names.{Variable}
use Rattle.elab_model.specs.Nets.{OwnNet, number_of}
use Rattle.elab_model.specs.Ports.{net_declarations}
use Rattle.elab_laws.specs.Handing.{variable_bits, number_at}
use Rattle.elab_variables.specs.Seen.{variable_at}
use Rattle.elab_bits.proofs.InRow.{blank}
use Rattle.elab_scopes.specs.Driven.{drive_numbers}
use Rattle.elab_scopes.proofs.InputDrives.{numbers-driven}
use Rattle.elab_scopes.proofs.Steps.{flat-more}

pub no-reg : (all : List OwnNet) (source : Source) (s : Instance) (v : Variable) (nets : List ℕ) → v.is_reg ≡ false → nets ≡ nets ++ drive_numbers all (reg_drives source s v)
no-reg all source s v nets e =
    let place = net_place (find (λ d. bytes_eq v.name d.name.text) (net_declarations s.step.definition)) s.step.place in
    subst (λ b. nets ≡ nets ++ drive_numbers all (if b then variable_drives source s Notifier place v else [])) (sym e) (sym (append-nil nets))

pub one-reg : (all : List OwnNet) (source : Source) (s : Instance) (v : Variable) (bits old new : List ℕ) → v.is_reg ≡ true → bits ≡ map (number_at all source s) (variable_bits v) → new ≡ old ++ bits
    → new ≡ old ++ drive_numbers all (reg_drives source s v)
one-reg all source s v bits old new e b n =
    let place = net_place (find (λ d. bytes_eq v.name d.name.text) (net_declarations s.step.definition)) s.step.place in
    subst (λ c. new ≡ old ++ drive_numbers all (if c then variable_drives source s Notifier place v else [])) (sym e)
    (n ∙ ap (λ ns. old ++ ns) (b ∙ sym (numbers-driven all source s Notifier place v)))

-- one variable more
pub regs-next : (all : List OwnNet) (source : Source) (s : Instance) (vs : List Variable) (i : ℕ) (start old new : List ℕ) → i < length vs
    → new ≡ old ++ drive_numbers all (reg_drives source s (variable_at vs i)) → old ≡ start ++ drive_numbers all (flat_map (reg_drives source s) (take i vs))
    → new ≡ start ++ drive_numbers all (flat_map (reg_drives source s) (take (i + 1) vs))
regs-next all source s vs i start old new lt n o =
    let own = drive_numbers all (reg_drives source s (variable_at vs i)) in
    let before = drive_numbers all (flat_map (reg_drives source s) (take i vs)) in
    n ∙ ap (λ ns. ns ++ own) o ∙ append_assoc start before own ∙ ap (λ ns. start ++ ns) (sym (flat-more (λ d. number_of all d.spot) (reg_drives source s) vs i blank lt))
