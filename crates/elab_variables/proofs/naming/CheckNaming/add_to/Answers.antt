-- The names of the two delayed copies.
use Rattle.std.proofs.Common.{◌++◌, refl}
use Rattle.std.proofs.lemmas.Result.{on_ok_weaker}
use Rattle.std.specs.Option.{option_map}
use Rattle.vl_tree.specs.Seen.{view_check, view_name}
use Rattle.elab_model.specs.Members.{check}
use Rattle.elab_variables.specs.Naming.{key_texts, names_listed, names_of_member}
use Rattle.elab_variables.proofs.ItemNames.{both-listed, none-given, some-given}
use Rattle.elab_variables.proofs.WithNames.{one-more}
use Rattle.elab_variables.proofs.naming.CheckNaming.add_to.Goals as goal

pub returns-in-OneLimit : goal.returns-in-OneLimit
returns-in-OneLimit c = none-given (λ x. names_of_member (check (view_check x))) (key_texts c.args.known.now.keys) c.args.self.now _ c.in-OneLimit.is refl

pub returns-in-Width : goal.returns-in-Width
returns-in-Width c = none-given (λ x. names_of_member (check (view_check x))) (key_texts c.args.known.now.keys) c.args.self.now _ c.in-Width.is refl

pub returns-in-Period : goal.returns-in-Period
returns-in-Period c = none-given (λ x. names_of_member (check (view_check x))) (key_texts c.args.known.now.keys) c.args.self.now _ c.in-Period.is refl

pub returns-in_ok-add_to-in-TwoLimits : goal.returns-in_ok-add_to-in-TwoLimits
returns-in_ok-add_to-in-TwoLimits c =
    let f = names_listed (option_map view_name c.in-TwoLimits.delayed_reference) in
    let g = names_listed (option_map view_name c.in-TwoLimits.delayed_data) in
    on_ok_weaker c.add_to-in-TwoLimits.result
    (λ last. some-given (λ x. names_of_member (check (view_check x))) (key_texts c.args.known.now.keys) _ c.args.self.now _ (f ++ g) c.in-TwoLimits.is
    (both-listed (option_map view_name c.in-TwoLimits.delayed_reference) (option_map view_name c.in-TwoLimits.delayed_data))
    (one-more (key_texts c.args.known.now.keys) (key_texts c.add_to.new.known.keys) _ f g c.in_ok-add_to-in-TwoLimits.ensures last)) c.add_to-in-TwoLimits.ensures
