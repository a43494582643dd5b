-- One name more, or all.
use Rattle.sdf_tree.specs.Words.{divider_byte}
use Rattle.annotation_scopes.proofs.NameLaws.{all_left, fewer_left, one_listed, all_listed}
use Rattle.annotation_scopes.proofs.names.called_names.Goals as goal

pub more-init : goal.more-init
more-init c = all_left (divider_byte c.args.divider) c.new-names.result.items c.args.path c.new-names.ensures.items

pub more-smaller : goal.more-smaller
more-smaller c =
    fewer_left (divider_byte c.args.divider) c.byte.result c.byte.ensures c.more.left c.first_part.result.1 c.in-Some.text c.first_part.result.0.now c.in-Some.is c.first_part.ensures

pub more-preserved : goal.more-preserved
more-preserved c =
    one_listed (divider_byte c.args.divider) c.byte.result c.byte.ensures c.more.left c.first_part.result.1 c.in-Some.text c.first_part.result.0.now c.in-Some.is c.first_part.ensures
    c.more.names.items c.push.new.self.items c.in_ok-called.field-0 _ c.in_ok-push.ensures.items c.in_ok-called.ensures c.more.invariant

pub returns : goal.returns
returns c = all_listed (divider_byte c.args.divider) c.more.left c.more.names.items _ c.in_default.not-Some c.more.invariant
