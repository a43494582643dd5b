-- So many of the output bits are those to which the path leads.
use Rattle.std.proofs.Common.{◌∙◌, ap, map}
use Rattle.vl_tree.specs.Seen.{view_path, view_term}
use Rattle.elab_model.specs.Terms.{terms_bits}
use Rattle.elab_ends.specs.Words.{lead_count}
use Rattle.elab_ends.proofs.Leading.{leads-to}
use Rattle.elab_ends.proofs.ends.destinations.Goals as goal

pub returns-clause-bits : goal.returns-clause-bits
returns-clause-bits c =
    leads-to c.args.table.now (view_path c.args.path.now) c.in_ok-inputs.inputs.items c.in_ok-outputs.outputs.items c.truncate.new.self.items c.lead_count.result
    (c.in_ok-inputs.ensures.bits ∙ ap (λ ts. terms_bits c.args.table.now (map view_term ts)) c.deref.ensures.value)
    (c.in_ok-outputs.ensures.bits ∙ ap (λ ts. terms_bits c.args.table.now (map view_term ts)) c.deref-2.ensures.value)
    (c.lead_count.ensures ∙ ap (λ is. lead_count c.args.path.now.arrow is c.deref-4.result.now) c.deref-3.ensures.value
    ∙ ap (lead_count c.args.path.now.arrow c.in_ok-inputs.inputs.items) c.deref-4.ensures.value)
    c.truncate.ensures.items
