-- Parts of groups that the readers keep, as the definitions see them.
use Rattle.std.specs.Prelude.{map}
use Rattle.std.specs.Option.{option_map}
use Rattle.sdf_tree.specs.Entries.{Pulse, GroupBody, absolute_body, increment_body, pulse_body}
use Rattle.sdf_tree.specs.Seen.{view_entry, view_ports, view_value}
use Rattle.sdf_read.specs.declared.groups.GroupBody as code_body
use Rattle.sdf_read.specs.declared.groups.GroupBody.TheVariants as body
use Rattle.sdf_read.specs.declared.groups.PulseLimits as code_pulse

abbrev pub view_pulse : code_pulse.PulseLimits → Pulse
view_pulse p = (p.percent, (option_map view_ports p.ports, (view_value p.reject, option_map view_value p.error)))

abbrev pub view_group_body : code_body.GroupBody → GroupBody
view_group_body (body.Absolute es) = absolute_body (map view_entry es.items)
view_group_body (body.Increment es) = increment_body (map view_entry es.items)
view_group_body (body.Pulse p) = pulse_body (view_pulse p)
