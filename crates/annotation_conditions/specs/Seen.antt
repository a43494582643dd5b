-- What the code keeps of the condition of an entry, as the definitions see it.
use Rattle.sdf_tree.specs.Written.{PathCondition, always, otherwise, if_words}
use Rattle.annotation_conditions.specs.declared.words.Wanted as code_wanted
use Rattle.annotation_conditions.specs.declared.words.Wanted.TheVariants as wanted

abbrev pub wanted_seen : code_wanted.Wanted → PathCondition
wanted_seen wanted.Any = always
wanted_seen (wanted.If words) = if_words words.items
wanted_seen wanted.Else = otherwise
