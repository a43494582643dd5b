-- What declares variables and instances in trees of netlists has good names.
use Rattle.std.specs.Prelude.{IfSome}
use Rattle.std.specs.List.{AllByRecursion}
use Rattle.vl_tree.specs.Tree.{Check, Connections, Expression, Expressions, GateInstance, Head, HeadPort, Instance, Item, Join, Module, Named, NamedConnection, NetName, Part, SpecifyItem, a_check, a_path, assigns, by_name, by_order, concatenation, declared_port, gates, head_declarations, head_names, instances, named_port, nets, no_more, one_more, ports, pulse_style, registers, signal, sized, specify_block, specparams, supplies}
use Rattle.elab_model.specs.Members.{delayed_names}
use Rattle.written_reading.specs.Named.{IsNameText}
use Rattle.written_names.proofs.DefinedModules.{OfPart}

abbrev pub IsNamed : Named → Type 0
IsNamed n = IsNameText n.text

abbrev mutual
  pub HasNamesIn : Expression → Type 0
  HasNamesIn (signal n s) = IsNamed n
  HasNamesIn (sized p vs) = Unit {0}
  HasNamesIn (concatenation p es) = HaveNamesIn es

  pub HaveNamesIn : Expressions → Type 0
  HaveNamesIn no_more = Unit {0}
  HaveNamesIn (one_more e es) = HasNamesIn e × HaveNamesIn es

abbrev pub IsNamedHeadPort : HeadPort → Type 0
IsNamedHeadPort (declared_port d) = IsNamed d.name
IsNamedHeadPort (named_port n) = IsNamed n

abbrev pub IsNamedHead : Head → Type 0
IsNamedHead (head_names ns) = AllByRecursion IsNamed ns
IsNamedHead (head_declarations d ps) = IsNamed d.name × AllByRecursion IsNamedHeadPort ps

abbrev pub IsNamedNet : NetName → Type 0
IsNamedNet n = IsNamed n.name × IfSome n.value HasNamesIn

abbrev pub IsNamedJoin : Join → Type 0
IsNamedJoin j = HasNamesIn j.left × HasNamesIn j.right

abbrev pub IsNamedGate : GateInstance → Type 0
IsNamedGate i = AllByRecursion HasNamesIn i.terminals

abbrev pub IsNamedConnection : NamedConnection → Type 0
IsNamedConnection c = IfSome c.value HasNamesIn

abbrev pub AreNamed : Connections → Type 0
AreNamed (by_order es) = AllByRecursion (λ o. IfSome o HasNamesIn) es
AreNamed (by_name cs) = AllByRecursion IsNamedConnection cs

abbrev pub IsNamedInstance : Instance → Type 0
IsNamedInstance i = IfSome i.name IsNamed × AreNamed i.connections

abbrev pub IsNamedCheck : Check → Type 0
IsNamedCheck c = AllByRecursion IsNamed (delayed_names c)

abbrev pub IsNamedSpecify : SpecifyItem → Type 0
IsNamedSpecify (specparams p ps) = Unit {0}
IsNamedSpecify (a_path p) = Unit {0}
IsNamedSpecify (pulse_style p s ts) = Unit {0}
IsNamedSpecify (a_check c) = IsNamedCheck c

abbrev pub IsNamedItem : Item → Type 0
IsNamedItem (ports p d t r ns) = Unit {0}
IsNamedItem (nets p t r ns) = AllByRecursion IsNamedNet ns
IsNamedItem (supplies p s r ns) = AllByRecursion IsNamed ns
IsNamedItem (registers p ns) = AllByRecursion IsNamed ns
IsNamedItem (assigns p js) = AllByRecursion IsNamedJoin js
IsNamedItem (gates p g d is) = AllByRecursion IsNamedGate is
IsNamedItem (instances n d is) = AllByRecursion IsNamedInstance is
IsNamedItem (specify_block b) = AllByRecursion IsNamedSpecify b.items

pub record IsNamedModule (m : Module) : Type 0 where
  pub name : IsNamed m.name
  pub head : IfSome m.head (λ h. IfSome h IsNamedHead)
  pub items : AllByRecursion IsNamedItem m.items

abbrev pub IsNamedPart : Part → Type 0
IsNamedPart = OfPart IsNamedModule
