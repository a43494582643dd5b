-- What names, ranges and scales are in trees of netlists: words without blanks, ends of few digits, powers of ten from 100 s down to 1 fs.
use Rattle.std.specs.Prelude.{◌≡◌, ℕ, ℤ, pos, ◌-ℤ◌, ◌<◌, ◌^◌, true, IfSome}
use Rattle.std.specs.List.{AllByRecursion}
use Rattle.vl_token.specs.Tokens.{Lexeme, Meaning, module_word, word_token, left_out_token, name_token, system_token, other_token, number_token, sized_token, unsized_token, pair_token, symbol_token, byte_token}
use Rattle.vl_tree.specs.declared.names.Range.{Range}
use Rattle.vl_tree.specs.Tree.{Check, Connections, Expression, Expressions, GateInstance, Head, HeadPort, Instance, Item, Join, Module, Named, NamedConnection, NetName, Part, PortDeclaration, SpecifyItem, a_check, a_module, a_path, a_primitive, assigns, by_name, by_order, concatenation, declared_port, gates, head_declarations, head_names, instances, named_port, nets, no_more, one_more, ports, pulse_style, registers, signal, sized, specify_block, specparams, supplies}
use Rattle.elab_model.specs.Members.{delayed_names}
use Rattle.vcd_laws.proofs.Decimals.{IsShort}
use Rattle.vcd_laws.proofs.Rows.{is_word}

-- a power of ten of seconds that a dump's timescale tells
pub record IsScale (power : ℤ) : Type 0 where
  pub tick : ℕ
  pub small : tick < 18
  pub is : power ≡ pos 2 -ℤ pos tick

-- ---- tokens

abbrev pub IsGoodMeaning : Meaning → Type 0
IsGoodMeaning (module_word s) = IsScale s.scale.precision
IsGoodMeaning (name_token text) = is_word text ≡ true
IsGoodMeaning (number_token n whole) = whole ≡ true → n.digits < 10 ^ 18
IsGoodMeaning (word_token w) = Unit {0}
IsGoodMeaning (left_out_token text) = Unit {0}
IsGoodMeaning (system_token text) = Unit {0}
IsGoodMeaning (other_token text) = Unit {0}
IsGoodMeaning (sized_token bits) = Unit {0}
IsGoodMeaning (unsized_token bits) = Unit {0}
IsGoodMeaning (pair_token from to) = Unit {0}
IsGoodMeaning (symbol_token s) = Unit {0}
IsGoodMeaning (byte_token b) = Unit {0}

abbrev pub IsGood : Lexeme → Type 0
IsGood t = IsGoodMeaning t.meaning

-- ---- trees

abbrev pub IsNamed : Named → Type 0
IsNamed n = is_word n.text ≡ true

abbrev pub IsSpan : Range → Type 0
IsSpan r = IsShort r.left × IsShort r.right

abbrev mutual
  pub HasNamesIn : Expression → Type 0
  HasNamesIn (signal n s) = IsNamed n
  HasNamesIn (sized p vs) = Unit {0}
  HasNamesIn (concatenation p es) = HaveNamesIn es

  pub HaveNamesIn : Expressions → Type 0
  HaveNamesIn no_more = Unit {0}
  HaveNamesIn (one_more e es) = HasNamesIn e × HaveNamesIn es

abbrev pub IsNamedPort : PortDeclaration → Type 0
IsNamedPort d = IfSome d.range IsSpan × IsNamed d.name

abbrev pub IsNamedHeadPort : HeadPort → Type 0
IsNamedHeadPort (declared_port d) = IsNamedPort d
IsNamedHeadPort (named_port n) = IsNamed n

abbrev pub IsNamedHead : Head → Type 0
IsNamedHead (head_names ns) = AllByRecursion IsNamed ns
IsNamedHead (head_declarations d ps) = IsNamedPort d × AllByRecursion IsNamedHeadPort ps

abbrev pub IsNamedNet : NetName → Type 0
IsNamedNet n = IsNamed n.name × IfSome n.value HasNamesIn

abbrev pub IsNamedJoin : Join → Type 0
IsNamedJoin j = HasNamesIn j.left × HasNamesIn j.right

abbrev pub IsNamedGate : GateInstance → Type 0
IsNamedGate i = AllByRecursion HasNamesIn i.terminals

abbrev pub IsNamedConnection : NamedConnection → Type 0
IsNamedConnection c = IfSome c.value HasNamesIn

abbrev pub AreNamed : Connections → Type 0
AreNamed (by_order es) = AllByRecursion (λ o. IfSome o HasNamesIn) es
AreNamed (by_name cs) = AllByRecursion IsNamedConnection cs

abbrev pub IsNamedInstance : Instance → Type 0
IsNamedInstance i = IfSome i.name IsNamed × AreNamed i.connections

abbrev pub IsNamedCheck : Check → Type 0
IsNamedCheck c = AllByRecursion IsNamed (delayed_names c)

abbrev pub IsNamedSpecify : SpecifyItem → Type 0
IsNamedSpecify (specparams p ps) = Unit {0}
IsNamedSpecify (a_path p) = Unit {0}
IsNamedSpecify (pulse_style p s ts) = Unit {0}
IsNamedSpecify (a_check c) = IsNamedCheck c

abbrev pub IsNamedItem : Item → Type 0
IsNamedItem (ports p d t r ns) = IfSome r IsSpan × AllByRecursion IsNamed ns
IsNamedItem (nets p t r ns) = IfSome r IsSpan × AllByRecursion IsNamedNet ns
IsNamedItem (supplies p s r ns) = IfSome r IsSpan × AllByRecursion IsNamed ns
IsNamedItem (registers p ns) = AllByRecursion IsNamed ns
IsNamedItem (assigns p js) = AllByRecursion IsNamedJoin js
IsNamedItem (gates p g d is) = AllByRecursion IsNamedGate is
IsNamedItem (instances n d is) = AllByRecursion IsNamedInstance is
IsNamedItem (specify_block b) = AllByRecursion IsNamedSpecify b.items

pub record IsNamedModule (m : Module) : Type 0 where
  pub scale : IsScale m.settings.scale.precision
  pub name : IsNamed m.name
  pub head : IfSome m.head (λ h. IfSome h IsNamedHead)
  pub items : AllByRecursion IsNamedItem m.items

abbrev pub IsNamedPart : Part → Type 0
IsNamedPart (a_module m) = IsNamedModule m
IsNamedPart (a_primitive p) = Unit {0}
