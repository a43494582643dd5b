-- What stands in a module's specify blocks, in text order (IEEE 1364-2005, 14.1).
use Rattle.std.specs.Prelude.{List, [], Option, Some, None, flat_map, filter_map}
use Rattle.vl_tree.specs.declared.specify.PulseStyle.{PulseStyle}
use Rattle.vl_tree.specs.Tree.{Named, MinTypMax, Specparam, a_value, pulse_limits, SpecifyPath, Term, SpecifyItem, specparams, a_path, pulse_style, a_check, SpecifyBlock, Item, ports, nets, supplies, registers, assigns, gates, instances, specify_block, Module}

abbrev pub block_of : Item → Option SpecifyBlock
block_of (specify_block b) = Some b
block_of _ = None

abbrev pub blocks : Module → List SpecifyBlock
blocks m = filter_map block_of m.items

abbrev pub items_of_item : Item → List SpecifyItem
items_of_item (ports p d t r ns) = []
items_of_item (nets p t r ns) = []
items_of_item (supplies p s r ns) = []
items_of_item (registers p ns) = []
items_of_item (assigns p js) = []
items_of_item (gates p g d is) = []
items_of_item (instances n d is) = []
items_of_item (specify_block b) = b.items

abbrev pub specify_items : Module → List SpecifyItem
specify_items m = flat_map items_of_item m.items

abbrev pub specparams_of_item : SpecifyItem → List Specparam
specparams_of_item (specparams p ps) = ps
specparams_of_item (a_path p) = []
specparams_of_item (pulse_style p s ts) = []
specparams_of_item (a_check c) = []

-- a specparam with a value (4.10.3)
pub record Parameter : Type 0 where
  pub name : Named
  pub value : MinTypMax

abbrev pub parameter_of : Specparam → Option Parameter
parameter_of (a_value n v) = Some (record { name = n; value = v })
parameter_of (pulse_limits n r e) = None

abbrev pub parameters : List SpecifyItem → List Parameter
parameters items = filter_map parameter_of (flat_map specparams_of_item items)

-- limits of pulses: reject, and perhaps error (14.6.1)
pub record Pulse : Type 0 where
  pub name : Named
  pub reject : MinTypMax
  pub error : Option MinTypMax

abbrev pub pulse_of : Specparam → Option Pulse
pulse_of (a_value n v) = None
pulse_of (pulse_limits n r e) = Some (record { name = n; reject = r; error = e })

abbrev pub pulses : List SpecifyItem → List Pulse
pulses items = filter_map pulse_of (flat_map specparams_of_item items)

abbrev pub path_of_item : SpecifyItem → Option SpecifyPath
path_of_item (specparams p ps) = None
path_of_item (a_path p) = Some p
path_of_item (pulse_style p s ts) = None
path_of_item (a_check c) = None

abbrev pub specify_paths : List SpecifyItem → List SpecifyPath
specify_paths items = filter_map path_of_item items

-- a choice of style for outputs (14.6.4)
pub record StyleText : Type 0 where
  pub style : PulseStyle
  pub terms : List Term

abbrev pub style_of_item : SpecifyItem → Option StyleText
style_of_item (specparams p ps) = None
style_of_item (a_path p) = None
style_of_item (pulse_style p s ts) = Some (record { style = s; terms = ts })
style_of_item (a_check c) = None

abbrev pub style_texts : List SpecifyItem → List StyleText
style_texts items = filter_map style_of_item items
