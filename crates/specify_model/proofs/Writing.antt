-- Short words to write specify blocks by hand: each takes the byte at which it stands.
use Rattle.std.specs.Prelude.{ℕ, ℤ, pos, negsuc, List, [], ◌∷◌, Option, Some, None, false}
use Rattle.cond_expr.specs.Token.{Tok}
use Rattle.sg_circuit.specs.declared.scopes.Port.{Port}
use Rattle.sg_delay.specs.declared.corners.Corner.{Corner}
use Rattle.vl_tree.specs.declared.expressions.Select.TheVariants as select
use Rattle.vl_tree.specs.declared.paths.Arrow.{Arrow}
use Rattle.vl_tree.specs.declared.paths.Arrow.TheVariants.{Parallel}
use Rattle.sg_text.specs.declared.places.Place.{Place}
use Rattle.sg_time.specs.Spelling.{Number}
use Rattle.vl_tree.specs.Tree.{Named, MinTypMax, one_number, Term, Word, Amounts, one_amount, a_number, a_parameter, Specparam, EdgeWord, PathCondition, always, SpecifyPath, SpecifyItem, specparams, a_path}
use Rattle.elab_model.specs.Names.{Variable}
use Rattle.elab_model.specs.Terms.{NetBit}
use Rattle.specify_model.specs.Values.{Measure}

abbrev pub here : ℕ → Place
here n = record { file = 0; byte = n }

abbrev pub name : List ℕ → ℕ → Named
name t n = record { text = t; place = here n }

abbrev pub whole_number : ℕ → Number
whole_number n = record { negative = false; digits = n; exponent = pos 0 }

-- in nanoseconds, of which a tick is one
abbrev pub for_corner : Corner → Measure
for_corner corner = record { corner = corner; tick = negsuc 8; scale = record { unit = negsuc 8; precision = negsuc 8 } }

abbrev pub scalar : List ℕ → Port → Variable
scalar t p = record { name = t; range = None; is_reg = false; port = p }

abbrev pub vector : List ℕ → ℤ → ℤ → Port → Variable
vector t l r p = record { name = t; range = Some (record { left = l; right = r }); is_reg = false; port = p }

abbrev pub bit : List ℕ → ℕ → NetBit
bit t p = record { name = t; position = p }

abbrev pub term : List ℕ → ℕ → Term
term t n = record { name = name t n; select = None }

abbrev pub bit_term : List ℕ → ℕ → ℤ → Term
bit_term t n i = record { name = name t n; select = Some (select.Bit i) }

abbrev pub word : ℕ → Tok → Word
word n t = record { place = here n; token = t }

abbrev pub number : ℕ → MinTypMax
number n = one_number (whole_number n)

abbrev pub delay : ℕ → ℕ → Amounts
delay n at = one_amount (a_number (here at) (whole_number n))

abbrev pub delay_named : List ℕ → ℕ → Amounts
delay_named t at = one_amount (a_parameter (name t at))

abbrev pub parameters_item : List Specparam → SpecifyItem
parameters_item ps = specparams (here 0) ps

abbrev pub path_with : ℕ → PathCondition → Option EdgeWord → List Term → Arrow → List Term → List Amounts → SpecifyPath
path_with n c e is arrow os ds = record {
  place = here n;
  condition = c;
  edge = e;
  sources = is;
  polarity = None;
  arrow = arrow;
  destination = record { terms = os; source = None };
  delays = ds;
}

-- (i => o) = ds;
abbrev pub from_to : ℕ → Term → Term → List Amounts → SpecifyItem
from_to n i o ds = a_path (path_with n always None (i ∷ []) Parallel (o ∷ []) ds)
