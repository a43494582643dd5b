-- The bits of a path's terms, and from which input bit to which output bit a path leads (IEEE 1364-2005, 14.2).
use Rattle.std.specs.Prelude.{ℕ, List, Bool, ◌&&◌, ◌==◌, Option, Some, None, bytes_eq, map, flat_map, filter_map, zip}
use Rattle.vl_tree.specs.declared.paths.Arrow.{Arrow}
use Rattle.vl_tree.specs.declared.paths.Arrow.TheVariants.{Parallel, Full}
use Rattle.vl_tree.specs.Tree.{Expression, signal, Term, SpecifyPath}
use Rattle.elab_model.specs.Bits.{Bit, net, constant, bits}
use Rattle.elab_model.specs.Names.{Variable}

-- a bit of a variable of a module, by its position from the left
pub record NetBit : Type 0 where
  pub name : List ℕ
  pub position : ℕ

abbrev pub is_same_bit : NetBit → NetBit → Bool
is_same_bit b c = bytes_eq b.name c.name && b.position == c.position

abbrev pub net_bit : Bit → Option NetBit
net_bit (net n p) = Some (record { name = n; position = p })
net_bit (constant p v) = None

-- a term is an expression of one name
abbrev pub expression_of : Term → Expression
expression_of t = signal t.name t.select

-- its bits, from left to right
abbrev pub term_bits : List Variable → Term → List NetBit
term_bits vs t = filter_map net_bit (bits vs (expression_of t))

abbrev pub terms_bits : List Variable → List Term → List NetBit
terms_bits vs ts = flat_map (term_bits vs) ts

-- => leads bit by bit from the left, *> from each input bit to each output bit (14.2.5)
abbrev pub pairs : Arrow → List NetBit → List NetBit → List (NetBit × NetBit)
pairs Parallel inputs outputs = zip inputs outputs
pairs Full inputs outputs = flat_map (λ i. map (λ o. (i, o)) outputs) inputs

abbrev pub path_pairs : List Variable → SpecifyPath → List (NetBit × NetBit)
path_pairs vs p = pairs p.arrow (terms_bits vs p.sources) (terms_bits vs p.destination.terms)
