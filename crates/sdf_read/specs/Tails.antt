-- Parts of paths that the readers keep, as the definitions see them, and what it says that one more was read.
use Rattle.std.specs.Prelude.{◌≡◌, ℕ, Bool, List, [], ◌∷◌, ◌++◌, map, Result, Ok, Err}
use Rattle.grammar.specs.Reading.{Fails}
use Rattle.grammar.specs.Rule.{◌▸◌, mapped}
use Rattle.grammar.specs.declared.ReadFault.{ReadFault}
use Rattle.sdf_lex.specs.Tokens.{Lexeme}
use Rattle.sdf_tree.specs.Entries.{TailPart, a_retain, a_delay, Path, tail_rest_parts, tail_part_of}
use Rattle.sdf_tree.specs.Kinds.{is_left}
use Rattle.sdf_tree.specs.Rules.{Grammar, mark, placed}
use Rattle.sdf_tree.specs.Seen.{view_delay, view_port, view_terminal}
use Rattle.sdf_tree.specs.Written.{Delay}
use Rattle.sdf_read.specs.declared.tails.IoPath as code_path
use Rattle.sdf_read.specs.declared.tails.TailDelays as code_tail
use Rattle.sdf_read.specs.declared.tails.TailPart as code_part
use Rattle.sdf_read.specs.declared.tails.TailPart.TheVariants as part

abbrev pub view_tail : code_tail.TailDelays → List Delay × List Delay
view_tail t = (map view_delay t.retains.items, map view_delay t.delays.items)

abbrev pub view_tail_part : code_part.TailPart → TailPart
view_tail_part (part.Retain ds) = a_retain (map view_delay ds.items)
view_tail_part (part.Delay d) = a_delay (view_delay d)

abbrev pub view_path : code_path.IoPath → Path
view_path p = (view_terminal p.from, (view_port p.to, view_tail p.tail))

-- delays of RETAIN and of the list, with a part behind them
abbrev pub with_part : List Delay × List Delay → TailPart → List Delay × List Delay
with_part t (a_retain ds) = (t.0 ++ ds, t.1)
with_part t (a_delay d) = (t.0, t.1 ++ d ∷ [])

-- a part behind so many delays, which may come
abbrev pub tail_part_there : (limited : Bool) → ℕ → Grammar TailPart
tail_part_there limited n = mapped (λ x. tail_part_of x.0 x.1) (placed (mark is_left ▸ tail_rest_parts limited n))

-- the part that stands there is kept now, or there is none
abbrev pub IsPartAdded : (limited : Bool) → ℕ → List Lexeme → ℕ → List Delay × List Delay → List Delay × List Delay → Result ℕ ReadFault → Type 0
IsPartAdded limited n ts i old new (Ok j) = (x : TailPart) × (new ≡ with_part old x) × ((tail_part_there limited n).read ts i ≡ Ok (x, j))
IsPartAdded limited n ts i old new (Err f) = Fails f ((tail_part_there limited n).read ts i)
