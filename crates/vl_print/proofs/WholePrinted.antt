-- What is put behind no tokens for a netlist is all tokens, which spell it.
use Rattle.std.proofs.Common.{◌≡◌, List, [], length, map, subst}
use Rattle.grammar.specs.Reads.{Appends}
use Rattle.vl_token.specs.declared.tokens.Token.{Token}
use Rattle.vl_token.specs.Seen.{lexeme}
use Rattle.vl_tree.specs.declared.modules.Part as code
use Rattle.vl_tree.specs.Modules.{source}
use Rattle.vl_print.specs.Printed.{IsSpelledSource, SpellsAll}
use Rattle.vl_print.specs.ModulesPrinting.{put_part, put_source}
use Rattle.vl_print.specs.Printing.{put_many}
use Rattle.vl_tree.specs.Seen.{view_part}
use Rattle.vl_print.proofs.ModulesPrinted.{source_prints}

pub whole_printed : (parts slice : List code.Part) (old new : List Token) → IsSpelledSource (map view_part parts) → slice ≡ parts → old ≡ [] → map lexeme new ≡ put_many put_part (map view_part slice) (map lexeme old) → SpellsAll (map lexeme new) (map view_part parts)
whole_printed parts slice old new (ts, s) same none put =
    let tree = map view_part parts in
    let all : map lexeme new ≡ put_source (map view_part slice) [] = subst (λ (l : List Token). map lexeme new ≡ put_source (map view_part slice) (map lexeme l)) none put in
    let is : map lexeme new ≡ put_source tree [] = subst (λ (l : List code.Part). map lexeme new ≡ put_source (map view_part l) []) same all in
    let p : Appends source.language [] (put_source tree []) tree = source_prints tree (ts, 0, length (map lexeme ts), s) [] in
    rw is p.spells
