-- The part that was read is kept.
use Rattle.std.proofs.Common.{◌≡◌, ℕ, Ok, length, map, subst, arith}
use Rattle.sdf_lex.specs.Seen.{lexeme}
use Rattle.sdf_read.specs.Tails.{tail_part_there, view_tail_part}
use Rattle.sdf_read.proofs.tails.add_part.Goals as goal

pub returns : goal.returns
returns c =
    let e : c.len-count.result ≡ length c.args.tail.now.delays.items = omega (arith, c.len-count.ensures, c.args.tail.now.delays.ok.0) in (
      view_tail_part c.in_ok-part.part,
      c.in_ok-put_part.ensures.kept,
      subst (λ (n : ℕ). (tail_part_there c.args.limited n).read (map lexeme c.args.tokens.now) c.args.at ≡ Ok (view_tail_part c.in_ok-part.part, c.in_ok-part.next)) e c.in_ok-part.ensures,
    )
