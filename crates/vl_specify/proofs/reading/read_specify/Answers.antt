-- Reading gives the block, or the failing token and its kind.
use Rattle.std.proofs.Common.{true, map}
use Rattle.vl_token.specs.Seen.{lexeme}
use Rattle.vl_tree.specs.Seen.{view_block}
use Rattle.vl_tree.proofs.SpecifyExact.{block-exact}
use Rattle.vl_specify.proofs.Refusals.{only_block, failing, refused}
use Rattle.vl_specify.proofs.reading.read_specify.Goals as goal

pub returns-in-Ok-clause-found : goal.returns-in-Ok-clause-found
returns-in-Ok-clause-found c = ((block-exact true).found (map lexeme c.args.tokens.now) c.args.at (view_block c.in-Ok.block) c.in-Ok.next c.in-Ok.ensures).0

pub returns-in-Ok-clause-longest : goal.returns-in-Ok-clause-longest
returns-in-Ok-clause-longest c = ((block-exact true).found (map lexeme c.args.tokens.now) c.args.at (view_block c.in-Ok.block) c.in-Ok.next c.in-Ok.ensures).1

pub returns-in-Ok-clause-only : goal.returns-in-Ok-clause-only
returns-in-Ok-clause-only c = λ tree j spelled. only_block (map lexeme c.args.tokens.now) c.args.at (view_block c.in-Ok.block) c.in-Ok.next tree j c.in-Ok.ensures spelled

pub kind_at-requires : goal.kind_at-requires
kind_at-requires c = (failing (map lexeme c.args.tokens.now) c.args.at _ (rw c.in-Err-At.field-0-is at c.in-Err-At.ensures)).behind

pub returns-clause-only : goal.returns-clause-only
returns-clause-only c = λ tree j spelled. (failing (map lexeme c.args.tokens.now) c.args.at _ (rw c.in-Err-At.field-0-is at c.in-Err-At.ensures)).none tree j spelled

pub returns-clause-fault : goal.returns-clause-fault
returns-clause-fault c = refused (map lexeme c.args.tokens.now) c.args.at _ c.args.end _ _ (rw c.in-Err-At.field-0-is at c.in-Err-At.ensures) c.place_of_fault.ensures c.in_ok-kind.ensures
