-- The tokens so far are spelled.
use Rattle.std.proofs.Common.{◌≡◌, take}
use Rattle.written_faults.specs.Codes.{tokens_code}
use Rattle.written_faults.proofs.codes.code_of.Given as goal

abbrev pub invariant-loop-token : goal.invariant-loop-token
invariant-loop-token l = l.code.items ≡ tokens_code (take l.token-index l.tokens)
