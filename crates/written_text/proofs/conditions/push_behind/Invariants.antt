use Rattle.std.proofs.Common.{◌≡◌, ◌++◌, flat_map, take}
use Rattle.written_model.specs.Text.{gap, token_text}
use Rattle.written_text.proofs.conditions.push_behind.Given as goal

-- the tokens so far
abbrev pub invariant-loop-token : goal.invariant-loop-token
invariant-loop-token l = l.text.items ≡ l.fn.text.items ++ flat_map (λ t. gap t ++ token_text t) (take l.token-index l.tokens)
