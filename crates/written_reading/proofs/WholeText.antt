-- A written text is read as its tree.
use Rattle.sg_circuit.specs.Circuit.{Circuit}
use Rattle.sg_circuit.specs.Closed.{IsClosed}
use Rattle.written_model.specs.Faults.{IsFaultless}
use Rattle.written_model.specs.Text.{text}
use Rattle.written_model.specs.Tree.{tree}
use Rattle.written_reading.specs.Named.{IsNamed, IsTick}
use Rattle.written_reading.specs.ReadBack.{IsReadAs}
use Rattle.written_reading.proofs.Lexed.{named_lexed}
use Rattle.written_reading.proofs.TokensRead.{tokens_are_read, read_as}

pub text_read_back : (c : Circuit) → IsClosed c → IsTick c.tick → IsNamed c → IsFaultless c → IsReadAs (tree c) (text c)
text_read_back c closed tick named faultless =
    let l = named_lexed c closed named faultless in
    read_as c (text c) l.tokens l.lexed (tokens_are_read c named closed tick faultless.scopes l.tokens l.mean)
