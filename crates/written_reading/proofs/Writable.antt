-- What is asked of names, conditions and numbers, so that they are tokens of their own.
use Rattle.std.specs.Prelude.{◌≡◌, ◌≢◌, ℕ, List, [], ◌∷◌, Option, Some, None}
use Rattle.std.specs.List.{AllByRecursion}
use Rattle.cond_expr.specs.declared.tokens.Tok.TheVariants as tok
use Rattle.cond_expr.specs.Token.{Tok}
use Rattle.sg_circuit.specs.Circuit.{Variable}
use Rattle.sdf_tree.specs.Written.{PathCondition, always, otherwise, if_words}
use Rattle.written_model.specs.Entries.{LegEntry, PathEntry, EventKey, CheckEntry}
use Rattle.written_model.specs.Names.{BitName, name_of}
use Rattle.written_model.specs.Tree.{datum_of}
use Rattle.written_reading.specs.Meanings.{index_in_front}
use Rattle.written_reading.specs.Named.{IsIndex}
use Rattle.written_reading.proofs.DelayTokens.{AreShort}
use Rattle.written_reading.proofs.Letters.{AreGood, IsSomeIndex}

abbrev pub IsNameOf : List ℕ → Type 0
IsNameOf name = (name ≢ []) × AreGood name

pub record IsBit (n : BitName) : Type 0 where
  pub name : IsNameOf n.name
  pub index : IsSomeIndex n.index

abbrev pub IsPort : List Variable → ℕ → Type 0
IsPort vs net = IsBit (name_of vs net)

-- ---- conditions

abbrev pub IsToken : Tok → Type 0
IsToken (tok.Name name) = IsNameOf name
IsToken (tok.Index i) = IsIndex i
IsToken _ = Unit {0}

-- an index stands behind a name alone
abbrev pub IsFollowed : Tok → List Tok → Type 0
IsFollowed (tok.Name name) ts = Unit {0}
IsFollowed _ ts = index_in_front ts ≡ None

abbrev pub AreFollowed : List Tok → Type 0
AreFollowed [] = Unit {0}
AreFollowed (t ∷ ts) = IsFollowed t ts × AreFollowed ts

pub record IsClause (words : List Tok) : Type 0 where
  pub some : words ≢ []
  pub tokens : AllByRecursion IsToken words
  pub first : index_in_front words ≡ None
  pub followed : AreFollowed words

abbrev pub IsPathClause : PathCondition → Type 0
IsPathClause always = Unit {0}
IsPathClause (if_words words) = IsClause words
IsPathClause otherwise = Unit {0}

abbrev pub IsEventClause : Option (List Tok) → Type 0
IsEventClause None = Unit {0}
IsEventClause (Some words) = IsClause words

-- ---- entries

pub record IsLeg (vs : List Variable) (e : LegEntry) : Type 0 where
  pub port : IsPort vs e.net
  pub numbers : AllByRecursion AreShort e.numbers

pub record IsPath (vs : List Variable) (e : PathEntry) : Type 0 where
  pub input : IsPort vs e.key.input
  pub output : IsPort vs e.key.output
  pub condition : IsPathClause e.key.condition
  pub numbers : AllByRecursion AreShort e.numbers

pub record IsEvent (vs : List Variable) (k : EventKey) : Type 0 where
  pub port : IsPort vs k.net
  pub condition : IsEventClause k.condition

pub record IsCheck (vs : List Variable) (e : CheckEntry) : Type 0 where
  pub refer : IsEvent vs e.key.refer
  pub datum : IsEvent vs (datum_of e.key)
  pub limit : IsIndex e.limit
