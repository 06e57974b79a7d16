-- The first keys of a list, as far as the kind of typing asks for them: whether there is none, one alone, or more.
use Rattle.std.specs.Prelude.{ℕ, List, [], ◌∷◌}
use Rattle.lx_node.specs.declared.cause.Point.{Point}
use Rattle.lx_forest.specs.Forest.{Forest}
use Rattle.lx_history.specs.declared.kinds.Change.{Change}
use Rattle.lx_history.specs.declared.kinds.Change.TheVariants.{Other}
use Rattle.lx_history.specs.declared.few.Few.{Few}
use Rattle.lx_history.specs.declared.few.Few.TheVariants.{Empty, One, Several}
use Rattle.lx_history.specs.Changes.{text_fields_at, text_typing, starts}

-- none, one or several of some keys
abbrev pub few_of : List ℕ → Few
few_of [] = Empty
few_of (k ∷ []) = One k
few_of (k ∷ l ∷ others) = Several

-- none, one or several keys, with one more
abbrev pub few_with : ℕ → Few → Few
few_with k Empty = One k
few_with k (One l) = Several
few_with k Several = Several

-- none, one or several keys, with several more, one after another
abbrev pub with_keys : List ℕ → Few → Few
with_keys [] few = few
with_keys (k ∷ ks) few = with_keys ks (few_with k few)

-- the kind of typing, where none, one or several nodes changed
abbrev pub typed_few : Few → Forest → Forest → Point → Point → Change
typed_few Empty old new a b = Other
typed_few (One k) old new a b = text_typing (text_fields_at old k) (text_fields_at new k) a b
typed_few Several old new a b = starts old new b
