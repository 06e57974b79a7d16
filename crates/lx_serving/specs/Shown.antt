-- What views show, for every list of lines.
use Rattle.std.specs.Prelude.{◌≡◌, ◌⊎◌, ℕ, List, [], ◌∷◌, ◌++◌}
use Rattle.std.specs.List.{AllByRecursion}
use Rattle.lx_reconcile.specs.Allowed.{Shows}
use Rattle.lx_hub.specs.Hub.{View}
use Rattle.lx_serving.specs.declared.layer.Layer.{Layer}
use Rattle.lx_serving.specs.declared.layer.Layer.TheVariants as layer
use Rattle.lx_serving.specs.Served.{Served, AnswersIn}

-- These bytes are answers to the lines, each with a line end, and leave these one after another: the last of them in front,
-- and after them all the one that was there at first.
abbrev pub LeadsThrough : Served → List (List ℕ) → List ℕ → List Served → List Served → Type 0
LeadsThrough old [] bytes passed all = (bytes ≡ []) × (all ≡ old ∷ passed)
LeadsThrough old (line ∷ lines) bytes passed all =
    (answer rest : List ℕ) × (mid : Served) × AnswersIn old line answer mid
    × (bytes ≡ answer ++ 10 ∷ rest) × LeadsThrough mid lines rest (old ∷ passed) all

-- one of these editors with their layers is such
abbrev pub SomeServed : (Served → Type 0) → List Served → Type 0
SomeServed P [] = ⊥
SomeServed P (s ∷ ss) = P s ⊎ SomeServed P ss

-- The view is the editor's view after the commit that it has reached, ids included, and shows the tree of that commit.
pub record IsOfCommit (v : View) (s : Served) : Type 0 where
  pub commit : s.editor.commits ≡ v.reached
  pub view : v.tree ≡ s.editor.view
  pub shows : Shows v.tree s.editor.tree

-- Each view of the hub is that of one of these commits.
abbrev pub ViewsShow : List Served → Layer → Type 0
ViewsShow all (layer.Hub h) = AllByRecursion (λ (v : View). SomeServed (IsOfCommit v) all) h.views
ViewsShow all other = Unit {0}
