-- When rules have nothing left to do. No round and no order is spoken of here.
use Rattle.std.specs.Prelude.{ℕ, ◌≡◌, ◌==◌, if◌then◌else◌, Bool, true, false, List, Option, None, Some}
use Rattle.std.specs.List.{list_any}
use Rattle.lx_node.specs.declared.node.View.{View}
use Rattle.lx_marks.specs.Marks.{Marked, is_touched, is_noted}
use Rattle.lx_forest.specs.Forest.{Forest}
use Rattle.lx_forest.specs.Lookups.{is_attached}
use Rattle.lx_forest.specs.Views.{view_of}
use Rattle.lx_rules.specs.Answers.{Answers}
use Rattle.lx_rules.specs.Idle.{has_work}

-- whether rules are due at a node: at the root where it is marked at all, at any other where it is marked itself
abbrev pub is_due : Marked → ℕ → Bool
is_due m q = if q == 0 then is_noted m q else is_touched m q

-- whether some rule answers an edit at a view that isn't idle there
abbrev pub is_uneasy : List Answers → Option View → Bool
is_uneasy rules None = false
is_uneasy rules (Some v) = list_any (λ rule. list_any (has_work v) (rule v)) rules

-- A forest is rested for marks and rules: at each node of the root's tree where rules are due, every edit that any rule
-- answers at its view is idle.
pub record IsRested (rules : List Answers) (f : Forest) (m : Marked) : Type 0 where
  pub each : (q : ℕ) → is_attached f q ≡ true → is_due m q ≡ true → is_uneasy rules (view_of f q) ≡ false
