-- What an editor is.
use Rattle.std.specs.Prelude.{ℕ, Bool, List, [], ◌∷◌, Option, None}
use Rattle.lx_host.specs.Hosts.{HostTree, new_tree}
use Rattle.lx_select.specs.declared.selection.Selection.{Selection}
use Rattle.lx_select.specs.declared.selection.Selection.TheVariants.{Nothing}
use Rattle.lx_forest.specs.Forest.{Forest, root_alone}
use Rattle.lx_rules.specs.declared.any_rule.AnyRule.{AnyRule}
use Rattle.lx_rules.specs.AnyRules.{merge_rule, cell_rule}
use Rattle.lx_reconcile.specs.Told.{Told}
use Rattle.lx_step.specs.declared.listener.Listener.{Listener}
use Rattle.lx_history.specs.History.{History, new_history}
use Rattle.lx_editor.specs.declared.pending.Pending.{Pending}

-- the tree and the selection that are committed, the key that the next new node gets, what is pending, if anything is,
-- how often the editor has committed, the view, what the last commit answered, the history, the time of the line
-- before, the rules and listeners that are registered, each in the order of registration, and whether replies to
-- commits include the view
pub record Editor : Type 0 where
  pub tree : Forest
  pub selection : Selection
  pub next_key : ℕ
  pub pending : Option Pending
  pub commits : ℕ
  pub view : HostTree
  pub last : Option Told
  pub history : History
  pub moment : ℕ
  pub rules : List AnyRule
  pub listeners : List Listener
  pub tells_view : Bool

-- the rules that every editor has before any is registered
abbrev pub standing_rules : List AnyRule
standing_rules = merge_rule ∷ cell_rule ∷ []

-- a new editor, whose replies to commits include the view or not, and whose history has this delay, in milliseconds
abbrev pub new_editor : Bool → ℕ → Editor
new_editor tells_view delay = record {
  tree = root_alone;
  selection = Nothing;
  next_key = 1;
  pending = None;
  commits = 0;
  view = new_tree;
  last = None;
  history = new_history delay;
  moment = 0;
  rules = standing_rules;
  listeners = [];
  tells_view = tells_view;
}
