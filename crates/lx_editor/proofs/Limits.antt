-- What is within the limits is so with another next key that is within them; and how many characters such a state has.
use Rattle.std.proofs.Common.{◌≡◌, ◌∙◌, ap, ◌-◌, ◌^◌, ◌<◌, ◌≤◌, ℕ, Option, None, Some, refl, arith}
use Rattle.std.proofs.lemmas.Bool.Decides.{nat_tests}
use Rattle.std.specs.Option.{option_or}
use Rattle.lx_node.specs.Limits.{most_depth, most_nodes, most_characters, most_key}
use Rattle.lx_trees.specs.NamedTrees.{total}
use Rattle.lx_node.specs.Strings.{capped}
use Rattle.lx_node.specs.declared.cause.Cause.{Cause}
use Rattle.lx_node.specs.declared.cause.Limit.{Limit}
use Rattle.lx_node.specs.declared.cause.Limit.TheVariants.{Depth, Nodes, Characters, KeyCount}
use Rattle.lx_select.specs.declared.selection.Selection.{Selection}
use Rattle.lx_forest.specs.Edits.{drop_detached}
use Rattle.lx_forest.specs.Forest.{Forest}
use Rattle.lx_forest.specs.Weights.{weight}
use Rattle.lx_forest.proofs.Weights.{weight-preorder}
use Rattle.lx_links.specs.Characters.{characters_in}
use Rattle.lx_draft.specs.Faults.{over}
use Rattle.lx_draft.specs.Freezing.{characters_at, tree_depth, tree_characters, limits_fault}
use Rattle.lx_reconcile.proofs.StartEnd.{one_tree}
use Rattle.lx_editor.specs.Standing.{IsState}

pub first_none : (a b : Option Cause) → option_or a b ≡ None → a ≡ None
first_none None b e = refl
first_none (Some cause) b e = absurd (cc)

pub second_none : (a b : Option Cause) → option_or a b ≡ None → b ≡ None
second_none None b e = e
second_none (Some cause) b e = absurd (cc)

both_none : (a b : Option Cause) → a ≡ None → b ≡ None → option_or a b ≡ None
both_none None b first second = second
both_none (Some cause) b first second = absurd (cc)

module _ (f : Forest) where
  abbrev depth : Option Cause
  depth = over Depth most_depth (tree_depth f)

  abbrev nodes : Option Cause
  nodes = over Nodes most_nodes (total f)

  abbrev characters : Option Cause
  characters = over Characters most_characters (tree_characters f)

  -- the next key is within its limit
  pub key_within : (next_key : ℕ) → limits_fault f next_key ≡ None → over KeyCount most_key next_key ≡ None
  key_within next_key within =
      let key = over KeyCount most_key next_key in
      let sizes = second_none depth (option_or nodes (option_or characters key)) within in
      second_none characters key (second_none nodes (option_or characters key) sizes)

  -- and may be another that is
  pub within_key : (next_key other : ℕ) → limits_fault f next_key ≡ None → over KeyCount most_key other ≡ None → limits_fault f other ≡ None
  within_key next_key other within fits =
      let key = over KeyCount most_key next_key in
      let more = over KeyCount most_key other in
      let sizes = second_none depth (option_or nodes (option_or characters key)) within in
      both_none depth (option_or nodes (option_or characters more)) (first_none depth (option_or nodes (option_or characters key)) within)
      (both_none nodes (option_or characters more) (first_none nodes (option_or characters key) sizes)
      (both_none characters more (first_none characters key (second_none nodes (option_or characters key) sizes)) fits))

first_key_fits : over KeyCount most_key 1 ≡ None
unfolding capped
first_key_fits = refl

-- what is within the limits is so with the next key 1
pub within_first : (f : Forest) (next_key : ℕ) → limits_fault f next_key ≡ None → limits_fault f 1 ≡ None
within_first f next_key within = within_key f next_key 1 within first_key_fits

-- A state that may be committed may be so with a greater next key, with which another may.
pub state_rises : (f g : Forest) (s t : Selection) (k m : ℕ) → IsState f s k → IsState g t m → k ≤ m → IsState f s m
state_rises f g s t k m state other more = record {
  in_order = state.in_order;
  alone = state.alone;
  start = record {
    next = other.start.next;
    free = λ q above. state.start.free q (omega (arith, more, above));
    few = state.start.few;
    whole = state.start.whole;
    shallow = state.start.shallow;
    characters = state.start.characters;
  };
  within = within_key f k m state.within (key_within g m other.within);
  selected = state.selected;
  kept = state.kept;
  joined = state.joined;
  numbered = state.numbered;
}

-- ---- characters

within : (limit : Limit) (most n : ℕ) → most < 2 ^ 64 - 1 → over limit most n ≡ None → n ≤ most
unfolding capped
within limit most n small none = grind (arith, nat_tests)

-- a state that may be committed has no more characters than it may have
pub few_characters : (f : Forest) (s : Selection) (k : ℕ) → IsState f s k → tree_characters f ≤ most_characters
few_characters f s k state =
    let size = second_none (over Depth most_depth (tree_depth f)) _ state.within in
    let long = second_none (over Nodes most_nodes (total f)) _ size in
    within Characters most_characters (tree_characters f) (omega arith) (first_none (over Characters most_characters (tree_characters f)) _ long)

-- all characters are those of its one tree
pub all_in_tree : (f : Forest) (s : Selection) (k : ℕ) → IsState f s k → tree_characters f ≡ weight characters_in f
unfolding drop_detached
all_in_tree f s k state =
    weight-preorder characters_in (characters_at f) f state.in_order (λ q spot e. rw e refl)
    ∙ ap (weight characters_in) (one_tree f state.in_order state.alone)
