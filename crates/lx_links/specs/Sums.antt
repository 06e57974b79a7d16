-- What the nodes of a forest hold together: the scalar values in their strings, as a machine counts those of each, how many
-- of them are items, and the scalar values in the strings of these.
use Rattle.std.specs.Prelude.{ℕ, ◌+◌, ◌-◌, ◌<◌, ◌≤◌, ◌^◌, ◌≡◌, ◌≢◌, List, cond, sum_by}
use Rattle.lx_trees.specs.Trees.{nil}
use Rattle.lx_node.specs.Kinds.{is_item}
use Rattle.lx_node.specs.Strings.{capped, characters_of}
use Rattle.lx_node.specs.declared.kind.Kind.{Kind}
use Rattle.lx_node.specs.declared.fields.Fields.{Fields}
use Rattle.lx_forest.specs.Forest.{Forest, Label}
use Rattle.lx_forest.specs.Weights.{weight, own_weight}
use Rattle.lx_links.specs.declared.sums.Sums.{Sums}
use Rattle.lx_links.specs.Characters.{counted_in}

-- 1 for an item, and 0 for any other node
abbrev pub items_in : Label → ℕ
items_in l = cond (is_item l.kind) 1 0

-- how many scalar values are in the strings of an item: 0 for any other node
abbrev pub item_characters_in : Label → ℕ
item_characters_in l = cond (is_item l.kind) (characters_of l.fields) 0

-- how many scalar values are in the strings of an item, as far as a machine counts: 0 for any other node
abbrev pub item_counted_in : Label → ℕ
item_counted_in l = cond (is_item l.kind) (capped (characters_of l.fields)) 0

-- what one node holds
abbrev pub own_sums : Kind → Fields → Sums
own_sums kind fields = record {
  characters = capped (characters_of fields);
  items = cond (is_item kind) 1 0;
  item_characters = cond (is_item kind) (capped (characters_of fields)) 0;
}

-- what all nodes of the forest hold together
abbrev pub sums_of : Forest → Sums
sums_of f = record { characters = weight counted_in f; items = weight items_in f; item_characters = weight item_counted_in f }

-- what the nodes of these keys hold together
abbrev pub sums_at : Forest → List ℕ → Sums
sums_at f ks = record {
  characters = sum_by (own_weight counted_in f) ks;
  items = sum_by (own_weight items_in f) ks;
  item_characters = sum_by (own_weight item_counted_in f) ks;
}

-- two sums added
abbrev pub plus : Sums → Sums → Sums
plus s more = record {
  characters = s.characters + more.characters;
  items = s.items + more.items;
  item_characters = s.item_characters + more.item_characters;
}

-- a sum without a part of it
abbrev pub less : Sums → Sums → Sums
less s gone = record {
  characters = s.characters - gone.characters;
  items = s.items - gone.items;
  item_characters = s.item_characters - gone.item_characters;
}

-- no part of the one sum is more than that of the other
pub record IsPart (gone s : Sums) : Type 0 where
  pub characters : gone.characters ≤ s.characters
  pub items : gone.items ≤ s.items
  pub item_characters : gone.item_characters ≤ s.item_characters

-- sums no greater than those of fewer than 2 ^ 32 nodes can be
pub record AreFew (s : Sums) : Type 0 where
  pub characters : s.characters < 2 ^ 96
  pub items : s.items < 2 ^ 32
  pub item_characters : s.item_characters < 2 ^ 96

-- the sums of a forest, where it has nodes
pub record AreCounted (s : Sums) (f : Forest) : Type 0 where
  pub counts : f ≢ nil → s ≡ sums_of f
