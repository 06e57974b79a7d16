-- Nodes that are read into a draft, where they are below nothing.
use Rattle.std.specs.Prelude.{ℕ, ◌+◌, ◌++◌, if◌then◌else◌, codes, decimal, List, [], ◌∷◌, Option, None, Some, Result, Ok, Err}
use Rattle.std.specs.Str.{bytes_eq}
use Rattle.serde_json.specs.Data.{Data, array, object, Items, no_items, item, Members, no_members, member}
use Rattle.serde_json.specs.Find.{get}
use Rattle.lx_node.specs.Kinds.{is_element}
use Rattle.lx_node.specs.declared.kind.Kind.{Kind}
use Rattle.lx_node.specs.declared.cause.Cause.{Cause}
use Rattle.lx_node.specs.declared.cause.Cause.TheVariants.{BadState}
use Rattle.lx_forest.specs.Lookups.{size_of}
use Rattle.lx_draft.specs.Working.{Working}
use Rattle.lx_draft.specs.Faults.{after}
use Rattle.lx_draft.specs.Steps.{new_step, put_step}
use Rattle.lx_json.specs.Reading.{Piece, and_then, told_under, child_place, piece_of}

-- where a node goes that was made: it stays below nothing, or goes after the children of a parent
abbrev pub put_below : Option ℕ → ℕ → Working → Result Working Cause
put_below None k w = Ok w
put_below (Some parent) k w = put_step k parent (size_of w.forest parent) w

-- a node is made of a piece, and put where it goes
abbrev pub node_new : Piece → Option ℕ → Working → Result Working Cause
node_new piece parent w = after (new_step piece.kind piece.fields w) (put_below parent w.next_key)

-- a node is made and put where it goes, and then its children are made where it is an element
abbrev pub made_with : Piece → Option ℕ → (Working → Result Working Cause) → Working → Result Working Cause
made_with piece parent children w = after (node_new piece parent w) (λ made. if is_element piece.kind then children made else Ok made)

unfoldable mutual
  -- a node below one of this kind, made as soon as its members are read
  pub node_made : Data → Kind → Option ℕ → Working → Result Working Cause
  node_made (object members) above parent w =
      and_then (piece_of (Some above) (object members)) (λ piece. made_with piece parent (children_made members piece.kind w.next_key) w)
  node_made other above parent w = Err (BadState [])

  -- the children that the member `children` holds are made
  pub children_made : Members → Kind → ℕ → Working → Result Working Cause
  children_made no_members kind parent w = Ok w
  children_made (member name d rest) kind parent w =
      if bytes_eq (codes "children") name then list_made d kind parent w else children_made rest kind parent w

  -- the children that a value lists are made; another value than a list has none
  pub list_made : Data → Kind → ℕ → Working → Result Working Cause
  list_made (array items) kind parent w = items_made items 0 kind parent w
  list_made other kind parent w = Ok w

  -- the nodes of items are made one after another, the first of which is the child of this index
  pub items_made : Items → ℕ → Kind → ℕ → Working → Result Working Cause
  items_made no_items i kind parent w = Ok w
  items_made (item d ds) i kind parent w =
      after (told_under (child_place i) (node_made d kind (Some parent) w)) (items_made ds (i + 1) kind parent)

-- ---- nodes of a list

-- a draft in which nodes were made, and their keys, without those of what is below them
pub record Made : Type 0 where
  pub draft : Working
  pub keys : List ℕ

-- the place of an item in a list
abbrev pub index_place : ℕ → List ℕ
index_place i = codes "/" ++ decimal i

-- one more key before those of nodes that were made
abbrev pub with_first : ℕ → Made → Result Made Cause
with_first k made = Ok (record { draft = made.draft; keys = k ∷ made.keys })

-- The nodes of items, the first of which has this index, are made as the children of a node of the kind; but they stay
-- below nothing.
unfoldable pub nodes_made : Items → ℕ → Kind → Working → Result Made Cause
nodes_made no_items i kind w = Ok (record { draft = w; keys = [] })
nodes_made (item d ds) i kind w =
    after (told_under (index_place i) (node_made d kind None w)) (λ v. after (nodes_made ds (i + 1) kind v) (with_first w.next_key))

-- the nodes that a value lists, which is at this place, or why they are refused
unfoldable pub nodes_read : List ℕ → Data → Kind → Working → Result Made Cause
nodes_read place (array items) kind w = told_under place (nodes_made items 0 kind w)
nodes_read place other kind w = Err (BadState place)

-- ---- the children of an object, found by their name

-- the children that a member lists are made, if it is there
abbrev pub given_in : Option Data → Kind → ℕ → Working → Result Working Cause
given_in None kind parent w = Ok w
given_in (Some d) kind parent w = list_made d kind parent w

-- the children that an object gives a node of the kind are made: an element alone has any
unfoldable pub children_given : Kind → ℕ → Data → Working → Result Working Cause
children_given kind parent d w = if is_element kind then given_in (get (codes "children") d) kind parent w else Ok w
