-- What a slice makes of a draft at the caret.
use Rattle.std.specs.Prelude.{ℕ, ◌==◌, Bool, true, false, if◌then◌else◌, codes, List, [], ◌∷◌, drop, Option, None, Some, unwrap_or, encode_utf8_all, Result, Ok, Err}
use Rattle.std.specs.Option.{option_or}
use Rattle.serde_json.specs.Data.{Data, string, array, Items, no_items, item}
use Rattle.serde_json.specs.Find.{get}
use Rattle.serde_json.specs.Read.{read}
use Rattle.lx_node.specs.Kinds.{is_inline}
use Rattle.lx_trees.specs.Siblings.{last_of}
use Rattle.lx_node.specs.declared.kind.Kind.{Kind}
use Rattle.lx_node.specs.declared.kind.Kind.TheVariants.{Root, Paragraph}
use Rattle.lx_node.specs.declared.cause.Cause.{Cause}
use Rattle.lx_node.specs.declared.cause.Cause.TheVariants.{BadCommand}
use Rattle.lx_node.specs.declared.cause.Point.{Point}
use Rattle.lx_forest.specs.Forest.{Forest}
use Rattle.lx_forest.specs.Lookups.{label_of, kind_of, children_of, keys_within}
use Rattle.lx_draft.specs.Working.{Working}
use Rattle.lx_draft.specs.Faults.{answer, after}
use Rattle.lx_draft.specs.Beside.{put_behind_step}
use Rattle.lx_edit.specs.Edits.{end_in, moved_to_end}
use Rattle.lx_edit.specs.InTurn.{in_turn}
use Rattle.lx_blocks.specs.Blocks as blocks
use Rattle.lx_blocks.specs.Blocks.{passes, block_of}
use Rattle.lx_blocks.specs.Making.{new_like}
use Rattle.lx_blocks.specs.Ranges.{at_anchor, caret_at}
use Rattle.lx_fields.specs.Types.{kind_of_type}
use Rattle.lx_json.specs.Nodes.{nodes_read}
use Rattle.lx_caret.specs.Adding.{kind_around, no_room, opened, put_by}
use Rattle.lx_caret.specs.Inserting.{place_behind}
use Rattle.lx_caret.specs.Paragraphs.{cut_open, holders_in, before_point, parted_up}
use Rattle.lx_caret.specs.Removing.{removed_empty, remove_text_step}

-- ---- places

-- each node is put right after the one before, and the first after another node
unfoldable pub put_behind_each : ℕ → List ℕ → Working → Result Working Cause
put_behind_each other [] w = Ok w
put_behind_each other (k ∷ ks) w = after (put_behind_step k other w) (put_behind_each k ks)

-- the end of what a node without children has, or the place after it
abbrev pub end_at_leaf : Forest → ℕ → Point
end_at_leaf f leaf = unwrap_or (end_in f leaf (kind_of f leaf)) (place_behind f leaf)

-- the last node in the tree of a key
abbrev pub last_leaf : Forest → ℕ → ℕ
last_leaf f k = unwrap_or (last_of (keys_within f k)) k

-- the end of what a node holds: that of the last in its tree
abbrev pub end_below : Forest → ℕ → Point
end_below f k = end_at_leaf f (last_leaf f k)

-- the caret goes to the end of the last node, if there is one
abbrev pub caret_by : Option ℕ → Working → Working
caret_by None w = w
caret_by (Some last) w = caret_at (end_below w.forest last) w

-- the caret goes to the end of the last of these nodes
abbrev pub caret_after : List ℕ → Working → Working
caret_after keys w = caret_by (last_of keys) w

-- ---- nodes at a point

-- why a node of the second kind can't go into one of the first, if it can't
abbrev pub no_room_at : Option Kind → Option Kind → Option Cause
no_room_at outer None = None
no_room_at outer (Some inner) = no_room inner outer

-- why some nodes can't go into one of this kind, if one of them can't
abbrev pub no_room_for : Forest → List ℕ → Option Kind → Option Cause
no_room_for f [] outer = None
no_room_for f (k ∷ ks) outer = option_or (no_room_at outer (kind_of f k)) (no_room_for f ks outer)

-- the first node goes where a new one would go, and the others after it
abbrev pub put_all_by : Point → List ℕ → Working → Result Working Cause
put_all_by p [] w = Ok w
put_all_by p (k ∷ ks) w = after (put_by k p p.kind w) (put_behind_each k ks)

-- nodes go to a point, where a text is split that it lies in, and the caret goes after them
unfoldable pub nodes_added : Point → List ℕ → Working → Result Working Cause
nodes_added p keys w =
    after (answer (no_room_for w.forest keys (kind_around w.forest p.key p.kind)) w) (λ v.
    after (opened p v) (λ split.
    after (put_all_by p keys split) (λ put. Ok (caret_after keys put))))

-- ---- blocks at a point of a block

-- a draft in which what is after a point is in a new block, which isn't made for nothing
pub record Tailed : Type 0 where
  pub draft : Working
  pub key : Option ℕ

-- what is after the point in a block goes to a new block like it, if there is anything
abbrev pub tail_made : ℕ → List ℕ → Working → Result Tailed Cause
tail_made block [] w = Ok (record { draft = w; key = None })
tail_made block moved w =
    after (new_like (label_of w.forest block) w) (λ made.
    after (in_turn (moved_to_end w.next_key) moved made) (λ v. Ok (record { draft = v; key = Some w.next_key })))

-- the new block goes after the last of the nodes
abbrev pub tail_put : Option ℕ → Option ℕ → Working → Result Working Cause
tail_put (Some new) (Some last) w = put_behind_step new last w
tail_put _ _ w = Ok w

-- nodes go between a block and the new block with what was after the point; an empty block goes away
unfoldable pub put_around : ℕ → List ℕ → List ℕ → Working → Result Working Cause
put_around block keys moved w =
    after (tail_made block moved w) (λ tailed.
    after (put_behind_each block keys tailed.draft) (λ put.
    after (tail_put tailed.key (last_of keys) put) (λ v. removed_empty block (caret_after keys v))))

-- a block is parted at a point, as where a paragraph is inserted, and the nodes go between
unfoldable pub block_opened : ℕ → Point → List ℕ → Working → Result Working Cause
block_opened block p keys w =
    after (cut_open p w) (λ v.
    after (parted_up (holders_in v.forest block p) (before_point v.forest p p.kind) v) (λ parted.
    put_around block keys (drop parted.index (children_of parted.draft.forest block)) parted.draft))

-- ---- blocks

-- a node, or the nearest above it that is right below the root or a cell
abbrev pub outer_block : Forest → ℕ → ℕ
outer_block f k = unwrap_or (blocks.outer_block f k) k

-- nodes go after another, in which nothing is parted
unfoldable pub put_beyond : ℕ → List ℕ → Working → Result Working Cause
put_beyond outer keys w = after (put_behind_each outer keys w) (λ v. Ok (caret_after keys v))

-- blocks go into a block right below the root or a cell, which is opened for them; else after the outer block
abbrev pub blocks_put : ℕ → ℕ → Point → List ℕ → Working → Result Working Cause
blocks_put outer block p keys w = if outer == block then block_opened block p keys w else put_beyond outer keys w

-- blocks go where the point's block lets them; without a block they go where the point is
abbrev pub blocks_added : Option ℕ → Point → List ℕ → Working → Result Working Cause
blocks_added None p keys w = nodes_added p keys w
blocks_added (Some block) p keys w = blocks_put (outer_block w.forest block) block p keys w

-- ---- a slice

-- whether a value is the name of an inline's type
abbrev pub is_inline_type : Option Data → Bool
is_inline_type (Some (string text)) = passes is_inline (kind_of_type text)
is_inline_type other = false

-- whether a node's type is an inline's
abbrev pub has_inline_type : Data → Bool
has_inline_type d = is_inline_type (get (codes "type") d)

-- whether the first node's type is an inline's
abbrev pub begins_inline : Items → Bool
begins_inline no_items = false
begins_inline (item d ds) = has_inline_type d

-- the kind as whose children the nodes are read
abbrev pub holder : Bool → Kind
holder true = Paragraph
holder false = Root

-- inline nodes go to the point itself, others among the blocks around it
abbrev pub placed_at : Bool → List ℕ → Point → ℕ → Working → Result Working Cause
placed_at true keys p format w = nodes_added p keys w
placed_at false keys p format w = blocks_added (block_of w.forest p.key) p keys w

-- nodes that were made go where the selection's anchor is; without nodes nothing happens
abbrev pub placed : Bool → List ℕ → Working → Result Working Cause
placed inline [] w = Ok w
placed inline keys w = at_anchor (placed_at inline keys) w

-- the nodes of a list are made, and then placed
abbrev pub list_inserted : Bool → Data → Working → Result Working Cause
list_inserted inline list w = after (nodes_read (codes "/nodes") list (holder inline) w) (λ made. placed inline made.keys made.draft)

-- the list of a slice's nodes is inserted; without a list it is no slice
abbrev pub inserted : Option Data → Working → Result Working Cause
inserted (Some (array items)) w = list_inserted (begins_inline items) (array items) w
inserted other w = Err BadCommand

-- the nodes of a slice are inserted at the caret
unfoldable pub insert_step : Data → Working → Result Working Cause
insert_step d w = inserted (get (codes "nodes") d) w

-- ---- the command

-- a value that has to be there
abbrev pub told_if : Option Data → Result Data Cause
told_if None = Err BadCommand
told_if (Some d) = Ok d

-- the JSON value that a text is
abbrev pub json_of : List ℕ → Result Data Cause
json_of text = told_if (read (encode_utf8_all text))

-- what is selected is removed, and then the slice of the text is inserted
unfoldable pub paste_step : List ℕ → Working → Result Working Cause
paste_step text w = after (remove_text_step w) (λ v. after (json_of text) (λ d. insert_step d v))
