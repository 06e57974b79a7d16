-- Inserting a paragraph: a block cut in two at the caret.
use Rattle.std.specs.Prelude.{ℕ, ◌+◌, ◌==◌, ◌&&◌, false, nat_lt, if◌then◌else◌, List, [], ◌∷◌, drop, Option, None, Some, Result, Ok, Err}
use Rattle.std.specs.List.{list_all}
use Rattle.lx_node.specs.Kinds.{is_inline, is_link, is_item, has_characters}
use Rattle.lx_node.specs.Plain.{plain_element}
use Rattle.lx_node.specs.declared.kind.Kind.{Kind}
use Rattle.lx_node.specs.declared.kind.Kind.TheVariants.{Paragraph, Heading, Quote, Item}
use Rattle.lx_node.specs.declared.fields.Fields.{Fields}
use Rattle.lx_node.specs.declared.fields.Fields.TheVariants as fields
use Rattle.lx_node.specs.declared.fields.Extra.{Extra}
use Rattle.lx_node.specs.declared.fields.Extra.TheVariants as extra
use Rattle.lx_node.specs.declared.fields.Direction.TheVariants as direction
use Rattle.lx_node.specs.declared.fields.Align.TheVariants as align
use Rattle.lx_node.specs.declared.cause.Cause.{Cause}
use Rattle.lx_node.specs.declared.cause.Point.{Point}
use Rattle.lx_node.specs.declared.cause.PointKind.{PointKind}
use Rattle.lx_node.specs.declared.cause.PointKind.TheVariants as point
use Rattle.lx_select.specs.declared.selection.Selection.{Selection}
use Rattle.lx_select.specs.declared.selection.Selection.TheVariants.{Range}
use Rattle.lx_forest.specs.Forest.{Forest, Label}
use Rattle.lx_forest.specs.Lookups.{label_of, index_of, size_of, children_of, ancestors}
use Rattle.lx_draft.specs.Working.{Working}
use Rattle.lx_draft.specs.Faults.{after}
use Rattle.lx_draft.specs.Steps.{new_step}
use Rattle.lx_edit.specs.Edits.{text_point, element_point, moved_to_end}
use Rattle.lx_edit.specs.Texts.{split_step}
use Rattle.lx_draft.specs.Beside.{put_behind_step}
use Rattle.lx_edit.specs.InTurn.{in_turn}
use Rattle.lx_blocks.specs.Blocks.{is_at, block_of}
use Rattle.lx_blocks.specs.Making.{new_like}
use Rattle.lx_blocks.specs.Places.{until}
use Rattle.lx_blocks.specs.Ranges.{at_anchor, caret_at}
use Rattle.lx_caret.specs.Adding.{add_step, is_inside, newest}
use Rattle.lx_caret.specs.Removing.{remove_text_step}

-- ---- the block's children after the caret

-- the index of a place at a text: before it at offset 0, else after it
abbrev pub place_of : Option ℕ → ℕ → ℕ
place_of None offset = 0
place_of (Some index) offset = if offset == 0 then index else index + 1

-- how many children of what holds the point come before it
abbrev pub before_point : Forest → Point → PointKind → ℕ
before_point f p point.Text = place_of (index_of f p.key) p.offset
before_point f p point.Element = p.offset

-- the keys from what holds the point up to the block, without it
abbrev pub holders : Forest → Point → PointKind → List ℕ
holders f p point.Text = ancestors f p.key
holders f p point.Element = p.key ∷ ancestors f p.key

-- the keys from what holds the point up to a block, without the block
abbrev pub holders_in : Forest → ℕ → Point → List ℕ
holders_in f block p = until (Some block) (holders f p p.kind)

-- a text that holds the point strictly inside is split, whatever its mode
abbrev pub cut_open : Point → Working → Result Working Cause
cut_open p w = if is_inside w.forest p p.kind then split_step p.key (p.offset ∷ []) w else Ok w

-- the children of a node from an index on go into a new node like it, after it
unfoldable pub parted_at : ℕ → ℕ → Working → Result Working Cause
parted_at k index w =
    after (new_like (label_of w.forest k) w) (λ made.
    after (put_behind_step w.next_key k made) (in_turn (moved_to_end w.next_key) (drop index (children_of w.forest k))))

-- a link with children on both sides of an index parted into two
unfoldable pub link_parted : ℕ → ℕ → Working → Result Working Cause
link_parted k index w =
    if is_at is_link w.forest k && (nat_lt 0 index && nat_lt index (size_of w.forest k)) then parted_at k index w else Ok w

-- a draft so parted: the block's children from this index on come after the point
pub record Parted : Type 0 where
  pub draft : Working
  pub index : ℕ

-- each node up to the block parted, the innermost first
unfoldable pub parted_up : List ℕ → ℕ → Working → Result Parted Cause
parted_up [] index w = Ok (record { draft = w; index = index })
parted_up (k ∷ above) index w = after (link_parted k index w) (λ v. parted_up above (place_of (index_of v.forest k) index) v)

-- ---- the new block

-- what an item after another one has: the number 1, and a check mark that isn't set if that one has any
abbrev pub item_extra : Extra → Extra
item_extra (extra.Item value (Some checked)) = extra.Item 1 (Some false)
item_extra other = extra.Item 1 None

-- all fields of an item after another one
abbrev pub item_like : Option Fields → Fields
item_like (Some (fields.Element element)) =
    fields.Element
    (record { direction = direction.Unset; format = align.Unset; indent = 0; text_format = 0; text_style = []; extra = item_extra element.extra })
item_like other =
    fields.Element (record { direction = direction.Unset; format = align.Unset; indent = 0; text_format = 0; text_style = []; extra = extra.Item 1 None })

-- the kind and the fields of a block
pub record Block : Type 0 where
  pub kind : Kind
  pub fields : Fields

-- a block of which nothing is set
abbrev pub plain : Kind → Block
plain kind = record { kind = kind; fields = plain_element }

-- a block like another
abbrev pub like : Label → Block
like l = record { kind = l.kind; fields = l.fields }

-- the block after another, by that one's kind and by what goes into the new one
abbrev pub next_of_kind : Forest → Label → List ℕ → Kind → Block
next_of_kind f l [] (Heading level) = plain Paragraph
next_of_kind f l moved Quote = plain (if list_all (is_at is_inline f) moved then Paragraph else Quote)
next_of_kind f l moved Item = record { kind = Item; fields = item_like (Some l.fields) }
next_of_kind f l moved other = like l

-- the block made that comes after another
abbrev pub new_next : Forest → Option Label → List ℕ → Working → Result Working Cause
new_next f None moved w = Ok w
new_next f (Some l) moved w = let b : Block = next_of_kind f l moved l.kind in new_step b.kind b.fields w

-- ---- the command

-- where a block starts into which these nodes went
abbrev pub start_of_first : Forest → ℕ → List ℕ → Point
start_of_first f block [] = element_point block 0
start_of_first f block (k ∷ ks) = if is_at has_characters f k then text_point k 0 else element_point block 0

-- nodes go into a new block after one, and the caret to its start
unfoldable pub moved_on : ℕ → List ℕ → Working → Result Working Cause
moved_on block moved w =
    after (new_next w.forest (label_of w.forest block) moved w) (λ made.
    after (put_behind_step w.next_key block made) (λ put.
    after (in_turn (moved_to_end w.next_key) moved put) (λ v. Ok (caret_at (start_of_first v.forest w.next_key moved) v))))

-- a block cut in two at a point
unfoldable pub block_cut : ℕ → Point → Working → Result Working Cause
block_cut block p w =
    after (cut_open p w) (λ v.
    after (parted_up (holders_in v.forest block p) (before_point v.forest p p.kind) v) (λ parted.
    moved_on block (drop parted.index (children_of parted.draft.forest block)) parted.draft))

-- a new paragraph at a point, and the caret in it
unfoldable pub paragraph_added : Point → Working → Result Working Cause
paragraph_added p w = after (add_step p Paragraph plain_element w) (λ v. Ok (caret_at (element_point (newest v) 0) v))

-- the block of the caret, where it is an item without children
abbrev pub if_empty_item : Forest → Option ℕ → Option ℕ
if_empty_item f None = None
if_empty_item f (Some b) = if is_at is_item f b && (size_of f b == 0) then Some b else None

-- the block of a range's anchor
abbrev pub block_in : Forest → Selection → Option ℕ
block_in f (Range a b format) = block_of f a.key
block_in f other = None

-- the item without children in which the caret is
abbrev pub empty_item : Working → Option ℕ
empty_item w = if_empty_item w.forest (block_in w.forest w.selection)

-- what is done at a point: nothing in an empty item, a new paragraph where there is no block, and else the block cut in
-- two
abbrev pub paragraph_at : Option ℕ → Option ℕ → Point → Working → Result Working Cause
paragraph_at (Some item) block p w = Ok w
paragraph_at None None p w = paragraph_added p w
paragraph_at None (Some block) p w = block_cut block p w

-- what is left to the list of an empty item, and the draft
pub record Broken : Type 0 where
  pub draft : Working
  pub item : Option ℕ

-- the command that inserts a paragraph, up to what is left to the list
unfoldable pub insert_paragraph_step : Working → Result Broken Cause
insert_paragraph_step w =
    after (remove_text_step w) (λ v.
    after (at_anchor (λ p format. paragraph_at (empty_item v) (block_of v.forest p.key) p) v) (λ u.
    Ok (record { draft = u; item = empty_item v })))

-- the draft that an inserted paragraph leaves
abbrev pub draft_left : Result Broken Cause → Result Working Cause
draft_left (Ok broken) = Ok broken.draft
draft_left (Err cause) = Err cause
