-- Deleting a character or a word, and joining lines.
use Rattle.std.specs.Prelude.{ℕ, ◌+◌, ◌==◌, ◌&&◌, ◌||◌, Bool, true, false, not, nat_lt, if◌then◌else◌, List, [], ◌∷◌, length, filter, find, Option, None, Some, Result, Ok}
use Rattle.lx_node.specs.Kinds.{is_element, is_inline}
use Rattle.lx_trees.specs.Siblings.{last_of, names_without}
use Rattle.lx_node.specs.declared.kind.Kind.{Kind}
use Rattle.lx_node.specs.declared.kind.Kind.TheVariants.{Table, Rule}
use Rattle.lx_node.specs.declared.fields.TextFields.{TextFields}
use Rattle.lx_node.specs.declared.cause.Cause.{Cause}
use Rattle.lx_node.specs.declared.cause.Point.{Point}
use Rattle.lx_node.specs.declared.cause.PointKind.{PointKind}
use Rattle.lx_node.specs.declared.cause.PointKind.TheVariants as point
use Rattle.lx_text.specs.Clusters.{cluster_before, cluster_after, word_before, word_after}
use Rattle.lx_select.specs.Rules.{moved_to}
use Rattle.lx_forest.specs.Forest.{Forest}
use Rattle.lx_forest.specs.Lookups.{kind_of, preorder, from}
use Rattle.lx_draft.specs.Working.{Working}
use Rattle.lx_draft.specs.Faults.{after}
use Rattle.lx_draft.specs.Steps.{splice_step, take_step, put_step}
use Rattle.lx_edit.specs.Edits.{pointed, element_point, remove_step}
use Rattle.lx_blocks.specs.Blocks.{is_at, is_line, is_rule_or_table, same_node, block_of, frame_of, leading}
use Rattle.lx_blocks.specs.Places.{children_before, until, nodes_ahead, nodes_behind}
use Rattle.lx_blocks.specs.Ranges.{range_of, is_collapsed, normal_at, characters_at}
use Rattle.lx_caret.specs.Removing.{removed_in, removed_empty}

-- where a cluster or a word begins that ends at an offset of a text, or ends that begins there
abbrev pub Reach : Type 0
Reach = List ℕ → ℕ → ℕ

-- ---- in a text

-- what the reach goes over, back or forward, is cut out of a normal text; another text is removed
abbrev pub erased : Bool → Reach → ℕ → ℕ → Option TextFields → Working → Result Working Cause
erased back reach k at None w = remove_step k w
erased true reach k at (Some text) w = splice_step k (reach text.text at) at [] w
erased false reach k at (Some text) w = splice_step k at (reach text.text at) [] w

-- what the reach goes over, back or forward, is cut out of a node that is a normal text, and any other node is removed
unfoldable pub erase_step : Bool → Reach → ℕ → ℕ → Working → Result Working Cause
erase_step back reach k at w = erased back reach k at (normal_at w.forest k) w

-- a point in a text with characters on that side
abbrev pub has_more : Bool → Forest → Point → PointKind → Bool
has_more back f p point.Element = false
has_more true f p point.Text = nat_lt 0 p.offset
has_more false f p point.Text = nat_lt p.offset (characters_at f p.key)

-- ---- in another leaf of the block

-- a leaf, no element, whose block is this one
abbrev pub is_leaf_in : Forest → ℕ → ℕ → Bool
is_leaf_in f block k = not (is_at is_element f k) && same_node (block_of f k) (Some block)

-- the last leaf of the block before the point, or the first after it
abbrev pub leaf_beside : Bool → Forest → ℕ → Point → Option ℕ
leaf_beside true f block p = last_of (filter (is_leaf_in f block) (nodes_ahead f p))
leaf_beside false f block p = find (is_leaf_in f block) (nodes_behind f p)

-- the end of a text at which a caret comes in: its length going back, and 0 going on
abbrev pub edge : Bool → ℕ → ℕ
edge true length = length
edge false length = 0

-- a leaf loses a cluster or word at the near end, or is removed where it has no characters
unfoldable pub leaf_step : Bool → Reach → ℕ → Working → Result Working Cause
leaf_step back reach k w =
    if characters_at w.forest k == 0 then remove_step k w
    else erase_step back reach k (edge back (characters_at w.forest k)) w

-- ---- joining lines

-- a line, rule or table of the frame
abbrev pub is_stop : Forest → Option ℕ → ℕ → Bool
is_stop f frame k = (is_line f k || is_at is_rule_or_table f k) && same_node (frame_of f k) frame

-- the last line, rule or table of the frame before a block
abbrev pub stop_before : Forest → ℕ → Option ℕ
stop_before f block = last_of (filter (is_stop f (frame_of f block)) (until (Some block) (preorder f)))

-- the first line, rule or table of the frame after a block
abbrev pub stop_behind : Forest → ℕ → Option ℕ
stop_behind f block = find (is_stop f (frame_of f block)) (names_without block (from f block))

-- nodes go, in order, into a node from an index on
unfoldable pub moved_in : ℕ → ℕ → List ℕ → Working → Result Working Cause
moved_in p index [] w = Ok w
moved_in p index (k ∷ ks) w = after (take_step k w) (λ v. after (put_step k p index v) (moved_in p (index + 1) ks))

-- how far a list of children goes to the last inline one
abbrev pub inline_end : Forest → ℕ → ℕ → List ℕ → ℕ
inline_end f so_far here [] = so_far
inline_end f so_far here (k ∷ ks) = inline_end f (if is_at is_inline f k then here + 1 else so_far) (here + 1) ks

-- after the last of the line's inline children that come before the block
abbrev pub inline_place : Forest → ℕ → ℕ → ℕ
inline_place f line block = inline_end f 0 0 (children_before f line block)

-- a block's leading inline children go into the line before it, and so does a caret on the block itself
unfoldable pub line_joined : ℕ → ℕ → Working → Result Working Cause
line_joined line block w =
    let index : ℕ = inline_place w.forest line block in
    after (moved_in line index (leading w.forest block) w)
    (λ v. removed_empty block (pointed (moved_to block (element_point line index)) v))

-- a block joined with what comes before it: a table stays, a rule is removed, and a line gets the block's children
abbrev pub joined_with : Option Kind → ℕ → ℕ → Working → Result Working Cause
joined_with (Some Table) found block w = Ok w
joined_with (Some Rule) found block w = remove_step found w
joined_with other found block w = line_joined found block w

-- a block joined with what comes before it, if there is something
abbrev pub back_to : Option ℕ → ℕ → Working → Result Working Cause
back_to None block w = Ok w
back_to (Some found) block w = joined_with (kind_of w.forest found) found block w

-- a block joined back, with what comes before it in its frame
unfoldable pub join_back_step : ℕ → Working → Result Working Cause
join_back_step block w = back_to (stop_before w.forest block) block w

-- what comes after a block joined back: a table stays, a rule is removed, and the next line is joined
abbrev pub met : Option Kind → ℕ → Working → Result Working Cause
met (Some Table) found w = Ok w
met (Some Rule) found w = remove_step found w
met other found w = join_back_step found w

-- what comes after a block joined back, if there is something
abbrev pub on_to : Option ℕ → Working → Result Working Cause
on_to None w = Ok w
on_to (Some found) w = met (kind_of w.forest found) found w

-- a block joined with what comes before it, or with what comes after it
unfoldable pub join_step : Bool → ℕ → Working → Result Working Cause
join_step true block w = join_back_step block w
join_step false block w = on_to (stop_behind w.forest block) w

-- ---- the commands

-- a leaf loses a character or word, or else the block is joined
abbrev pub leaf_or_line : Bool → Reach → ℕ → Option ℕ → Working → Result Working Cause
leaf_or_line back reach block None w = join_step back block w
leaf_or_line back reach block (Some leaf) w = leaf_step back reach leaf w

-- what is deleted next to a caret in a block
abbrev pub deleted_in : Bool → Reach → Point → Option ℕ → Working → Result Working Cause
deleted_in back reach p None w = Ok w
deleted_in back reach p (Some block) w =
    if has_more back w.forest p p.kind then erase_step back reach p.key p.offset w
    else leaf_or_line back reach block (leaf_beside back w.forest block p) w

-- what is deleted of a selection: next to a caret, or all that a range covers
unfoldable pub delete_step : Bool → Reach → Working → Result Working Cause
delete_step back reach w =
    after (range_of w) (λ r.
    if is_collapsed r then deleted_in back reach r.anchor (block_of w.forest r.anchor.key) w else removed_in r w)

-- where a cluster begins before an offset, or ends after it
abbrev pub cluster_reach : Bool → Reach
cluster_reach true = cluster_before
cluster_reach false = cluster_after

-- where a word begins before an offset, or ends after it
abbrev pub word_reach : Bool → Reach
word_reach true = word_before
word_reach false = word_after

-- the command that deletes a character
unfoldable pub delete_character_step : Bool → Working → Result Working Cause
delete_character_step back w = delete_step back (cluster_reach back) w

-- the command that deletes a word
unfoldable pub delete_word_step : Bool → Working → Result Working Cause
delete_word_step back w = delete_step back (word_reach back) w
