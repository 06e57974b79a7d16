-- A block that is made an item, and comes back as a paragraph.
use Rattle.std.specs.Prelude.{ℕ, ◌≡◌, ◌≢◌, true, false, [], ◌∷◌, Some, Ok}
use Rattle.std.specs.List.{list_all}
use Rattle.lx_node.specs.Kinds.{is_inline, is_item, is_text_block, may_hold}
use Rattle.lx_node.specs.Plain.{plain_element}
use Rattle.lx_node.specs.declared.kind.Kind.TheVariants.{Paragraph}
use Rattle.lx_node.specs.declared.kind.ListType.{ListType}
use Rattle.lx_select.specs.Selection.{each_point, has_point_on}
use Rattle.lx_select.specs.Rules.{moved_to}
use Rattle.lx_forest.specs.Forest.{Forest}
use Rattle.lx_forest.specs.Lookups.{has, label_of, parent_of, children_of, previous_of, is_attached, IsHeld}
use Rattle.lx_draft.specs.Working.{Working}
use Rattle.lx_draft.specs.Covering.{IsReady}
use Rattle.lx_edit.specs.Edits.{element_point}
use Rattle.lx_edit_laws.specs.Reading.{in_place_of}
use Rattle.lx_blocks.specs.Blocks.{is_at}
use Rattle.lx_list.specs.Listing.{is_list_of, make_list_step}
use Rattle.lx_list.specs.Dissolving.{remove_list_step}
use Rattle.lx_list_laws.specs.Levels.{has_points_within}

-- a paragraph, a heading, or a quote below p, in the root's tree, with inline children alone and no list of the type right
-- before it: it becomes the one item of a new list
pub record BecomesList (type : ListType) (f : Forest) (p block : ℕ) : Type 0 where
  pub there : is_attached f block ≡ true
  pub up : parent_of f block ≡ Some p
  pub is_block : is_at is_text_block f block ≡ true
  pub no_item : is_at is_item f block ≡ false
  pub inline : list_all (is_at is_inline f) (children_of f block) ≡ true
  pub alone : (list : ℕ) → previous_of f block ≡ Some list → is_at (is_list_of type) f list ≡ false

-- a block with both points of the range in it was made a list, which left v, and the list was removed, which left u
pub record MadeAndRemoved (type : ListType) (p block : ℕ) (w v u : Working) : Type 0 where
  pub ready : IsReady w
  pub held : IsHeld may_hold w.forest
  pub becomes : BecomesList type w.forest p block
  pub inside : has_points_within w.forest block w.selection ≡ true
  pub made : make_list_step type w ≡ Ok v
  pub removed : remove_list_step v ≡ Ok u

-- a new paragraph n stands in the place of a block below p, with its children in their order; every other node has the
-- fields and the children that it had
pub record StandsInPlaceOf (f g : Forest) (p block n : ℕ) : Type 0 where
  pub new : has n f ≡ false
  pub paragraph : label_of g n ≡ Some (record { key = n; kind = Paragraph; fields = plain_element })
  pub place : children_of g p ≡ in_place_of block (n ∷ []) (children_of f p)
  pub children : children_of g n ≡ children_of f block
  pub labels : (q : ℕ) → has q f ≡ true → label_of g q ≡ label_of f q
  pub others : (q : ℕ) → has q f ≡ true → q ≢ p → q ≢ block → children_of g q ≡ children_of f q

-- a block that is made a list comes back as a paragraph, in its place, when the list is removed
pub record BlocksComeBack : Type 0 where
  -- with its children, and nothing else changes; points on the block go to the start of the paragraph, and all others stay
  pub back : (type : ListType) (p block : ℕ) (w v u : Working) → MadeAndRemoved type p block w v u
      → (n : ℕ) × StandsInPlaceOf w.forest u.forest p block n × (u.selection ≡ each_point (moved_to block (element_point n 0)) w.selection)
  -- where no point is on the block itself, all are where they were between the two commands, too
  pub between : (type : ListType) (p block : ℕ) (w v u : Working) → MadeAndRemoved type p block w v u → has_point_on block w.selection ≡ false
      → v.selection ≡ w.selection
