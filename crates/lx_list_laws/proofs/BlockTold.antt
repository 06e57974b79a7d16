-- A block that is made a list comes back as a paragraph, by the two commands.
use Rattle.std.proofs.Common.{◌≡◌, ◌≢◌, ◌∙◌, ℕ, ◌⊎◌, true, false, Some, Ok, refl, ap, arith, inl, inr}
use Rattle.std.proofs.lemmas.Bool.{cases_Bool}
use Rattle.std.proofs.lemmas.Bool.Decides.{eqb_tells}
use Rattle.lx_trees.specs.Siblings.{is_among}
use Rattle.lx_node.specs.declared.kind.ListType.{ListType}
use Rattle.lx_select.specs.declared.selection.Selection.{Selection}
use Rattle.lx_select.specs.declared.selection.Selection.TheVariants.{Range}
use Rattle.lx_select.specs.Selection.{each_point, has_point_on}
use Rattle.lx_select.specs.Rules.{moved_to}
use Rattle.lx_forest.specs.Forest.{Forest}
use Rattle.lx_forest.specs.Lookups.{has, parent_of, children_of, ancestors, is_within, is_attached, IsForest}
use Rattle.lx_forest.proofs.Lookups.{has-child, has-parent_of}
use Rattle.lx_forest.proofs.Up.{attached_above}
use Rattle.lx_forest.proofs.Within.{is_within-self, is_within-parent}
use Rattle.lx_links.proofs.Ordered.{there_within}
use Rattle.lx_draft.specs.Working.{Working}
use Rattle.lx_draft.specs.Selecting.{lies_in}
use Rattle.lx_draft.proofs.Gaps.{child_of, parent_here}
use Rattle.lx_edit.specs.Edits.{element_point}
use Rattle.lx_edit.specs.InTurn.{in_turn}
use Rattle.lx_blocks.specs.Lines.{selected_lines}
use Rattle.lx_blocks.specs.Ranges.{range_of}
use Rattle.lx_caret.specs.Lying.{EachPoint}
use Rattle.lx_caret.proofs.Cleared.{range_lies}
use Rattle.lx_caret.proofs.Fit.{after_tells}
use Rattle.lx_caret.proofs.Lies.{both}
use Rattle.lx_list.specs.Lines.{step_if_there, each_line}
use Rattle.lx_list.specs.Listing.{listed, make_list_step}
use Rattle.lx_list.specs.Dissolving.{dissolved_around, remove_list_step}
use Rattle.lx_list_laws.specs.Levels.{has_points_within}
use Rattle.lx_list_laws.specs.Reading.{IsSoundDraft}
use Rattle.lx_list_laws.specs.Returning.{MadeAndRemoved, StandsInPlaceOf, BlocksComeBack}
use Rattle.lx_list_laws.proofs.BlockBack.{IsListed, IsUndone, item_block, undone, stands_undone, points_undone}
use Rattle.lx_list_laws.proofs.BlockMade.{IsMade, BecameList, became_list, listed_alone}
use Rattle.lx_list_laws.proofs.BlockPoints.{GoesAlong, along_apart, still_off, along_sent}
use Rattle.lx_list_laws.proofs.BlockSelected.{ends_in, step_alone}
use Rattle.lx_list_laws.proofs.LevelPoints.{off_outside}
use Rattle.lx_list_laws.proofs.ReadDissolved.{within_below, block_apart}
use Rattle.lx_list_laws.proofs.ReadListing.{keeps_listed}
use Rattle.lx_list_laws.proofs.ReadSound.{is_free}
use Rattle.lx_list_laws.proofs.StayKeys.{EachKey}
use Rattle.lx_list_laws.proofs.StayUnder.{rise}

within_keys : (f : Forest) (k : ℕ) (s : Selection) → has_points_within f k s ≡ true → EachPoint (λ x. is_within f k x.key ≡ true) s
within_keys f k (Range a b format) e = both (is_within f k a.key) (is_within f k b.key) e
within_keys f k other e = tt

-- what is in the block's tree, but for the block, is in the item's
went_along : (f g : Forest) (type : ListType) (p b list item : ℕ) → IsForest f → parent_of f b ≡ Some p → IsMade f g type p b list item
    → is_within g item item ≡ true
    → (q : ℕ) → is_within f b q ≡ true → q ≢ b → is_within g item q ≡ true
went_along f g type p b list item h up m own q inside other =
    elim (rise f b h (λ x. (x ≡ b) ⊎ (is_within g item x ≡ true)) (inl refl) step (ancestors f q) q refl inside) [
      | inl same ↦ absurd (other same)
      | inr there ↦ there
    ] where
      from_b : (x : ℕ) → parent_of f x ≡ Some b → is_within g item x ≡ true
      from_b x up_x =
          let among : is_among x (children_of g item) ≡ true = ap (is_among x) m.item_holds ∙ child_of f b x h up_x in
          within_below g item x item m.order (parent_here g item x m.order among) own

      step : (x c : ℕ) → parent_of f x ≡ Some c → is_within f b c ≡ true → ((c ≡ b) ⊎ (is_within g item c ≡ true)) → (x ≡ b) ⊎ (is_within g item x ≡ true)
      step x c up_x higher so = elim (eqb_tells c b) [
        | inl same ↦ inr (from_b x (up_x ∙ ap (λ n. Some n) same.1))
        | inr away ↦ elim so [
          | inl same ↦ absurd (away.1 same)
          | inr there ↦
              let not_p : c ≢ p = λ same. absurd (grind (arith, higher, ap (is_within f b) same ∙ is_within-parent f b p h up)) in
              let holds : children_of g c ≡ children_of f c = m.others c (has-parent_of f x c up_x) not_p away.1 in
              let among : is_among x (children_of g c) ≡ true = ap (is_among x) holds ∙ child_of f c x h up_x in
              inr (within_below g item x c m.order (parent_here g c x m.order among) there)
        ]
      ]

module _ (type : ListType) (p b : ℕ) (w v u : Working) (m : MadeAndRemoved type p b w v u) where
  abbrev f : Forest
  f = w.forest

  abbrev g : Forest
  g = v.forest

  s : IsSoundDraft w
  s = record { ready = m.ready; held = m.held }

  h : IsForest f
  h = m.ready.in_order

  step : listed type b w ≡ Ok v
  unfolding make_list_step
  step =
      step_alone (listed type) b w v
      (record { order = h; held = m.held; there = m.becomes.there; block = m.becomes.is_block; inline = m.becomes.inline })
      (within_keys f b w.selection m.inside) m.made

  became : BecameList w v type p b
  became = became_list type p b w v s m.becomes.up (listed_alone type p b w v m.becomes step)

  sound : IsSoundDraft v
  sound = (keeps_listed type b w v s (block_apart f b m.becomes.is_block) step).stays.sound

  item_up_now : parent_of g became.item ≡ Some became.list
  item_up_now =
      parent_here g became.list became.item became.is.order (ap (is_among became.item) became.is.list_holds ∙ grind (arith, eqb_tells became.item became.item))

  own : is_within g became.item became.item ≡ true
  own = is_within-self g became.item ∙ has-child g became.item became.list item_up_now

  keys : EachKey (λ q. is_within g became.item q ≡ true) v
  keys =
      became.keys (λ q. is_within f b q ≡ true) (λ q. is_within g became.item q ≡ true) (λ inside. own)
      (λ q other inside. went_along f g type p b became.list became.item h m.becomes.up became.is own q inside other) (within_keys f b w.selection m.inside)

  -- what remove-list needs of the range says that the item is in the tree
  there : is_attached g became.item ≡ true
  unfolding remove_list_step each_line
  there =
      let range = after_tells (range_of v) (λ r. in_turn (step_if_there dissolved_around) (selected_lines v.forest r) v) u m.removed in
      let lies = range_lies v range.0 range.1.0 in
      attached_above g became.item range.0.anchor.key became.is.order (both (is_attached g range.0.anchor.key) (lies_in g range.0.anchor) lies.anchor).0
      (ends_in (λ q. is_within g became.item q ≡ true) v range.0 range.1.0 keys).0

  between : IsListed f g type p b became.list became.item
  between = record { h = h; held = m.held; becomes = m.becomes; made = became.is; still = sound.held; there = there }

  back : IsUndone became.list became.item v u
  unfolding remove_list_step
  back =
      undone f type p b became.list became.item v u between
      (step_alone dissolved_around became.item v u (item_block f g type p b became.list became.item between) keys m.removed)

  stands : StandsInPlaceOf f u.forest p b v.next_key
  stands = stands_undone f type p b became.list became.item v u sound between back

  -- ---- points

  off_parent : has_point_on p w.selection ≡ false
  off_parent = off_outside f b p w.selection m.inside (is_within-parent f b p h m.becomes.up)

  off_new : (q : ℕ) → has q f ≡ false → has_point_on q w.selection ≡ false
  off_new q free = off_outside f b q w.selection m.inside (elim (cases_Bool (is_within f b q)) [
    | inl inside ↦ absurd (grind (arith, free, there_within f b q inside))
    | inr out ↦ out
  ])

  off_item : has_point_on became.item w.selection ≡ false
  off_item = off_new became.item became.is.new_item

  went : GoesAlong b became.item w.selection v.selection
  went = became.points w.selection refl off_parent (off_new became.list became.is.new_list) off_item

  pub points_between : has_point_on b w.selection ≡ false → v.selection ≡ w.selection
  points_between off = along_apart b became.item w.selection v.selection went off off_item

  -- where no point was, none is then, but on the item
  off_still : (q : ℕ) → q ≢ became.item → has_point_on q w.selection ≡ false → has_point_on q v.selection ≡ false
  off_still q other off = still_off b became.item q w.selection v.selection went other off_item off

  points_back : u.selection ≡ each_point (moved_to b (element_point v.next_key 0)) w.selection
  points_back =
      let n : ℕ = v.next_key in
      let not_p : p ≢ became.item =
      λ same. absurd (grind (arith, ap (λ k. has k f) same, became.is.new_item, has-parent_of f b p m.becomes.up)) in
      let not_n : n ≢ became.item =
      λ same. absurd (grind (arith, ap (λ k. has k g) same, is_free v sound, has-child g became.item became.list item_up_now)) in
      points_undone f type p b became.list became.item v.selection v u sound between back refl (off_still p not_p off_parent)
      (off_still became.list became.is.two (off_new became.list became.is.new_list)) (off_still n not_n (off_new n stands.new))
      ∙ along_sent b became.item (element_point n 0) w.selection v.selection went off_item

  pub comes_back : (n : ℕ) × StandsInPlaceOf w.forest u.forest p b n × (u.selection ≡ each_point (moved_to b (element_point n 0)) w.selection)
  comes_back = (v.next_key, stands, points_back)

pub told-blocks : BlocksComeBack
told-blocks = record {
  back = λ type p b w v u m. comes_back type p b w v u m;
  between = λ type p b w v u m off. points_between type p b w v u m off;
}
