-- What holds of each step of a draft, and of one after another, holds of what list commands are made of. All of them may put
-- any key.
use Rattle.std.proofs.Common.{◌≡◌, ℕ, ◌+◌, ◌==◌, ◌&&◌, Bool, false, cond, not, List, [], ◌∷◌, Option, None, Some, Result, Ok}
use Rattle.std.specs.Prelude.{is_none, filter}
use Rattle.std.specs.List.{list_all}
use Rattle.lx_trees.specs.Siblings.{is_named}
use Rattle.lx_node.specs.Kinds.{is_inline, is_item, is_list}
use Rattle.lx_node.specs.Plain.{plain_element}
use Rattle.lx_node.specs.declared.kind.Kind.{Kind}
use Rattle.lx_node.specs.declared.kind.Kind.TheVariants.{Paragraph, Item, List as ListKind}
use Rattle.lx_node.specs.declared.kind.ListType.{ListType}
use Rattle.lx_node.specs.declared.kind.ListType.TheVariants.{Bullet, Number, Check}
use Rattle.lx_node.specs.declared.fields.Fields.{Fields}
use Rattle.lx_node.specs.declared.fields.ElementFields.{ElementFields}
use Rattle.lx_node.specs.declared.cause.Cause.{Cause}
use Rattle.lx_select.specs.Rules.{moved_to}
use Rattle.lx_forest.specs.Forest.{Label}
use Rattle.lx_forest.specs.Lookups.{label_of, fields_of, parent_of, children_of, size_of, previous_of, next_of, first_child, keys_within, preorder, is_attached}
use Rattle.lx_draft.specs.Working.{Working}
use Rattle.lx_draft.specs.Faults.{after}
use Rattle.lx_draft.specs.Steps.{new_step, put_step, take_step}
use Rattle.lx_draft.specs.Beside.{put_before_step, put_behind_step}
use Rattle.lx_edit.specs.InTurn.{in_turn}
use Rattle.lx_edit.specs.Edits.{pointed, element_point, moved_before, moved_behind, moved_to_end, remove_step, children_step}
use Rattle.lx_edit.proofs.Paths.{Leads, from_, allowed, if_, points, every, put_before_path, put_behind_path, moved_before_path, moved_behind_path, moved_to_end_path, remove_path, children_path}
use Rattle.lx_blocks.specs.Blocks.{is_at, is_line, block_of}
use Rattle.lx_blocks.specs.Lines.{selected_lines}
use Rattle.lx_blocks.specs.Making.{new_like}
use Rattle.lx_blocks.specs.Ranges.{caret_at, range_of}
use Rattle.lx_blocks.proofs.Paths.{IsWay, stays, either, chained, by_read}
use Rattle.lx_list.specs.Making.{with_new_node, with_like, list_fields, item_fields, unchecked, set_changed, change_step, with_extra_changed, with_number, checked_as, with_indent, number_item, check_item}
use Rattle.lx_list.specs.Lines.{step_if_there, each_line}
use Rattle.lx_list.specs.Listing.{is_list_of, item_made, list_made, itemized, has_mark, remarked, retyped_with, retyped, retyped_above, listed, make_list_step}
use Rattle.lx_list.specs.Dissolving.{emptied_into, paragraph_made, dissolved, outermost_above, dissolved_if, dissolved_around, remove_list_step}
use Rattle.lx_list.specs.Nesting.{nested_in, is_nesting}
use Rattle.lx_list.specs.Indenting.{wrapped_like, wrapped_in, taken_from, moved_between, moved_to_front, nested_by, deeper, indented, indent_step}
use Rattle.lx_list.specs.Outdenting.{items_behind, parted_like, parted, moved_out, gone_if_empty, out_of, out_from, out_by, shallower, outdented, outdent_step}
use Rattle.lx_list.specs.Ending.{rest_parted, paragraph_behind_like, paragraph_behind, list_ended_by, ended_in, paragraph_in_item_step}
use Rattle.lx_list.specs.Checking.{item_fault, set_checked_step, is_checked, toggled, toggle_checked_step}
use Rattle.lx_list.specs.Numbering.{list_start, numbered_from, list_numbered, number_step}

module _ {D : Working → Type 0} {R : Working → Working → Type 0} (way : IsWay D R) where
  -- ---- new nodes, fields, and places

  with_new_path : (kind : Kind) (fields : Fields) (next : ℕ → Working → Result Working Cause) → ((k : ℕ) → Leads D R (next k))
      → Leads D R (with_new_node kind fields next)
  with_new_path kind fields next leads = chained way (new_step kind fields) (λ w. next w.next_key) (way.new kind fields) (λ w. leads w.next_key)

  new_like_path : (l : Option Label) → Leads D R (new_like l)
  new_like_path None w v r e = stays way w v r e
  new_like_path (Some l) w v r e = way.new l.kind l.fields w v r e

  with_like_path : (l : Option Label) (next : ℕ → Working → Result Working Cause) → ((k : ℕ) → Leads D R (next k)) → Leads D R (with_like l next)
  with_like_path l next leads = chained way (new_like l) (λ w. next w.next_key) (new_like_path l) (λ w. leads w.next_key)

  change_path : (change : ElementFields → ElementFields) (k : ℕ) → Leads D R (change_step change k)
  unfolding change_step
  change_path change k w v r e = by_fields (fields_of w.forest k) e where
    by_fields : (o : Option Fields) → set_changed change k o w ≡ Ok v → R w v
    by_fields None e = stays way w v r e
    by_fields (Some fields) e = way.set k _ w v r e

  number_item_path : (n k : ℕ) → Leads D R (number_item n k)
  unfolding number_item
  number_item_path n k = change_path (with_extra_changed (with_number n)) k

  check_item_path : (check : Option Bool) (k : ℕ) → Leads D R (check_item check k)
  unfolding check_item
  check_item_path check k = change_path (with_extra_changed (checked_as check)) k

  before : (k other : ℕ) → Leads D R (put_before_step k other)
  before k other = put_before_path way k other tt

  behind : (k other : ℕ) → Leads D R (put_behind_step k other)
  behind k other = put_behind_path way k other tt

  into : (k parent index : ℕ) → Leads D R (put_step k parent index)
  into k parent index w v r e = way.put k parent index w v tt r e

  -- at a place that is found in the draft
  into_at : (k parent : ℕ) (index : Working → ℕ) → Leads D R (λ w. put_step k parent (index w) w)
  into_at k parent index w v r e = way.put k parent (index w) w v tt r e

  to_end : (parent k : ℕ) → Leads D R (moved_to_end parent k)
  to_end parent k = moved_to_end_path way parent k tt

  children_go : (from to : ℕ) → Leads D R (children_step from to)
  children_go from to w v r e = children_path way from to w v r (λ k among. tt) e

  removes : (k : ℕ) → Leads D R (remove_step k)
  removes k = remove_path way k

  -- a step for each selected line
  if_there_path : (step : ℕ → Working → Result Working Cause) → ((k : ℕ) → Leads D R (step k)) → (k : ℕ) → Leads D R (step_if_there step k)
  if_there_path step leads k w v r e = if_ way (is_attached w.forest k) (step k) w v r (leads k) e

  pub each_line_path : (step : ℕ → Working → Result Working Cause) → ((k : ℕ) → Leads D R (step k)) → Leads D R (each_line step)
  unfolding each_line
  each_line_path step leads w v r e =
      by_read way w v (range_of w) (λ range u. in_turn (step_if_there step) (selected_lines w.forest range) u)
      (λ range f. every way (step_if_there step) (selected_lines w.forest range) (if_there_path step leads) w v r f) e

  -- ---- lists

  item_made_path : (type : ListType) (line list : ℕ) → Leads D R (item_made type line list)
  unfolding item_made
  item_made_path type line list =
      with_new_path Item (item_fields (unchecked type))
      (λ item v. after (put_step item list (size_of v.forest list) v) (λ u. after (children_step line item u) (remove_step line))) (λ item.
      chained way (λ v. put_step item list (size_of v.forest list) v) (λ v u. after (children_step line item u) (remove_step line))
      (into_at item list (λ v. size_of v.forest list)) (λ v.
      chained way (children_step line item) (λ u. remove_step line) (children_go line item) (λ u. removes line)))

  list_made_path : (type : ListType) (line : ℕ) → Leads D R (list_made type line)
  unfolding list_made
  list_made_path type line =
      with_new_path (ListKind type) list_fields (λ list v. after (put_before_step list line v) (item_made type line list)) (λ list.
      chained way (put_before_step list line) (λ v. item_made type line list) (before list line) (λ v. item_made_path type line list))

  itemized_path : (type : ListType) (line : ℕ) (o : Option ℕ) → Leads D R (itemized type line o)
  itemized_path type line None w v r e = list_made_path type line w v r e
  itemized_path type line (Some list) w v r e =
      either way (is_at (is_list_of type) w.forest list) (item_made type line list) (list_made type line) (item_made_path type line list)
      (list_made_path type line) w v r e

  remarked_path : (type : ListType) (item : ℕ) → Leads D R (remarked type item)
  remarked_path Check item w v r e =
      either way (has_mark (fields_of w.forest item)) (λ u. Ok u) (check_item (Some false) item) (stays way) (check_item_path (Some false) item) w v r e
  remarked_path Bullet item w v r e = check_item_path None item w v r e
  remarked_path Number item w v r e = check_item_path None item w v r e

  retyped_with_path : (type : ListType) (list : ℕ) (o : Option Fields) → Leads D R (retyped_with type list o)
  retyped_with_path type list None = stays way
  retyped_with_path type list (Some fields) =
      let rest : ℕ → Working → Result Working Cause = λ new left. in_turn (remarked type) (children_of left.forest new) left in
      with_new_path (ListKind type) fields
      (λ new v. after (put_before_step new list v) (λ put. after (children_step list new put) (λ moved. after (remove_step list moved) (rest new)))) (λ new.
      chained way (put_before_step new list) (λ v put. after (children_step list new put) (λ moved. after (remove_step list moved) (rest new)))
      (before new list) (λ v.
      chained way (children_step list new) (λ u moved. after (remove_step list moved) (rest new)) (children_go list new) (λ u.
      chained way (remove_step list) (λ x. rest new) (removes list)
      (λ x y z r e. every way (remarked type) (children_of y.forest new) (remarked_path type) y z r e))))

  retyped_path : (type : ListType) (list : ℕ) → Leads D R (retyped type list)
  unfolding retyped
  retyped_path type list w v r e = retyped_with_path type list (fields_of w.forest list) w v r e

  retyped_above_path : (type : ListType) (o : Option ℕ) → Leads D R (retyped_above type o)
  retyped_above_path type None w v r e = stays way w v r e
  retyped_above_path type (Some list) w v r e =
      either way (is_at (is_list_of type) w.forest list) (λ u. Ok u) (retyped type list) (stays way) (retyped_path type list) w v r e

  listed_path : (type : ListType) (line : ℕ) → Leads D R (listed type line)
  unfolding listed
  listed_path type line w v r e =
      either way (is_at is_item w.forest line) (retyped_above type (parent_of w.forest line))
      (λ u. cond (list_all (is_at is_inline w.forest) (children_of w.forest line)) (itemized type line (previous_of w.forest line) u) (Ok u))
      (retyped_above_path type (parent_of w.forest line))
      (either way (list_all (is_at is_inline w.forest) (children_of w.forest line)) (itemized type line (previous_of w.forest line)) (λ u. Ok u)
      (itemized_path type line (previous_of w.forest line)) (stays way))
      w v r e

  pub make_list_path : (type : ListType) → Leads D R (make_list_step type)
  unfolding make_list_step
  make_list_path type = each_line_path (listed type) (listed_path type)

  -- ---- paragraphs

  emptied_into_path : (paragraph line : ℕ) → Leads D R (emptied_into paragraph line)
  unfolding emptied_into
  emptied_into_path paragraph line w v r e =
      from_ way w (pointed (moved_to line (element_point paragraph 0)) w) v
      (in_turn (moved_to_end paragraph) (filter (is_at is_inline w.forest) (children_of w.forest line)))
      (points way (moved_to line (element_point paragraph 0)) w r)
      (every way (moved_to_end paragraph) (filter (is_at is_inline w.forest) (children_of w.forest line)) (to_end paragraph)) e

  paragraph_made_path : (list line : ℕ) → Leads D R (paragraph_made list line)
  unfolding paragraph_made
  paragraph_made_path list line =
      with_new_path Paragraph plain_element (λ paragraph v. after (put_before_step paragraph list v) (emptied_into paragraph line)) (λ paragraph.
      chained way (put_before_step paragraph list) (λ v. emptied_into paragraph line) (before paragraph list) (λ v. emptied_into_path paragraph line))

  dissolved_path : (list : ℕ) → Leads D R (dissolved list)
  unfolding dissolved
  dissolved_path list w v r e =
      chained way (in_turn (paragraph_made list) (filter (is_line w.forest) (keys_within w.forest list))) (λ u. remove_step list)
      (every way (paragraph_made list) (filter (is_line w.forest) (keys_within w.forest list)) (paragraph_made_path list)) (λ u. removes list) w v r e

  dissolved_if_path : (o : Option ℕ) → Leads D R (dissolved_if o)
  dissolved_if_path None = stays way
  dissolved_if_path (Some list) = dissolved_path list

  dissolved_around_path : (line : ℕ) → Leads D R (dissolved_around line)
  unfolding dissolved_around
  dissolved_around_path line w v r e = dissolved_if_path (outermost_above w.forest line) w v r e

  pub remove_list_path : Leads D R remove_list_step
  unfolding remove_list_step
  remove_list_path = each_line_path dissolved_around dissolved_around_path

  -- ---- deeper

  wrapped_like_path : (x : ℕ) (like : Option Label) → Leads D R (wrapped_like x like)
  wrapped_like_path x like =
      with_new_path Item (item_fields None)
      (λ outer. with_like like (λ inner u. after (put_before_step outer x u) (λ put. after (put_step inner outer 0 put) (moved_to_end inner x)))) (λ outer.
      with_like_path like (λ inner u. after (put_before_step outer x u) (λ put. after (put_step inner outer 0 put) (moved_to_end inner x))) (λ inner.
      chained way (put_before_step outer x) (λ u put. after (put_step inner outer 0 put) (moved_to_end inner x)) (before outer x) (λ u.
      chained way (put_step inner outer 0) (λ put. moved_to_end inner x) (into inner outer 0) (λ put. to_end inner x))))

  wrapped_in_path : (x : ℕ) (o : Option ℕ) → Leads D R (wrapped_in x o)
  wrapped_in_path x None w v r e = stays way w v r e
  wrapped_in_path x (Some list) w v r e = wrapped_like_path x (label_of w.forest list) w v r e

  taken_from_path : (list further : ℕ) (o : Option ℕ) → Leads D R (taken_from list further o)
  taken_from_path list further None = stays way
  taken_from_path list further (Some holder) =
      chained way (children_step further list) (λ w. remove_step holder) (children_go further list) (λ w. removes holder)

  moved_between_path : (list further x : ℕ) → Leads D R (moved_between list further x)
  unfolding moved_between
  moved_between_path list further x =
      chained way (moved_to_end list x) (λ w v. taken_from list further (parent_of v.forest further) v) (to_end list x)
      (λ w v u r e. taken_from_path list further (parent_of v.forest further) v u r e)

  moved_to_front_path : (list x : ℕ) → Leads D R (moved_to_front list x)
  unfolding moved_to_front
  moved_to_front_path list x = chained way (take_step x) (λ w. put_step x list 0) (λ w v r e. way.take x w v r e) (λ w. into x list 0)

  nested_by_path : (o p : Option ℕ) (x : ℕ) → Leads D R (nested_by o p x)
  nested_by_path (Some list) (Some further) x w v r e = moved_between_path list further x w v r e
  nested_by_path (Some list) None x w v r e = to_end list x w v r e
  nested_by_path None (Some list) x w v r e = moved_to_front_path list x w v r e
  nested_by_path None None x w v r e = wrapped_in_path x (parent_of w.forest x) w v r e

  indented_path : (x : ℕ) → Leads D R (indented x)
  unfolding indented
  indented_path x w v r e =
      either way (is_at is_item w.forest x) (nested_by (nested_in w.forest (previous_of w.forest x)) (nested_in w.forest (next_of w.forest x)) x)
      (change_step (with_indent deeper) x)
      (nested_by_path (nested_in w.forest (previous_of w.forest x)) (nested_in w.forest (next_of w.forest x)) x) (change_path (with_indent deeper) x) w v r e

  pub indent_path : Leads D R indent_step
  unfolding indent_step
  indent_path = each_line_path indented indented_path

  -- ---- up

  parted_like_path : (x : ℕ) (items : List ℕ) (outer : ℕ) (like : Option Label) → Leads D R (parted_like x items outer like)
  parted_like_path x items outer like =
      with_new_path Item (item_fields None)
      (λ item. with_like like
      (λ inner u. after (put_step inner item 0 u)
      (λ put. after (in_turn (moved_to_end inner) items put) (λ moved. after (put_behind_step item outer moved) (moved_behind outer x))))) (λ item.
      with_like_path like
      (λ inner u. after (put_step inner item 0 u)
      (λ put. after (in_turn (moved_to_end inner) items put) (λ moved. after (put_behind_step item outer moved) (moved_behind outer x)))) (λ inner.
      chained way (put_step inner item 0)
      (λ u put. after (in_turn (moved_to_end inner) items put) (λ moved. after (put_behind_step item outer moved) (moved_behind outer x)))
      (into inner item 0) (λ u.
      chained way (in_turn (moved_to_end inner) items) (λ put moved. after (put_behind_step item outer moved) (moved_behind outer x))
      (every way (moved_to_end inner) items (to_end inner)) (λ put.
      chained way (put_behind_step item outer) (λ moved. moved_behind outer x) (behind item outer) (λ moved. moved_behind_path way outer x tt)))))

  parted_path : (x list outer : ℕ) → Leads D R (parted x list outer)
  unfolding parted
  parted_path x list outer w v r e = parted_like_path x (items_behind w.forest list x) outer (label_of w.forest list) w v r e

  moved_out_path : (x list outer : ℕ) → Leads D R (moved_out x list outer)
  unfolding moved_out
  moved_out_path x list outer w v r e =
      either way (is_named (first_child w.forest list) x && is_named (first_child w.forest outer) list) (moved_before outer x)
      (λ u. cond (is_none (next_of w.forest x)) (moved_behind outer x u) (parted x list outer u))
      (moved_before_path way outer x tt)
      (either way (is_none (next_of w.forest x)) (moved_behind outer x) (parted x list outer) (moved_behind_path way outer x tt) (parted_path x list outer))
      w v r e

  gone_path : (list : ℕ) → Leads D R (gone_if_empty list)
  gone_path list w v r e = if_ way (size_of w.forest list == 0) (remove_step list) w v r (removes list) e

  out_of_path : (x list outer : ℕ) → Leads D R (out_of x list outer)
  unfolding out_of
  out_of_path x list outer = chained way (moved_out x list outer) (λ w. gone_if_empty list) (moved_out_path x list outer) (λ w. gone_path list)

  out_from_path : (x list : ℕ) (o : Option ℕ) → Leads D R (out_from x list o)
  out_from_path x list None w v r e = stays way w v r e
  out_from_path x list (Some outer) w v r e = if_ way (is_at is_item w.forest outer) (out_of x list outer) w v r (out_of_path x list outer) e

  out_by_path : (x : ℕ) (o : Option ℕ) → Leads D R (out_by x o)
  out_by_path x None w v r e = stays way w v r e
  out_by_path x (Some list) w v r e = out_from_path x list (parent_of w.forest list) w v r e

  outdented_path : (x : ℕ) → Leads D R (outdented x)
  unfolding outdented
  outdented_path x w v r e =
      either way (is_at is_item w.forest x) (out_by x (parent_of w.forest x)) (change_step (with_indent shallower) x)
      (out_by_path x (parent_of w.forest x)) (change_path (with_indent shallower) x) w v r e

  pub outdent_path : Leads D R outdent_step
  unfolding outdent_step
  outdent_path = each_line_path outdented outdented_path

  -- ---- the end of a list

  rest_parted_path : (paragraph : ℕ) (items : List ℕ) (like : Option Label) → Leads D R (rest_parted paragraph items like)
  rest_parted_path paragraph [] like = stays way
  rest_parted_path paragraph (item ∷ items) like =
      with_like_path like (λ rest v. after (put_behind_step rest paragraph v) (in_turn (moved_to_end rest) (item ∷ items))) (λ rest.
      chained way (put_behind_step rest paragraph) (λ v. in_turn (moved_to_end rest) (item ∷ items)) (behind rest paragraph)
      (λ v. every way (moved_to_end rest) (item ∷ items) (to_end rest)))

  caret_then : (x paragraph : ℕ) → Leads D R (λ left. remove_step x (caret_at (element_point paragraph 0) left))
  caret_then x paragraph w v r e =
      from_ way w (caret_at (element_point paragraph 0) w) v (remove_step x) (points way (λ p. element_point paragraph 0) w r) (removes x) e

  paragraph_behind_like_path : (x list : ℕ) (items : List ℕ) (like : Option Label) → Leads D R (paragraph_behind_like x list items like)
  paragraph_behind_like_path x list items like =
      with_new_path Paragraph plain_element
      (λ paragraph v. after (put_behind_step paragraph list v)
      (λ put. after (rest_parted paragraph items like put) (λ left. remove_step x (caret_at (element_point paragraph 0) left)))) (λ paragraph.
      chained way (put_behind_step paragraph list)
      (λ v put. after (rest_parted paragraph items like put) (λ left. remove_step x (caret_at (element_point paragraph 0) left))) (behind paragraph list)
      (λ v.
      chained way (rest_parted paragraph items like) (λ put left. remove_step x (caret_at (element_point paragraph 0) left))
      (rest_parted_path paragraph items like) (λ put. caret_then x paragraph)))

  paragraph_behind_path : (x list : ℕ) → Leads D R (paragraph_behind x list)
  unfolding paragraph_behind
  paragraph_behind_path x list w v r e = paragraph_behind_like_path x list (items_behind w.forest list x) (label_of w.forest list) w v r e

  ended_by_path : (x list : ℕ) (o : Option ℕ) → Leads D R (list_ended_by x list o)
  ended_by_path x list None w v r e = stays way w v r e
  ended_by_path x list (Some above) w v r e =
      either way (is_at is_item w.forest above) (out_of x list above) (paragraph_behind x list) (out_of_path x list above) (paragraph_behind_path x list) w v r
      e

  ended_in_path : (x : ℕ) (o : Option ℕ) → Leads D R (ended_in x o)
  ended_in_path x None w v r e = stays way w v r e
  ended_in_path x (Some list) w v r e = ended_by_path x list (parent_of w.forest list) w v r e

  pub paragraph_in_item_path : (x : ℕ) → Leads D R (paragraph_in_item_step x)
  unfolding paragraph_in_item_step
  paragraph_in_item_path x w v r e = ended_in_path x (parent_of w.forest x) w v r e

  -- ---- check marks and numbers

  pub set_checked_path : (item : ℕ) (checked : Bool) → Leads D R (set_checked_step item checked)
  unfolding set_checked_step
  set_checked_path item checked w v r e =
      allowed R w v (item_fault w.forest item) (check_item (Some checked) item) (λ f. check_item_path (Some checked) item w v r f) e

  toggled_path : (o : Option ℕ) → Leads D R (toggled o)
  toggled_path None w v r e = absurd (cc)
  toggled_path (Some block) w v r e = set_checked_path block (not (is_checked (fields_of w.forest block))) w v r e

  pub toggle_checked_path : Leads D R toggle_checked_step
  unfolding toggle_checked_step
  toggle_checked_path w v r e =
      by_read way w v (range_of w) (λ range. toggled (block_of w.forest range.anchor.key))
      (λ range f. toggled_path (block_of w.forest range.anchor.key) w v r f) e

  numbered_from_path : (n : ℕ) (items : List ℕ) → Leads D R (numbered_from n items)
  unfolding numbered_from
  numbered_from_path n [] w v r e = stays way w v r e
  numbered_from_path n (item ∷ items) w v r e =
      let more : ℕ = cond (is_nesting w.forest item) n (n + 1) in
      chained way (number_item n item) (λ u. numbered_from more items) (number_item_path n item) (λ u. numbered_from_path more items) w v r e

  list_numbered_path : (list : ℕ) → Leads D R (list_numbered list)
  list_numbered_path list w v r e = numbered_from_path (list_start (fields_of w.forest list)) (children_of w.forest list) w v r e

  pub number_path : Leads D R number_step
  unfolding number_step
  number_path w v r e = every way list_numbered (filter (is_at is_list w.forest) (preorder w.forest)) list_numbered_path w v r e
