-- What a command's step computes to at a draft that is written out.
use Rattle.lx_node.specs.Kinds.{is_inline, is_block, is_paragraph, is_heading, is_list, is_item, is_link, is_table, is_row, is_cell, is_text, is_embed, has_characters, is_text_block, is_element, may_hold, may_be_empty, is_possible}
use Rattle.lx_node.specs.Same.{same_text, same_mode, same_direction, same_align, same_text_fields, same_extra, same_element, same_fields}
use Rattle.lx_node.specs.Strings.{capped, characters_of_optional, characters_of_text, characters_of_extra, characters_of_element, characters_of}
use Rattle.lx_node.specs.OfKind.{is_plain, is_list_extra, is_item_extra, is_link_extra, is_span, is_cell_extra, is_extra_of, is_normal, is_tab_text, are_text_fields, are_tab_fields, is_element_of, is_text_of, are_embed_fields, are_bare, fits_kind, is_of_kind}
use Rattle.lx_node.specs.Units.{units_of, units}
use Rattle.lx_text.specs.Texts.{text_length, front_of, rest_of, within, is_offset, length_told, slice_of, spliced_text}
use Rattle.lx_text.specs.Clusters.{cluster_before, cluster_after, word_before, word_after}
use Rattle.lx_select.specs.Rules.{offset_sum, is_counting_children, is_behind, put_moves, take_moves, spliced_offset, splice_moves, set_moves, split_moves, moved_to}
use Rattle.lx_trees.specs.Edits as rooted
use Rattle.lx_forest.specs.Edits.{with_new, with_fields, take_out, put_in}
use Rattle.lx_draft.specs.Steps.{new_step, set_step, splice_step, take_step, put_step, select_step}
use Rattle.lx_draft.specs.Beside.{put_before_step, put_behind_step}
use Rattle.lx_edit.specs.InTurn.{in_turn}
use Rattle.lx_edit.specs.Edits.{moved_to_end, sent_away, remove_step}
use Rattle.lx_edit.specs.Texts.{tail_made, cut_in_two, split_step}
use Rattle.lx_blocks.specs.Ranges.{range_of}
use Rattle.lx_caret.specs.Adding.{add_step}
use Rattle.lx_caret.specs.Inserting.{typed_into, typed_new, typed, insert_text_step, broken, insert_line_break_step, tabbed, insert_tab_step}
use Rattle.lx_caret.specs.Removing.{cut_step, removed_below, removed_empty, merge_step, remove_between, remove_text_step}
use Rattle.lx_caret.specs.Deleting.{erase_step, leaf_step, moved_in, line_joined, join_back_step, join_step, delete_step, delete_character_step, delete_word_step}
use Rattle.lx_caret.specs.Paragraphs.{parted_at, link_parted, parted_up, moved_on, block_cut, paragraph_added, insert_paragraph_step}
use Rattle.lx_caret.specs.Formatting.{isolate_step, isolated, switch_step, format_text_step}
use Rattle.lx_caret.specs.SelectAll.{select_all_step}

-- `unfolding commands` lets `refl` compute a command
unfoldable pub commands : Unit {0}
unfolding is_inline is_block is_paragraph is_heading is_list is_item is_link is_table is_row is_cell is_text is_embed has_characters is_text_block is_element
    may_hold may_be_empty is_possible same_text same_mode same_direction same_align same_text_fields same_extra same_element same_fields capped
    characters_of_optional characters_of_text characters_of_extra characters_of_element characters_of is_plain is_list_extra is_item_extra is_link_extra is_span
    is_cell_extra is_extra_of is_normal is_tab_text are_text_fields are_tab_fields is_element_of is_text_of are_embed_fields are_bare fits_kind is_of_kind
    units_of units text_length front_of rest_of within is_offset length_told slice_of spliced_text cluster_before cluster_after word_before word_after
    offset_sum is_counting_children is_behind put_moves take_moves spliced_offset splice_moves set_moves split_moves moved_to rooted.with_new rooted.take_out
    rooted.put_in with_new with_fields take_out put_in new_step set_step splice_step take_step put_step select_step put_before_step put_behind_step in_turn
    moved_to_end sent_away remove_step tail_made cut_in_two split_step range_of add_step typed_into typed_new typed insert_text_step broken
    insert_line_break_step tabbed insert_tab_step cut_step removed_below removed_empty merge_step remove_between remove_text_step erase_step leaf_step moved_in
    line_joined join_back_step join_step delete_step delete_character_step delete_word_step parted_at link_parted parted_up moved_on block_cut paragraph_added
    insert_paragraph_step isolate_step isolated switch_step format_text_step select_all_step
commands = tt
