-- Each command is covered by what it marks, since the steps are that it is made of.
use Rattle.lx_edit.proofs.Covered.{covered_path}
use Rattle.lx_table.specs.Laws.{TablesAreCovered}
use Rattle.lx_table.proofs.Paths.{insert_table_path, insert_row_path, insert_column_path, delete_row_path, delete_column_path, merge_cells_path, unmerge_path}

pub covered-tables : TablesAreCovered
covered-tables = record {
  insert_table = λ rows columns headers. insert_table_path covered_path rows columns headers;
  insert_row = λ behind. insert_row_path covered_path behind;
  insert_column = λ behind. insert_column_path covered_path behind;
  delete_row = delete_row_path covered_path;
  delete_column = delete_column_path covered_path;
  merge_cells = merge_cells_path covered_path;
  unmerge = unmerge_path covered_path;
}
