use Rattle.lx_text.proofs.Places.{length-none, length-append}
use Rattle.lx_text.proofs.Told.{offset_within, offset_start, offset_end, offset-front, offset-behind, front-joined, rest-joined, within-offset, within-below, within-last, told-all, slice-whole, slice-length, slice-parts, splice-parts, splice-length}
use Rattle.lx_text.proofs.Utf16.{length-utf16, offset-pair}
use Rattle.lx_text.proofs.laws.texts_are_told.Goals as goal

pub returns : goal.returns
returns c = record {
  length_none = length-none;
  length_joined = length-append;
  offset_start = offset_start;
  offset_end = offset_end;
  offset_within = offset_within;
  offset_front = offset-front;
  offset_behind = offset-behind;
  front_joined = front-joined;
  rest_joined = rest-joined;
  within_is = within-offset;
  within_below = within-below;
  within_last = within-last;
  told = told-all;
  slice_whole = slice-whole;
  slice_length = slice-length;
  slice_parts = slice-parts;
  splice_parts = splice-parts;
  splice_length = splice-length;
  length_utf16 = length-utf16;
  offset_pair = offset-pair;
}
