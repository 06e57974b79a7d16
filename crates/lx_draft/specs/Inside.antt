-- What the fields of a draft stand for.
use Rattle.lx_draft.specs.declared.draft.Draft.TheInside.{Inside}
use Rattle.lx_draft.specs.Working.{Working}

-- the draft that the fields of the code's draft stand for
abbrev pub working_of : Inside → Working
working_of d = record {
  forest = d.links;
  selection = d.selection;
  next_key = d.next_key;
  marks = d.marks;
  fresh = d.fresh;
  counted = d.counted;
  edits = d.edits;
  written = d.written;
}
