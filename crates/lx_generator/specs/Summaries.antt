-- The bytes that sum up a whole session: compact JSON, whose members are in byte order.
use Rattle.std.specs.Prelude.{ℕ, List, codes}
use Rattle.serde_json.specs.Data.{Data, object, no_members, member}
use Rattle.serde_json.specs.Written.{compact_text}
use Rattle.lx_fields.specs.Parts.{natural}
use Rattle.lx_generator.specs.declared.summary.Summary.{Summary}

-- a summary as JSON: {"characters":C,"commits":C,"idle":I,"lines":L,"nodes":N,"redo":R,"refused":R,"undo":U,"view":V}
unfoldable pub summary_data : Summary → Data
summary_data s =
    object
    (member (codes "characters") (natural s.characters)
    (member (codes "commits") (natural s.commits)
    (member (codes "idle") (natural s.idle)
    (member (codes "lines") (natural s.lines)
    (member (codes "nodes") (natural s.nodes)
    (member (codes "redo") (natural s.redo)
    (member (codes "refused") (natural s.refused)
    (member (codes "undo") (natural s.undo)
    (member (codes "view") (natural s.view) no_members)))))))))

-- the bytes of a summary
unfoldable pub summary_text : Summary → List ℕ
summary_text s = compact_text (summary_data s)
