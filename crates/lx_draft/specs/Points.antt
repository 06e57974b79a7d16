-- What each rule does to a point.
use Rattle.lx_node.specs.declared.cause.Point.{Point}
use Rattle.lx_select.specs.Rules as rules
use Rattle.lx_draft.specs.declared.rules.PointRule.{PointRule}
use Rattle.lx_draft.specs.declared.rules.PointRule.TheVariants.{Put, Take, Splice, Set, Split, Join, Children, Unwrap, Replace, Move}

-- where each rule moves a point
abbrev pub moved_by : PointRule → Point → Point
moved_by (Put parent index) = rules.put_moves parent index
moved_by (Take parent index) = rules.take_moves parent index
moved_by (Splice key from to len) = rules.splice_moves key from to len
moved_by (Set key text) = rules.set_moves key text
moved_by (Split key at new) = rules.split_moves key at new
moved_by (Join first len second) = rules.join_moves first len second
moved_by (Children from to size) = rules.children_moves from to size
moved_by (Unwrap key parent index) = rules.unwrap_moves key parent index
moved_by (Replace old new text) = rules.replace_moves old new text
moved_by (Move key to) = rules.moved_to key to
