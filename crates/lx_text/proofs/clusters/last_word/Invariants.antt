use Rattle.std.proofs.Common.{◌≡◌, ◌+◌, ◌≤◌, min, reverse, length}
use Rattle.std.specs.Prelude.{chars}
use Rattle.unicode_segmentation.specs.Iter.{word_bounds_left}
use Rattle.lx_text.specs.Clusters.{words, over_word}
use Rattle.lx_text.proofs.Segmented.{turned}
use Rattle.lx_text.proofs.clusters.last_word.Given as goal

-- what was passed, and what is over the last of those that are left, make all of it
abbrev pub invariant-loop-piece : goal.invariant-loop-piece
invariant-loop-piece l =
    (l.over ≤ 4294967295)
    × (min (l.over + over_word (turned (word_bounds_left l.pieces))) 4294967295 ≡ min (over_word (reverse (words (chars l.text)))) 4294967295)

abbrev pub decreases-loop-piece : goal.decreases-loop-piece
decreases-loop-piece l = length (word_bounds_left l.pieces)
