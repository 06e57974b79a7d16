-- A walk up to a stop that may be nowhere ahead.
use Rattle.std.proofs.Common.{◌≡◌, ◌∙◌, ℕ, Bool, true, false, ◌&&◌, List, [], ◌∷◌, ◌++◌, Option, None, Some, refl, sym, ap}
use Rattle.std.specs.Prelude.{filter, IfSome, IfNone}
use Rattle.std.proofs.lemmas.List.{append-nil}
use Rattle.lx_trees.specs.Siblings.{is_named, is_among}
use Rattle.lx_forest.specs.Forest.{Forest}
use Rattle.lx_forest.specs.Lookups.{from, depth}
use Rattle.lx_node.specs.declared.cause.Point.{Point}
use Rattle.lx_blocks.specs.declared.ranges.Ranged.{Ranged}
use Rattle.lx_blocks.specs.Blocks.{is_line, same_node, block_of, frame_of}
use Rattle.lx_blocks.specs.Lines.{up_to, from_block, behind_block, lines_between, selected_lines}
use Rattle.lx_blocks.specs.Ranges.{start_of, end_of}
use Rattle.lx_blocks.specs.Places.{until}
use Rattle.lx_blocks.specs.Walks.{left_from, key_of_step}
use Rattle.lx_blocks.proofs.Gathered.{IsUnderWay, way_on, next_left}
use Rattle.lx_blocks.proofs.Until.{until_none}

-- whether the stop is one of these, where there is one
abbrev pub has_stop : Option ℕ → List ℕ → Bool
has_stop None ks = true
has_stop (Some end) ks = is_among end ks

-- The walk is in the tree, what was gathered and what is left make all of it, and the stop is ahead if it is anywhere.
abbrev pub IsAhead : (test : ℕ → Bool) (stop : Option ℕ) (f : Forest) (first at : Option (ℕ × ℕ)) (made : List ℕ) → Type 0
IsAhead test stop f first at made =
    IsUnderWay test stop f at made (filter test (until stop (left_from f first))) × (has_stop stop (left_from f at) ≡ has_stop stop (left_from f first))

passed : (stop : Option ℕ) (q : ℕ) (rest : List ℕ) → is_named stop q ≡ false → has_stop stop (q ∷ rest) ≡ has_stop stop rest
passed None q rest other = refl
passed (Some end) q rest other = rw other refl

-- the walk goes on after a node that isn't the stop
pub ahead_on : (test : ℕ → Bool) (stop : Option ℕ) (first at o : Option (ℕ × ℕ)) (f : Forest) (q d : ℕ) (made more : List ℕ) → IsAhead test stop f first at made
    → IfSome o (λ next. from f q ≡ q ∷ from f next.0) → IfNone o (from f q ≡ q ∷ []) → IfSome o (λ next. depth f next.0 ≡ Some next.1)
    → is_named stop q ≡ false → more ≡ made ++ filter test (q ∷ []) → at ≡ Some (q, d) → IsAhead test stop f first o more
ahead_on test stop first at o f q d made more way next last deep other kept is =
    let all : List ℕ = filter test (until stop (left_from f first)) in
    let still : has_stop stop (left_from f o) ≡ has_stop stop (left_from f at) =
    sym (ap (λ a. has_stop stop (left_from f a)) is ∙ ap (has_stop stop) (next_left o f q next last) ∙ passed stop q (left_from f o) other) in
    (way_on test stop at o f q d made more all way.0 next last deep other kept is, still ∙ way.1)

-- it comes to its end, with no stop to look for
pub ahead_ends : (test : ℕ → Bool) (stop first at : Option (ℕ × ℕ)) (f : Forest) (made : List ℕ) → stop ≡ None → IsAhead test (key_of_step stop) f first at made
    → at ≡ None →
    made ≡ filter test (up_to (key_of_step stop) (left_from f first))
ahead_ends test None first at f made none way is =
    sym (append-nil made) ∙ ap (λ a. made ++ filter test (until None (left_from f a))) (sym is) ∙ way.0.1 ∙ ap (filter test) (until_none (left_from f first))
ahead_ends test (Some stop) first at f made none way is = absurd (cc)

-- ---- the lines of a range

pub lines_are : (f : Forest) (r : Ranged) (start end : Point) (first stop : Option (ℕ × ℕ)) (frame : Option ℕ) → start ≡ start_of f r → end ≡ end_of f r
    → left_from f first ≡ from_block f start (block_of f start.key) → key_of_step stop ≡ behind_block f end (block_of f end.key) → frame ≡ frame_of f start.key
    → filter (λ k. is_line f k && same_node (frame_of f k) frame) (up_to (key_of_step stop) (left_from f first)) ≡ selected_lines f r
unfolding selected_lines
lines_are f r start end first stop frame starts ends left stops framed =
    ap (λ ks. filter (λ k. is_line f k && same_node (frame_of f k) frame) (up_to (key_of_step stop) ks)) left
    ∙ ap (λ o. filter (λ k. is_line f k && same_node (frame_of f k) frame) (up_to o (from_block f start (block_of f start.key)))) stops
    ∙ ap (λ o. filter (λ k. is_line f k && same_node (frame_of f k) o)
    (up_to (behind_block f end (block_of f end.key)) (from_block f start (block_of f start.key)))) framed
    ∙ ap (λ p. lines_between f p end) starts ∙ ap (lines_between f (start_of f r)) ends
