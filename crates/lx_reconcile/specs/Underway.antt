-- How far a walk over two lists of children has come. Only this crate's own contracts cite it.
use Rattle.std.specs.Prelude.{ℕ, ◌≡◌, ◌==◌, ◌+◌, ◌-◌, ◌≤◌, ◌&&◌, ◌||◌, true, false, not, if◌then◌else◌, List, [], ◌∷◌, ◌++◌, Option, None, Some, map, length, drop}
use Rattle.std.specs.List.{All, list_any}
use Rattle.lx_trees.specs.Siblings.{is_among, is_named, NoRepeats}
use Rattle.lx_reconcile.specs.declared.moves.Move.{Move}
use Rattle.lx_reconcile.specs.declared.moves.Move.TheVariants.{Stay, Place}
use Rattle.lx_reconcile.specs.declared.progress.Progress.{Progress}
use Rattle.lx_reconcile.specs.declared.progress.Case.{Case}
use Rattle.lx_reconcile.specs.declared.progress.Case.TheVariants as case
use Rattle.lx_reconcile.specs.Walk.{child_of, suits_children, is_placing, all_moved, CanAllMove, standing, leaving, BeforeUnhandled, common, missing}

-- Of the children before, `old` are still to be walked over, and of those after `new`; these moves were made so far, and `done`
-- are those of the ones after that are in place. The children now are a front, which ends at the cursor, and a back:
-- those that were passed there, and what of `old` isn't handled.
pub record IsWalking (olds news old new back done : List ℕ) (moves : List Move) : Type 0 where
  pub front : List ℕ
  pub passed : List ℕ
  -- the children now
  pub now : all_moved moves olds ≡ front ++ back
  pub back_is : back ≡ passed ++ missing old done
  pub once : NoRepeats (front ++ back)
  pub in_order : common front done ≡ done
  pub waiting : (q : ℕ) → is_among q back ≡ true → (is_among q olds && not (is_among q (map child_of moves))) ≡ true
  pub known : (q : ℕ) → is_among q (front ++ back) ≡ true → (is_among q done || (is_among q olds && (is_among q news || is_among q old))) ≡ true
  pub present : (q : ℕ) → is_among q olds ≡ true → is_among q news ≡ true → is_among q (front ++ back) ≡ true
  -- the two lists
  pub news_are : news ≡ done ++ new
  pub old_once : NoRepeats old
  pub old_among : (q : ℕ) → is_among q old ≡ true → is_among q olds ≡ true
  pub even : length (common old news) ≡ length (common new olds)
  -- the moves
  pub can : CanAllMove moves olds
  pub stands : standing moves ≡ done
  pub leaves : leaving moves ++ missing old news ≡ missing olds news
  pub suited : All (λ m. suits_children olds m ≡ true) moves
  pub unhandled : BeforeUnhandled olds [] moves
  pub kept_order : common olds news ≡ common news olds → (common old news ≡ common new olds) × (list_any is_placing moves ≡ false)

-- ---- how far the code has come

-- the walk that the code's numbers and lists mean
pub record IsAlong (olds news : List ℕ) (p : Progress) : Type 0 where
  pub walking : IsWalking olds news (drop p.passed olds) (drop p.reached news) (missing (drop p.at olds) p.handled.keys) p.handled.keys p.moves.items
  pub old_once : NoRepeats olds
  pub new_once : NoRepeats news
  pub passed_within : p.passed ≤ length olds
  pub reached_within : p.reached ≤ length news
  pub at_within : p.at ≤ length olds

-- what is next: both next children are the same, the one before leaves, the one after is new, or it is an old one
-- elsewhere
abbrev pub case_of_both : List ℕ → List ℕ → ℕ → ℕ → Case
case_of_both olds news o n =
    if o == n then case.Same o else if not (is_among o news) then case.Gone o else if not (is_among n olds) then case.New n else case.Settled n

-- the same where one of the lists, or both, may be at an end
abbrev pub case_of : List ℕ → List ℕ → Option ℕ → Option ℕ → Case
case_of olds news None None = case.Neither
case_of olds news (Some o) None = case.Gone o
case_of olds news None (Some n) = case.New n
case_of olds news (Some o) (Some n) = case_of_both olds news o n

-- the handled children with one more
abbrev pub with_handled : ℕ → List ℕ → List ℕ
with_handled k ks = if is_among k ks then ks else ks ++ k ∷ []

-- the move by which a child comes to the cursor, where this one is
abbrev pub settled_by : ℕ → Option ℕ → Move
settled_by k before = if is_named before k then Stay k else Place k before

-- the code came from p to q by this move, with these handled then, at these places
pub record GoesOn (p q : Progress) (m : Move) (handled : List ℕ) (passed reached at : ℕ) : Type 0 where
  pub moves_are : q.moves.items ≡ p.moves.items ++ m ∷ []
  pub handled_are : q.handled.keys ≡ handled
  pub passed_is : q.passed ≡ passed
  pub reached_is : q.reached ≡ reached
  pub at_is : q.at ≡ at

-- how many children are left in both lists
abbrev pub left_of : List ℕ → List ℕ → Progress → ℕ
left_of olds news p = (length olds - p.passed) + (length news - p.reached)
