-- The moves that make of an element's children before those after: what each does, and what they owe together.
use Rattle.std.specs.Prelude.{ℕ, ◌≡◌, ◌&&◌, ◌++◌, Bool, true, false, not, List, [], ◌∷◌, map, Option, None, Some, filter}
use Rattle.std.specs.List.{All, list_any}
use Rattle.lx_trees.specs.Siblings.{is_among, is_named, is_place, names_without, names_with}
pub use Rattle.lx_reconcile.specs.Allowed.{common}
use Rattle.lx_reconcile.specs.declared.moves.Move.{Move}
use Rattle.lx_reconcile.specs.declared.moves.Move.TheVariants.{Stay, Leave, Make, Place}

-- ---- one move

-- the child that a move is of
abbrev pub child_of : Move → ℕ
child_of (Stay k) = k
child_of (Leave k) = k
child_of (Make k before) = k
child_of (Place k before) = k

-- the child before which it comes, if one is named
abbrev pub before_of : Move → Option ℕ
before_of (Make k before) = before
before_of (Place k before) = before
before_of _ = None

-- the children after it
abbrev pub moved : Move → List ℕ → List ℕ
moved (Stay k) ks = ks
moved (Leave k) ks = names_without k ks
moved (Make k before) ks = names_with before (k ∷ []) ks
moved (Place k before) ks = names_with before (k ∷ []) (names_without k ks)

-- whether it can be made now: what is made is no child yet, all else is one, and comes before another child or to the end
abbrev pub can_move : Move → List ℕ → Bool
can_move (Stay k) ks = is_among k ks
can_move (Leave k) ks = is_among k ks
can_move (Make k before) ks = not (is_among k ks) && is_place before ks
can_move (Place k before) ks = is_among k ks && (is_place before ks && not (is_named before k))

-- whether it suits the children before: what is made is none of them, and all else is one
abbrev pub suits_children : List ℕ → Move → Bool
suits_children old (Stay k) = is_among k old
suits_children old (Leave k) = is_among k old
suits_children old (Make k before) = not (is_among k old)
suits_children old (Place k before) = is_among k old

-- whether a child that stays one is placed anew
abbrev pub is_placing : Move → Bool
is_placing (Place k before) = true
is_placing _ = false

-- ---- moves one after another

-- the children after all of them
abbrev pub all_moved : List Move → List ℕ → List ℕ
all_moved [] ks = ks
all_moved (m ∷ ms) ks = all_moved ms (moved m ks)

-- each can be made when its turn comes
abbrev pub CanAllMove : List Move → List ℕ → Type 0
CanAllMove [] ks = Unit {0}
CanAllMove (m ∷ ms) ks = (can_move m ks ≡ true) × CanAllMove ms (moved m ks)

-- the children that are there in the end, in the order of their moves
abbrev pub standing : List Move → List ℕ
standing [] = []
standing (Stay k ∷ ms) = k ∷ standing ms
standing (Leave k ∷ ms) = standing ms
standing (Make k before ∷ ms) = k ∷ standing ms
standing (Place k before ∷ ms) = k ∷ standing ms

-- the children that leave, in the order of their moves
abbrev pub leaving : List Move → List ℕ
leaving [] = []
leaving (Stay k ∷ ms) = leaving ms
leaving (Leave k ∷ ms) = k ∷ leaving ms
leaving (Make k before ∷ ms) = leaving ms
leaving (Place k before ∷ ms) = leaving ms

-- whether none is named, or one of the children before that isn't handled yet
abbrev pub is_waiting : List ℕ → List ℕ → Option ℕ → Bool
is_waiting old handled None = true
is_waiting old handled (Some k) = is_among k old && not (is_among k handled)

-- none comes before a child that was handled already, where these were handled before the moves
abbrev pub BeforeUnhandled : List ℕ → List ℕ → List Move → Type 0
BeforeUnhandled old handled [] = Unit {0}
BeforeUnhandled old handled (m ∷ ms) =
    (is_waiting old handled (before_of m) ≡ true) × BeforeUnhandled old (child_of m ∷ handled) ms

-- ---- two lists of children

-- those of the first list that aren't in the second
abbrev pub missing : List ℕ → List ℕ → List ℕ
missing xs ys = filter (λ k. not (is_among k ys)) xs

-- these moves make the second list of the first
pub record IsWalk (old new : List ℕ) (moves : List Move) : Type 0 where
  pub leads : all_moved moves old ≡ new
  pub can : CanAllMove moves old
  pub stands : standing moves ≡ new
  pub leaves : leaving moves ≡ missing old new
  pub suited : All (λ m. suits_children old m ≡ true) moves
  pub unhandled : BeforeUnhandled old [] moves
  -- where the children that are in both are in one order, none is placed anew
  pub kept_order : common old new ≡ common new old → list_any is_placing moves ≡ false

-- ---- a part of two lists

-- a move that brings a child to the end, where it brings one before this child instead, if one is named
abbrev pub toward : Option ℕ → Move → Move
toward end (Make k None) = Make k end
toward end (Place k None) = Place k end
toward end other = other

-- These moves, with a front and a back of children that stay and carry no mark, make the second list of the first.
pub record IsPart (noted : ℕ → Bool) (old new : List ℕ) (moves : List Move) : Type 0 where
  pub front : List ℕ
  pub back : List ℕ
  pub walk : IsWalk old new (map Stay front ++ (moves ++ map Stay back))
  pub front_plain : (k : ℕ) → is_among k front ≡ true → noted k ≡ false
  pub back_plain : (k : ℕ) → is_among k back ≡ true → noted k ≡ false
