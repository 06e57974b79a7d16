-- What is put in stands between what stood before the place and what stood after it.
use Rattle.std.specs.Prelude.{ℕ, ◌≡◌, ◌≢◌, ◌++◌, ◌==◌, true, false, if◌then◌else◌, List, [], ◌∷◌, length, Option, None, Some, Ok}
use Rattle.lx_trees.specs.Siblings.{first_of, last_of, is_among}
use Rattle.lx_node.specs.declared.cause.Point.{Point}
use Rattle.lx_node.specs.declared.cause.PointKind.{PointKind}
use Rattle.lx_node.specs.declared.cause.PointKind.TheVariants as point
use Rattle.lx_forest.specs.Forest.{Forest}
use Rattle.lx_forest.specs.Lookups.{has, label_of, children_of, alone, is_within}
use Rattle.lx_draft.specs.Working.{Working}
use Rattle.lx_draft.specs.Covering.{IsReady}
use Rattle.lx_caret.specs.Adding.{opened}
use Rattle.lx_caret.specs.Removing.{removed_empty}
use Rattle.lx_clip.specs.Pasting.{nodes_added, Tailed, tail_made, put_around, put_beyond}

-- From one draft to another these nodes came below one parent, in order, between children that were there. No other list of
-- children changed, no node is another than it was, and each of the trees is as it was made.
pub record StandBetween (parent : ℕ) (before keys rest : List ℕ) (w v : Working) : Type 0 where
  pub was : children_of w.forest parent ≡ before ++ rest
  pub now : children_of v.forest parent ≡ before ++ (keys ++ rest)
  pub others : (q : ℕ) → q ≢ parent → children_of v.forest q ≡ children_of w.forest q
  pub labels : (q : ℕ) → label_of v.forest q ≡ label_of w.forest q
  pub trees : (k : ℕ) → is_among k keys ≡ true → alone k v.forest ≡ alone k w.forest

-- where the nodes go by a point: in an element at its offset; right before a text at its start, else right after it
abbrev pub IsPlaceOf : Point → PointKind → ℕ → List ℕ → List ℕ → Type 0
IsPlaceOf p point.Text parent before rest = (if p.offset == 0 then first_of rest else last_of before) ≡ Some p.key
IsPlaceOf p point.Element parent before rest = (parent ≡ p.key) × (length before ≡ p.offset)

-- nodes at a point: a text may be split there, and then they go between
pub record AreAdded (p : Point) (keys : List ℕ) (w v : Working) : Type 0 where
  pub split : Working
  pub made_way : opened p w ≡ Ok split
  pub parent : ℕ
  pub before : List ℕ
  pub rest : List ℕ
  pub place : IsPlaceOf p p.kind parent before rest
  pub between : StandBetween parent before keys rest split v

-- nodes right after another
pub record AreBeyond (outer : ℕ) (keys : List ℕ) (w v : Working) : Type 0 where
  pub parent : ℕ
  pub before : List ℕ
  pub rest : List ℕ
  pub between : StandBetween parent (before ++ (outer ∷ [])) keys rest w v

-- the key of a node, if there is one, as a list
abbrev pub key_if : Option ℕ → List ℕ
key_if None = []
key_if (Some k) = k ∷ []

-- Nodes at a point of a block: what stands after the point goes to a new block, if anything does. The nodes go between the two,
-- and then the old block goes if it is empty.
pub record AreAround (block : ℕ) (keys moved : List ℕ) (w v : Working) : Type 0 where
  pub tailed : Tailed
  pub parted : tail_made block moved w ≡ Ok tailed
  pub put : Working
  pub beyond : AreBeyond block (keys ++ key_if tailed.key) tailed.draft put
  pub last : removed_empty block put ≡ Ok v

-- the tree of a key holds neither the block nor what stands in it after the point
pub record IsOutside (k block : ℕ) (moved : List ℕ) (f : Forest) : Type 0 where
  pub there : has k f ≡ true
  pub not_block : is_within f k block ≡ false
  pub not_moved : (m : ℕ) → is_among m moved ≡ true → is_within f k m ≡ false

-- whatever way nodes are put in, they come between the children before the place and those after it
pub record PastedStandBetween : Type 0 where
  pub inlines : (p : Point) (keys : List ℕ) (w v : Working) → IsReady w → keys ≢ [] → nodes_added p keys w ≡ Ok v → AreAdded p keys w v
  pub around : (block : ℕ) (keys moved : List ℕ) (w v : Working) → IsReady w → keys ≢ [] → put_around block keys moved w ≡ Ok v → AreAround block keys moved w v
  -- around a block too the trees are as they were made, also once the block is gone
  pub trees : (block : ℕ) (keys moved : List ℕ) (w v : Working) → IsReady w → ((k : ℕ) → is_among k keys ≡ true → IsOutside k block moved w.forest)
      → put_around block keys moved w ≡ Ok v
      → (k : ℕ) → is_among k keys ≡ true → alone k v.forest ≡ alone k w.forest
  pub beyond : (outer : ℕ) (keys : List ℕ) (w v : Working) → IsReady w → keys ≢ [] → put_beyond outer keys w ≡ Ok v → AreBeyond outer keys w v
