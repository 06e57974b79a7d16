-- What is read in a node: the characters of its texts and tabs in their order, and the places among them.
use Rattle.std.specs.Prelude.{ℕ, ◌+◌, ◌==◌, ◌≡◌, ◌≤◌, true, false, if◌then◌else◌, take, List, [], ◌∷◌, ◌++◌}
use Rattle.lx_node.specs.Kinds.{is_element}
use Rattle.lx_node.specs.declared.cause.Point.{Point}
use Rattle.lx_node.specs.declared.cause.PointKind.{PointKind}
use Rattle.lx_node.specs.declared.cause.PointKind.TheVariants as point
use Rattle.lx_text.specs.Texts.{text_length, is_offset, front_of, rest_of}
use Rattle.lx_forest.specs.Forest.{Forest}
use Rattle.lx_forest.specs.Lookups.{has, label_of, fields_of, children_of, keys_within, is_within}
use Rattle.lx_draft.specs.Selecting.{text_of}
use Rattle.lx_blocks.specs.Blocks.{is_at}

-- what a node says: the characters of a text or tab, and none of any other
abbrev pub said : Forest → ℕ → List ℕ
said f k = text_of (fields_of f k)

-- what nodes say, one after another
abbrev pub said_by : Forest → List ℕ → List ℕ
said_by f [] = []
said_by f (k ∷ ks) = said f k ++ said_by f ks

-- what is read in a node: what the nodes of its tree say, in preorder
abbrev pub read_in : Forest → ℕ → List ℕ
read_in f k = said_by f (keys_within f k)

-- what is read in nodes, one after another
abbrev pub reads_in : Forest → List ℕ → List ℕ
reads_in f [] = []
reads_in f (k ∷ ks) = read_in f k ++ reads_in f ks

-- how much is read of a point's own node before it: up to the offset in a text, and in as many children of an element
abbrev pub place_on : Forest → Point → PointKind → ℕ
place_on f p point.Text = p.offset
place_on f p point.Element = text_length (said f p.key ++ reads_in f (take p.offset (children_of f p.key)))

-- how much is read before a point that is on one of these nodes
abbrev pub place_along : Forest → Point → List ℕ → ℕ
place_along f p [] = 0
place_along f p (k ∷ ks) = if p.key == k then place_on f p p.kind else text_length (said f k) + place_along f p ks

-- where a point is in what is read in a node
abbrev pub place_in : Forest → ℕ → Point → ℕ
place_in f b p = place_along f p (keys_within f b)

-- Each node that neither of two nodes is below, nor is one of them, has its label and its children in g as in f: so has a block
-- in which neither is, with all that is in it.
pub record StaysAside (k m : ℕ) (f g : Forest) : Type 0 where
  pub each : (q : ℕ) → has q f ≡ true → is_within f q k ≡ false → is_within f q m ≡ false →
      (label_of g q ≡ label_of f q) × (children_of g q ≡ children_of f q)

-- What is read in g, where new characters came to what lay between two points of f: in each element that both are in, such as
-- their block or the root, what was read before the first, the new ones, and what was read after the second; and in each other
-- element, what was read there.
pub record ReadsBetween (p q : Point) (new : List ℕ) (f g : Forest) : Type 0 where
  pub places : (b : ℕ) → is_at is_element f b ≡ true → is_within f b p.key ≡ true → is_within f b q.key ≡ true →
      (is_offset (place_in f b p) (read_in f b) ≡ true) × (is_offset (place_in f b q) (read_in f b) ≡ true) × (place_in f b p ≤ place_in f b q)
  pub around : (b : ℕ) → is_at is_element f b ≡ true → is_within f b p.key ≡ true → is_within f b q.key ≡ true →
      read_in g b ≡ front_of (place_in f b p) (read_in f b) ++ new ++ rest_of (place_in f b q) (read_in f b)
  pub elsewhere : (b : ℕ) → is_at is_element f b ≡ true → is_within f b p.key ≡ false → is_within f b q.key ≡ false →
      read_in g b ≡ read_in f b
  -- all that neither point is in stays
  pub aside : StaysAside p.key q.key f g

-- in every element, such as a block, a cell or the root, the same is read in g as in f
pub record ReadsTheSame (f g : Forest) : Type 0 where
  pub each : (b : ℕ) → is_at is_element f b ≡ true → read_in g b ≡ read_in f b
