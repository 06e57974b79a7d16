-- What an author sees of a draft: the characters of its texts in their order, and the places among them.
use Rattle.std.specs.Prelude.{ℕ, ◌+◌, ◌==◌, ◌≡◌, ◌≤◌, true, false, if◌then◌else◌, List, [], ◌∷◌, ◌++◌}
use Rattle.lx_trees.specs.Siblings.{is_among}
use Rattle.lx_node.specs.declared.cause.Point.{Point}
use Rattle.lx_node.specs.declared.cause.PointKind.TheVariants as point
use Rattle.lx_select.specs.Selection.{each_point}
use Rattle.lx_forest.specs.Forest.{Forest}
use Rattle.lx_forest.specs.Lookups.{has, label_of, keys_within}
use Rattle.lx_draft.specs.Working.{Working}
use Rattle.lx_draft.specs.Faults.{text_in}
use Rattle.lx_edit.specs.Conditions.{length_at}
use Rattle.lx_edit.specs.Texts.{text_or_none}

-- the characters of a text: none of any other node
abbrev pub text_at : Forest → ℕ → List ℕ
text_at f k = text_or_none (text_in (label_of f k))

-- the characters of nodes, one node's after another's
abbrev pub texts_of : Forest → List ℕ → List ℕ
texts_of f [] = []
texts_of f (k ∷ ks) = text_at f k ++ texts_of f ks

-- what is read below a node: the texts of its tree, in preorder
abbrev pub read_below : Forest → ℕ → List ℕ
read_below f k = texts_of f (keys_within f k)

-- a list in which these are in the place of a key
abbrev pub in_place_of : ℕ → List ℕ → List ℕ → List ℕ
in_place_of k ks [] = []
in_place_of k ks (c ∷ cs) = if c == k then ks ++ cs else c ∷ in_place_of k ks cs

-- where a point in one of these texts is in all of them: after what the texts before it have
abbrev pub place_among : Forest → List ℕ → Point → ℕ
place_among f [] p = p.offset
place_among f (k ∷ ks) p = if p.key == k then p.offset else length_at f k + place_among f ks p

-- points on these texts go to those, and keep their place among them: each stays at its character, and points on other
-- texts stay
pub record KeepPlaces (old new : List ℕ) (w v : Working) (moved : Point → Point) : Type 0 where
  pub selection : v.selection ≡ each_point moved w.selection
  pub on_them : (p : Point) → is_among p.key old ≡ true → p.offset ≤ length_at w.forest p.key →
      (is_among (moved p).key new ≡ true) × (place_among v.forest new (moved p) ≡ place_among w.forest old p)
  pub others : (p : Point) → p.kind ≡ point.Text → has p.key w.forest ≡ true → is_among p.key old ≡ false → moved p ≡ p

-- the selection went by some move that keeps places so
abbrev pub PlacesAreKept : List ℕ → List ℕ → Working → Working → Type 0
PlacesAreKept old new w v = (moved : Point → Point) × KeepPlaces old new w v moved
