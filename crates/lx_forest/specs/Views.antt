-- What a rule sees of a node.
use Rattle.std.specs.Prelude.{ℕ, List, [], ◌∷◌, Option, None, Some, option_map}
use Rattle.lx_trees.specs.Spots.{Spot}
use Rattle.lx_node.specs.declared.kind.Kind.{Kind}
use Rattle.lx_node.specs.declared.node.View.{View}
use Rattle.lx_node.specs.declared.fields.Extra.{Extra}
use Rattle.lx_node.specs.declared.fields.Extra.TheVariants as extra
use Rattle.lx_node.specs.declared.fields.Fields.{Fields}
use Rattle.lx_node.specs.declared.fields.Fields.TheVariants as fields
use Rattle.lx_forest.specs.Forest.{Forest, Label}
use Rattle.lx_forest.specs.Lookups.{spot, kind_of, previous_of, next_of}

-- an item's number is seen as 1, since numbering gives it
abbrev pub unnumbered : Extra → Extra
unnumbered (extra.Item value checked) = extra.Item 1 checked
unnumbered other = other

-- the fields as a rule sees them, where the number of an item is 1
abbrev pub seen_fields : Fields → Fields
seen_fields (fields.Element element) = fields.Element (record element { extra = unnumbered element.extra })
seen_fields other = other

-- the kind of a key, if there is one
abbrev pub kind_at : Forest → Option ℕ → Option Kind
kind_at f None = None
kind_at f (Some k) = kind_of f k

-- kinds with one in front, if there is one
abbrev pub with_kind : Option Kind → List Kind → List Kind
with_kind None kinds = kinds
with_kind (Some kind) kinds = kind ∷ kinds

-- the kinds of keys
abbrev pub kinds_of : Forest → List ℕ → List Kind
kinds_of f [] = []
kinds_of f (x ∷ xs) = with_kind (kind_of f x) (kinds_of f xs)

-- a node as a rule sees it, by where it is
abbrev pub viewed : Forest → ℕ → Spot Label → View
viewed f q s =
    record {
      kind = s.label.kind;
      fields = seen_fields s.label.fields;
      parent = kind_at f s.parent;
      prev = kind_at f (previous_of f q);
      next = kind_at f (next_of f q);
      children = kinds_of f s.children;
    }

-- the node of the key as a rule sees it: its kind and its fields, and the kinds of its parent, of its neighbours and of
-- its children
abbrev pub view_of : Forest → ℕ → Option View
view_of f q = option_map (viewed f q) (spot f q)
