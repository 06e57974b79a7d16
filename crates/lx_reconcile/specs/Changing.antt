-- What operations do to one host: its attributes, its text and its ending.
use Rattle.std.specs.Prelude.{ℕ, ◌≡◌, ◌≢◌, ◌++◌, Bool, List, [], ◌∷◌, map, Option, None, Some}
use Rattle.std.specs.List.{AllByRecursion}
use Rattle.std.specs.declared.cmp.Ordering.{Ordering}
use Rattle.std.specs.declared.cmp.Ordering.TheVariants.{Less, Greater}
use Rattle.lx_trees.specs.Trees.{Trees, nil, tree}
use Rattle.lx_node.specs.declared.kind.Kind.{Kind}
use Rattle.lx_node.specs.declared.fields.Fields.{Fields}
use Rattle.lx_host.specs.declared.tag.Tag.{Tag}
use Rattle.lx_host.specs.declared.tag.Name.{Name}
use Rattle.lx_host.specs.declared.op.Op.{Op}
use Rattle.lx_host.specs.declared.op.Op.TheVariants.{Text, Attr, Break}
use Rattle.lx_host.specs.Words.{name_order, with_attribute}
use Rattle.lx_host.specs.Hosts.{Face, Host}
use Rattle.lx_render.specs.Render.{attributes_of, text_of}
use Rattle.lx_reconcile.specs.Reconciled.{LeadsAt}

-- ---- attributes

-- the operation that gives a host's attribute of that name this value, or takes it away
abbrev pub write_op : ℕ → Name × Option (List ℕ) → Op
write_op host write = Attr host write.0 write.1

-- attributes, with each of these written in turn
abbrev pub all_written : List (Name × Option (List ℕ)) → List (Name × List ℕ) → List (Name × List ℕ)
all_written [] attributes = attributes
all_written (write ∷ writes) attributes = all_written writes (with_attribute write.0 write.1 attributes)

-- each of these writes changes the attributes in its turn
abbrev pub AreAnew : List (Name × Option (List ℕ)) → List (Name × List ℕ) → Type 0
AreAnew [] attributes = Unit {0}
AreAnew (write ∷ writes) attributes = (with_attribute write.0 write.1 attributes ≢ attributes) × AreAnew writes (with_attribute write.0 write.1 attributes)

-- which of the first of two lists of attributes comes first, where there is any
abbrev pub next_order : List (Name × List ℕ) → List (Name × List ℕ) → Option Ordering
next_order [] [] = None
next_order [] (b ∷ news) = Some Greater
next_order (a ∷ olds) [] = Some Less
next_order (a ∷ olds) (b ∷ news) = Some (name_order a.0 b.0)

-- after the operations at the start there are others that write attributes of a host, and that make the second ones of
-- the first
pub record Writes (host : ℕ) (old new : List (Name × List ℕ)) (start end : List Op) : Type 0 where
  pub writes : List (Name × Option (List ℕ))
  pub list : end ≡ start ++ map (write_op host) writes
  pub written : all_written writes old ≡ new
  pub anew : AreAnew writes old

-- ---- a host

-- what shows a node of this kind with these fields
abbrev pub shown_face : ℕ → Tag → Kind → Fields → Bool → Face
shown_face key tag kind fields ending =
    record { key = key; tag = tag; attrs = attributes_of kind fields; text = text_of fields; ending = ending }

-- an operation that changes what this host shows itself
pub data IsWriteAt (host : ℕ) : Op → Type 0 where
  is_text : (text : List ℕ) → IsWriteAt host (Text host text)
  is_attr : (name : Name) (value : Option (List ℕ)) → IsWriteAt host (Attr host name value)
  is_break : (ending : Bool) → IsWriteAt host (Break host ending)

-- After the operations at the start there are others, which make a host show the second face in place of the first,
-- whatever is below it.
pub record Changes (host : ℕ) (from to : Face) (start end : List Op) : Type 0 where
  pub pushed : List Op
  pub list : end ≡ start ++ pushed
  pub only : AllByRecursion (IsWriteAt host) pushed
  pub leads : (kids : Trees Host) (n : ℕ)
      → LeadsAt host (tree (record { id = host; face = from }) kids nil) n pushed (tree (record { id = host; face = to }) kids nil) n
