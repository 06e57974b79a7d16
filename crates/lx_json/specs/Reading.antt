-- Which tree a document is, or why it is none: the first cause in document order.
use Rattle.std.specs.Prelude.{ℕ, ◌+◌, ◌++◌, ◌&&◌, Bool, true, false, if◌then◌else◌, decimal, codes, chars, List, [], Option, None, Some, Result, Ok, Err}
use Rattle.std.specs.Str.{bytes_eq}
use Rattle.std.specs.Ordering.{nat_cmp, match_ordering}
use Rattle.std.specs.Cmp.Lexicographic.{slice_cmp}
use Rattle.serde_json.specs.Data.{Data, null, string, array, object, Items, no_items, item, Members, no_members, member}
use Rattle.serde_json.specs.Find.{get}
use Rattle.lx_trees.specs.Trees.{Trees, nil, tree}
use Rattle.lx_node.specs.Kinds.{is_element, may_hold}
use Rattle.lx_node.specs.declared.kind.Kind.{Kind}
use Rattle.lx_node.specs.declared.kind.Kind.TheVariants.{Root}
use Rattle.lx_node.specs.declared.fields.Fields.{Fields}
use Rattle.lx_node.specs.declared.cause.Cause.{Cause}
use Rattle.lx_node.specs.declared.cause.Cause.TheVariants.{UnknownType, BadState}
use Rattle.lx_fields.specs.Documents.{document_fields}
use Rattle.lx_fields.specs.Types.{kind_of_type, kind_told}

-- a node without its key
pub record Piece : Type 0 where
  pub kind : Kind
  pub fields : Fields

-- ---- results

-- what is done next with what was made, unless it was refused
abbrev pub and_then : {A B : Type 0} → Result A Cause → (A → Result B Cause) → Result B Cause
and_then (Ok a) next = next a
and_then (Err cause) next = Err cause

-- a cause whose place in a node is said from where the node is
abbrev pub under : List ℕ → Cause → Cause
under place (BadState rest) = BadState (place ++ rest)
under place other = other

-- an answer whose cause, where it was refused, is said from where the node is
abbrev pub told_under : {A : Type 0} → List ℕ → Result A Cause → Result A Cause
told_under place (Ok a) = Ok a
told_under place (Err cause) = Err (under place cause)

-- the place of a child in its parent
abbrev pub child_place : ℕ → List ℕ
child_place i = codes "/children/" ++ decimal i

-- the place of a member in its node
abbrev pub member_place : List ℕ → List ℕ
member_place name = codes "/" ++ name

-- ---- the kind

-- The type that a node gives: none where its member is missing or null, which means the root's at the root alone.
pub data Typed : Type 0 where
  missing : Typed
  unlike : Typed
  typed : List ℕ → Typed

-- the type that the member gives: null as if it were missing, and a text if it is a string
abbrev pub typed_by : Option Data → Typed
typed_by None = missing
typed_by (Some null) = missing
typed_by (Some (string text)) = typed text
typed_by (Some other) = unlike

-- a kind that the parent's kind may hold, and at the root only the root's; or why the node is of none
abbrev pub placed_kind : Option Kind → Option Kind → List ℕ → Data → Result Kind Cause
placed_kind above None text d = Err (UnknownType (chars text))
placed_kind None (Some Root) text d = Ok Root
placed_kind None (Some kind) text d = Err (BadState (codes "/type"))
placed_kind (Some parent) (Some kind) text d = if may_hold parent kind then Ok (kind_told kind d) else Err (BadState (codes "/type"))

-- the kind of a node with such a type, below a parent of some kind or at the root
abbrev pub kind_by : Option Kind → Typed → Data → Result Kind Cause
kind_by None missing d = Ok Root
kind_by (Some parent) missing d = Err (BadState [])
kind_by above unlike d = Err (BadState [])
kind_by above (typed text) d = placed_kind above (kind_of_type text) text d

-- ---- the members

-- whether children are there that are no list
abbrev pub are_bad : Option Data → Bool
are_bad None = false
are_bad (Some null) = false
are_bad (Some (array ds)) = false
are_bad (Some other) = true

-- the first bad member in byte order: one of the fields, or the children
abbrev pub first_bad : Bool → Result Fields (List ℕ) → Result Fields (List ℕ)
first_bad false fields = fields
first_bad true (Ok fields) = Err (codes "children")
first_bad true (Err name) = Err (match_ordering (slice_cmp nat_cmp name (codes "children")) name name (codes "children"))

-- the fields, or as a cause the place of the bad member
abbrev pub fields_or_bad : Result Fields (List ℕ) → Result Fields Cause
fields_or_bad (Ok fields) = Ok fields
fields_or_bad (Err name) = Err (BadState (member_place name))

-- the fields that a node's object gives, unless one of its members is bad
abbrev pub fields_told : Kind → Data → Result Fields Cause
fields_told kind d = fields_or_bad (first_bad (is_element kind && are_bad (get (codes "children") d)) (document_fields kind d))

-- a node's kind and fields, below a parent of this kind or at the root
unfoldable pub piece_of : Option Kind → Data → Result Piece Cause
piece_of above d =
    and_then (kind_by above (typed_by (get (codes "type") d)) d) (λ kind. and_then (fields_told kind d) (λ fields. Ok (record { kind = kind; fields = fields })))

-- ---- the tree: a node, and then its children in order

-- the tree of a piece with these below it
abbrev pub with_tree : Piece → Result (Trees Piece) Cause → Result (Trees Piece) Cause
with_tree piece below = and_then below (λ below. Ok (tree piece below nil))

-- a tree in front of others; the first refusal counts
abbrev pub with_rest : Result (Trees Piece) Cause → Result (Trees Piece) Cause → Result (Trees Piece) Cause
with_rest (Ok (tree piece below rest)) others = and_then others (λ others. Ok (tree piece below others))
with_rest (Ok nil) others = others
with_rest (Err cause) others = Err cause

-- what is read below an element; a leaf has nothing below it
abbrev pub if_element : Kind → Result (Trees Piece) Cause → Result (Trees Piece) Cause
if_element kind below = if is_element kind then below else Ok nil

unfoldable mutual
  -- the tree of a node's value, or the first thing that is wrong in it
  pub tree_of : Data → Option Kind → Result (Trees Piece) Cause
  tree_of (object members) above = and_then (piece_of above (object members)) (λ piece. with_tree piece (if_element piece.kind (children_in members piece.kind)))
  tree_of other above = Err (BadState [])

  -- the children that the member `children` holds
  pub children_in : Members → Kind → Result (Trees Piece) Cause
  children_in no_members kind = Ok nil
  children_in (member name d rest) kind = if bytes_eq (codes "children") name then listed d kind else children_in rest kind

  -- the trees of a list's items; another value than a list has none
  pub listed : Data → Kind → Result (Trees Piece) Cause
  listed (array items) kind = trees_of items 0 kind
  listed other kind = Ok nil

  -- the trees of items, the first of which is the child of this index
  pub trees_of : Items → ℕ → Kind → Result (Trees Piece) Cause
  trees_of no_items i kind = Ok nil
  trees_of (item d ds) i kind = with_rest (told_under (child_place i) (tree_of d (Some kind))) (trees_of ds (i + 1) kind)
