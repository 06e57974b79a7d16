-- What a node that is read shows.
use Rattle.std.proofs.Common.{◌≡◌, ◌≢◌, ◌∙◌, ℕ, true, Option, None, Some, option_map, Bor, refl, sym, ap, arith}
use Rattle.std.specs.Option.{option_copied}
use Rattle.std.specs.Prelude.{IfSome, IfNone}
use Rattle.lx_node.specs.Kinds.{is_possible}
use Rattle.lx_node.specs.OfKind.{IsOfKind, is_of_kind, fits_kind, is_element_of, is_extra_of, is_plain}
use Rattle.lx_node.specs.Plain.{plain_element}
use Rattle.lx_node.specs.declared.kind.Kind.{Kind}
use Rattle.lx_node.specs.declared.kind.Kind.TheVariants.{Root, Paragraph}
use Rattle.lx_node.specs.declared.fields.Fields.{Fields}
use Rattle.lx_node.specs.declared.node.Node.{Node}
use Rattle.lx_forest.specs.Forest.{Forest, Label}
use Rattle.lx_forest.specs.Lookups.{has, spot, label_of, kind_of, siblings}
use Rattle.lx_forest.specs.Records.{record_at, linked}
use Rattle.lx_trees.specs.Spots.{Spot}
use Rattle.lx_forest.specs.Suited.{is_suited}
use Rattle.lx_forest.proofs.Edits.{is_some-spot}
use Rattle.lx_forest.proofs.Lookups.{key-label_of}
use Rattle.lx_links.specs.Stands.{node_of, Sound}
use Rattle.lx_links.proofs.Seen.{Seen, seen_in}

-- the label of a node that is read
abbrev pub labelled : ℕ → Node → Label
labelled k n = record { key = k; kind = n.kind; fields = n.fields }

label_by : (f : Forest) (k : ℕ) (n : Node) (o : Option Label) → label_of f k ≡ o → option_map (λ (l : Label). l.kind) o ≡ Some n.kind
    → option_map (λ (l : Label). l.fields) o ≡ Some n.fields → o ≡ Some (labelled k n)
label_by f k n None is kind fields = absurd (cc)
label_by f k n (Some l) is kind fields =
    let a : l.key ≡ k = key-label_of f k l is in
    let b : l.kind ≡ n.kind = cc in
    let c : l.fields ≡ n.fields = cc in
    ap (λ (x : ℕ). let made : Label = record { key = x; kind = l.kind; fields = l.fields } in Some made) a
    ∙ ap (λ (x : Kind). let made : Label = record { key = k; kind = x; fields = l.fields } in Some made) b
    ∙ ap (λ (x : Fields). let made : Label = record { key = k; kind = n.kind; fields = x } in Some made) c

label_read : (o : Option (Bor Node)) (n : Bor Node) (f : Forest) (k : ℕ) → option_copied o ≡ option_map node_of (record_at f k) → o ≡ Some n
    → label_of f k ≡ Some (labelled k n.now)
label_read o n f k read is =
    let s : Seen f k n.now = seen_in o n f k read is in
    label_by f k n.now (label_of f k) refl s.kind s.fields

label_suits : (f : Forest) (k : ℕ) (n : Node) → Sound f → label_of f k ≡ Some (labelled k n) → IsOfKind n.kind n.fields
label_suits f k n s is = sym (ap is_suited is) ∙ s.suited.each k

-- a node that is read shows the label, and its fields are of its kind
pub labels : (o : Option (Bor Node)) (f : Forest) (k : ℕ) → option_copied o ≡ option_map node_of (record_at f k)
    → IfSome o (λ n. label_of f k ≡ Some (labelled k n.now))
labels None f k read = tt
labels (Some n) f k read = label_read (Some n) n f k read refl

pub suits : (o : Option (Bor Node)) (f : Forest) (k : ℕ) → Sound f → option_copied o ≡ option_map node_of (record_at f k)
    → IfSome o (λ n. IsOfKind n.now.kind n.now.fields)
suits None f k s read = tt
suits (Some n) f k s read = label_suits f k n.now s (label_read (Some n) n f k read refl)

none_by : (f : Forest) (k : ℕ) (o : Option (Spot Label)) → None ≡ option_map node_of (option_map (linked (siblings f k) k) o)
    → option_map (λ (s : Spot Label). s.label) o ≡ None
none_by f k None e = refl
none_by f k (Some s) e = absurd (cc)

-- where none is read, there is no label
pub no_label : (o : Option (Bor Node)) (f : Forest) (k : ℕ) → option_copied o ≡ option_map node_of (record_at f k) → IfNone o (label_of f k ≡ None)
no_label None f k read = none_by f k (spot f k) read
no_label (Some n) f k read = tt

-- a node has a label, and a kind that isn't the root's is in it
pub has_label : (f : Forest) (k : ℕ) → has k f ≡ true → label_of f k ≢ None
has_label f k there none = by_spot (spot f k) refl where
  by_spot : (s : Option (Spot Label)) → spot f k ≡ s → ⊥
  by_spot None is = absurd (grind (arith, there, is, is_some-spot f k))
  by_spot (Some s) is = let no : Some s.label ≡ None = sym (ap (option_map (λ (x : Spot Label). x.label)) is) ∙ none in absurd (cc)

pub other_kind : (f : Forest) (k : ℕ) (l : Label) → label_of f k ≡ Some l → kind_of f k ≢ Some Root → l.kind ≢ Root
other_kind f k l is other same = other (ap (option_map (λ (x : Label). x.kind)) is ∙ ap (λ kind. Some kind) same)

-- a new paragraph without any settings
pub paragraph_suits : IsOfKind Paragraph plain_element
unfolding is_of_kind fits_kind is_element_of is_extra_of is_plain is_possible
paragraph_suits = refl
