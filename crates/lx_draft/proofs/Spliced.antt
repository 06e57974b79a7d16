-- A text in which a piece is replaced: why that is refused.
use Rattle.std.proofs.Common.{◌≡◌, ℕ, cond, Option, None, Some, refl, ◌∙◌, arith}
use Rattle.std.specs.Prelude.{option_map, is_some}
use Rattle.lx_node.specs.declared.fields.TextFields.{TextFields}
use Rattle.lx_node.specs.declared.cause.Cause.TheVariants.{UnknownNode, WrongKind}
use Rattle.lx_node.specs.declared.cause.Named.TheVariants.{Key}
use Rattle.lx_node.specs.declared.cause.Fault.{Fault}
use Rattle.lx_node.specs.declared.cause.Fault.TheVariants as the_fault
use Rattle.lx_text.specs.Texts.{slice_fault, TellsFirst}
use Rattle.lx_forest.specs.Forest.{Forest, Label}
use Rattle.lx_forest.specs.Lookups.{spot, label_of}
use Rattle.lx_node.specs.declared.node.Node.{Node}
use Rattle.lx_trees.specs.Spots.{Spot}
use Rattle.lx_forest.specs.Records.{record_at}
use Rattle.lx_links.specs.Stands.{node_of}
use Rattle.lx_forest.proofs.Edits.{is_some-spot}
use Rattle.lx_links.specs.Faults.{unknown}
use Rattle.lx_draft.specs.Faults.{text_fields, text_in, splice_fault, TellsFault}

-- ---- by the node

known_by : (f : Forest) (k : ℕ) (o : Option (Spot Label)) → spot f k ≡ o → unknown f k ≡ cond (is_some o) None (Some (UnknownNode (Key k)))
known_by f k o e = grind (arith, e, is_some-spot f k)

-- where there is no node, the key isn't known
pub unknown_without : (f : Forest) (k : ℕ) → option_map node_of (record_at f k) ≡ None → (from to : ℕ) → splice_fault k from to f ≡ Some (UnknownNode (Key k))
unknown_without f k e from to = go (spot f k) refl e where
  go : (o : Option (Spot Label)) → spot f k ≡ o → option_map node_of (record_at f k) ≡ None → splice_fault k from to f ≡ Some (UnknownNode (Key k))
  go None here e = rw (known_by f k None here) refl
  go (Some s) here e = absurd (grind (arith, here, e))

-- where it isn't a text, its kind is the wrong one
pub no_text : (f : Forest) (k : ℕ) (n : Node) → option_map node_of (record_at f k) ≡ Some n → text_fields n.kind n.fields ≡ None → (from to : ℕ)
    → splice_fault k from to f ≡ Some (WrongKind n.kind)
no_text f k n e none from to = go (spot f k) refl e where
  go : (o : Option (Spot Label)) → spot f k ≡ o → option_map node_of (record_at f k) ≡ Some n → splice_fault k from to f ≡ Some (WrongKind n.kind)
  go None here e = absurd (grind (arith, here, e))
  go (Some s) here e =
      let kind : s.label.kind ≡ n.kind = grind (arith, here, e) in
      let fields : s.label.fields ≡ n.fields = grind (arith, here, e) in
      rw (known_by f k (Some s) here, here, kind, fields, none) refl

known_with_label : (f : Forest) (k : ℕ) (l : Label) → label_of f k ≡ Some l → unknown f k ≡ None
known_with_label f k l e = grind (arith, e, is_some-spot f k)

-- ---- by the label

fault_by : (f : Forest) (k : ℕ) (o : Option Label) (t : TextFields) (from to : ℕ) → label_of f k ≡ o → text_in o ≡ Some t
    → splice_fault k from to f ≡ slice_fault t.text from to
fault_by f k None t from to e here = absurd (grind (arith, here))
fault_by f k (Some l) t from to e here = rw (known_with_label f k l e, e, here) refl

-- of a text only the piece can be refused
pub fault_of_text : (f : Forest) (k : ℕ) (t : TextFields) (from to : ℕ) → text_in (label_of f k) ≡ Some t
    → splice_fault k from to f ≡ slice_fault t.text from to
fault_of_text f k t from to here = fault_by f k (label_of f k) t from to refl here

-- what an error of the text's own call says
pub piece_refused : (f : Forest) (k : ℕ) (t : TextFields) (from to : ℕ) (fault : Fault) → text_in (label_of f k) ≡ Some t
    → TellsFirst (slice_fault t.text from to) fault → TellsFault fault (splice_fault k from to f)
piece_refused f k t from to (the_fault.Cause cause) here told = fault_of_text f k t from to here ∙ told
piece_refused f k t from to the_fault.Memory here told = tt
