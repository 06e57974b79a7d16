-- A text that is cut, and its tail.
use Rattle.std.proofs.Common.{ℕ, ◌≡◌, ◌∙◌, List, [], Some, ap, sym, subst}
use Rattle.std.specs.Prelude.{chars}
use Rattle.std.proofs.lemmas.Str.{chars-nil}
use Rattle.lx_node.specs.OfKind.{IsOfKind, is_of_kind, fits_kind, is_text_of, are_text_fields}
use Rattle.lx_node.specs.Kinds.{is_possible}
use Rattle.lx_node.specs.declared.kind.Kind.TheVariants.{Text}
use Rattle.lx_node.specs.declared.fields.Fields.TheVariants as fields
use Rattle.lx_node.specs.declared.fields.TextFields.{TextFields}
use Rattle.lx_text.specs.Texts.{slice_fault, TellsFirst}
use Rattle.lx_forest.specs.Forest.{Forest}
use Rattle.lx_forest.specs.Lookups.{label_of}
use Rattle.lx_draft.specs.Selecting.{length_told}
use Rattle.lx_node.specs.declared.cause.Fault.{Fault}
use Rattle.lx_draft.specs.Faults.{text_in, splice_fault, TellsFault}
use Rattle.lx_draft.specs.Steps.{text_replaced}
use Rattle.lx_draft.proofs.Spliced.{fault_of_text, piece_refused}
use Rattle.lx_edit.specs.Conditions.{length_in, length_at}

-- no bytes spell no characters
pub no_characters : chars [] ≡ []
no_characters = chars-nil

-- what is of a text's kind is so with any other text
pub text_of_kind : (t : TextFields) (text : List ℕ) → IsOfKind Text (fields.Text t) → IsOfKind Text (text_replaced t text)
unfolding is_of_kind fits_kind is_text_of are_text_fields is_possible
text_of_kind t text h = h

-- of a text, only the piece after the offset can be refused
pub tail_fault : (f : Forest) (k : ℕ) (t : TextFields) (offset : ℕ) → text_in (label_of f k) ≡ Some t
    → splice_fault k offset (length_at f k) f ≡ slice_fault t.text offset (length_told t.text)
tail_fault f k t offset found =
    fault_of_text f k t offset (length_at f k) found ∙ ap (λ o. slice_fault t.text offset (length_in o)) found

-- and an error of the text's own call says that
pub tail_refused : (f : Forest) (k : ℕ) (t : TextFields) (offset : ℕ) (fault : Fault) → text_in (label_of f k) ≡ Some t
    → TellsFirst (slice_fault t.text offset (length_told t.text)) fault
    → TellsFault fault (splice_fault k offset (length_at f k) f)
tail_refused f k t offset fault found told =
    subst (λ n. TellsFault fault (splice_fault k offset n f)) (sym (ap length_in found)) (piece_refused f k t offset (length_told t.text) fault found told)
