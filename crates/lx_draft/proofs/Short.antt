-- Texts that are short stay so with each edit of a draft's forest.
use Rattle.std.proofs.Common.{◌≡◌, ◌∙◌, ℕ, ◌+◌, ◌*◌, ◌≤◌, Bool, true, false, cond, eqb, List, [], ◌∷◌, length, Option, None, Some, refl, sym, ap, subst, arith, inl, inr}
use Rattle.std.specs.Prelude.{option_map, sum_by}
use Rattle.std.proofs.lemmas.Bool.Decides.{eqb_tells}
use Rattle.std.proofs.lemmas.List.Sums.{sum_by-cons}
use Rattle.lx_trees.specs.Siblings.{is_among}
use Rattle.lx_trees.specs.Trees.{nil}
use Rattle.lx_node.specs.Limits.{most_characters}
use Rattle.lx_node.specs.Strings.{characters_of, characters_of_text}
use Rattle.lx_node.specs.declared.fields.Fields.{Fields}
use Rattle.lx_node.specs.declared.fields.Fields.TheVariants as fields
use Rattle.lx_node.proofs.CodeUnits.{units-few}
use Rattle.lx_text.specs.Texts.{text_length, spliced_text, slice_fault}
use Rattle.lx_text.proofs.Places.{length-none}
use Rattle.lx_text.proofs.Told.{piece_of, splice-length}
use Rattle.lx_forest.specs.Forest.{Forest, Label}
use Rattle.lx_forest.specs.Lookups.{has, label_of, fields_of, preorder, is_attached, IsForest}
use Rattle.lx_forest.specs.Edits.{with_new, with_fields, take_out, put_in, drop_detached, CanPut}
use Rattle.lx_forest.proofs.Lookups.{label_of-with_new, label_of-take_out, label_of-put_in, label_of-drop_detached, fields_of-with_fields}
use Rattle.lx_forest.proofs.Edits.{is_some-spot}
use Rattle.lx_forest.proofs.Walks.{is_among-preorder_of}
use Rattle.lx_draft.specs.Selecting.{text_of}
use Rattle.lx_draft.specs.Sizes.{characters_of_found, characters_at, tree_characters, AreShort}

-- ---- texts

pub length-few : (text : List ℕ) → text_length text ≤ 2 * length text
unfolding text_length
length-few text = omega (arith, units-few text)

-- fields, if there are some, whose text is short where so much was written
abbrev pub IsShort : ℕ → Option Fields → Type 0
IsShort written x = text_length (text_of x) ≤ 2 * (most_characters + written)

pub nothing-short : (written : ℕ) → IsShort written None
nothing-short written = omega (arith, length-none)

pub more-short : (written more : ℕ) (x : Option Fields) → written ≤ more → IsShort written x → IsShort more x
more-short written more x le short = omega (arith, le, short)

-- a text is as long as its characters make it
length-fields : (x : Fields) → text_length (text_of (Some x)) ≤ 2 * characters_of x
unfolding characters_of characters_of_text
length-fields (fields.Text text) = omega (arith, length-few text.text)
length-fields (fields.Element element) = omega (arith, length-none)
length-fields (fields.Embed source) = omega (arith, length-none)
length-fields fields.Bare = omega (arith, length-none)

-- what is written is short
pub fields-short : (written : ℕ) (x : Fields) → characters_of x ≤ written → IsShort written (Some x)
fields-short written x le = omega (arith, le, length-fields x)

pub splice-short : (written from to : ℕ) (new text : List ℕ) → slice_fault text from to ≡ None
    → text_length text ≤ 2 * (most_characters + written)
    → text_length (spliced_text from to new text) ≤ 2 * (most_characters + (written + length new))
splice-short written from to new text piece short =
    omega (arith, splice-length from to new text piece, (piece_of from to text piece).in_order, length-few new, short)

-- ---- forests

pub short-more : (f : Forest) (written more : ℕ) → written ≤ more → AreShort f written → AreShort f more
short-more f written more le short = record { each = λ q. more-short written more (fields_of f q) le (short.each q) }

pub short-nil : (written : ℕ) → AreShort nil written
short-nil written = record { each = λ q. nothing-short written }

-- a forest whose labels are those of another
pub same-short : (f g : Forest) (written : ℕ) → ((q : ℕ) → label_of g q ≡ label_of f q) → AreShort f written → AreShort g written
same-short f g written same short =
    record { each = λ q. subst (λ l. IsShort written (option_map (λ x. x.fields) l)) (sym (same q)) (short.each q) }

pub short-take_out : (k : ℕ) (f : Forest) (written : ℕ) → IsForest f → AreShort f written → AreShort (take_out k f) written
short-take_out k f written h = same-short f (take_out k f) written (λ q. label_of-take_out k f q h)

pub short-put_in : (p : ℕ) (before : Option ℕ) (k : ℕ) (f : Forest) (written : ℕ) → IsForest f → CanPut p k f → AreShort f written
    → AreShort (put_in p before k f) written
short-put_in p before k f written h can = same-short f (put_in p before k f) written (λ q. label_of-put_in p before k f q h can)

pub short-with_new : (l : Label) (f : Forest) (written : ℕ) → IsForest f → has l.key f ≡ false → characters_of l.fields ≤ written → AreShort f written
    → AreShort (with_new l f) written
short-with_new l f written h free few short = record {
  each = λ q. subst (λ o. IsShort written (option_map (λ x. x.fields) o)) (sym (label_of-with_new l f q h free)) (by_key q (eqb q l.key));
} where
  by_key : (q : ℕ) (own : Bool) → IsShort written (option_map (λ x. x.fields) (cond own (Some l) (label_of f q)))
  by_key q true = fields-short written l.fields few
  by_key q false = short.each q

pub short-with_fields : (k : ℕ) (x : Fields) (f : Forest) (written : ℕ) → IsShort written (Some x) → AreShort f written → AreShort (with_fields k x f) written
short-with_fields k x f written new short = record {
  each = λ q. subst (IsShort written) (sym (fields_of-with_fields k x f q)) (by_fields (fields_of f q) (eqb q k) (short.each q));
} where
  by_fields : (o : Option Fields) (own : Bool) → IsShort written o → IsShort written (option_map (λ old. cond own x old) o)
  by_fields None own old = old
  by_fields (Some y) true old = new
  by_fields (Some y) false old = old

pub short-drop_detached : (f : Forest) (written : ℕ) → IsForest f → AreShort f written → AreShort (drop_detached f) written
short-drop_detached f written h short = record {
  each = λ q. subst (λ o. IsShort written (option_map (λ x. x.fields) o)) (sym (label_of-drop_detached f q h)) (by_test q (is_attached f q));
} where
  by_test : (q : ℕ) (attached : Bool) → IsShort written (option_map (λ x. x.fields) (cond attached (label_of f q) None))
  by_test q true = short.each q
  by_test q false = nothing-short written

-- ---- a state that an update starts from

le-sum : (measure : ℕ → ℕ) (k : ℕ) (ks : List ℕ) → is_among k ks ≡ true → measure k ≤ sum_by measure ks
le-sum measure k [] among = absurd (grind (arith, among))
le-sum measure k (x ∷ ks) among = elim (eqb_tells x k) [
  | inl own ↦ omega (arith, ap measure own.1, sum_by-cons measure x ks)
  | inr other ↦ omega (arith, sum_by-cons measure x ks, le-sum measure k ks (grind (arith, among, other.0)))
]

there_with : (f : Forest) (q : ℕ) (x : Fields) → fields_of f q ≡ Some x → has q f ≡ true
there_with f q x is = grind (arith, is, is_some-spot f q)

characters_with : (f : Forest) (q : ℕ) (x : Fields) → fields_of f q ≡ Some x → characters_at f q ≡ characters_of x
characters_with f q x is = ap characters_of_found is

-- where nothing is detached, each text is as short as all of them
pub short-whole : (f : Forest) → ((q : ℕ) → has q f ≡ true → is_attached f q ≡ true) → tree_characters f ≤ most_characters → AreShort f 0
short-whole f whole few = record { each = λ q. by_fields q (fields_of f q) refl } where
  by_fields : (q : ℕ) (o : Option Fields) → fields_of f q ≡ o → IsShort 0 (fields_of f q)
  by_fields q None is = subst (IsShort 0) (sym is) (nothing-short 0)
  by_fields q (Some x) is =
      subst (IsShort 0) (sym is)
      (omega (
        arith,
        length-fields x,
        few,
        le-sum (characters_at f) q (preorder f) (is_among-preorder_of f q ∙ whole q (there_with f q x is)),
        characters_with f q x is,
      ))
