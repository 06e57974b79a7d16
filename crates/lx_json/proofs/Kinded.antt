-- What a node's type says of its kind.
use Rattle.std.proofs.Common.{◌≡◌, ◌≢◌, ◌∙◌, ℕ, Bool, true, false, is_some, codes, List, [], ◌∷◌, if◌then◌else◌, Option, None, Some, Result, Ok, Err, refl, ap, sym, IsUtf8, Ordering}
use Rattle.serde_json.specs.Data.{Data, null, string}
use Rattle.serde_json.specs.Find.{get, as_null, as_str}
use Rattle.lx_node.specs.Kinds.{is_possible, may_hold, is_block, is_inline, is_item, is_row, is_cell, is_link, is_paragraph, is_heading, is_list}
use Rattle.lx_node.specs.declared.kind.Kind.{Kind}
use Rattle.lx_node.specs.declared.kind.Kind.TheVariants.{Root, Heading, List as ListKind}
use Rattle.lx_node.specs.declared.cause.Cause.{Cause}
use Rattle.lx_fields.specs.Types.{kind_of_type, kind_told}
use Rattle.lx_fields.specs.Words.{made_kinds, levels, list_types}
use Rattle.lx_fields.proofs.Sound.{all_rows, rows_tested, kind_tested, told_by_holds}
use Rattle.lx_json.specs.Pieces.{is_root, IsToldKind}
use Rattle.std.specs.Str.{chars}
use Rattle.std.specs.Ordering.{nat_cmp, match_ordering}
use Rattle.std.specs.declared.cmp.Ordering.TheVariants.{Less, Equal, Greater}
use Rattle.std.specs.Cmp.Lexicographic.{slice_cmp}
use Rattle.lx_node.specs.declared.cause.Cause.TheVariants.{BadState}
use Rattle.lx_node.specs.declared.fields.Fields.{Fields}
use Rattle.lx_json.specs.Reading.{Typed, missing, unlike, typed, typed_by, placed_kind, kind_by, first_bad, fields_or_bad, member_place}
use Rattle.lx_json.proofs.Ordered.{same_order}

-- ---- the type

pub typed_unlike : (o : Option Data) (d : Data) → o ≡ Some d → is_some (as_null d) ≡ false → as_str d ≡ None → typed_by o ≡ unlike
typed_unlike o null e is none = absurd (cc)
typed_unlike o (string s) e is none = absurd (cc)
typed_unlike o _ e is none = ap typed_by e

pub kind_unlike : (above : Option Kind) (d : Data) → kind_by above unlike d ≡ Err (BadState [])
kind_unlike None d = refl
kind_unlike (Some parent) d = refl

-- at the root another type is refused
pub placed_top : (kind : Kind) (text : List ℕ) (d : Data) → kind ≢ Root → placed_kind None (Some kind) text d ≡ Err (BadState (codes "/type"))
placed_top Root text d other = absurd (other refl)
placed_top _ text d other = refl

-- ---- the first of the bad members

pub first_children : (is_bad : Bool) (bs : List ℕ) → IsUtf8 bs → is_bad ≡ true → slice_cmp nat_cmp bs (codes "children") ≡ Greater
    → fields_or_bad (first_bad is_bad (Err (chars bs))) ≡ Err (BadState (member_place (codes "children")))
first_children is_bad bs utf8 bad is =
    ap (λ b. fields_or_bad (first_bad b (Err (chars bs)))) bad
    ∙ ap (λ o. Err (BadState (member_place (match_ordering o (chars bs) (chars bs) (codes "children")))))
    (sym (same_order bs (codes "children") utf8 refl) ∙ is)

pub first_named : (bs : List ℕ) → IsUtf8 bs → slice_cmp nat_cmp bs (codes "children") ≢ Greater
    → fields_or_bad (first_bad true (Err (chars bs))) ≡ Err (BadState (member_place (chars bs)))
first_named bs utf8 other = by_order (slice_cmp nat_cmp (chars bs) (codes "children")) (λ is. other (same_order bs (codes "children") utf8 refl ∙ is))
  where
    by_order : (o : Ordering) → o ≢ Greater
        → ◌≡◌ {A = Result Fields Cause} (Err (BadState (member_place (match_ordering o (chars bs) (chars bs) (codes "children")))))
        (Err (BadState (member_place (chars bs))))
    by_order Less other = refl
    by_order Equal other = refl
    by_order Greater other = absurd (other refl)

pub bad_children : (is_bad : Bool) (r : Result Fields (List ℕ)) (fields : Fields) → is_bad ≡ true → r ≡ Ok fields
    → fields_or_bad (first_bad is_bad r) ≡ Err (BadState (member_place (codes "children")))
bad_children is_bad r fields bad is = ap (λ b. fields_or_bad (first_bad b r)) bad ∙ ap (λ r. fields_or_bad (first_bad true r)) is

-- ---- kinds that a node can be, and the root's kind, which is the root's alone

type_possible : (text : List ℕ) (kind : Kind) → kind_of_type text ≡ Some kind → is_possible kind ≡ true
unfolding is_possible
type_possible text kind is = kind_tested is_possible (Root ∷ made_kinds) refl text kind is

kind_told-possible : (kind : Kind) (d : Data) → is_possible kind ≡ true → is_possible (kind_told kind d) ≡ true
unfolding kind_told is_possible
kind_told-possible (Heading level) d was =
    told_by_holds (λ kind. is_possible kind ≡ true) (λ level. Heading level) (Heading level) levels (get (codes "tag") d)
    (rows_tested (λ level. is_possible (Heading level)) levels refl) was
kind_told-possible (ListKind type) d was =
    told_by_holds (λ kind. is_possible kind ≡ true) (λ type. ListKind type) (ListKind type) list_types (get (codes "listType") d)
    (rows_tested (λ type. is_possible (ListKind type)) list_types refl) was
kind_told-possible _ d was = was

kind_told-below : (kind : Kind) (d : Data) → is_root kind ≡ false → is_root (kind_told kind d) ≡ false
unfolding kind_told
kind_told-below (Heading level) d was =
    told_by_holds (λ kind. is_root kind ≡ false) (λ level. Heading level) (Heading level) levels (get (codes "tag") d)
    (all_rows (λ level. is_root (Heading level) ≡ false) (λ level. refl) levels) was
kind_told-below (ListKind type) d was =
    told_by_holds (λ kind. is_root kind ≡ false) (λ type. ListKind type) (ListKind type) list_types (get (codes "listType") d)
    (all_rows (λ type. is_root (ListKind type) ≡ false) (λ type. refl) list_types) was
kind_told-below _ d was = was

holds_no_root : (parent : Kind) → may_hold parent Root ≡ false
unfolding may_hold is_block is_inline is_item is_row is_cell is_link is_paragraph is_heading is_list
holds_no_root Root = refl
holds_no_root _ = refl

held_below : (parent kind : Kind) → may_hold parent kind ≡ true → is_root kind ≡ false
held_below parent Root holds = absurd (let none = holds_no_root parent in cc)
held_below parent _ holds = refl

-- ---- the kind of a node

if_held : (b : Bool) (k kind : Kind) (cause : Cause) → ◌≡◌ {A = Result Kind Cause} (if b then Ok k else Err cause) (Ok kind) → (b ≡ true) × (k ≡ kind)
if_held true k kind cause e = (refl, cc)
if_held false k kind cause e = absurd (cc)

root_possible : is_possible Root ≡ true
unfolding is_possible
root_possible = refl

top_kind : (o : Option Kind) (text : List ℕ) (d : Data) (kind : Kind) → placed_kind None o text d ≡ Ok kind → kind ≡ Root
top_kind None text d kind e = absurd (cc)
top_kind (Some Root) text d kind e = cc
top_kind (Some _) text d kind e = absurd (cc)

is_top : (kind : Kind) → kind ≡ Root → IsToldKind None kind
is_top kind is = record { possible = ap is_possible is ∙ root_possible; below = λ some. absurd (cc); top = λ none. is }

placed_below : (parent : Kind) (o : Option Kind) (text : List ℕ) (d : Data) (kind : Kind) → ((k : Kind) → o ≡ Some k → is_possible k ≡ true)
    → placed_kind (Some parent) o text d ≡ Ok kind → IsToldKind (Some parent) kind
placed_below parent None text d kind each e = absurd (cc)
placed_below parent (Some k) text d kind each e =
    let held = if_held (may_hold parent k) (kind_told k d) kind _ e in
    record {
      possible = ap is_possible (sym held.1) ∙ kind_told-possible k d (each k refl);
      below = λ some. ap is_root (sym held.1) ∙ kind_told-below k d (held_below parent k held.0);
      top = λ none. absurd (cc);
    }

pub told_kind : (above : Option Kind) (t : Typed) (d : Data) (kind : Kind) → kind_by above t d ≡ Ok kind → IsToldKind above kind
told_kind None missing d kind e = is_top kind (cc)
told_kind (Some parent) missing d kind e = absurd (cc)
told_kind None unlike d kind e = absurd (cc)
told_kind (Some parent) unlike d kind e = absurd (cc)
told_kind None (typed text) d kind e = is_top kind (top_kind (kind_of_type text) text d kind e)
told_kind (Some parent) (typed text) d kind e =
    placed_below parent (kind_of_type text) text d kind (type_possible text) e

pub not_root : (kind : Kind) → is_root kind ≡ false → kind ≢ Root
not_root kind is = λ same. absurd (let all = ap is_root same in cc)
