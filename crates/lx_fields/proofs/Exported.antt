-- What the object of a node includes: its type, its children, and its kind.
use Rattle.std.proofs.Common.{◌≡◌, ◌∙◌, refl, ap, codes, ℕ, zero, suc, List, ◌++◌, Bool, true, false, ◌&&◌, ◌==◌, leb, IsTrue, Option, None, Some, option_map, is_some, arith}
use Rattle.std.proofs.lemmas.Bool.{leb-true}
use Rattle.serde_json.specs.Data.{Data, string, array, Items, no_members}
use Rattle.serde_json.specs.Find.{get, as_object}
use Rattle.serde_json.specs.Written.{has_float, items_have_float}
use Rattle.lx_node.specs.Kinds.{is_element, is_possible, type_name}
use Rattle.lx_node.specs.OfKind.{IsOfKind, is_of_kind, fits_kind, is_element_of}
use Rattle.lx_node.specs.declared.kind.Kind.{Kind}
use Rattle.lx_node.specs.declared.kind.Kind.TheVariants as kind
use Rattle.lx_node.specs.declared.kind.ListType.{ListType}
use Rattle.lx_node.specs.declared.kind.ListType.TheVariants as list_type
use Rattle.lx_node.specs.declared.fields.Direction.{Direction}
use Rattle.lx_node.specs.declared.fields.Direction.TheVariants as direction
use Rattle.lx_node.specs.declared.fields.Extra.{Extra}
use Rattle.lx_node.specs.declared.fields.Extra.TheVariants as extra
use Rattle.lx_node.specs.declared.fields.Fields.{Fields}
use Rattle.lx_node.specs.declared.fields.Fields.TheVariants as fields
use Rattle.lx_fields.specs.Exporting.{node_data, field_members, kind_members, node_members, extra_members, kept, is_empty, direction_data, level_word, list_word}
use Rattle.lx_fields.specs.Parts.{natural, text_data, or_null}
use Rattle.lx_fields.specs.Types.{kind_of_type, kind_told, or_kept, told_by}
use Rattle.lx_fields.specs.Values.{named}
use Rattle.lx_fields.specs.Words.{levels, list_types}
use Rattle.lx_fields.proofs.Written.{found, found-onto, found-both, is_whole, are_whole, are_whole-both, members_have_float-onto, has_float-or_null, first_true, second_true}

-- ---- what a node includes

-- what a member of a node is
pub told_of : (name : List ℕ) (kind : Kind) (f : Fields) (below : Items)
    → get name (node_data kind f below) ≡ found name (node_members kind f below) (found name (kind_members kind) (found name (field_members kind f) None))
unfolding node_data
told_of name kind f below =
    found-onto name no_members (field_members kind f ++ kind_members kind ++ node_members kind f below)
    ∙ found-both name (field_members kind f ++ kind_members kind) (node_members kind f below) None
    ∙ ap (found name (node_members kind f below)) (found-both name (field_members kind f) (kind_members kind) None)

-- a node includes its type
pub type-there : (kind : Kind) (f : Fields) (below : Items) → get (codes "type") (node_data kind f below) ≡ Some (string (type_name kind))
type-there kind f below = told_of (codes "type") kind f below

-- a node is an object
pub is-object : (kind : Kind) (f : Fields) (below : Items) → is_some (as_object (node_data kind f below)) ≡ true
unfolding node_data
is-object kind f below = refl

-- fields of a kind of elements are an element's
by_kind : (kind : Kind) (f : Fields) → is_element kind ≡ true → IsTrue (fits_kind kind f) → IsTrue (is_element_of kind f)
unfolding is_element fits_kind
by_kind kind.Text f element fits = absurd (cc)
by_kind kind.Tab f element fits = absurd (cc)
by_kind kind.Break f element fits = absurd (cc)
by_kind kind.Rule f element fits = absurd (cc)
by_kind kind.Embed f element fits = absurd (cc)
by_kind _ f element fits = fits

children_by : (kind : Kind) (f : Fields) (below : Items) → IsTrue (is_element_of kind f) → get (codes "children") (node_data kind f below) ≡ Some (array below)
unfolding is_element_of
children_by kind (fields.Element e) below of = told_of (codes "children") kind (fields.Element e) below
children_by kind _ below of = absurd (cc)

-- an element includes its children
pub children-there : (kind : Kind) (f : Fields) (below : Items) → is_element kind ≡ true → IsOfKind kind f
    → get (codes "children") (node_data kind f below) ≡ Some (array below)
unfolding is_of_kind
children-there kind f below element of = children_by kind f below (by_kind kind f element (second_true (is_possible kind) (fits_kind kind f) of))

-- ---- the kind

-- a level's word, and a list type's, is read as the same
pub level_read : (level : ℕ) → IsTrue (leb 1 level && leb level 6) → named levels (string (level_word level)) ≡ Some level
level_read zero is = absurd (cc)
level_read (suc zero) is = refl
level_read (suc (suc zero)) is = refl
level_read (suc (suc (suc zero))) is = refl
level_read (suc (suc (suc (suc zero)))) is = refl
level_read (suc (suc (suc (suc (suc zero))))) is = refl
level_read (suc (suc (suc (suc (suc (suc zero)))))) is = refl
level_read (suc (suc (suc (suc (suc (suc (suc level))))))) is =
    let n : ℕ = suc (suc (suc (suc (suc (suc (suc level)))))) in
    absurd (omega (arith, leb-true n 6 (second_true (leb 1 n) (leb n 6) is)))

pub list_type_read : (type : ListType) → named list_types (string (list_word type)) ≡ Some type
list_type_read list_type.Bullet = refl
list_type_read _ = refl

-- a node says its kind
pub kind-back : (kind : Kind) (f : Fields) (below : Items) → IsOfKind kind f
    → option_map (λ base. kind_told base (node_data kind f below)) (kind_of_type (type_name kind)) ≡ Some kind
unfolding kind_told type_name is_of_kind is_possible
kind-back (kind.Heading level) f below of =
    ap (λ tag. Some (told_by (λ level. kind.Heading level) (kind.Heading 1) levels tag)) (told_of (codes "tag") (kind.Heading level) f below)
    ∙ ap (λ o. Some (or_kept (kind.Heading 1) (option_map (λ level. kind.Heading level) o)))
    (level_read level (first_true (leb 1 level && leb level 6) (fits_kind (kind.Heading level) f) of))
kind-back (kind.List type) f below of =
    ap (λ word. Some (told_by (λ type. kind.List type) (kind.List list_type.Bullet) list_types word)) (told_of (codes "listType") (kind.List type) f below)
    ∙ ap (λ o. Some (or_kept (kind.List list_type.Bullet) (option_map (λ type. kind.List type) o))) (list_type_read type)
kind-back _ f below of = refl

-- ---- floats

whole-kept : (kind : Kind) (default : Bool) (d : Data) → has_float d ≡ false → is_whole (kept kind default d) ≡ true
whole-kept kind.Paragraph default d is = rw is refl
whole-kept _ true d is = refl
whole-kept _ false d is = rw is refl

whole-checked : (checked : Option Bool) → are_whole (extra_members (extra.Item 0 checked)) ≡ true
whole-checked None = refl
whole-checked (Some checked) = refl

has_float-any : (text : Option (List ℕ)) → has_float (or_null text_data text) ≡ false
has_float-any text = has_float-or_null text_data (λ _. refl) text

whole-extra : (extra : Extra) → are_whole (extra_members extra) ≡ true
whole-extra extra.Plain = refl
whole-extra (extra.List start) = refl
whole-extra (extra.Item value checked) = whole-checked checked
whole-extra (extra.Link rel target title url) = rw (has_float-any rel, has_float-any target, has_float-any title) refl
whole-extra (extra.Cell header row_span col_span background) = rw (has_float-any background) refl

whole-direction : (d : Direction) → has_float (direction_data d) ≡ false
whole-direction direction.Unset = refl
whole-direction _ = refl

whole-fields : (kind : Kind) (f : Fields) → are_whole (field_members kind f) ≡ true
whole-fields kind (fields.Element e) =
    rw (whole-direction e.direction, whole-kept kind (e.text_format == 0) (natural e.text_format) refl, whole-kept kind (is_empty e.text_style) (text_data e.text_style) refl) (whole-extra e.extra)
whole-fields kind _ = refl

whole-kind : (kind : Kind) → are_whole (kind_members kind) ≡ true
whole-kind (kind.Heading level) = refl
whole-kind (kind.List type) = refl
whole-kind _ = refl

whole-node : (kind : Kind) (f : Fields) (below : Items) → items_have_float below ≡ false → are_whole (node_members kind f below) ≡ true
whole-node kind (fields.Element e) below is = rw is refl
whole-node kind _ below is = refl

-- a node has no float, where what is written for its children has none
pub no-float : (kind : Kind) (f : Fields) (below : Items) → items_have_float below ≡ false → has_float (node_data kind f below) ≡ false
unfolding node_data
no-float kind f below is =
    members_have_float-onto no_members (field_members kind f ++ kind_members kind ++ node_members kind f below) refl
    (are_whole-both (field_members kind f ++ kind_members kind) (node_members kind f below)
    (are_whole-both (field_members kind f) (kind_members kind) (whole-fields kind f) (whole-kind kind))
    (whole-node kind f below is))
