-- Reading what is written for a node, member by member.
use Rattle.std.proofs.Common.{◌≡◌, refl, sym, ap, ℕ, List, [], ◌∷◌, Bool, true, false, ◌==◌, ◌&&◌, leb, IsTrue, Option, None, Some, option_map, arith, le-leb, eqb-true}
use Rattle.std.specs.Option.{option_or}
use Rattle.serde_json.specs.Data.{Data, boolean, string}
use Rattle.lx_node.specs.Kinds.{is_element, is_list, is_item, is_link, is_cell, is_text, has_characters, is_embed}
use Rattle.lx_node.specs.OfKind.{is_span}
use Rattle.lx_node.specs.Same.{same_mode, same_align}
use Rattle.lx_node.specs.declared.kind.Kind.{Kind}
use Rattle.lx_node.specs.declared.kind.Kind.TheVariants as kind
use Rattle.lx_node.specs.declared.kind.ListType.{ListType}
use Rattle.lx_node.specs.declared.fields.Mode.{Mode}
use Rattle.lx_node.specs.declared.fields.Mode.TheVariants as mode
use Rattle.lx_node.specs.declared.fields.Direction.{Direction}
use Rattle.lx_node.specs.declared.fields.Direction.TheVariants as direction
use Rattle.lx_node.specs.declared.fields.Align.{Align}
use Rattle.lx_node.specs.declared.fields.Align.TheVariants as align
use Rattle.lx_node.specs.declared.fields.Extra.{Extra}
use Rattle.lx_node.specs.declared.fields.Extra.TheVariants as extra
use Rattle.lx_node.specs.declared.fields.Fields.{Fields}
use Rattle.lx_node.specs.declared.fields.Fields.TheVariants as fields
use Rattle.lx_step.specs.Patches.{has, with_member, element_with_member, text_with_member, with_extra, with_source}
use Rattle.lx_fields.specs.declared.words.Name.{Name}
use Rattle.lx_fields.specs.declared.words.Name.TheVariants as name
use Rattle.lx_fields.specs.Documents.{item_with_value, with_given, given_by}
use Rattle.lx_fields.specs.Exporting.{kept, is_empty, direction_data, align_word, mode_word, list_word, level_word}
use Rattle.lx_fields.specs.Members.{settable}
use Rattle.lx_fields.specs.Parts.{natural, text_data, or_null}
use Rattle.lx_fields.specs.Storable.{IsText, IsTextIfAny, IsShort}
use Rattle.lx_fields.proofs.Exported.{level_read, list_type_read}
use Rattle.lx_fields.proofs.Written.{both_true}

-- a member of the kind, where this is found of it, makes the one fields the other
pub record Gives (kind : Kind) (known : Name) (o : Option Data) (old new : Fields) : Type 0 where
  pub same : given_by kind known o old ≡ Some new

-- an element with these fields
abbrev pub made : Direction → Align → ℕ → ℕ → List ℕ → Extra → Fields
made d a indent format style extra =
    fields.Element (record { direction = d; format = a; indent = indent; text_format = format; text_style = style; extra = extra })

-- a text with these fields
abbrev pub told : List ℕ → ℕ → ℕ → Mode → List ℕ → Fields
told text format detail mode style = fields.Text (record { text = text; format = format; detail = detail; mode = mode; style = style })

-- ---- numbers

up_to : (n most : ℕ) → IsTrue (leb n most) → IsTrue (leb 0 n && leb n most)
up_to n most is = both_true (leb 0 n) (leb n most) (le-leb 0 n (omega arith)) is

short : (n : ℕ) → IsShort n → IsTrue (leb 0 n && leb n 65535)
short n is = up_to n 65535 (le-leb n 65535 is)

-- ---- what each element includes

pub direction_given : {kind : Kind} {a : Align} {i t : ℕ} {s : List ℕ} {x : Extra} (d : Direction) → is_element kind ≡ true
    → Gives kind name.Direction (Some (direction_data d)) (made direction.Unset a i t s x) (made d a i t s x)
unfolding given_by with_given settable has with_member element_with_member
direction_given direction.Unset element = record { same = refl }
direction_given direction.Ltr element = record { same = rw element refl }
direction_given direction.Rtl element = record { same = rw element refl }

pub align_given : {kind : Kind} {d : Direction} {old : Align} {i t : ℕ} {s : List ℕ} {x : Extra} (a : Align) → is_element kind ≡ true
    → Gives kind name.Format (Some (string (align_word a))) (made d old i t s x) (made d a i t s x)
unfolding same_align given_by with_given settable has with_member element_with_member
align_given align.Unset element = record { same = rw element refl }
align_given _ element = record { same = rw element refl }

pub indent_given : {kind : Kind} {d : Direction} {a : Align} {old t : ℕ} {s : List ℕ} {x : Extra} (i : ℕ) → is_element kind ≡ true → IsShort i
    → Gives kind name.Indent (Some (natural i)) (made d a old t s x) (made d a i t s x)
unfolding given_by with_given settable has with_member element_with_member
indent_given i element range = record { same = rw (short i range, element) refl }

-- a member that may be left out gives what it says, where that is so by default
kept_given : {kind : Kind} {known : Name} {old new : Fields} (default : Bool) (d : Data) → given_by kind known (Some d) old ≡ Some new
    → (default ≡ true → old ≡ new)
    → Gives kind known (option_or (kept kind default d) None) old new
unfolding given_by
kept_given {kind = kind.Paragraph} default d is none = record { same = is }
kept_given {kind = _} true d is none = record { same = ap (λ f. Some f) (none refl) }
kept_given {kind = _} false d is none = record { same = is }

pub text_format_given : {kind : Kind} {d : Direction} {a : Align} {i : ℕ} {s : List ℕ} {x : Extra} (t : ℕ) → is_element kind ≡ true → IsShort t
    → Gives kind name.TextFormat (option_or (kept kind (t == 0) (natural t)) None) (made d a i 0 s x) (made d a i t s x)
unfolding given_by with_given settable has with_member element_with_member
text_format_given {d = d} {a = a} {i = i} {s = s} {x = x} t element range =
    kept_given (t == 0) (natural t) (rw (short t range, element) refl) (λ is. ap (λ n. made d a i n s x) (sym (eqb-true t 0 is)))

no_text : (text : List ℕ) → is_empty text ≡ true → [] ≡ text
no_text [] is = refl
no_text (c ∷ text) is = absurd (cc)

pub text_style_given : {kind : Kind} {d : Direction} {a : Align} {i t : ℕ} {x : Extra} (s : List ℕ) → is_element kind ≡ true → IsText s
    → Gives kind name.TextStyle (option_or (kept kind (is_empty s) (text_data s)) None) (made d a i t [] x) (made d a i t s x)
unfolding given_by with_given settable has with_member element_with_member
text_style_given {d = d} {a = a} {i = i} {t = t} {x = x} s element scalar =
    kept_given (is_empty s) (text_data s) (rw (scalar, element) refl) (λ is. ap (λ text. made d a i t text x) (no_text s is))

-- ---- what headings, lists and items include

pub tag_given : {old : Fields} (level : ℕ) → IsTrue (leb 1 level && leb level 6)
    → Gives (kind.Heading level) name.Tag (Some (string (level_word level))) old old
unfolding given_by with_given
tag_given {old = old} level is = record { same = ap (option_map (λ level. old)) (level_read level is) }

pub list_type_given : {old : Fields} (type : ListType) → Gives (kind.List type) name.ListType (Some (string (list_word type))) old old
unfolding given_by with_given
list_type_given {old = old} type = record { same = ap (option_map (λ type. old)) (list_type_read type) }

pub start_given : {type : ListType} {d : Direction} {a : Align} {i t : ℕ} {s : List ℕ} {old : ℕ} (n : ℕ) → IsTrue (leb n 1000000)
    → Gives (kind.List type) name.Start (Some (natural n)) (made d a i t s (extra.List old)) (made d a i t s (extra.List n))
unfolding is_list given_by with_given settable has with_member element_with_member with_extra
start_given n range = record { same = rw (up_to n 1000000 range) refl }

pub checked_given : {d : Direction} {a : Align} {i t : ℕ} {s : List ℕ} {v : ℕ} (checked : Option Bool)
    → Gives kind.Item name.Checked (option_or (option_map boolean checked) None) (made d a i t s (extra.Item v None)) (made d a i t s (extra.Item v checked))
unfolding is_item given_by with_given settable has with_member element_with_member with_extra
checked_given None = record { same = refl }
checked_given (Some checked) = record { same = refl }

pub value_given : {d : Direction} {a : Align} {i t : ℕ} {s : List ℕ} {old : ℕ} {checked : Option Bool} (n : ℕ) → IsTrue (leb n 1200000)
    → Gives kind.Item name.Value (Some (natural n)) (made d a i t s (extra.Item old checked)) (made d a i t s (extra.Item n checked))
unfolding given_by with_given item_with_value
value_given n range = record { same = rw (up_to n 1200000 range) refl }

-- ---- what links include

pub rel_given : {d : Direction} {a : Align} {i t : ℕ} {s : List ℕ} {target title : Option (List ℕ)} {url : List ℕ} (rel : Option (List ℕ)) → IsTextIfAny rel
    → Gives kind.Link name.Rel (Some (or_null text_data rel)) (made d a i t s (extra.Link None target title url))
    (made d a i t s (extra.Link rel target title url))
unfolding is_link given_by with_given settable has with_member element_with_member with_extra
rel_given None scalar = record { same = refl }
rel_given (Some rel) scalar = record { same = rw scalar refl }

pub target_given : {d : Direction} {a : Align} {i t : ℕ} {s : List ℕ} {rel title : Option (List ℕ)} {url : List ℕ} (target : Option (List ℕ))
    → IsTextIfAny target
    → Gives kind.Link name.Target (Some (or_null text_data target)) (made d a i t s (extra.Link rel None title url))
    (made d a i t s (extra.Link rel target title url))
unfolding is_link given_by with_given settable has with_member element_with_member with_extra
target_given None scalar = record { same = refl }
target_given (Some target) scalar = record { same = rw scalar refl }

pub title_given : {d : Direction} {a : Align} {i t : ℕ} {s : List ℕ} {rel target : Option (List ℕ)} {url : List ℕ} (title : Option (List ℕ)) → IsTextIfAny title
    → Gives kind.Link name.Title (Some (or_null text_data title)) (made d a i t s (extra.Link rel target None url))
    (made d a i t s (extra.Link rel target title url))
unfolding is_link given_by with_given settable has with_member element_with_member with_extra
title_given None scalar = record { same = refl }
title_given (Some title) scalar = record { same = rw scalar refl }

pub url_given : {d : Direction} {a : Align} {i t : ℕ} {s : List ℕ} {rel target title : Option (List ℕ)} {old : List ℕ} (url : List ℕ) → IsText url
    → Gives kind.Link name.Url (Some (text_data url)) (made d a i t s (extra.Link rel target title old)) (made d a i t s (extra.Link rel target title url))
unfolding is_link given_by with_given settable has with_member element_with_member with_extra
url_given url scalar = record { same = rw scalar refl }

-- ---- what cells include

pub background_given : {d : Direction} {a : Align} {i t : ℕ} {s : List ℕ} {header rows columns : ℕ} (background : Option (List ℕ)) → IsTextIfAny background
    → Gives kind.Cell name.Background (Some (or_null text_data background)) (made d a i t s (extra.Cell header rows columns None))
    (made d a i t s (extra.Cell header rows columns background))
unfolding is_cell given_by with_given settable has with_member element_with_member with_extra
background_given None scalar = record { same = refl }
background_given (Some background) scalar = record { same = rw scalar refl }

pub columns_given : {d : Direction} {a : Align} {i t : ℕ} {s : List ℕ} {header rows old : ℕ} {background : Option (List ℕ)} (n : ℕ) → IsTrue (is_span n)
    → Gives kind.Cell name.ColSpan (Some (natural n)) (made d a i t s (extra.Cell header rows old background))
    (made d a i t s (extra.Cell header rows n background))
unfolding is_cell given_by with_given settable has with_member element_with_member with_extra is_span
columns_given n range = record { same = rw range refl }

pub header_given : {d : Direction} {a : Align} {i t : ℕ} {s : List ℕ} {old rows columns : ℕ} {background : Option (List ℕ)} (n : ℕ) → IsTrue (leb n 3)
    → Gives kind.Cell name.HeaderState (Some (natural n)) (made d a i t s (extra.Cell old rows columns background))
    (made d a i t s (extra.Cell n rows columns background))
unfolding is_cell given_by with_given settable has with_member element_with_member with_extra
header_given n range = record { same = rw (up_to n 3 range) refl }

pub rows_given : {d : Direction} {a : Align} {i t : ℕ} {s : List ℕ} {header old columns : ℕ} {background : Option (List ℕ)} (n : ℕ) → IsTrue (is_span n)
    → Gives kind.Cell name.RowSpan (Some (natural n)) (made d a i t s (extra.Cell header old columns background))
    (made d a i t s (extra.Cell header n columns background))
unfolding is_cell given_by with_given settable has with_member element_with_member with_extra is_span
rows_given n range = record { same = rw range refl }

-- ---- what texts, tabs and embeds include

pub detail_given : {text style : List ℕ} {format old : ℕ} {m : Mode} (n : ℕ) → IsTrue (leb n 3)
    → Gives kind.Text name.Detail (Some (natural n)) (told text format old m style) (told text format n m style)
unfolding is_text given_by with_given settable has with_member text_with_member
detail_given n range = record { same = rw (up_to n 3 range) refl }

pub format_given : {kind : Kind} {text style : List ℕ} {old detail : ℕ} {m : Mode} (n : ℕ) → has_characters kind ≡ true → IsShort n
    → Gives kind name.Format (Some (natural n)) (told text old detail m style) (told text n detail m style)
unfolding given_by with_given settable has with_member text_with_member
format_given n characters range = record { same = rw (short n range, characters) refl }

pub mode_given : {text style : List ℕ} {format detail : ℕ} {old : Mode} (m : Mode)
    → Gives kind.Text name.Mode (Some (string (mode_word m))) (told text format detail old style) (told text format detail m style)
unfolding same_mode is_text given_by with_given settable has with_member text_with_member
mode_given mode.Normal = record { same = refl }
mode_given _ = record { same = refl }

pub style_given : {kind : Kind} {text old : List ℕ} {format detail : ℕ} {m : Mode} (style : List ℕ) → has_characters kind ≡ true → IsText style
    → Gives kind name.Style (Some (text_data style)) (told text format detail m old) (told text format detail m style)
unfolding given_by with_given settable has with_member text_with_member
style_given style characters scalar = record { same = rw (scalar, characters) refl }

pub text_given : {old style : List ℕ} {format detail : ℕ} {m : Mode} (text : List ℕ) → IsText text
    → Gives kind.Text name.Text (Some (text_data text)) (told old format detail m style) (told text format detail m style)
unfolding is_text given_by with_given settable has with_member text_with_member
text_given text scalar = record { same = rw scalar refl }

pub source_given : {old : List ℕ} (source : List ℕ) → IsText source
    → Gives kind.Embed name.Src (Some (text_data source)) (fields.Embed old) (fields.Embed source)
unfolding is_embed given_by with_given settable has with_member with_source
source_given source scalar = record { same = rw scalar refl }
