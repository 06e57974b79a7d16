-- New nodes: their fields, their keys, and the place after one.
use Rattle.std.proofs.Common.{◌≡◌, ◌+◌, ◌<◌, ◌^◌, ℕ, Bool, true, false, cond, List, [], ◌∷◌, length, Option, None, Some, Ok, refl, ap, sym, subst, arith}
use Rattle.std.specs.Str.{chars}
use Rattle.lx_node.specs.OfKind.{IsOfKind, is_of_kind, fits_kind, is_text_of, are_text_fields, are_tab_fields, are_bare, is_tab_text, is_normal}
use Rattle.lx_node.specs.Kinds.{is_possible}
use Rattle.lx_node.specs.declared.kind.Kind.TheVariants.{Text, Tab, Break}
use Rattle.lx_node.specs.declared.fields.Fields.{Fields}
use Rattle.lx_node.specs.declared.fields.Fields.TheVariants as fields
use Rattle.lx_node.specs.declared.cause.Point.{Point}
use Rattle.lx_node.specs.declared.cause.PointKind.{PointKind}
use Rattle.lx_node.specs.declared.cause.PointKind.TheVariants as point
use Rattle.lx_trees.proofs.Positions.{index_in-lt}
use Rattle.lx_forest.specs.Forest.{Forest}
use Rattle.lx_forest.specs.Lookups.{parent_of, index_of, siblings, children_below}
use Rattle.lx_forest.proofs.Bounds.{size_of-le}
use Rattle.lx_links.specs.Stands.{Sound}
use Rattle.lx_draft.specs.Working.{Working}
use Rattle.lx_draft.specs.Beside.{before_at, put_before_step, put_behind_step}
use Rattle.lx_edit.proofs.Keyed as keyed
use Rattle.lx_caret.specs.Adding.{put_by, newest}
use Rattle.lx_caret.specs.Inserting.{typed_fields, tab_fields}

-- what is typed is of a text's kind
pub text_suits : (made : Fields) (text : List ℕ) (format : ℕ) (style : List ℕ) → made ≡ typed_fields text format style → IsOfKind Text made
unfolding is_of_kind fits_kind is_text_of are_text_fields is_possible
text_suits made text format style e = subst (λ f. IsOfKind Text f) (sym e) refl

-- the byte of a tab spells a tab
pub one_tab : chars (9 ∷ []) ≡ 9 ∷ []
unfolding chars
one_tab = refl

-- a tab's fields are of its kind
pub tab_suits : (made : Fields) (format : ℕ) → made ≡ tab_fields format → IsOfKind Tab made
unfolding is_of_kind fits_kind is_text_of are_tab_fields is_tab_text is_normal is_possible
tab_suits made format e = subst (λ f. IsOfKind Tab f) (sym e) refl

-- a line break has no fields
pub break_suits : IsOfKind Break fields.Bare
unfolding is_of_kind fits_kind are_bare is_possible
break_suits = refl

-- a key that comes right before the next one is the newest
pub newest_is : (k : ℕ) (w : Working) → k + 1 ≡ w.next_key → newest w ≡ k
newest_is k w e = omega (arith, e)

-- ---- putting a node gives no key

before_at-next_key : (k other : ℕ) (p index : Option ℕ) (w v : Working) → before_at k other p index w ≡ Ok v → v.next_key ≡ w.next_key
before_at-next_key k other None index w v e = cc
before_at-next_key k other (Some p) None w v e = cc
before_at-next_key k other (Some p) (Some index) w v e = keyed.put-next_key k p index w v e

before-next_key : (k other : ℕ) (w v : Working) → put_before_step k other w ≡ Ok v → v.next_key ≡ w.next_key
unfolding put_before_step
before-next_key k other w v e = before_at-next_key k other (parent_of w.forest other) (index_of w.forest other) w v e

either-next_key : (first : Bool) (k other : ℕ) (w v : Working) → cond first (put_before_step k other w) (put_behind_step k other w) ≡ Ok v
    → v.next_key ≡ w.next_key
either-next_key true k other w v e = before-next_key k other w v e
either-next_key false k other w v e = keyed.behind-next_key k other w v e

pub put-next_key : (k : ℕ) (p : Point) (kind : PointKind) (w v : Working) → put_by k p kind w ≡ Ok v → v.next_key ≡ w.next_key
put-next_key k p point.Text w v e = either-next_key _ k p.key w v e
put-next_key k p point.Element w v e = keyed.put-next_key k p.key p.offset w v e

-- ---- the place after a node

-- an index of a child, and one more, fit an offset
pub index_small : (f : Forest) (k p index : ℕ) → Sound f → parent_of f k ≡ Some p → index_of f k ≡ Some index → index + 1 < 2 ^ 32
index_small f k p index s up at =
    omega (arith, index_in-lt (siblings f k) k index at, ap (λ o. length (children_below f o)) up, size_of-le f p, s.small)
