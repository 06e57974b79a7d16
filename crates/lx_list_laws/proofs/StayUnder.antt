-- What is left below a list whose lines have become paragraphs before it, and how points are sent away from a node.
use Rattle.std.proofs.Common.{◌≡◌, ◌≢◌, ◌∙◌, ℕ, Bool, true, false, cond, List, [], ◌∷◌, Option, None, Some, Ok, refl, sym, ap, ap₂, subst, arith, inl, inr}
use Rattle.std.proofs.lemmas.Bool.Decides.{eqb_tells}
use Rattle.lx_node.specs.Kinds.{may_hold, is_inline, is_block, is_item, is_list, is_paragraph, is_heading, is_row, is_cell, is_link, is_element, has_characters, may_be_empty}
use Rattle.lx_node.specs.declared.kind.Kind.{Kind}
use Rattle.lx_node.specs.declared.kind.Kind.TheVariants as kinds
use Rattle.lx_node.specs.declared.cause.Point.{Point}
use Rattle.lx_select.specs.Rules.{moved_to}
use Rattle.lx_forest.specs.Forest.{Forest}
use Rattle.lx_forest.specs.Lookups.{kind_of, fields_of, parent_of, size_of, previous_of, next_of, ancestors, is_within, IsForest, IsHeld}
use Rattle.lx_forest.specs.Edits.{take_out}
use Rattle.lx_forest.proofs.Siblings.{parent_of-next, parent_of-previous}
use Rattle.lx_forest.proofs.Lookups.{kind_of-take_out}
use Rattle.lx_forest.proofs.Walks.{cases_option, ancestors-step}
use Rattle.lx_forest.proofs.Within.{is_within-up, is_within-top}
use Rattle.lx_draft.specs.Working.{Working}
use Rattle.lx_draft.specs.Selecting.{length_of}
use Rattle.lx_draft.specs.Steps.{take_step}
use Rattle.lx_draft.proofs.Gaps.{child_of}
use Rattle.lx_edit.specs.Edits.{start_in, end_in, beside, place_for, text_point, element_point, sent_from, sent_away, goes_too, may_not_be_left, removed, remove_step}
use Rattle.lx_edit.proofs.Climbed.{first_part, taken-forest, sent_away-forest}
use Rattle.lx_blocks.specs.Blocks.{passes, is_at}
use Rattle.lx_caret.proofs.Fit.{each_moved}
use Rattle.lx_caret.proofs.Moves.{stands}
use Rattle.lx_list.specs.Dissolving.{is_in_item}
use Rattle.lx_list.proofs.Itemless.{item_below}
use Rattle.lx_list_laws.proofs.ReadDissolved.{within_below, IsEmptied, list_listed, left_below, list_inside}
use Rattle.lx_list_laws.proofs.ReadEdits.{so_at}
use Rattle.lx_list_laws.proofs.ReadLines.{is_listed, listed_below, list_or_item}
use Rattle.lx_list_laws.proofs.ReadSaid.{both_kinds}
use Rattle.lx_list_laws.proofs.StayKeys.{EachKey}

-- ---- down from a node

-- what holds of a node, and of each child in its tree where it does of the parent, holds in all its tree
pub rise : (f : Forest) (k : ℕ) → IsForest f → (R : ℕ → Type 0) → R k → ((q b : ℕ) → parent_of f q ≡ Some b → is_within f k b ≡ true → R b → R q)
    → (above : List ℕ) (q : ℕ) → ancestors f q ≡ above → is_within f k q ≡ true → R q
rise f k h R own step [] q are inside = elim (eqb_tells q k) [
  | inl same ↦ subst R (sym same.1) own
  | inr other ↦ elim (cases_option (parent_of f q)) [
    | inl top ↦ absurd (grind (arith, inside, is_within-top f k q h top other.1))
    | inr (b, up) ↦ let bad : b ∷ ancestors f b ≡ [] = sym (ancestors-step f q b h up) ∙ are in absurd (cc)
  ]
]
rise f k h R own step (a ∷ above) q are inside = elim (eqb_tells q k) [
  | inl same ↦ subst R (sym same.1) own
  | inr other ↦ elim (cases_option (parent_of f q)) [
    | inl top ↦ absurd (grind (arith, inside, is_within-top f k q h top other.1))
    | inr (b, up) ↦
        let both : b ∷ ancestors f b ≡ a ∷ above = sym (ancestors-step f q b h up) ∙ are in
        let rest : ancestors f b ≡ above = cc in
        let higher : is_within f k b ≡ true = sym (is_within-up f k q b h up other.1) ∙ inside in
        step q b up higher (rise f k h R own step above b rest higher)
  ]
]

-- ---- below an emptied list

pub list_no_item : (kind : Kind) → is_list kind ≡ true → is_item kind ≡ false
unfolding is_list is_item
list_no_item (kinds.List type) e = refl
list_no_item kind e = absurd (cc)

-- what is still below the list: it was, it is a list or an item, and a list other than this one was in an item
pub record Under (f : Forest) (list q : ℕ) : Type 0 where
  pub inside : is_within f list q ≡ true
  pub listed : is_at is_listed f q ≡ true
  pub nested : q ≢ list → is_at is_list f q ≡ true → is_in_item f (parent_of f q) ≡ true

module _ (f g : Forest) (p list : ℕ) (m : IsEmptied f g p list) where
  holder : (q b : ℕ) → parent_of f q ≡ Some b → is_at is_listed f b ≡ true → is_at is_list f q ≡ true → is_at is_item f b ≡ true
  holder q b up listed is = elim (list_or_item f b listed) [
    | inl in_list ↦ absurd (grind (arith, item_below f b q m.held in_list up, so_at is_list is_item false list_no_item f q is))
    | inr item ↦ item
  ]

  pub under : (q : ℕ) → is_within g list q ≡ true → Under f list q
  under q inside =
      rise g list m.all.told.behind (Under f list) (record {
        inside = list_inside f g p list m;
        listed = list_listed f g p list m;
        nested = λ other. absurd (other refl);
      }) (λ c b up higher u.
      let left = left_below f g p list m b c u.inside u.listed (child_of g b c m.all.told.behind up) in
      record {
        inside = within_below f list c b m.all.told.before left.child u.inside;
        listed = listed_below f c b m.held left.child u.listed left.other;
        nested = λ other is. ap (is_in_item f) left.child ∙ holder c b left.child u.listed is;
      }) (ancestors g q) q refl inside

-- ---- points sent away

abbrev IfKey : (ℕ → Type 0) → Option Point → Type 0
IfKey P None = Unit {0}
IfKey P (Some x) = P x.key

counted_key : (P : ℕ → Type 0) (s at_text at_element : ℕ) (t e : Bool) → P s
    → IfKey P (cond t (Some (text_point s at_text)) (cond e (Some (element_point s at_element)) None))
counted_key P s m n true e so = so
counted_key P s m n false true so = so
counted_key P s m n false false so = tt

start_key : (P : ℕ → Type 0) (s : ℕ) (kind : Option Kind) → P s → IfKey P (start_in s kind)
start_key P s None so = tt
start_key P s (Some kind) so = counted_key P s 0 0 (has_characters kind) (is_element kind) so

end_key : (P : ℕ → Type 0) (f : Forest) (s : ℕ) (kind : Option Kind) → P s → IfKey P (end_in f s kind)
end_key P f s None so = tt
end_key P f s (Some kind) so = counted_key P s (length_of (fields_of f s)) (size_of f s) (has_characters kind) (is_element kind) so

beside_key : (P : ℕ → Type 0) (f : Forest) (k p : ℕ) (previous next : Option ℕ) → IsForest f → parent_of f k ≡ Some p → previous_of f k ≡ previous
    → next_of f k ≡ next → ((s : ℕ) → parent_of f s ≡ Some p → P s) → IfKey P (beside f previous next)
beside_key P f k p (Some s) next h up before behind each = end_key P f s (kind_of f s) (each s (parent_of-previous f k s p h up before))
beside_key P f k p None (Some s) h up before behind each = start_key P s (kind_of f s) (each s (parent_of-next f k s p h up behind))
beside_key P f k p None None h up before behind each = tt

place_key : (P : ℕ → Type 0) (o : Option Point) (p index : ℕ) → IfKey P o → P p → P (place_for o p index).key
place_key P None p index so above = above
place_key P (Some x) p index so above = so

-- what is asked of a node with a point as those on k, which is below p, are sent away
pub record Sends (P : ℕ → Type 0) (f : Forest) (k p q : ℕ) : Type 0 where
  pub here : q ≡ k → P p × ((s : ℕ) → parent_of f s ≡ Some p → P s)
  pub away : q ≢ k → P q

sent_key : (P : ℕ → Type 0) (k : ℕ) (to x : Point) → (x.key ≡ k → P to.key) → (x.key ≢ k → P x.key) → P (moved_to k to x).key
unfolding moved_to
sent_key P k to x there away = elim (eqb_tells x.key k) [
  | inl own ↦ rw own.0 (there own.1)
  | inr other ↦ rw other.0 (away other.1)
]

-- points on a node go to what is beside it, or to its parent
pub keys_sent : (P : ℕ → Type 0) (k p : ℕ) (w : Working) → IsForest w.forest → parent_of w.forest k ≡ Some p → EachKey (Sends P w.forest k p) w
    → EachKey P (sent_away k w)
unfolding sent_away
keys_sent P k p w h up keys =
    let f : Forest = w.forest in
    let at = stands f k p h up in
    let place : Point = place_for (beside f (previous_of f k) (next_of f k)) p at.0 in
    let there : (x : Point) → Sends P f k p x.key → x.key ≡ k → P place.key =
    λ x so same. let each = so.here same in place_key P (beside f (previous_of f k) (next_of f k)) p at.0
    (beside_key P f k p (previous_of f k) (next_of f k) h up refl refl each.1) each.0 in
    subst (EachKey P) (ap₂ (λ a b. sent_from k a b w) (sym up) (sym at.1))
    (each_moved (λ x. Sends P f k p x.key) (λ x. P x.key) (moved_to k place) w.selection (λ x so. sent_key P k place x (there x so) so.away) keys)

-- ---- a list that goes alone

-- what holds a list and isn't an item may be empty
keeps_room : (outer inner : Kind) → may_hold outer inner ≡ true → is_list inner ≡ true → is_item outer ≡ false
    → may_not_be_left (Some outer) (Some inner) ≡ false
unfolding may_hold is_inline is_block is_list is_item is_paragraph is_heading is_row is_cell is_link may_be_empty
keeps_room kinds.Root inner h is none = refl
keeps_room kinds.Quote inner h is none = refl
keeps_room kinds.Cell inner h is none = refl
keeps_room kinds.Item inner h is none = absurd (cc)
keeps_room outer (kinds.List type) h is none = absurd (cc)
keeps_room outer inner h is none = absurd (cc)

pub may_stay : (f : Forest) (list p : ℕ) → IsHeld may_hold f → parent_of f list ≡ Some p → is_at is_list f list ≡ true → is_at is_item f p ≡ false
    → may_not_be_left (kind_of f p) (kind_of f list) ≡ false
may_stay f list p held up is none =
    let k = both_kinds (λ outer inner. is_list inner ≡ true → is_item outer ≡ false → may_not_be_left (Some outer) (Some inner) ≡ false) f list p held up
    (λ outer inner a b h x y. keeps_room outer inner h x y) in
    ap₂ may_not_be_left k.2 k.3 ∙ k.4 (sym (ap (passes is_list) k.3) ∙ is) (sym (ap (passes is_item) k.2) ∙ none)

-- where the parent may be left, nothing above goes too
pub goes_alone : (k p : ℕ) (w v : Working) → IsForest w.forest → parent_of w.forest k ≡ Some p
    → may_not_be_left (kind_of w.forest p) (kind_of w.forest k) ≡ false → remove_step k w ≡ Ok v → take_step k (sent_away k w) ≡ Ok v
unfolding remove_step
goes_alone k p w v h up none e =
    let above : removed k (p ∷ ancestors w.forest p) w ≡ Ok v = ap (λ ks. removed k ks w) (sym (ancestors-step w.forest k p h up)) ∙ e in
    let a = first_part (take_step k (sent_away k w)) (λ u. cond (goes_too (kind_of w.forest k) u.forest p) (removed p (ancestors w.forest p) u) (Ok u)) v
    above in
    let out : a.0.forest ≡ take_out k w.forest = taken-forest k (sent_away k w) a.0 a.1 ∙ ap (take_out k) (sent_away-forest k w) in
    let still : may_not_be_left (kind_of a.0.forest p) (kind_of w.forest k) ≡ false =
    ap (λ o. may_not_be_left o (kind_of w.forest k)) (ap (λ f. kind_of f p) out ∙ kind_of-take_out k w.forest p h) ∙ none in
    let stays : goes_too (kind_of w.forest k) a.0.forest p ≡ false = grind (arith, still) in
    a.1 ∙ sym (ap (λ b. cond b (removed p (ancestors w.forest p) a.0) (Ok a.0)) stays) ∙ a.2
