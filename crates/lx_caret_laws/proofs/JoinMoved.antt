-- The children of one line go after those of another, and a caret on the line goes along: both ways to join lines begin so.
use Rattle.lx_blocks.specs.Blocks.{leading}
use Rattle.lx_caret.proofs.Fit.{after_tells}
use Rattle.lx_caret.specs.Deleting.{inline_end, inline_place, line_joined, moved_in}
use Rattle.lx_caret.specs.Removing.{removed_empty}
use Rattle.lx_caret_laws.proofs.InPlace.{out_below}
use Rattle.lx_caret_laws.proofs.JoinMet.{inline_all, leads_all, none_hold}
use Rattle.lx_caret_laws.proofs.Stops.{line_children}
use Rattle.lx_caret_laws.proofs.WentIn.{MayGo, as_moved, caret_goes}
use Rattle.lx_caret_laws.specs.Joining.{IsLine}
use Rattle.lx_draft.proofs.Gaps.{parent_here}
use Rattle.lx_draft.specs.Faults.{after}
use Rattle.lx_draft.specs.Working.{Working}
use Rattle.lx_edit.specs.Edits.{element_point, pointed, remove_step}
use Rattle.lx_edit_laws.proofs.WrapLists.{filter-gone}
use Rattle.lx_edit_laws.proofs.WrapTurns.{WentOver, went_over}
use Rattle.lx_forest.proofs.Lookups.{NoRepeats-children_of}
use Rattle.lx_forest.specs.Forest.{Forest}
use Rattle.lx_forest.specs.Lookups.{IsForest, children_of, is_within, size_of}
use Rattle.lx_node.specs.declared.cause.Point.{Point}
use Rattle.lx_select.specs.Rules.{moved_to}
use Rattle.lx_select.specs.Selection.{each_point}
use Rattle.lx_select.specs.declared.selection.Selection.TheVariants.{Range}
use Rattle.lx_trees.specs.Siblings.{is_among}
use Rattle.std.proofs.Common.{List, Ok, [], ap, ap₂, arith, cond, eqb, false, inl, inr, length, not, refl, sym, true, ℕ, ◌∙◌, ◌≡◌, ◌≢◌, ◌≤◌}
use Rattle.std.proofs.lemmas.Bool.Decides.{eqb_tells}

-- two lines, neither of which the first is above, and a caret
pub record MayJoin (first second : ℕ) (p : Point) (format : ℕ) (w : Working) : Type 0 where
  pub order : IsForest w.forest
  pub one : IsLine w.forest first
  pub two : IsLine w.forest second
  pub apart : first ≢ second
  pub off : is_within w.forest first second ≡ false
  pub caret : w.selection ≡ Range p p format
  pub few : p.key ≡ first → p.offset ≤ size_of w.forest first

-- the draft in which all children went over, and the second line is still to be removed
pub record HasMoved (first second : ℕ) (p : Point) (format : ℕ) (w v : Working) : Type 0 where
  pub moved : Working
  pub over : WentOver w.forest moved.forest second first (children_of w.forest second)
  pub empty : children_of moved.forest second ≡ []
  pub point : Point
  pub own : p.key ≡ second → point ≡ element_point first (size_of w.forest first)
  pub other : p.key ≢ second → point ≡ p
  pub caret : moved.selection ≡ Range point point format
  pub remove : remove_step second moved ≡ Ok v

-- the caret isn't on the second line any more
pub off_second : (first second : ℕ) (p : Point) (format : ℕ) (w v : Working) → first ≢ second → (t : HasMoved first second p format w v)
    → t.point.key ≢ second
off_second first second p format w v two t = elim (eqb_tells p.key second) [
  | inl own ↦ λ e. two (ap (λ (x : Point). x.key) (sym (t.own own.1)) ∙ e)
  | inr other ↦ λ e. other.1 (ap (λ (x : Point). x.key) (sym (t.other other.1)) ∙ e)
]

module _ (first second : ℕ) (p : Point) (format : ℕ) (w v : Working) (m : MayJoin first second p format w) where
  abbrev f : Forest
  f = w.forest

  h : IsForest f
  h = m.order

  abbrev ones : List ℕ
  ones = children_of f first

  abbrev twos : List ℕ
  twos = children_of f second

  index_is : inline_place f first second ≡ size_of f first
  index_is =
      ap (inline_end f 0 0) (none_hold f second ones (λ c among.
      out_below f c first second h (parent_here f first c h among) m.off))
      ∙ inline_all f 0 ones (line_children f first h m.one) ∙ omega arith

  leading_is : leading f second ≡ twos
  leading_is = leads_all f twos (line_children f second h m.two)

  may : MayGo second first (size_of f first) twos w
  may = record {
    order = h;
    apart = λ e. m.apart (sym e);
    once = NoRepeats-children_of f second h;
    up = λ c among. parent_here f second c h among;
    at = refl;
  }

  abbrev there : Point
  there = element_point first (size_of f first)

  moved_own : (q : Point) → q.key ≡ second → moved_to second there q ≡ there
  unfolding moved_to
  moved_own q own = let on : eqb q.key second ≡ true = grind (arith, own, eqb_tells q.key second) in ap (λ t. cond t there q) on

  moved_other : (q : Point) → q.key ≢ second → moved_to second there q ≡ q
  unfolding moved_to
  moved_other q other = let off : eqb q.key second ≡ false = grind (arith, other, eqb_tells q.key second) in ap (λ t. cond t there q) off

  pub has_moved : line_joined first second w ≡ Ok v → HasMoved first second p format w v
  unfolding line_joined removed_empty
  has_moved e =
      let e1 : after (moved_in first (size_of f first) twos w) (λ u. removed_empty second (pointed (moved_to second there) u)) ≡ Ok v =
      sym (ap₂ (λ i ks. after (moved_in first i ks w) (λ u. removed_empty second (pointed (moved_to second (element_point first i)) u)))
      index_is leading_is) ∙ e in
      let a = after_tells (moved_in first (size_of f first) twos w) (λ u. removed_empty second (pointed (moved_to second there) u)) v e1 in
      let u : Working = a.0 in
      let z : Working = pointed (moved_to second there) u in
      let over : WentOver f u.forest second first twos =
      went_over second first twos w u h may.apart may.once may.up (as_moved second first (size_of f first) twos w u may a.1.0) in
      let goes = caret_goes second first (size_of f first) twos p format w u may m.caret m.few a.1.0 in
      let q : Point = goes.point in
      let empty : children_of u.forest second ≡ [] =
      over.left ∙ filter-gone (λ x. not (is_among x twos)) twos (λ x among. ap not among) in
      record {
        moved = z;
        over = record {
          in_order = over.in_order;
          label = over.label;
          up = over.up;
          there = over.there;
          left = over.left;
          others = over.others;
        };
        empty = empty;
        point = moved_to second there q;
        own = λ own. moved_own q (goes.stays.own own);
        other = λ other. ap (moved_to second there) (goes.stays.other other) ∙ moved_other p other;
        caret = ap (each_point (moved_to second there)) goes.is;
        remove = sym (ap (λ ks. cond (eqb (length ks) 0) (remove_step second z) (Ok z)) empty) ∙ a.1.1;
      }
