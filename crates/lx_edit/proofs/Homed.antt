-- What is in the trees of some keys was there before, or is marked anew, as long as no other key is put anywhere.
use Rattle.std.proofs.Common.{◌≡◌, ◌∙◌, ℕ, Bool, true, false, eqb, ◌||◌, ◌&&◌, List, [], ◌∷◌, ◌++◌, length, Option, None, Ok, refl, sym, ap, arith, inl, inr, ◌⊎◌}
use Rattle.std.specs.Prelude.{slice_get}
use Rattle.std.specs.Option.{option_or}
use Rattle.std.proofs.lemmas.Bool.{cases_Bool}
use Rattle.std.proofs.lemmas.Bool.Decides.{eqb_tells}
use Rattle.lx_trees.specs.Siblings.{is_among}
use Rattle.lx_node.specs.Strings.{characters_of}
use Rattle.lx_node.specs.declared.kind.Kind.{Kind}
use Rattle.lx_node.specs.declared.fields.Fields.{Fields}
use Rattle.lx_trees.proofs.NamedTrees.{alone-absent}
use Rattle.lx_select.specs.declared.selection.Selection.{Selection}
use Rattle.lx_marks.specs.Marks.{Marked, is_touched}
use Rattle.lx_forest.specs.Forest.{Forest, Label}
use Rattle.lx_forest.specs.Lookups.{key_of, has, label_of, parent_of, children_of, is_within, is_attached, IsForest}
use Rattle.lx_forest.specs.Edits.{with_new, with_fields, take_out, put_in, CanPut}
use Rattle.lx_forest.proofs.Edits.{count-with_new, parent_of-root}
use Rattle.lx_forest.proofs.Lookups.{is_among-children_of}
use Rattle.lx_forest.proofs.Within.{is_within-trans, is_within-up, is_within-with_new, is_within-with_fields, is_within-take_out, is_within-put_in}
use Rattle.lx_trees.proofs.Siblings.{is_named_tells}
use Rattle.lx_links.specs.Faults.{set_fault, detach_fault}
use Rattle.lx_draft.specs.Working.{Working}
use Rattle.lx_draft.specs.Marking.{mark_nodes}
use Rattle.lx_draft.specs.Faults.{over_counts, over_limits, put_fault, splice_fault}
use Rattle.lx_draft.specs.Steps.{made, new_step, fields_written, set_points, set_step, label_with_piece, splice_points, splice_step, node_taken, take_step, node_placed, put_step}
use Rattle.lx_draft.specs.Covering.{IsReady, AreCovered}
use Rattle.lx_draft.proofs.Put.{both_none, can_put}
use Rattle.lx_draft.proofs.Touched.{touched-nodes}
use Rattle.lx_draft.proofs.Covered.{answered, covered-then}
use Rattle.lx_draft.proofs.CoveredSteps.{covered-pointed, covered-new, covered-set, covered-splice, covered-take, covered-put}
use Rattle.lx_edit.specs.Homed.{is_under, IsHomed, EditsAreHomed}
use Rattle.lx_edit.proofs.Paths.{IsPath, remove_path, replace_path, wrap_path, unwrap_path, children_path, split_path, join_path, join_around_path}

pub homed_then : (rs : List ℕ) (u v w : Working) → IsHomed rs u v → IsHomed rs v w → IsHomed rs u w
homed_then rs u v w a b = record {
  covered = covered-then u v w a.covered b.covered;
  home = λ q e. elim (b.home q e) [
    | inl before ↦ elim (a.home q before) [ inl was ↦ inl was | inr new ↦ inr (b.covered.fresh.touched q new) ]
    | inr new ↦ inr new
  ];
}

-- ---- under which keys after an edit

under_of : (f : Forest) (rs : List ℕ) (k q : ℕ) → is_among k rs ≡ true → is_within f k q ≡ true → is_under f rs q ≡ true
under_of f [] k q among e = absurd (cc)
under_of f (r ∷ rs) k q among e = grind (arith, e, among, eqb_tells r k, under_of f rs k q)

under-with_new : (l : Label) (f : Forest) (rs : List ℕ) (q : ℕ) → has l.key f ≡ false → is_under (with_new l f) rs q ≡ true
    → (is_under f rs q || eqb q l.key) ≡ true
under-with_new l f [] q free e = absurd (cc)
under-with_new l f (r ∷ rs) q free e = grind (arith, e, is_within-with_new l f r q free, under-with_new l f rs q free)

under-with_fields : (k : ℕ) (fields : Fields) (f : Forest) (rs : List ℕ) (q : ℕ) → is_under (with_fields k fields f) rs q ≡ is_under f rs q
under-with_fields k fields f [] q = refl
under-with_fields k fields f (r ∷ rs) q = grind (arith, is_within-with_fields k fields f r q, under-with_fields k fields f rs q)

under-take_out : (k : ℕ) (f : Forest) (rs : List ℕ) (q : ℕ) → IsForest f → is_under (take_out k f) rs q ≡ true → is_under f rs q ≡ true
under-take_out k f [] q h e = e
under-take_out k f (r ∷ rs) q h e = grind (arith, e, is_within-take_out k f r q h, under-take_out k f rs q h)

under-put_in : (p : ℕ) (before : Option ℕ) (k : ℕ) (f : Forest) (rs : List ℕ) (q : ℕ) → IsForest f → CanPut p k f → is_under (put_in p before k f) rs q ≡ true
    → (is_under f rs q || is_within f k q) ≡ true
under-put_in p before k f [] q h c e = absurd (cc)
under-put_in p before k f (r ∷ rs) q h c e = grind (arith, e, is_within-put_in p before k f r q h c, under-put_in p before k f rs q h c)

-- ---- each step

homed_selected : (rs : List ℕ) (w : Working) (s : Selection) → IsReady w → IsHomed rs w (record w { selection = s })
homed_selected rs w s r = record { covered = covered-pointed w s r; home = λ q e. inl e }

new_home : (l : Label) (f : Forest) (under : Bool) (old new : Marked) (q : ℕ)
    → is_touched new q ≡ (is_touched old q || (is_among q (l.key ∷ []) && has q (with_new l f))) → (under || eqb q l.key) ≡ true
    → (under ≡ true) ⊎ (is_touched new q ≡ true)
new_home l f under old new q told e =
    elim (eqb_tells q l.key) [
      | inl own ↦ inr (grind (arith, told, own.0, own.1, count-with_new q l f, eqb_tells l.key q))
      | inr other ↦ inl (grind (arith, other.0, e))
    ]

homed_made : (rs : List ℕ) (kind : Kind) (fields : Fields) (w v : Working) → IsReady w → AreCovered w v → made kind fields w ≡ v → IsHomed rs w v
homed_made rs kind fields w v r c is =
    let l : Label = record { key = w.next_key; kind = kind; fields = fields } in
    let f : Forest = with_new l w.forest in
    let free : has l.key w.forest ≡ false = r.free w.next_key (omega arith) in
    let fresh : v.fresh ≡ mark_nodes f (w.next_key ∷ []) w.fresh = ap (λ (x : Working). x.fresh) (sym is) in
    record {
      covered = c;
      home = λ q e. new_home l w.forest (is_under w.forest rs q) w.fresh v.fresh q
          (ap (λ n. is_touched n q) fresh ∙ touched-nodes f (w.next_key ∷ []) w.fresh q)
          (under-with_new l w.forest rs q free (ap (λ (x : Working). is_under x.forest rs q) is ∙ e));
    }

homed_refielded : (rs : List ℕ) (k : ℕ) (fields : Fields) (more : ℕ) (moved : Selection → Selection) (w v : Working) → AreCovered w v
    → fields_written k fields more moved w ≡ v → IsHomed rs w v
homed_refielded rs k fields more moved w v c is = record {
  covered = c;
  home = λ q e. inl (sym (under-with_fields k fields w.forest rs q) ∙ ap (λ (x : Working). is_under x.forest rs q) is ∙ e);
}

homed_taken : (rs : List ℕ) (k : ℕ) (w v : Working) → IsReady w → AreCovered w v → node_taken k w ≡ v → IsHomed rs w v
homed_taken rs k w v r c is = record {
  covered = c;
  home = λ q e. inl (under-take_out k w.forest rs q r.in_order (ap (λ (x : Working). is_under x.forest rs q) is ∙ e));
}

homed_placed : (rs : List ℕ) (k p index : ℕ) (w v : Working) → is_among k rs ≡ true → IsReady w → AreCovered w v → put_fault k p index w.forest ≡ None
    → node_placed k p index w ≡ v → IsHomed rs w v
homed_placed rs k p index w v among r c none is =
    let before : Option ℕ = slice_get (children_of w.forest p) index in
    let can = can_put w.forest k p index none in
    record {
      covered = c;
      home = λ q e. inl
          (or_within (is_under w.forest rs q) (is_within w.forest k q) (under_of w.forest rs k q among)
          (under-put_in p before k w.forest rs q r.in_order can (ap (λ (x : Working). is_under x.forest rs q) is ∙ e)));
    } where
      or_within : (a b : Bool) → (b ≡ true → a ≡ true) → (a || b) ≡ true → a ≡ true
      or_within true b f e = refl
      or_within false b f e = f e

step_new : (rs : List ℕ) (kind : Kind) (fields : Fields) (w v : Working) → IsReady w → AreCovered w v → new_step kind fields w ≡ Ok v → IsHomed rs w v
unfolding new_step
step_new rs kind fields w v r c e = homed_made rs kind fields w v r c ((answered (over_limits (characters_of fields) w) (made kind fields w) v e).1)

step_set : (rs : List ℕ) (k : ℕ) (fields : Fields) (w v : Working) → IsReady w → AreCovered w v → set_step k fields w ≡ Ok v → IsHomed rs w v
unfolding set_step
step_set rs k fields w v r c e =
    homed_refielded rs k fields (characters_of fields) (set_points k fields) w v c
    ((answered (option_or (set_fault k fields w.forest) (over_limits (characters_of fields) w))
    (fields_written k fields (characters_of fields) (set_points k fields) w) v e).1)

step_splice : (rs : List ℕ) (k from to : ℕ) (new : List ℕ) (w v : Working) → IsReady w → AreCovered w v → splice_step k from to new w ≡ Ok v → IsHomed rs w v
unfolding splice_step
step_splice rs k from to new w v r c e =
    let fields : Fields = label_with_piece (label_of w.forest k) from to new in
    homed_refielded rs k fields (length new) (splice_points k from to new) w v c
    ((answered (option_or (splice_fault k from to w.forest) (over_limits (length new) w)) (fields_written k fields (length new) (splice_points k from to new) w)
    v e).1)

step_take : (rs : List ℕ) (k : ℕ) (w v : Working) → IsReady w → AreCovered w v → take_step k w ≡ Ok v → IsHomed rs w v
unfolding take_step
step_take rs k w v r c e = homed_taken rs k w v r c ((answered (option_or (detach_fault k w.forest) (over_counts w)) (node_taken k w) v e).1)

step_put : (rs : List ℕ) (k p index : ℕ) (w v : Working) → is_among k rs ≡ true → IsReady w → AreCovered w v → put_step k p index w ≡ Ok v → IsHomed rs w v
unfolding put_step
step_put rs k p index w v among r c e =
    let a = answered (option_or (put_fault k p index w.forest) (over_counts w)) (node_placed k p index w) v e in
    homed_placed rs k p index w v among r c ((both_none (put_fault k p index w.forest) (over_counts w) a.0).0) a.1

pub homed_path : (rs : List ℕ) → IsPath IsReady (IsHomed rs) (λ k. is_among k rs ≡ true)
homed_path rs = record {
  ready = λ w v a. a.covered.ready;
  selected = λ w s r. homed_selected rs w s r;
  composed = λ u v w a b. homed_then rs u v w a b;
  new = λ kind fields w v r e. step_new rs kind fields w v r (covered-new kind fields w v r e) e;
  set = λ k fields w v r e. step_set rs k fields w v r (covered-set k fields w v r e) e;
  splice = λ k from to new w v r e. step_splice rs k from to new w v r (covered-splice k from to new w v r e) e;
  take = λ k w v r e. step_take rs k w v r (covered-take k w v r e) e;
  put = λ k p index w v among r e. step_put rs k p index w v among r (covered-put k p index w v r e) e;
}

pub homed-edits : EditsAreHomed
homed-edits = record {
  remove = λ ks k w v r e. remove_path (homed_path ks) k w v r e;
  replace = λ ks k with keep w v r among may e. replace_path (homed_path ks) k with keep w v r among may e;
  wrap = λ ks k outer w v r may_outer may e. wrap_path (homed_path ks) k outer may_outer may w v r e;
  unwrap = λ ks k w v r may e. unwrap_path (homed_path ks) k w v r may e;
  children = λ ks from to w v r may e. children_path (homed_path ks) from to w v r may e;
  split = λ ks k offsets w v r may e. split_path (homed_path ks) k offsets w v r may e;
  join = λ ks first second w v r e. join_path (homed_path ks) first second w v r e;
  join_around = λ ks k w v r e. join_around_path (homed_path ks) k w v r e;
}

-- ---- fewer keys

under-append : (f : Forest) (rs ks : List ℕ) (q : ℕ) → is_under f (rs ++ ks) q ≡ (is_under f rs q || is_under f ks q)
under-append f [] ks q = refl
under-append f (r ∷ rs) ks q = grind (arith, under-append f rs ks q)

-- keys whose trees were in those of others say no more than these
pub homed_fewer : (rs ks : List ℕ) (w v : Working) → ((q : ℕ) → is_under w.forest ks q ≡ true → is_under w.forest rs q ≡ true) → IsHomed (rs ++ ks) w v
    → IsHomed rs w v
homed_fewer rs ks w v inside a = record {
  covered = a.covered;
  home = λ q e. elim (a.home q (under-append v.forest rs ks q ∙ grind (arith, e))) [
    | inl was ↦ inl (or_inside (is_under w.forest rs q) (is_under w.forest ks q) (inside q) (sym (under-append w.forest rs ks q) ∙ was))
    | inr new ↦ inr new
  ];
} where
  or_inside : (a b : Bool) → (b ≡ true → a ≡ true) → (a || b) ≡ true → a ≡ true
  or_inside true b f e = refl
  or_inside false b f e = f e

-- a tree in another's
under-trans : (f : Forest) (rs : List ℕ) (k q : ℕ) → IsForest f → is_under f rs k ≡ true → is_within f k q ≡ true → is_under f rs q ≡ true
under-trans f [] k q h e within = absurd (cc)
under-trans f (r ∷ rs) k q h e within = grind (arith, e, within, is_within-trans f r k q h, under-trans f rs k q h)

pub under_all : (f : Forest) (rs ks : List ℕ) (q : ℕ) → IsForest f → ((k : ℕ) → is_among k ks ≡ true → is_under f rs k ≡ true) → is_under f ks q ≡ true
    → is_under f rs q ≡ true
under_all f rs [] q h all e = absurd (cc)
under_all f rs (k ∷ ks) q h all e =
    elim (cases_Bool (is_within f k q)) [
      | inl within ↦ under-trans f rs k q h (all k (grind (arith, eqb_tells k k))) within
      | inr outside ↦ under_all f rs ks q h (λ c among. all c (grind (arith, among))) (grind (arith, e, outside))
    ]

-- nothing is in the tree of a key that isn't there
pub absent_under : (f : Forest) (k q : ℕ) → has k f ≡ false → is_within f k q ≡ false
absent_under f k q none = grind (arith, none, alone-absent key_of k f)

-- a child of an attached node is attached
pub child_attached : (f : Forest) (p c : ℕ) → IsForest f → is_attached f p ≡ true → is_among c (children_of f p) ≡ true → is_attached f c ≡ true
child_attached f p c h there among =
    elim (is_named_tells (parent_of f c) p) [
      | inl named ↦ elim (eqb_tells c 0) [
        | inl root ↦ absurd (let no : parent_of f c ≡ None = ap (parent_of f) root.1 ∙ parent_of-root f h in grind (arith, no, named.1))
        | inr other ↦ is_within-up f 0 c p h named.1 other.1 ∙ there
      ]
      | inr other ↦ absurd (grind (arith, among, other.0, is_among-children_of f c p h))
    ]
