-- Nodes that are put in stand between what stood before the place and what stood after it.
use Rattle.std.proofs.Common.{◌≡◌, ◌≢◌, ◌∙◌, ℕ, true, false, Option, ap, sym, arith, inl, inr, ◌+◌, eqb, List, [], ◌∷◌, ◌++◌, length, None, Some, Ok, refl, append_assoc, take, drop, Result}
use Rattle.std.proofs.lemmas.Bool.{cases_Bool}
use Rattle.std.proofs.lemmas.Bool.Decides.{nat_tests, eqb_tells}
use Rattle.lx_trees.specs.NamedTrees.{put_below}
use Rattle.lx_trees.proofs.NamedTrees.{put_below-absent, without-absent}
use Rattle.lx_forest.specs.Forest.{Forest}
use Rattle.lx_forest.specs.Lookups.{key_of, has, count, alone, without, is_within, IsForest, label_of, parent_of, children_of, children_below, index_of}
use Rattle.lx_forest.specs.Edits.{put_in, CanPut}
use Rattle.lx_forest.proofs.Within.{alone-put_in_inside, alone-put_in_outside, is_within-put_in, is_within-top, is_within-self}
use Rattle.std.specs.Prelude.{slice_get}
use Rattle.std.specs.Option.{option_or}
use Rattle.lx_trees.specs.Siblings.{is_among, index_in, names_with}
use Rattle.lx_trees.proofs.Siblings.{is_among-append}
use Rattle.lx_forest.proofs.Lookups.{NoRepeats-children_of, children_of-put_in, label_of-put_in}
use Rattle.lx_draft.specs.Working.{Working}
use Rattle.lx_draft.specs.Faults.{over_counts, put_fault}
use Rattle.lx_draft.specs.Steps.{node_placed, put_step}
use Rattle.lx_draft.specs.Beside.{before_at, put_before_step, behind_at, put_behind_step}
use Rattle.lx_draft.specs.Covering.{IsReady, AreCovered}
use Rattle.lx_draft.proofs.Covered.{answered, covered-self, covered-then}
use Rattle.lx_draft.proofs.CoveredSteps.{covered-put}
use Rattle.lx_draft.proofs.Put.{both_none, can_put, put_within}
use Rattle.lx_edit.proofs.Climbed.{first_part}
use Rattle.lx_clip.specs.Pasting.{put_behind_each}
use Rattle.lx_clip.proofs.Parted.{named_up}
use Rattle.lx_edit.proofs.Paths.{ok}
use Rattle.lx_trees.proofs.Positions.{slice_get-index_in}
use Rattle.lx_node.specs.declared.cause.Cause.{Cause}
use Rattle.std.proofs.lemmas.List.{take-append-drop, length-take}
use Rattle.lx_clip_laws.proofs.Gaps.{names_at, at_name, index_between, among_between}

pub none_of : (q : ℕ) (f : Forest) → has q f ≡ false → count q f ≡ 0
none_of q f free = grind (arith, nat_tests, free)

-- whoever holds the parent held it before
pub within_put : (a p : ℕ) (before : Option ℕ) (k : ℕ) (f : Forest) → IsForest f → CanPut p k f → is_within (put_in p before k f) a p ≡ is_within f a p
within_put a p before k f h can = is_within-put_in p before k f a p h can ∙ grind (arith, can.outside)

-- a tree that doesn't hold the parent stays
pub alone_put : (a p : ℕ) (before : Option ℕ) (k : ℕ) (f : Forest) → IsForest f → CanPut p k f → is_within f a p ≡ false
    → alone a (put_in p before k f) ≡ alone a f
alone_put a p before k f h can out = elim (cases_Bool (is_within f k a)) [
  | inl inside ↦ alone-put_in_inside a p before k f h can inside
  | inr outside ↦
      let other : k ≢ a = λ same. absurd (let self : is_within f k a ≡ true = ap (is_within f k) (sym same) ∙ is_within-self f k ∙ can.there in cc) in
      let apart : is_within f a k ≡ false = is_within-top f a k h can.detached other in
      let stays : without k (alone a f) ≡ alone a f = without-absent key_of k (alone a f) (none_of k (alone a f) apart) in
      alone-put_in_outside a p before k f h can outside
      ∙ ap (put_below key_of p before (alone k f)) stays
      ∙ put_below-absent key_of p before (alone k f) (alone a f) (none_of p (alone a f) out)
]

-- These nodes came below one parent, between the children before and those after them.
pub record Came (p : ℕ) (before keys behind : List ℕ) (w v : Working) : Type 0 where
  pub was : children_of w.forest p ≡ before ++ behind
  pub now : children_of v.forest p ≡ before ++ (keys ++ behind)
  pub others : (q : ℕ) → q ≢ p → children_of v.forest q ≡ children_of w.forest q
  pub labels : (q : ℕ) → label_of v.forest q ≡ label_of w.forest q
  pub trees : (a : ℕ) → is_within w.forest a p ≡ false → alone a v.forest ≡ alone a w.forest
  pub within : (a : ℕ) → is_within v.forest a p ≡ is_within w.forest a p
  pub outside : (k : ℕ) → is_among k keys ≡ true → is_within w.forest k p ≡ false
  pub covered : AreCovered w v

-- ---- one

pub put_came : (k p index : ℕ) (before behind : List ℕ) (w v : Working) → IsReady w → children_of w.forest p ≡ before ++ behind → length before ≡ index
    → put_step k p index w ≡ Ok v → Came p before (k ∷ []) behind w v
unfolding put_step
put_came k p index before behind w v ready was many e =
    let told = answered (option_or (put_fault k p index w.forest) (over_counts w)) (node_placed k p index w) v e in
    let none = (both_none (put_fault k p index w.forest) (over_counts w) told.0).0 in
    let can = can_put w.forest k p index none in
    let h = ready.in_order in
    let here : names_with (slice_get (children_of w.forest p) index) (k ∷ []) (children_of w.forest p) ≡ before ++ (k ∷ behind) =
    rw (was, ← many) (names_at before behind k (let once = NoRepeats-children_of w.forest p h in rw was at once)) in
    let o : Option ℕ = slice_get (children_of w.forest p) index in
    record {
      was = was;
      now = rw (← told.1) (children_of-put_in p o k w.forest p h can ∙ rw (own p) here);
      others = λ q other. rw (← told.1) (children_of-put_in p o k w.forest q h can ∙ rw (different q p other) refl);
      labels = λ q. rw (← told.1) (label_of-put_in p o k w.forest q h can);
      trees = λ a out. rw (← told.1) (alone_put a p o k w.forest h can out);
      within = λ a. rw (← told.1) (within_put a p o k w.forest h can);
      outside = λ q among. let same : k ≡ q = grind (arith, among, eqb_tells k q) in rw (← same) can.outside;
      covered = covered-put k p index w v ready e;
    }
  where
    own : (p : ℕ) → eqb p p ≡ true
    own p = grind (arith, eqb_tells p p)

    different : (q p : ℕ) → q ≢ p → eqb q p ≡ false
    different q p other = grind (arith, other, eqb_tells q p)

-- ---- several

came_none : (p : ℕ) (before behind : List ℕ) (w : Working) → IsReady w → children_of w.forest p ≡ before ++ behind → Came p before [] behind w w
came_none p before behind w ready was =
    record {
      was = was;
      now = was;
      others = λ q other. refl;
      labels = λ q. refl;
      trees = λ a out. refl;
      within = λ a. refl;
      outside = λ k among. absurd (cc);
      covered = covered-self w ready;
    }

pub came_then : (p : ℕ) (before keys more behind : List ℕ) (w u v : Working) → Came p before keys behind w u → Came p (before ++ keys) more behind u v
    → Came p before (keys ++ more) behind w v
came_then p before keys more behind w u v a b = record {
  was = a.was;
  now = b.now ∙ append_assoc before keys (more ++ behind) ∙ ap (λ xs. before ++ xs) (sym (append_assoc keys more behind));
  others = λ q other. b.others q other ∙ a.others q other;
  labels = λ q. b.labels q ∙ a.labels q;
  trees = λ x out. b.trees x (a.within x ∙ out) ∙ a.trees x out;
  within = λ x. b.within x ∙ a.within x;
  outside = λ q among. elim (cases_Bool (is_among q keys)) [
    | inl is ↦ a.outside q is
    | inr is ↦ sym (a.within q) ∙ b.outside q (rw is at (sym (is_among-append q keys more) ∙ among))
  ];
  covered = covered-then w u v a.covered b.covered;
}

-- the parent and the index of a child
pub record IsChild (f : Forest) (p other i : ℕ) : Type 0 where
  pub up : parent_of f other ≡ Some p
  pub at : index_of f other ≡ Some i

pub is_child : (f : Forest) (p other : ℕ) (before behind : List ℕ) → IsForest f → children_of f p ≡ before ++ (other ∷ behind)
    → IsChild f p other (length before)
is_child f p other before behind h are =
    let up : parent_of f other ≡ Some p = named_up f other p h (rw are (among_between before behind other)) in
    let once = NoRepeats-children_of f p h in
    record { up = up; at = ap (λ o. index_in (children_below f o) other) up ∙ rw are (index_between before behind other (rw are at once)) }

pub put_behind_came : (k p other : ℕ) (before behind : List ℕ) (w v : Working) → IsReady w → children_of w.forest p ≡ before ++ (other ∷ behind)
    → put_behind_step k other w ≡ Ok v → Came p (before ++ (other ∷ [])) (k ∷ []) behind w v
unfolding put_behind_step
put_behind_came k p other before behind w v ready are e =
    let child = is_child w.forest p other before behind ready.in_order are in
    let step : put_step k p (length before + 1) w ≡ Ok v = rw (child.at, child.up) at e in
    put_came k p (length before + 1) (before ++ (other ∷ [])) behind w v ready (are ∙ sym (append_assoc before (other ∷ []) behind)) (one_longer before other)
    step
  where
    one_longer : (xs : List ℕ) (x : ℕ) → length (xs ++ (x ∷ [])) ≡ length xs + 1
    one_longer [] x = refl
    one_longer (y ∷ xs) x = omega (arith, one_longer xs x)

pub behind_each_came : (keys : List ℕ) (p other : ℕ) (before behind : List ℕ) (w v : Working) → IsReady w → children_of w.forest p ≡ before ++ (other ∷ behind)
    → put_behind_each other keys w ≡ Ok v
    → Came p (before ++ (other ∷ [])) keys behind w v
unfolding put_behind_each
behind_each_came [] p other before behind w v ready are e =
    ok (Came p (before ++ (other ∷ [])) [] behind) w w v
    (came_none p (before ++ (other ∷ [])) behind w ready (are ∙ sym (append_assoc before (other ∷ []) behind))) e
behind_each_came (k ∷ ks) p other before behind w v ready are e =
    let one = first_part (put_behind_step k other w) (put_behind_each k ks) v e in
    let a = put_behind_came k p other before behind w one.0 ready are one.1 in
    came_then p (before ++ (other ∷ [])) (k ∷ []) ks behind w one.0 v a
    (behind_each_came ks p k (before ++ (other ∷ [])) behind one.0 v a.covered.ready a.now one.2)

-- ---- where a node is put

-- what stands around a child
pub record StandsIn (f : Forest) (other : ℕ) : Type 0 where
  pub parent : ℕ
  pub before : List ℕ
  pub behind : List ℕ
  pub are : children_of f parent ≡ before ++ (other ∷ behind)
  pub up : parent_of f other ≡ Some parent
  pub at : index_of f other ≡ Some (length before)

stands_in : (f : Forest) (other p i : ℕ) → parent_of f other ≡ Some p → index_of f other ≡ Some i → StandsIn f other
stands_in f other p i up at =
    let a = at_name (children_of f p) other i (slice_get-index_in (children_of f p) other i (rw (up) at at)) in
    record { parent = p; before = a.before; behind = a.behind; are = a.all; up = up; at = at ∙ ap Some (sym a.so_many) }

-- where it is asked what a child's parent and index are
stands : (f : Forest) (other : ℕ) (place : Option ℕ → Option ℕ → Result Working Cause) (v : Working) → ((i : Option ℕ) → place None i ≡ Ok v → ⊥)
    → ((p : ℕ) → place (Some p) None ≡ Ok v → ⊥) → place (parent_of f other) (index_of f other) ≡ Ok v
    → StandsIn f other
stands f other place v no_parent no_index e = by_place (parent_of f other) (index_of f other) refl refl e where
  by_place : (p i : Option ℕ) → parent_of f other ≡ p → index_of f other ≡ i → place p i ≡ Ok v → StandsIn f other
  by_place (Some p) (Some i) up at e = stands_in f other p i up at
  by_place (Some p) None up at e = absurd (no_index p e)
  by_place None i up at e = absurd (no_parent i e)

-- what it is put right after stands somewhere
pub behind_stands : (k other : ℕ) (w v : Working) → put_behind_step k other w ≡ Ok v → StandsIn w.forest other
unfolding put_behind_step
behind_stands k other w v e = stands w.forest other (λ p i. behind_at k other p i w) v (λ i e. cc) (λ p e. cc) e

pub before_stands : (k other : ℕ) (w v : Working) → put_before_step k other w ≡ Ok v → StandsIn w.forest other
unfolding put_before_step
before_stands k other w v e = stands w.forest other (λ p i. before_at k other p i w) v (λ i e. cc) (λ p e. cc) e

pub put_before_came : (k other : ℕ) (w v : Working) (s : StandsIn w.forest other) → IsReady w → put_before_step k other w ≡ Ok v
    → Came s.parent s.before (k ∷ []) (other ∷ s.behind) w v
unfolding put_before_step
put_before_came k other w v s ready e =
    let step : put_step k s.parent (length s.before) w ≡ Ok v = rw (s.at, s.up) at e in
    put_came k s.parent (length s.before) s.before (other ∷ s.behind) w v ready s.are refl step

-- in an element, at an index
pub record StandsAt (f : Forest) (p index : ℕ) : Type 0 where
  pub before : List ℕ
  pub behind : List ℕ
  pub are : children_of f p ≡ before ++ behind
  pub so_many : length before ≡ index

pub put_stands : (k p index : ℕ) (w v : Working) → put_step k p index w ≡ Ok v → StandsAt w.forest p index
unfolding put_step
put_stands k p index w v e =
    let told = answered (option_or (put_fault k p index w.forest) (over_counts w)) (node_placed k p index w) v e in
    let xs : List ℕ = children_of w.forest p in
    let within = put_within w.forest k p index (both_none (put_fault k p index w.forest) (over_counts w) told.0).0 in
    record { before = take index xs; behind = drop index xs; are = sym (take-append-drop index xs); so_many = omega (arith, length-take index xs, within) }
