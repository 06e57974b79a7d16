-- Where a block has no leaf after a caret in it, nothing of the block is read after the caret.
use Rattle.lx_blocks.proofs.Steps.{attached_there}
use Rattle.lx_blocks.proofs.Until.{until_front}
use Rattle.lx_blocks.specs.Places.{behind_place, from_child, nodes_behind, until}
use Rattle.lx_blocks.specs.Ranges.{characters_at, lies}
use Rattle.lx_caret.proofs.Cleared.{among_until}
use Rattle.lx_caret.proofs.Lies.{both}
use Rattle.lx_caret.proofs.Parents.{no_children}
use Rattle.lx_caret.specs.Deleting.{has_more, is_leaf_in, leaf_beside}
use Rattle.lx_caret_laws.proofs.BreakStarts.{at_element, at_itself}
use Rattle.lx_caret_laws.proofs.BrokenParts.{among_drop}
use Rattle.lx_caret_laws.proofs.Covers.{among_at, behind_along, from_tree, no_repeats_back, out_of_front}
use Rattle.lx_caret_laws.proofs.EdgeStart.{IsInLine, at_index, quiet, reads_none, said_none, until_middle}
use Rattle.lx_caret_laws.proofs.InPlace.{among-within, apart_children, below_parent, keys-level, place-here, place-level}
use Rattle.lx_caret_laws.proofs.JoinedIn.{past}
use Rattle.lx_caret_laws.proofs.Opened.{characters_said, no_element_at, place_said}
use Rattle.lx_caret_laws.proofs.ReadLevels.{read-leaf, read-level, reads-append}
use Rattle.lx_caret_laws.proofs.TypedNew.{parts_read}
use Rattle.lx_caret_laws.specs.Carets.{IsSound}
use Rattle.lx_caret_laws.specs.Reading.{place_along, place_in, read_in, reads_in, said}
use Rattle.lx_draft.proofs.Gaps.{parent_here}
use Rattle.lx_draft.specs.Selecting.{lies_in}
use Rattle.lx_draft.specs.Working.{Working}
use Rattle.lx_edit.specs.Edits.{text_point}
use Rattle.lx_edit_laws.proofs.Reading.{down, spread}
use Rattle.lx_edit_laws.proofs.WrapLists as lists
use Rattle.lx_forest.proofs.Lookups.{NoRepeats-children_of, has-parent_of, is_among-children_of}
use Rattle.lx_forest.proofs.Tops.{is_within-child}
use Rattle.lx_forest.proofs.Up.{attached_above}
use Rattle.lx_forest.proofs.Walks.{NoRepeats-preorder_of, is_attached-up, tree_distinct}
use Rattle.lx_forest.proofs.Within.{is_within-trans}
use Rattle.lx_forest.specs.Forest.{Forest}
use Rattle.lx_forest.specs.Lookups.{IsForest, alone, behind, children_of, from, has, is_attached, is_within, key_of, keys_within, parent_of, preorder}
use Rattle.lx_node.specs.declared.cause.Point.{Point}
use Rattle.lx_node.specs.declared.cause.PointKind.TheVariants as point
use Rattle.lx_node.specs.declared.cause.PointKind.{PointKind}
use Rattle.lx_text.proofs.Places as places
use Rattle.lx_text.proofs.Places.{length-none}
use Rattle.lx_text.specs.Texts.{text_length}
use Rattle.lx_trees.proofs.Cuts.{preorder-cut}
use Rattle.lx_trees.proofs.Siblings.{is_among-append}
use Rattle.lx_trees.specs.Siblings.{NoRepeats, is_among}
use Rattle.std.proofs.Common.{Bool, List, None, Option, Some, [], ap, append-nil, arith, cond, false, inl, inr, refl, subst, suc, sym, true, zero, ℕ, ◌++◌, ◌+◌, ◌||◌, ◌∙◌, ◌∷◌, ◌≡◌}
use Rattle.std.proofs.lemmas.Bool.Decides.{eqb_tells, nat_tests}
use Rattle.std.proofs.lemmas.Bool.{cases_Bool}
use Rattle.std.specs.Prelude.{drop, find, slice_get, take}

-- ---- lists

find_tells : (test : ℕ → Bool) (xs : List ℕ) (q : ℕ) → find test xs ≡ None → is_among q xs ≡ true → test q ≡ false
find_tells test [] q none among = absurd (cc)
find_tells test (x ∷ xs) q none among = by_test (find_tells test xs q) (test x) refl none where
  by_test : (find test xs ≡ None → is_among q xs ≡ true → test q ≡ false) → (t : Bool) → test x ≡ t
      → cond t (Some x) (find test xs) ≡ None → test q ≡ false
  by_test later true is none = absurd (cc)
  by_test later false is none = elim (eqb_tells x q) [
    | inl own ↦ ap test (sym own.1) ∙ is
    | inr other ↦ later none (grind (arith, among, other.0))
  ]

-- a list around one in it
pub record IsAround (k : ℕ) (xs : List ℕ) : Type 0 where
  pub front : List ℕ
  pub back : List ℕ
  pub is : xs ≡ front ++ (k ∷ back)

pub around : (k : ℕ) (xs : List ℕ) → is_among k xs ≡ true → IsAround k xs
around k [] e = absurd (cc)
around k (x ∷ xs) e = elim (eqb_tells x k) [
  | inl own ↦ record { front = []; back = xs; is = ap (λ y. y ∷ xs) own.1 }
  | inr other ↦
      let more = around k xs (grind (arith, e, other.0)) in
      record { front = x ∷ more.front; back = more.back; is = ap (λ t. x ∷ t) more.is }
]

pub or_last : (a b : Bool) → b ≡ true → (a || b) ≡ true
or_last true b e = refl
or_last false b e = e

-- ---- what comes after the tree of a node

module _ (f : Forest) (h : IsForest f) where
  pub cut : (k : ℕ) → is_attached f k ≡ true → (front : List ℕ) × (preorder f ≡ front ++ from f k)
  cut k there = preorder-cut key_of (alone 0 f) k (tree_distinct f h) (grind (arith, there))

  pub cut_tree : (k : ℕ) (there : is_attached f k ≡ true) → preorder f ≡ (cut k there).0 ++ (keys_within f k ++ behind f k)
  cut_tree k there = (cut k there).1 ∙ ap (λ ks. (cut k there).0 ++ ks) (from_tree f k h there)

  once_tree : (k : ℕ) (there : is_attached f k ≡ true) → NoRepeats ((cut k there).0 ++ (keys_within f k ++ behind f k))
  once_tree k there = subst NoRepeats (cut_tree k there) (NoRepeats-preorder_of f h)

  -- it isn't before the node or in its tree
  pub behind_out : (k q : ℕ) (there : is_attached f k ≡ true) → is_among q (behind f k) ≡ true
      → (is_among q (cut k there).0 ≡ false) × (is_among q (keys_within f k) ≡ false)
  behind_out k q there among =
      let later : is_among q (keys_within f k ++ behind f k) ≡ true =
      is_among-append q (keys_within f k) (behind f k) ∙ or_last (is_among q (keys_within f k)) (is_among q (behind f k)) among in (
        not_in (cut k there).0 (keys_within f k ++ behind f k) (once_tree k there) later,
        not_in (keys_within f k) (behind f k)
            (no_repeats_back (cut k there).0 (keys_within f k ++ behind f k) (once_tree k there)) among,
      ) where
        not_in : (xs ys : List ℕ) → NoRepeats (xs ++ ys) → is_among q ys ≡ true → is_among q xs ≡ false
        not_in xs ys once at = elim (cases_Bool (is_among q xs)) [
          | inl early ↦ absurd (let bad : false ≡ true = sym (lists.apart xs ys q once early) ∙ at in cc)
          | inr out ↦ out
        ]

  behind_attached : (k q : ℕ) (there : is_attached f k ≡ true) → is_among q (behind f k) ≡ true → is_among q (preorder f) ≡ true
  behind_attached k q there among =
      ap (is_among q) (cut_tree k there) ∙ is_among-append q (cut k there).0 (keys_within f k ++ behind f k)
      ∙ or_last (is_among q (cut k there).0) (is_among q (keys_within f k ++ behind f k))
      (is_among-append q (keys_within f k) (behind f k) ∙ or_last (is_among q (keys_within f k)) (is_among q (behind f k)) among)

  -- what comes after a node's tree comes after that of each node below it
  pub behind_more : (c k q : ℕ) → is_attached f c ≡ true → is_attached f k ≡ true → is_within f c k ≡ true → is_among q (behind f c) ≡ true
      → is_among q (behind f k) ≡ true
  behind_more c k q there_c there_k inside among =
      let out = behind_out c q there_c among in
      let all = behind_attached c q there_c among in
      let in_c : is_among k (keys_within f c) ≡ true = among-within f c k ∙ inside in
      let low : List ℕ = spread (keys_within f) (children_of f k) ++ behind f k in
      let has_k : has k f ≡ true = attached_there f k there_k in
      let starts : preorder f ≡ (cut k there_k).0 ++ (k ∷ low) =
      cut_tree k there_k ∙ ap (λ ks. (cut k there_k).0 ++ (ks ++ behind f k)) (keys-level f k h has_k) in
      let front : (cut k there_k).0 ≡ (cut c there_c).0 ++ until (Some k) (keys_within f c) =
      sym (ap (until (Some k)) starts ∙ until_front (cut k there_k).0 (k ∷ low) (subst NoRepeats starts (NoRepeats-preorder_of f h)))
      ∙ ap (until (Some k)) (cut_tree c there_c)
      ∙ until_middle k (cut c there_c).0 (keys_within f c) (behind f c) (once_tree c there_c) in_c in
      let not_early : is_among q (until (Some k) (keys_within f c)) ≡ false = elim (cases_Bool (is_among q (until (Some k) (keys_within f c)))) [
        | inl early ↦ absurd (let bad : false ≡ true = sym out.1 ∙ among_until (Some k) (keys_within f c) q early in cc)
        | inr none ↦ none
      ] in
      let not_front : is_among q (cut k there_k).0 ≡ false =
      ap (is_among q) front ∙ is_among-append q (cut c there_c).0 (until (Some k) (keys_within f c)) ∙ grind (arith, out.0, not_early) in
      let not_below : is_among q (keys_within f k) ≡ false = elim (cases_Bool (is_among q (keys_within f k))) [
        | inl low ↦
            let within : is_within f c q ≡ true = is_within-trans f c k q h inside (sym (among-within f k q) ∙ low) in
            absurd (let bad : false ≡ true = sym out.1 ∙ among-within f c q ∙ within in cc)
        | inr none ↦ none
      ] in
      let parts : is_among q (preorder f) ≡ (is_among q (cut k there_k).0 || (is_among q (keys_within f k) || is_among q (behind f k))) =
      ap (is_among q) (cut_tree k there_k) ∙ is_among-append q (cut k there_k).0 (keys_within f k ++ behind f k)
      ∙ ap (λ t. is_among q (cut k there_k).0 || t) (is_among-append q (keys_within f k) (behind f k)) in
      grind (arith, parts, all, not_front, not_below)

  -- what is in the tree of a later child comes after that of an earlier one
  pub later_child : (x c d q : ℕ) (front back : List ℕ) → is_attached f x ≡ true → children_of f x ≡ front ++ (c ∷ back) → is_among d back ≡ true
      → is_within f d q ≡ true → is_among q (behind f c) ≡ true
  later_child x c d q front back there are among inside =
      let a = around d back among in
      let whole : children_of f x ≡ front ++ (c ∷ (a.front ++ (d ∷ a.back))) = are ∙ ap (λ t. front ++ (c ∷ t)) a.is in
      let up : parent_of f d ≡ Some x =
      parent_here f x d h (ap (is_among d) are ∙ is_among-append d front (c ∷ back)
      ∙ or_last (is_among d front) (is_among d (c ∷ back)) (grind (arith, among))) in
      let attached : is_attached f d ≡ true = is_attached-up f d x h up ∙ there in
      let there_q : is_among q (from f d) ≡ true =
      ap (is_among q) (from_tree f d h attached) ∙ is_among-append q (keys_within f d) (behind f d)
      ∙ grind (arith, among-within f d q, inside) in
      ap (is_among q) (behind_along f x c front a.front d a.back h there whole)
      ∙ is_among-append q (spread (keys_within f) a.front) (from f d)
      ∙ or_last (is_among q (spread (keys_within f) a.front)) (is_among q (from f d)) there_q

-- ---- no leaf after the caret

module _ (w : Working) (b : ℕ) (p : Point) (sound : IsSound w) (i : IsInLine w.forest b p) (none : leaf_beside false w.forest b p ≡ None) where
  abbrev f : Forest
  f = w.forest

  h : IsForest f
  h = i.order

  p_there : is_attached f p.key ≡ true
  p_there = (both (is_attached f p.key) (lies_in f p) i.place).0

  quiet_behind : (q : ℕ) → is_within f b q ≡ true → is_among q (nodes_behind f p) ≡ true → said f q ≡ []
  quiet_behind q inside among = quiet f b p i q inside (find_tells (is_leaf_in f b) (nodes_behind f p) q none among)

  -- what comes after the tree of the point's node comes after the point
  in_behind : (q : ℕ) → is_among q (behind f p.key) ≡ true → is_among q (nodes_behind f p) ≡ true
  in_behind q among = by_kind p.kind refl where
    by_child : (o : Option ℕ) → slice_get (children_of f p.key) p.offset ≡ o → is_among q (from_child f p.key o) ≡ true
    by_child None at = among
    by_child (Some c) at =
        let cs : List ℕ = children_of f p.key in
        let front : List ℕ = take p.offset cs in
        let back : List ℕ = drop (suc p.offset) cs in
        let up : parent_of f c ≡ Some p.key =
        parent_here f p.key c h (ap (is_among c) (at_index cs p.offset c at) ∙ among_at front c back) in
        let attached : is_attached f c ≡ true = is_attached-up f c p.key h up ∙ p_there in
        let later = behind_more f h p.key c q p_there attached (below_parent f c p.key h up) among in
        ap (is_among q) (from_tree f c h attached) ∙ is_among-append q (keys_within f c) (behind f c)
        ∙ or_last (is_among q (keys_within f c)) (is_among q (behind f c)) later

    by_kind : (kind : PointKind) → p.kind ≡ kind → is_among q (behind_place f p.key p.offset p.kind) ≡ true
    by_kind point.Text is = ap (λ c. is_among q (behind_place f p.key p.offset c)) is ∙ among
    by_kind point.Element is =
        ap (λ c. is_among q (behind_place f p.key p.offset c)) is ∙ by_child (slice_get (children_of f p.key) p.offset) refl

  -- in nodes that come after, nothing is read
  none_read : (cs : List ℕ) → ((c q : ℕ) → is_among c cs ≡ true → is_within f c q ≡ true
      → (is_within f b q ≡ true) × (is_among q (nodes_behind f p) ≡ true)) → reads_in f cs ≡ []
  none_read cs each =
      reads_none f cs (λ c among. said_none f (keys_within f c) (λ q at.
      let told = each c q among (sym (among-within f c q) ∙ at) in quiet_behind q told.0 told.1))

  -- ---- on the point's own node

  on_it : (kind : PointKind) → p.kind ≡ kind → has_more false f p kind ≡ false
      → place_in f p.key (record { key = p.key; offset = p.offset; kind = kind }) ≡ text_length (read_in f p.key)
  on_it point.Text is more =
      let same : lies f (text_point p.key p.offset) ≡ true =
      ap (λ c. let x : Point = record { key = p.key; offset = p.offset; kind = c } in lies f x) (sym is) ∙ i.place in
      let parts = place_said f p.key p.offset same in
      let leaf : children_of f p.key ≡ [] = no_children f p.key h i.held (no_element_at f p.key p.offset same) in
      let there : has p.key f ≡ true = attached_there f p.key p_there in
      let total : characters_at f p.key ≡ text_length (read_in f p.key) =
      characters_said w p.key sound ∙ ap text_length (sym (read-leaf f p.key h leaf)) in
      at_itself f p.key p.offset h there ∙ grind (arith, nat_tests, more, parts.1, total)
  on_it point.Element is more =
      let cs : List ℕ = children_of f p.key in
      let there : has p.key f ≡ true = attached_there f p.key p_there in
      let rest : reads_in f (drop p.offset cs) ≡ [] =
      none_read (drop p.offset cs) (λ c q among inside.
      let up : parent_of f c ≡ Some p.key = parent_here f p.key c h (among_drop p.offset cs c among) in
      let low : is_within f b q ≡ true =
      is_within-trans f b p.key q h i.inside (is_within-trans f p.key c q h (below_parent f c p.key h up) inside) in
      (low, by_child (slice_get cs p.offset) refl c q among inside)) in
      at_element f p.key p.offset h there
      ∙ sym (ap text_length (read-level f p.key h ∙ ap (λ t. said f p.key ++ t)
      (parts_read f p.offset cs ∙ ap (λ t. reads_in f (take p.offset cs) ++ t) rest
      ∙ append-nil (reads_in f (take p.offset cs))))) where
        dropped : (xs : List ℕ) (n : ℕ) → slice_get xs n ≡ None → drop n xs ≡ []
        dropped [] zero e = refl
        dropped [] (suc n) e = refl
        dropped (x ∷ xs) zero e = absurd (cc)
        dropped (x ∷ xs) (suc n) e = dropped xs n e

        dropped_at : (xs : List ℕ) (n y : ℕ) → slice_get xs n ≡ Some y → drop n xs ≡ y ∷ drop (suc n) xs
        dropped_at [] n y e = absurd (grind (arith, e))
        dropped_at (x ∷ xs) zero y e = let same : x ≡ y = cc in ap (λ z. z ∷ xs) same
        dropped_at (x ∷ xs) (suc n) y e = dropped_at xs n y e

        by_child : (o : Option ℕ) → slice_get (children_of f p.key) p.offset ≡ o → (c q : ℕ)
            → is_among c (drop p.offset (children_of f p.key)) ≡ true → is_within f c q ≡ true → is_among q (nodes_behind f p) ≡ true
        by_child None at c q among inside =
            absurd (let bad : false ≡ true = sym (ap (is_among c) (dropped (children_of f p.key) p.offset at)) ∙ among in cc)
        by_child (Some d) at c q among inside =
            let cs : List ℕ = children_of f p.key in
            let front : List ℕ = take p.offset cs in
            let back : List ℕ = drop (suc p.offset) cs in
            let are : cs ≡ front ++ (d ∷ back) = at_index cs p.offset d at in
            let up : parent_of f d ≡ Some p.key = parent_here f p.key d h (ap (is_among d) are ∙ among_at front d back) in
            let attached : is_attached f d ≡ true = is_attached-up f d p.key h up ∙ p_there in
            let among_d : is_among c (d ∷ back) ≡ true = ap (is_among c) (sym (dropped_at cs p.offset d at)) ∙ among in
            let in_from : is_among q (from f d) ≡ true =
            ap (is_among q) (from_tree f d h attached) ∙ is_among-append q (keys_within f d) (behind f d) ∙ elim (eqb_tells d c) [
              | inl own ↦
                  let here : is_among q (keys_within f d) ≡ true = among-within f d q ∙ ap (λ x. is_within f x q) own.1 ∙ inside in
                  grind (arith, here)
              | inr other ↦
                  or_last (is_among q (keys_within f d)) (is_among q (behind f d))
                  (later_child f h p.key d c q front back p_there are (grind (arith, among_d, other.0)) inside)
            ] in
            ap (λ k. is_among q (behind_place f p.key p.offset k)) is ∙ ap (λ o. is_among q (from_child f p.key o)) at ∙ in_from

  -- ---- in each node of the line that it is in

  pub nothing_after : has_more false f p p.kind ≡ false → (x : ℕ) → is_within f b x ≡ true → is_within f x p.key ≡ true
      → place_in f x p ≡ text_length (read_in f x)
  nothing_after more x = down f h (λ x. is_within f b x ≡ true → is_within f x p.key ≡ true → place_in f x p ≡ text_length (read_in f x))
      (λ x each low inside. elim (eqb_tells p.key x) [
        | inl own ↦ subst (λ y. place_in f y p ≡ text_length (read_in f y)) own.1 (on_it p.kind refl more)
        | inr other ↦
            let c = is_within-child f x p.key h inside other.1 in
            let k : ℕ = c.child in
            let there : is_among k (children_of f x) ≡ true = is_among-children_of f k x h ∙ grind (arith, c.up, eqb_tells x x) in
            let a = around k (children_of f x) there in
            let below_k : is_within f b k ≡ true = is_within-trans f b x k h low (below_parent f k x h c.up) in
            let attached_x : is_attached f x ≡ true = attached_above f x p.key h p_there inside in
            let attached_k : is_attached f k ≡ true = attached_above f k p.key h p_there c.inside in
            let once : NoRepeats (a.front ++ (k ∷ a.back)) =
            subst NoRepeats a.is (NoRepeats-children_of f x h) in
            let here : place_in f k p ≡ text_length (read_in f k) = each k c.up below_k c.inside in
            let passed = past f p a.front (k ∷ a.back) (λ d among.
            let up : parent_of f d ≡ Some x = parent_here f x d h (ap (is_among d) a.is ∙ is_among-append d a.front (k ∷ a.back) ∙ grind (arith, among)) in
            apart_children f d k x p.key h up c.up (λ e. absurd (grind (arith, e, among, out_of_front a.front k a.back once))) c.inside) in
            let stop = place-here f p k (spread (keys_within f) a.back) c.inside in
            let rest : reads_in f a.back ≡ [] =
            none_read a.back (λ d q among within.
            let up : parent_of f d ≡ Some x =
            parent_here f x d h (ap (is_among d) a.is ∙ is_among-append d a.front (k ∷ a.back)
            ∙ or_last (is_among d a.front) (is_among d (k ∷ a.back)) (grind (arith, among))) in
            let low_q : is_within f b q ≡ true =
            is_within-trans f b x q h low (is_within-trans f x d q h (below_parent f d x h up) within) in
            let late = later_child f h x k d q a.front a.back attached_x a.is among within in
            (low_q, in_behind q (behind_more f h k p.key q attached_k p_there c.inside late))) in
            let level = place-level f p x h (has-parent_of f k x c.up) other.1 in
            let list : place_along f p (spread (keys_within f) (children_of f x)) ≡ place_along f p (spread (keys_within f) (a.front ++ (k ∷ a.back))) =
            ap (λ ks. place_along f p (spread (keys_within f) ks)) a.is in
            let read : text_length (read_in f x) ≡ text_length (said f x) + text_length (reads_in f (children_of f x)) =
            ap text_length (read-level f x h) ∙ places.length-append (said f x) (reads_in f (children_of f x)) in
            let parts : text_length (reads_in f (children_of f x)) ≡ text_length (reads_in f a.front) + text_length (reads_in f (k ∷ a.back)) =
            ap (λ ks. text_length (reads_in f ks)) a.is ∙ ap text_length (reads-append f a.front (k ∷ a.back))
            ∙ places.length-append (reads_in f a.front) (reads_in f (k ∷ a.back)) in
            let last : text_length (reads_in f (k ∷ a.back)) ≡ text_length (read_in f k) =
            places.length-append (read_in f k) (reads_in f a.back) ∙ omega (arith, ap text_length rest, length-none) in
            omega (arith, level, list, passed, stop, here, read, parts, last)
      ]) x
