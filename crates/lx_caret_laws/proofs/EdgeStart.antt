-- Where a block has no leaf before a caret in it, nothing of the block is read before the caret.
use Rattle.lx_blocks.proofs.Blocked.{own_block}
use Rattle.lx_blocks.proofs.Until.{filter_among, last_none, until_ahead, until_front, until_past, until_without}
use Rattle.lx_blocks.specs.Blocks.{block_of, is_at, passes, same_node}
use Rattle.lx_blocks.specs.Places.{behind_place, from_child, nodes_ahead, nodes_behind, until}
use Rattle.lx_blocks.specs.Ranges.{lies}
use Rattle.lx_caret.proofs.Cleared.{among_until}
use Rattle.lx_caret.proofs.Lies.{both}
use Rattle.lx_caret.proofs.Parents.{parents_are}
use Rattle.lx_caret.specs.Deleting.{has_more, is_leaf_in, leaf_beside}
use Rattle.lx_caret_laws.proofs.BrokenParts.{among_take}
use Rattle.lx_caret_laws.proofs.Covers.{among_trees, behind_along, from_tree}
use Rattle.lx_caret_laws.proofs.InBlocks.{block_up}
use Rattle.lx_caret_laws.proofs.InPlace.{among-within, below_parent, keys-level}
use Rattle.lx_caret_laws.proofs.SilentBlocks.{silent_element}
use Rattle.lx_caret_laws.proofs.Stops.{inline_child, no_stop_kind}
use Rattle.lx_caret_laws.specs.Joining.{IsLine}
use Rattle.lx_caret_laws.specs.Reading.{place_along, place_in, place_on, read_in, reads_in, said, said_by}
use Rattle.lx_draft.proofs.Gaps.{parent_here}
use Rattle.lx_draft.specs.Selecting.{is_counted_in, is_place, lies_in}
use Rattle.lx_edit_laws.proofs.Reading.{down, spread}
use Rattle.lx_edit_laws.proofs.WrapLists as lists
use Rattle.lx_forest.proofs.Tops.{is_within-child}
use Rattle.lx_forest.proofs.Walks.{NoRepeats-preorder_of, from-child, is_attached-up, tree_distinct}
use Rattle.lx_forest.proofs.Within.{is_within-parent, is_within-trans}
use Rattle.lx_forest.specs.Forest.{Forest}
use Rattle.lx_forest.specs.Lookups.{IsForest, IsHeld, alone, behind, children_of, from, has, is_attached, is_within, key_of, keys_within, kind_of, parent_of, preorder}
use Rattle.lx_forest.specs.Suited.{IsSuited}
use Rattle.lx_node.specs.Kinds.{is_element, is_inline, may_hold}
use Rattle.lx_node.specs.declared.cause.Point.{Point}
use Rattle.lx_node.specs.declared.cause.PointKind.TheVariants as point
use Rattle.lx_node.specs.declared.cause.PointKind.{PointKind}
use Rattle.lx_node.specs.declared.kind.Kind.{Kind}
use Rattle.lx_blocks.proofs.Steps.{attached_there}
use Rattle.lx_text.proofs.Places.{length-none}
use Rattle.lx_text.specs.Texts.{text_length}
use Rattle.lx_trees.proofs.Cuts.{preorder-cut}
use Rattle.lx_trees.proofs.Siblings.{is_among-append}
use Rattle.lx_trees.specs.Siblings.{NoRepeats, first_of, is_among}
use Rattle.std.proofs.Common.{Bool, List, None, Option, Some, [], ap, append_assoc, ap₂, arith, cond, eqb, false, inl, inr, not, refl, subst, suc, sym, true, zero, ℕ, ◌&&◌, ◌++◌, ◌+◌, ◌||◌, ◌∙◌, ◌∷◌, ◌≡◌, ◌≢◌}
use Rattle.std.proofs.lemmas.Bool.Decides.{eqb_tells, nat_tests}
use Rattle.std.proofs.lemmas.Bool.{cases_Bool}
use Rattle.std.specs.Prelude.{drop, filter, slice_get, take}

-- ---- lists

pub at_index : (xs : List ℕ) (n y : ℕ) → slice_get xs n ≡ Some y → xs ≡ take n xs ++ (y ∷ drop (suc n) xs)
at_index [] n y e = absurd (grind (arith, e))
at_index (x ∷ xs) zero y e = let same : x ≡ y = cc in ap (λ z. z ∷ xs) same
at_index (x ∷ xs) (suc n) y e = ap (λ t. x ∷ t) (at_index xs n y e)

-- those before one that is in the middle of a list
pub until_middle : (k : ℕ) (xs ys zs : List ℕ) → NoRepeats (xs ++ (ys ++ zs)) → is_among k ys ≡ true
    → until (Some k) (xs ++ (ys ++ zs)) ≡ xs ++ until (Some k) ys
until_middle k xs ys zs once there =
    let out : is_among k xs ≡ false = elim (cases_Bool (is_among k xs)) [
      | inl early ↦
          let later : is_among k (ys ++ zs) ≡ true = is_among-append k ys zs ∙ grind (arith, there) in
          absurd (let bad : false ≡ true = sym (lists.apart xs (ys ++ zs) k once early) ∙ later in cc)
      | inr none ↦ none
    ] in
    until_past k xs (ys ++ zs) out ∙ ap (λ t. xs ++ t) (until_ahead k ys zs there)

pub said_none : (f : Forest) (ks : List ℕ) → ((q : ℕ) → is_among q ks ≡ true → said f q ≡ []) → said_by f ks ≡ []
said_none f [] none = refl
said_none f (k ∷ ks) none =
    ap₂ (λ a b. a ++ b) (none k (grind (arith, eqb_tells k k))) (said_none f ks (λ q among. none q (grind (arith, among))))

pub reads_none : (f : Forest) (ks : List ℕ) → ((q : ℕ) → is_among q ks ≡ true → read_in f q ≡ []) → reads_in f ks ≡ []
reads_none f [] none = refl
reads_none f (k ∷ ks) none =
    ap₂ (λ a b. a ++ b) (none k (grind (arith, eqb_tells k k))) (reads_none f ks (λ q among. none q (grind (arith, among))))

-- where nothing is said before a point's node, the place is that on the node
along_quiet : (f : Forest) (p : Point) (ks : List ℕ) → is_among p.key ks ≡ true
    → ((q : ℕ) → is_among q (until (Some p.key) ks) ≡ true → said f q ≡ []) → place_along f p ks ≡ place_on f p p.kind
along_quiet f p [] there none = absurd (cc)
along_quiet f p (k ∷ ks) there none = elim (eqb_tells p.key k) [
  | inl own ↦ ap (λ t. cond t (place_on f p p.kind) (text_length (said f k) + place_along f p ks)) own.0
  | inr other ↦
      let turned : eqb k p.key ≡ false = grind (arith, other, eqb_tells k p.key) in
      let ahead : until (Some p.key) (k ∷ ks) ≡ k ∷ until (Some p.key) ks = ap (λ t. cond t [] (k ∷ until (Some p.key) ks)) turned in
      let here : said f k ≡ [] = none k (ap (is_among k) ahead ∙ grind (arith, eqb_tells k k)) in
      let more = along_quiet f p ks (grind (arith, there, turned)) (λ q among. none q (ap (is_among q) ahead ∙ grind (arith, among))) in
      ap (λ t. cond t (place_on f p p.kind) (text_length (said f k) + place_along f p ks)) other.0
      ∙ omega (arith, ap text_length here, length-none, more)
]

-- from a node on: it, the trees of its first children, and what comes from another child on
from_children : (f : Forest) (k c : ℕ) (front rest : List ℕ) → IsForest f → is_attached f k ≡ true → children_of f k ≡ front ++ (c ∷ rest)
    → from f k ≡ k ∷ (spread (keys_within f) front ++ from f c)
from_children f k c [] rest h there are = from-child f k c h there (ap first_of are)
from_children f k c (x ∷ mid) rest h there are =
    let up = parent_here f k x h (ap (is_among x) are ∙ grind (arith, eqb_tells x x)) in
    let attached : is_attached f x ≡ true = is_attached-up f x k h up ∙ there in
    from-child f k x h there (ap first_of are)
    ∙ ap (λ t. k ∷ t) (from_tree f x h attached ∙ ap (λ t. keys_within f x ++ t) (behind_along f k x [] mid c rest h there are)
    ∙ sym (append_assoc (keys_within f x) (spread (keys_within f) mid) (from f c)))

-- ---- a point in a line

pub record IsInLine (f : Forest) (b : ℕ) (p : Point) : Type 0 where
  pub order : IsForest f
  pub held : IsHeld may_hold f
  pub suited : IsSuited f
  pub line : IsLine f b
  pub there : is_attached f b ≡ true
  pub inside : is_within f b p.key ≡ true
  pub place : lies f p ≡ true

counted_element : (o : Option Kind) → is_counted_in point.Element o ≡ true → passes is_element o ≡ true
counted_element None e = absurd (cc)
counted_element (Some kind) e = e

module _ (f : Forest) (b : ℕ) (p : Point) (i : IsInLine f b p) where
  h : IsForest f
  h = i.order

  p_there : is_attached f p.key ≡ true
  p_there = (both (is_attached f p.key) (lies_in f p) i.place).0

  p_has : has p.key f ≡ true
  p_has = attached_there f p.key p_there

  block_below : (q : ℕ) → is_within f b q ≡ true → block_of f q ≡ Some b
  block_below q inside = down f h (λ x. ((c : ℕ) → parent_of f c ≡ Some x → is_at is_inline f c ≡ true) → block_of f x ≡ Some b
      → (q : ℕ) → is_within f x q ≡ true → block_of f q ≡ Some b)
      (λ x each low block q inside. elim (eqb_tells q x) [
        | inl own ↦ ap (block_of f) own.1 ∙ block
        | inr other ↦
            let c = is_within-child f x q h inside other.1 in
            let inline = low c.child c.up in
            each c.child c.up (λ d up. inline_child f d c.child i.held up inline)
            (block_up f c.child x h c.up (no_stop_kind (kind_of f c.child) inline).0 ∙ block) q c.inside
      ]) b i.line.inline (own_block f b i.line.kind) q inside

  -- what isn't a leaf of the line says nothing
  pub quiet : (q : ℕ) → is_within f b q ≡ true → is_leaf_in f b q ≡ false → said f q ≡ []
  quiet q inside none = elim (cases_Bool (is_at is_element f q)) [
    | inl element ↦ silent_element f q i.suited element
    | inr leaf ↦
        let same : same_node (block_of f q) (Some b) ≡ true =
        ap (λ o. same_node o (Some b)) (block_below q inside) ∙ grind (arith, eqb_tells b b) in
        let is : is_leaf_in f b q ≡ true = ap₂ (λ x y. not x && y) leaf same in
        absurd (let bad : false ≡ true = sym none ∙ is in cc)
  ]

  -- nor does what the point is below
  above : (q : ℕ) → is_within f q p.key ≡ true → q ≢ p.key → said f q ≡ []
  above q over other =
      let c = is_within-child f q p.key h over (λ e. other (sym e)) in
      silent_element f q i.suited (counted_element (kind_of f q) (parents_are f c.child q i.held c.up))

  -- ---- the nodes up to the point

  cut_b : (front : List ℕ) × (preorder f ≡ front ++ from f b)
  cut_b = preorder-cut key_of (alone 0 f) b (tree_distinct f h) (grind (arith, i.there))

  cut_p : (front : List ℕ) × (preorder f ≡ front ++ from f p.key)
  cut_p = preorder-cut key_of (alone 0 f) p.key (tree_distinct f h) (grind (arith, p_there))

  all_once : NoRepeats (preorder f)
  all_once = NoRepeats-preorder_of f h

  keys_b : List ℕ
  keys_b = keys_within f b

  among_p : is_among p.key (keys_within f b) ≡ true
  among_p = among-within f b p.key ∙ i.inside

  front_p : cut_p.0 ≡ cut_b.0 ++ until (Some p.key) (keys_within f b)
  front_p =
      let low : List ℕ = spread (keys_within f) (children_of f p.key) ++ behind f p.key in
      let starts : from f p.key ≡ p.key ∷ low = from_tree f p.key h p_there ∙ ap (λ ks. ks ++ behind f p.key) (keys-level f p.key h p_has) in
      let whole : preorder f ≡ cut_p.0 ++ (p.key ∷ low) = cut_p.1 ∙ ap (λ ks. cut_p.0 ++ ks) starts in
      let other : preorder f ≡ cut_b.0 ++ (keys_within f b ++ behind f b) = cut_b.1 ∙ ap (λ ks. cut_b.0 ++ ks) (from_tree f b h i.there) in
      sym (ap (until (Some p.key)) whole ∙ until_front cut_p.0 (p.key ∷ low) (subst NoRepeats whole all_once))
      ∙ ap (until (Some p.key)) other
      ∙ until_middle p.key cut_b.0 (keys_within f b) (behind f b) (subst NoRepeats other all_once) among_p

  -- the nodes that aren't behind the point
  record IsSplit : Type 0 where
    ahead : List ℕ
    all : preorder f ≡ ahead ++ nodes_behind f p
    early : (q : ℕ) → is_among q cut_p.0 ≡ true → is_among q ahead ≡ true
    low : p.kind ≡ point.Element → (c q : ℕ) → is_among c (take p.offset (children_of f p.key)) ≡ true → is_within f c q ≡ true
        → is_among q ahead ≡ true

  in_front : (q : ℕ) (xs ys : List ℕ) → is_among q xs ≡ true → is_among q (xs ++ ys) ≡ true
  in_front q xs ys e = is_among-append q xs ys ∙ grind (arith, e)

  in_back : (q : ℕ) (xs ys : List ℕ) → is_among q ys ≡ true → is_among q (xs ++ ys) ≡ true
  in_back q xs ys e = is_among-append q xs ys ∙ or_last (is_among q xs) (is_among q ys) e where
    or_last : (a b : Bool) → b ≡ true → (a || b) ≡ true
    or_last true b e = refl
    or_last false b e = e

  -- where the whole tree of the node isn't behind it
  whole_tree : behind f p.key ≡ nodes_behind f p → IsSplit
  whole_tree is = record {
    ahead = cut_p.0 ++ keys_within f p.key;
    all = cut_p.1 ∙ ap (λ ks. cut_p.0 ++ ks) (from_tree f p.key h p_there)
        ∙ sym (append_assoc cut_p.0 (keys_within f p.key) (behind f p.key)) ∙ ap (λ ks. (cut_p.0 ++ keys_within f p.key) ++ ks) is;
    early = λ q among. in_front q cut_p.0 (keys_within f p.key) among;
    low = λ element c q among inside.
        let up : parent_of f c ≡ Some p.key = parent_here f p.key c h (among_take p.offset (children_of f p.key) c among) in
        in_back q cut_p.0 (keys_within f p.key) (among-within f p.key q ∙ is_within-trans f p.key c q h (below_parent f c p.key h up) inside);
  }

  from_index : (c : ℕ) → slice_get (children_of f p.key) p.offset ≡ Some c → from f c ≡ nodes_behind f p → IsSplit
  from_index c at is =
      let cs : List ℕ = children_of f p.key in
      let front : List ℕ = take p.offset cs in
      let keys : List ℕ = p.key ∷ spread (keys_within f) front in
      record {
        ahead = cut_p.0 ++ keys;
        all = cut_p.1
            ∙ ap (λ ks. cut_p.0 ++ ks) (from_children f p.key c front (drop (suc p.offset) cs) h p_there (at_index cs p.offset c at))
            ∙ sym (append_assoc cut_p.0 keys (from f c)) ∙ ap (λ ks. (cut_p.0 ++ keys) ++ ks) is;
        early = λ q among. in_front q cut_p.0 keys among;
        low = λ element c q among inside.
            let there = among_trees f front c q among inside in in_back q cut_p.0 keys (grind (arith, there));
      }

  split : IsSplit
  split = by_kind p.kind refl where
    by_child : (o : Option ℕ) → p.kind ≡ point.Element → slice_get (children_of f p.key) p.offset ≡ o → IsSplit
    by_child None element at =
        whole_tree (sym (ap (behind_place f p.key p.offset) element ∙ ap (from_child f p.key) at))
    by_child (Some c) element at =
        from_index c at (sym (ap (behind_place f p.key p.offset) element ∙ ap (from_child f p.key) at))

    by_kind : (kind : PointKind) → p.kind ≡ kind → IsSplit
    by_kind point.Text is = whole_tree (sym (ap (behind_place f p.key p.offset) is))
    by_kind point.Element is = by_child (slice_get (children_of f p.key) p.offset) is refl

  -- ---- no leaf before it

  module _ (none : leaf_beside true f b p ≡ None) where
    no_leaf : (q : ℕ) → is_among q (nodes_ahead f p) ≡ true → is_leaf_in f b q ≡ false
    no_leaf q among =
        let empty : filter (is_leaf_in f b) (nodes_ahead f p) ≡ [] = last_none (filter (is_leaf_in f b) (nodes_ahead f p)) none in
        let told = filter_among (is_leaf_in f b) (nodes_ahead f p) q in
        let out : is_among q (filter (is_leaf_in f b) (nodes_ahead f p)) ≡ false = ap (is_among q) empty in
        grind (arith, told, out, among)

    quiet_before : (q : ℕ) → is_among q split.ahead ≡ true → is_within f b q ≡ true → q ≢ p.key → said f q ≡ []
    quiet_before q among inside other = elim (cases_Bool (is_within f q p.key)) [
      | inl over ↦ above q over other
      | inr out ↦
          let ups : until (first_of (nodes_behind f p)) (preorder f) ≡ split.ahead =
          ap (until (first_of (nodes_behind f p))) split.all
          ∙ until_front split.ahead (nodes_behind f p) (subst NoRepeats split.all all_once) in
          let passes : not (is_within f q p.key) ≡ true = ap not out in
          let ahead : is_among q (nodes_ahead f p) ≡ true =
          filter_among (λ k. not (is_within f k p.key)) (until (first_of (nodes_behind f p)) (preorder f)) q
          ∙ ap₂ (λ x y. x && y) (ap (is_among q) ups ∙ among) passes in
          quiet q inside (no_leaf q ahead)
    ]

    first_part : place_in f b p ≡ place_on f p p.kind
    first_part = along_quiet f p (keys_within f b) among_p (λ q among.
        let within : is_within f b q ≡ true = sym (among-within f b q) ∙ among_until (Some p.key) (keys_within f b) q among in
        let early : is_among q cut_p.0 ≡ true = ap (is_among q) front_p ∙ in_back q cut_b.0 (until (Some p.key) (keys_within f b)) among in
        quiet_before q (split.early q early) within (λ e.
        let ks : List ℕ = until (Some p.key) (keys_within f b) in
        absurd (let bad : false ≡ true = sym (until_without p.key (keys_within f b)) ∙ ap (λ x. is_among x ks) (sym e) ∙ among in cc)))

    on_it : (kind : PointKind) → p.kind ≡ kind → has_more true f p kind ≡ false → place_on f p kind ≡ 0
    on_it point.Text is more = grind (arith, nat_tests, more)
    on_it point.Element is more =
        let inner = (both (is_attached f p.key) (lies_in f p) i.place).1 in
        let counted : is_counted_in point.Element (kind_of f p.key) ≡ true =
        ap (λ c. is_counted_in c (kind_of f p.key)) (sym is) ∙ (both (is_counted_in p.kind (kind_of f p.key)) (is_place f p p.kind) inner).0 in
        let silent : said f p.key ≡ [] = silent_element f p.key i.suited (counted_element (kind_of f p.key) counted) in
        let front : List ℕ = take p.offset (children_of f p.key) in
        let reads : reads_in f front ≡ [] =
        reads_none f front (λ c among.
        let up : parent_of f c ≡ Some p.key = parent_here f p.key c h (among_take p.offset (children_of f p.key) c among) in
        said_none f (keys_within f c) (λ q at.
        let inside : is_within f c q ≡ true = sym (among-within f c q) ∙ at in
        let low : is_within f p.key q ≡ true = is_within-trans f p.key c q h (below_parent f c p.key h up) inside in
        quiet_before q (split.low is c q among inside) (is_within-trans f b p.key q h i.inside low)
        (λ e. absurd (let bad : false ≡ true = sym (is_within-parent f c p.key h up) ∙ ap (is_within f c) (sym e) ∙ inside in cc)))) in
        ap₂ (λ x y. text_length (x ++ y)) silent reads ∙ length-none

    pub nothing_before : has_more true f p p.kind ≡ false → place_in f b p ≡ 0
    nothing_before more = first_part ∙ on_it p.kind refl more
