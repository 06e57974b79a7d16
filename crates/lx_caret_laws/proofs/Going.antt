-- The nodes that a removal takes out between two leaves of the root's tree, and what is left below each node.
use Rattle.lx_blocks.proofs.Until.{filter_alike, filter_among, no_repeats_front, until_front}
use Rattle.lx_blocks.specs.Places.{covered, outermost, stands_below, until}
use Rattle.lx_caret_laws.proofs.AllOut.{Leaves}
use Rattle.lx_caret_laws.proofs.Covers.{from_tree}
use Rattle.lx_caret_laws.proofs.CutLists.{no_repeats_rest, not_ahead, same_cut}
use Rattle.lx_caret_laws.proofs.InPlace.{below_parent, keys-level}
use Rattle.lx_caret_laws.proofs.LyingBetween.{Between, attached_first, attached_last, attached_mid, is_out, out_clear, out_edge}
use Rattle.lx_draft.proofs.Gaps.{child_of, parent_here}
use Rattle.lx_edit.specs.Edits.{text_point}
use Rattle.lx_edit_laws.proofs.Reading.{spread}
use Rattle.lx_edit_laws.proofs.WrapLists.{filter-kept}
use Rattle.lx_forest.proofs.Tops.{is_within-child}
use Rattle.lx_forest.proofs.Walks.{NoRepeats-preorder_of, cases_option, is_attached-top, is_attached-up, is_among-preorder_of, tree_distinct}
use Rattle.lx_forest.proofs.Within.{is_within-self}
use Rattle.lx_forest.specs.Forest.{Forest}
use Rattle.lx_forest.specs.Lookups.{IsForest, alone, behind, children_of, has, is_attached, is_within, key_of, keys_within, order_between, order_of, parent_of, preorder}
use Rattle.lx_links.proofs.Ordered.{there_within}
use Rattle.lx_trees.proofs.Cuts.{preorder-cut}
use Rattle.lx_trees.proofs.Firsts.{cut_at, order_middle}
use Rattle.lx_trees.proofs.Siblings.{is_among-append}
use Rattle.lx_trees.specs.Siblings.{NoRepeats, first_of, index_in, is_among}
use Rattle.std.proofs.Common.{Bool, List, Some, [], ap, append-nil, append_assoc, ap₂, arith, cond, false, inl, inr, not, refl, subst, sym, true, ℕ, ◌&&◌, ◌++◌, ◌∙◌, ◌∷◌, ◌≡◌, ◌≢◌, ◌⊎◌}
use Rattle.std.proofs.lemmas.Bool.Decides.{eqb_tells}
use Rattle.std.proofs.lemmas.Bool.{cases_Bool}
use Rattle.std.proofs.lemmas.List.Elements.{filter-append}
use Rattle.std.specs.Prelude.{filter}
use Rattle.std.specs.declared.cmp.Ordering.TheVariants as ordering

-- ---- two leaves, of which one comes first

pub record IsBetween (f : Forest) (s e : ℕ) : Type 0 where
  pub front : List ℕ
  pub mid : List ℕ
  pub back : List ℕ
  pub is : Between f s e front mid back

pub are_between : (f : Forest) (s e : ℕ) → IsForest f → is_attached f s ≡ true → is_attached f e ≡ true → s ≢ e
    → order_of f s e ≡ Some ordering.Less → children_of f s ≡ [] → children_of f e ≡ [] → IsBetween f s e
are_between f s e h there_s there_e apart order leaf_s leaf_e =
    let all : List ℕ = preorder f in
    let cut = cut_at s [] all (is_among-preorder_of f s ∙ there_s) in
    let front : List ℕ = cut.0 in
    let rest : List ℕ = cut.1 in
    let stands = order_middle front (s ∷ []) rest s e cut.2.ahead (grind (arith, eqb_tells s s)) (grind (arith, apart, eqb_tells s e)) in
    let here = sym (ap (λ ks. order_between (index_in ks s) (index_in ks e)) cut.2.split ∙ stands) ∙ order in
    let e_all : is_among e (front ++ (s ∷ rest)) ≡ true = sym (ap (is_among e) cut.2.split) ∙ is_among-preorder_of f e ∙ there_e in
    let e_rest : is_among e rest ≡ true = elim (cases_Bool (is_among e front)) [
      | inl bad ↦ absurd (grind (arith, here, bad))
      | inr fine ↦ grind (arith, e_all, fine, apart, is_among-append e front (s ∷ rest), eqb_tells s e)
    ] in
    let last = cut_at e [] rest e_rest in
    record {
      front = front;
      mid = last.0;
      back = last.1;
      is = record { order = h; are = cut.2.split ∙ ap (λ t. front ++ (s ∷ t)) last.2.split; first = leaf_s; last = leaf_e };
    }

-- ---- what goes

-- in the root's tree a leaf comes after a front, and before what is behind it
leaf_cut : (f : Forest) (k : ℕ) (front rest : List ℕ) → IsForest f → is_attached f k ≡ true → children_of f k ≡ []
    → preorder f ≡ front ++ (k ∷ rest) → behind f k ≡ rest
leaf_cut f k front rest h there leaf are =
    let so : has k f ≡ true = there_within f 0 k there in
    let cut = preorder-cut key_of (alone 0 f) k (tree_distinct f h) (grind (arith, there)) in
    let own : keys_within f k ≡ k ∷ [] = keys-level f k h so ∙ ap (λ cs. k ∷ spread (keys_within f) cs) leaf in
    let whole : preorder f ≡ cut.0 ++ (k ∷ behind f k) =
    cut.1 ∙ ap (λ t. cut.0 ++ t) (from_tree f k h there ∙ ap (λ t. t ++ behind f k) own) in
    let once = NoRepeats-preorder_of f h in
    let one = not_ahead cut.0 (k ∷ behind f k) k (subst NoRepeats whole once) (grind (arith, eqb_tells k k)) in
    let two = not_ahead front (k ∷ rest) k (subst NoRepeats are once) (grind (arith, eqb_tells k k)) in
    (same_cut k cut.0 (behind f k) front rest one two (sym whole ∙ are)).rest

no_repeats_filter : (test : ℕ → Bool) (xs : List ℕ) → NoRepeats xs → NoRepeats (filter test xs)
no_repeats_filter test [] once = tt
no_repeats_filter test (x ∷ xs) once = elim (cases_Bool (test x)) [
  | inl kept ↦ subst NoRepeats (sym (ap (λ b. cond b (x ∷ filter test xs) (filter test xs)) kept))
      (grind (arith, once.0, filter_among test xs x), no_repeats_filter test xs once.1)
  | inr gone ↦ subst NoRepeats (sym (ap (λ b. cond b (x ∷ filter test xs) (filter test xs)) gone)) (no_repeats_filter test xs once.1)
]

module _ (f : Forest) (s e : ℕ) (a m z : List ℕ) (b : Between f s e a m z) where
  abbrev pub wholly : List ℕ
  wholly = filter (λ k. not (is_within f k e)) m

  abbrev pub going : List ℕ
  going = filter (λ k. not (stands_below (parent_of f k) wholly)) wholly

  pub covers : (i j : ℕ) → covered f (text_point s i) (text_point e j) ≡ wholly
  covers i j =
      let test : ℕ → Bool = λ k. not (is_within f k e) in
      let there_s = attached_first f s e a m z b in
      let there_e = attached_last f s e a m z b in
      let after_s : behind f s ≡ m ++ (e ∷ z) = leaf_cut f s a (m ++ (e ∷ z)) b.order there_s b.first b.are in
      let after_e : behind f e ≡ z =
      leaf_cut f e (a ++ (s ∷ m)) z b.order there_e b.last (b.are ∙ sym (append_assoc a (s ∷ m) (e ∷ z))) in
      let regrouped : m ++ (e ∷ z) ≡ (m ++ (e ∷ [])) ++ z = sym (append_assoc m (e ∷ []) z) in
      let once : NoRepeats (m ++ (e ∷ z)) = (no_repeats_rest a (s ∷ (m ++ (e ∷ z))) (subst NoRepeats b.are (NoRepeats-preorder_of f b.order))).1 in
      let up_to : until (first_of (behind f e)) (behind f s) ≡ m ++ (e ∷ []) =
      ap₂ (λ x y. until (first_of x) y) after_e (after_s ∙ regrouped) ∙ until_front (m ++ (e ∷ [])) z (subst NoRepeats regrouped once) in
      let own : is_within f e e ≡ true = is_within-self f e ∙ there_within f 0 e there_e in
      let goes : filter test (e ∷ []) ≡ [] = rw own refl in
      ap (filter test) up_to ∙ filter-append test m (e ∷ []) ∙ ap (λ t. filter test m ++ t) goes ∙ append-nil wholly

  pub goes_out : (i j : ℕ) → outermost f (covered f (text_point s i) (text_point e j)) ≡ going
  goes_out i j = ap (outermost f) (covers i j)

  pub going_once : NoRepeats going
  going_once =
      let once : NoRepeats (m ++ (e ∷ z)) = (no_repeats_rest a (s ∷ (m ++ (e ∷ z))) (subst NoRepeats b.are (NoRepeats-preorder_of f b.order))).1 in
      no_repeats_filter (λ k. not (stands_below (parent_of f k) wholly)) wholly
      (no_repeats_filter (λ k. not (is_within f k e)) m (no_repeats_front m (e ∷ z) once))

  pub in_wholly : (k : ℕ) → is_among k wholly ≡ is_out f m e k
  in_wholly k = filter_among (λ k. not (is_within f k e)) m k

  in_going : (k : ℕ) → is_among k going ≡ (is_out f m e k && not (stands_below (parent_of f k) wholly))
  in_going k = filter_among (λ k. not (stands_below (parent_of f k) wholly)) wholly k ∙ ap (λ t. t && not (stands_below (parent_of f k) wholly)) (in_wholly k)

  below_of : (k p : ℕ) → parent_of f k ≡ Some p → stands_below (parent_of f k) wholly ≡ is_out f m e p
  below_of k p up = ap (λ o. stands_below o wholly) up ∙ in_wholly p

  pub going_out : (k : ℕ) → is_among k going ≡ true → is_out f m e k ≡ true
  going_out k at = grind (arith, at, in_going k)

  going_top : (k p : ℕ) → is_among k going ≡ true → parent_of f k ≡ Some p → is_out f m e p ≡ false
  going_top k p at up = grind (arith, at, in_going k, below_of k p up)

  -- it holds neither leaf
  pub going_clear : (k : ℕ) → is_among k going ≡ true → (is_within f k s ≡ false) × (is_within f k e ≡ false)
  going_clear k at = (out_clear f s e a m z b k (going_out k at), grind (arith, going_out k at))

  -- and its parent holds one
  going_edge : (k p : ℕ) → is_among k going ≡ true → parent_of f k ≡ Some p → (is_within f p s ≡ true) ⊎ (is_within f p e ≡ true)
  going_edge k p at up =
      let among : is_among k m ≡ true = grind (arith, going_out k at) in
      let there : is_attached f p ≡ true = sym (is_attached-up f k p b.order up) ∙ attached_mid f s e a m z b k among in
      out_edge f s e a m z b p k there (going_top k p at up) (below_parent f k p b.order up) (going_out k at)

  -- so a child of that stays
  stays_by : (k p x : ℕ) → is_among k going ≡ true → parent_of f k ≡ Some p → is_within f p x ≡ true → children_of f x ≡ []
      → ((c : ℕ) → is_among c going ≡ true → is_within f c x ≡ false) → Leaves f going k
  stays_by k p x at up holds leaf clear =
      let other : x ≢ p = λ same. absurd (let bad : false ≡ true =
      sym (ap (is_among k) (ap (children_of f) (sym same) ∙ leaf)) ∙ child_of f p k b.order up in cc) in
      let c = is_within-child f p x b.order holds other in
      record {
        parent = p;
        up = up;
        sibling = c.child;
        at = child_of f p c.child b.order c.up;
        stays = elim (cases_Bool (is_among c.child going)) [
          | inl bad ↦ absurd (let no : false ≡ true = sym (clear c.child bad) ∙ c.inside in cc)
          | inr fine ↦ fine
        ];
      }

  pub leaves_some : (k : ℕ) → is_among k going ≡ true → Leaves f going k
  leaves_some k at = elim (cases_option (parent_of f k)) [
    | inl top ↦
        let among : is_among k m ≡ true = grind (arith, going_out k at) in
        let own : k ≢ 0 = λ same. absurd (grind (arith, (going_clear k at).0, ap (λ x. is_within f x s) same, attached_first f s e a m z b)) in
        absurd (let bad : false ≡ true = sym (is_attached-top f k b.order top own) ∙ attached_mid f s e a m z b k among in cc)
    | inr (p, up) ↦ elim (going_edge k p at up) [
      | inl first ↦ stays_by k p s at up first b.first (λ c at. (going_clear c at).0)
      | inr last ↦ stays_by k p e at up last b.last (λ c at. (going_clear c at).1)
    ]
  ]

  -- of a node that doesn't go, the children stay that don't lie wholly between
  pub left_children : (q : ℕ) → is_out f m e q ≡ false
      → filter (λ c. not (is_among c going)) (children_of f q) ≡ filter (λ c. not (is_out f m e c)) (children_of f q)
  left_children q stays = filter_alike (λ c. not (is_among c going)) (λ c. not (is_out f m e c)) (children_of f q) (λ c at.
      let up = parent_here f q c b.order at in
      ap not (in_going c ∙ grind (arith, stays, below_of c q up)))

  -- a node that holds neither leaf keeps its children
  pub kept_children : (q : ℕ) → is_within f q s ≡ false → is_within f q e ≡ false
      → filter (λ c. not (is_among c going)) (children_of f q) ≡ children_of f q
  kept_children q one two = filter-kept (λ c. not (is_among c going)) (children_of f q) (λ c at.
      elim (cases_Bool (is_among c going)) [
        | inl bad ↦ absurd (elim (going_edge c q bad (parent_here f q c b.order at)) [
          | inl first ↦ grind (arith, one, first)
          | inr last ↦ grind (arith, two, last)
        ])
        | inr fine ↦ ap not fine
      ])
