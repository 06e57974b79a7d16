-- The nodes between two leaves that are children of one node: the trees of the children between them.
use Rattle.lx_blocks.proofs.Until.{until_front}
use Rattle.lx_blocks.specs.Places.{covered, outermost, stands_below, until}
use Rattle.lx_caret_laws.proofs.InPlace.{among-within, keys-level}
use Rattle.lx_draft.proofs.Gaps.{parent_here}
use Rattle.lx_edit.specs.Edits.{text_point}
use Rattle.lx_edit_laws.proofs.Reading.{spread}
use Rattle.lx_forest.proofs.Lookups.{NoRepeats-children_of, has-child}
use Rattle.lx_forest.proofs.Walks.{NoRepeats-preorder_of, behind-next, from-leaf, is_attached-up, tree_distinct}
use Rattle.lx_forest.proofs.Within.{is_within-parent, is_within-self, is_within-top, is_within-trans, is_within-up}
use Rattle.lx_forest.specs.Forest.{Forest}
use Rattle.lx_forest.specs.Lookups.{IsForest, alone, behind, children_below, children_of, from, has, is_attached, is_within, key_of, keys_within, next_of, parent_of}
use Rattle.lx_trees.proofs.Cuts.{preorder-cut}
use Rattle.lx_trees.proofs.NamedTrees.{count-without-alone}
use Rattle.lx_trees.proofs.Siblings.{is_among-append}
use Rattle.lx_trees.proofs.Subtrees.{alone-alone}
use Rattle.lx_trees.specs.NamedTrees as named
use Rattle.lx_trees.specs.Siblings.{NoRepeats, first_of, is_among, next_in}
use Rattle.std.proofs.Common.{Bool, List, None, Option, Some, [], ap, append-nil, append_assoc, ap₂, arith, cond, false, inl, inr, not, refl, subst, sym, true, ℕ, ◌++◌, ◌∙◌, ◌∷◌, ◌≡◌, ◌≢◌}
use Rattle.std.proofs.lemmas.Bool.Decides.{eqb_tells}
use Rattle.std.proofs.lemmas.Bool.{cases_Bool}
use Rattle.std.proofs.lemmas.List.Elements.{filter-append}
use Rattle.std.specs.Prelude.{filter}

-- ---- lists

pub among_at : (front : List ℕ) (x : ℕ) (rest : List ℕ) → is_among x (front ++ (x ∷ rest)) ≡ true
among_at front x rest = is_among-append x front (x ∷ rest) ∙ grind (arith, eqb_tells x x)

pub out_of_front : (front : List ℕ) (x : ℕ) (rest : List ℕ) → NoRepeats (front ++ (x ∷ rest)) → is_among x front ≡ false
out_of_front [] x rest once = refl
out_of_front (y ∷ ys) x rest once =
    grind (arith, once.0, is_among-append y ys (x ∷ rest), out_of_front ys x rest once.1, eqb_tells y x, eqb_tells x y)

pub no_repeats_back : (xs ys : List ℕ) → NoRepeats (xs ++ ys) → NoRepeats ys
no_repeats_back [] ys once = once
no_repeats_back (x ∷ xs) ys once = no_repeats_back xs ys once.1

next_after : (front : List ℕ) (x n : ℕ) (rest : List ℕ) → is_among x front ≡ false → next_in (front ++ (x ∷ (n ∷ rest))) x ≡ Some n
next_after [] x n rest out = grind (arith, eqb_tells x x)
next_after (y ∷ ys) x n rest out = grind (arith, out, next_after ys x n rest, eqb_tells y x)

keeps_all : (test : ℕ → Bool) (xs : List ℕ) → ((q : ℕ) → is_among q xs ≡ true → test q ≡ true) → filter test xs ≡ xs
keeps_all test [] all = refl
keeps_all test (x ∷ xs) all =
    rw (all x (grind (arith, eqb_tells x x))) (ap (λ t. x ∷ t) (keeps_all test xs (λ q among. all q (grind (arith, among)))))

pub keeps_none : (test : ℕ → Bool) (xs : List ℕ) → ((q : ℕ) → is_among q xs ≡ true → test q ≡ false) → filter test xs ≡ []
keeps_none test [] none = refl
keeps_none test (x ∷ xs) none =
    rw (none x (grind (arith, eqb_tells x x))) (keeps_none test xs (λ q among. none q (grind (arith, among))))

-- ---- trees, one after another

-- a key is in the tree of one of these
pub record InOne (f : Forest) (ks : List ℕ) (q : ℕ) : Type 0 where
  pub tree : ℕ
  pub at : is_among tree ks ≡ true
  pub inside : is_within f tree q ≡ true

pub in_one : (f : Forest) (ks : List ℕ) (q : ℕ) → is_among q (spread (keys_within f) ks) ≡ true → InOne f ks q
in_one f [] q e = absurd (cc)
in_one f (k ∷ ks) q e = elim (cases_Bool (is_within f k q)) [
  | inl inside ↦ record { tree = k; at = grind (arith, eqb_tells k k); inside = inside }
  | inr out ↦
      let rest = in_one f ks q (grind (arith, e, is_among-append q (keys_within f k) (spread (keys_within f) ks), among-within f k q, out)) in
      record { tree = rest.tree; at = grind (arith, rest.at); inside = rest.inside }
]

pub among_trees : (f : Forest) (ks : List ℕ) (k q : ℕ) → is_among k ks ≡ true → is_within f k q ≡ true → is_among q (spread (keys_within f) ks) ≡ true
among_trees f [] k q e inside = absurd (cc)
among_trees f (x ∷ xs) k q e inside = elim (eqb_tells x k) [
  | inl own ↦
      let here : is_among q (keys_within f x) ≡ true = among-within f x q ∙ ap (λ y. is_within f y q) own.1 ∙ inside in
      is_among-append q (keys_within f x) (spread (keys_within f) xs) ∙ grind (arith, here)
  | inr other ↦
      let later = among_trees f xs k q (grind (arith, e, other.0)) inside in
      is_among-append q (keys_within f x) (spread (keys_within f) xs) ∙ grind (arith, later)
]

-- of the keys of trees only their tops pass
tops : (f : Forest) (test : ℕ → Bool) (ms : List ℕ) → IsForest f → ((m : ℕ) → is_among m ms ≡ true → has m f ≡ true)
    → ((m : ℕ) → is_among m ms ≡ true → test m ≡ true)
    → ((m q : ℕ) → is_among m ms ≡ true → is_within f m q ≡ true → q ≢ m → test q ≡ false)
    → filter test (spread (keys_within f) ms) ≡ ms
tops f test [] h there top low = refl
tops f test (m ∷ ms) h there top low =
    let here : is_among m (m ∷ ms) ≡ true = grind (arith, eqb_tells m m) in
    let none : filter test (spread (keys_within f) (children_of f m)) ≡ [] =
    keeps_none test (spread (keys_within f) (children_of f m)) (λ q among.
    let one = in_one f (children_of f m) q among in
    let up : parent_of f one.tree ≡ Some m = parent_here f m one.tree h one.at in
    let own : is_within f m one.tree ≡ true =
    is_within-up f m one.tree m h up (λ e. absurd (grind (arith, e, up, is_within-parent f one.tree m h up, is_within-self f m, there m here)))
    ∙ is_within-self f m ∙ there m here in
    low m q here (is_within-trans f m one.tree q h own one.inside)
    (λ e. absurd (grind (arith, e, one.inside, is_within-parent f one.tree m h up)))) in
    let first : filter test (keys_within f m) ≡ m ∷ [] =
    ap (filter test) (keys-level f m h (there m here))
    ∙ ap (λ t. cond t (m ∷ filter test (spread (keys_within f) (children_of f m))) (filter test (spread (keys_within f) (children_of f m))))
    (top m here)
    ∙ ap (λ t. m ∷ t) none in
    filter-append test (keys_within f m) (spread (keys_within f) ms)
    ∙ ap₂ (λ a b. a ++ b) first
    (tops f test ms h (λ x at. there x (grind (arith, at))) (λ x at. top x (grind (arith, at))) (λ x q at. low x q (grind (arith, at))))

-- ---- from one child on

pub from_tree : (f : Forest) (n : ℕ) → IsForest f → is_attached f n ≡ true → from f n ≡ keys_within f n ++ behind f n
from_tree f n h there =
    ap (λ t. named.preorder key_of t ++ behind f n)
    (alone-alone key_of n 0 f (grind (arith, h.once n, there, count-without-alone key_of n 0 f)))

-- after a child come the trees of the next ones
pub behind_along : (f : Forest) (p x : ℕ) (front mid : List ℕ) (e : ℕ) (rest : List ℕ) → IsForest f → is_attached f p ≡ true
    → children_of f p ≡ front ++ (x ∷ (mid ++ (e ∷ rest))) → behind f x ≡ spread (keys_within f) mid ++ from f e
behind_along f p x front [] e rest h there are =
    let up : parent_of f x ≡ Some p = parent_here f p x h (ap (is_among x) are ∙ among_at front x (e ∷ rest)) in
    let out = out_of_front front x (e ∷ rest) (subst NoRepeats are (NoRepeats-children_of f p h)) in
    let next : next_of f x ≡ Some e =
    ap (λ o. next_in (children_below f o) x) up ∙ ap (λ ks. next_in ks x) are ∙ next_after front x e rest out in
    behind-next f x e h (is_attached-up f x p h up ∙ there) next
behind_along f p x front (m ∷ ms) e rest h there are =
    let tail : List ℕ = ms ++ (e ∷ rest) in
    let up : parent_of f x ≡ Some p = parent_here f p x h (ap (is_among x) are ∙ among_at front x (m ∷ tail)) in
    let out = out_of_front front x (m ∷ tail) (subst NoRepeats are (NoRepeats-children_of f p h)) in
    let next : next_of f x ≡ Some m =
    ap (λ o. next_in (children_below f o) x) up ∙ ap (λ ks. next_in ks x) are ∙ next_after front x m tail out in
    let moved : children_of f p ≡ (front ++ (x ∷ [])) ++ (m ∷ tail) = are ∙ sym (append_assoc front (x ∷ []) (m ∷ tail)) in
    let up_m : parent_of f m ≡ Some p = parent_here f p m h (ap (is_among m) moved ∙ among_at (front ++ (x ∷ [])) m tail) in
    behind-next f x m h (is_attached-up f x p h up ∙ there) next
    ∙ from_tree f m h (is_attached-up f m p h up_m ∙ there)
    ∙ ap (λ t. keys_within f m ++ t) (behind_along f p m (front ++ (x ∷ [])) ms e rest h there moved)
    ∙ sym (append_assoc (keys_within f m) (spread (keys_within f) ms) (from f e))

-- ---- between two leaves

-- two leaves are children of one attached node, with others between them
pub record AreBeside (f : Forest) (p s e : ℕ) (before mid behind : List ℕ) : Type 0 where
  pub order : IsForest f
  pub there : is_attached f p ≡ true
  pub are : children_of f p ≡ before ++ (s ∷ (mid ++ (e ∷ behind)))
  pub first : children_of f s ≡ []
  pub last : children_of f e ≡ []

module _ (f : Forest) (p s e : ℕ) (before mid rest : List ℕ) (b : AreBeside f p s e before mid rest) where
  pub moved_on : children_of f p ≡ (before ++ (s ∷ mid)) ++ (e ∷ rest)
  moved_on = b.are ∙ sym (append_assoc before (s ∷ mid) (e ∷ rest))

  pub first_up : parent_of f s ≡ Some p
  first_up = parent_here f p s b.order (ap (is_among s) b.are ∙ among_at before s (mid ++ (e ∷ rest)))

  pub last_up : parent_of f e ≡ Some p
  last_up = parent_here f p e b.order (ap (is_among e) moved_on ∙ among_at (before ++ (s ∷ mid)) e rest)

  pub mid_up : (m : ℕ) → is_among m mid ≡ true → parent_of f m ≡ Some p
  mid_up m at = parent_here f p m b.order (ap (is_among m) b.are ∙ is_among-append m before (s ∷ (mid ++ (e ∷ rest)))
      ∙ grind (arith, at, is_among-append m mid (e ∷ rest)))

  -- what is between isn't the last
  mid_other : (m : ℕ) → is_among m mid ≡ true → e ≢ m
  mid_other m at same =
      let out = out_of_front (before ++ (s ∷ mid)) e rest (subst NoRepeats moved_on (NoRepeats-children_of f p b.order)) in
      absurd (grind (arith, out, at, same, is_among-append e before (s ∷ mid)))

  abbrev pub keys_between : List ℕ
  keys_between = spread (keys_within f) mid

  behind_first : behind f s ≡ (keys_between ++ (e ∷ [])) ++ behind f e
  behind_first =
      behind_along f p s before mid e rest b.order b.there b.are
      ∙ ap (λ t. keys_between ++ t) (from-leaf f e b.order (is_attached-up f e p b.order last_up ∙ b.there) b.last)
      ∙ sym (append_assoc keys_between (e ∷ []) (behind f e))

  once_behind : NoRepeats (behind f s)
  once_behind =
      let so : is_attached f s ≡ true = is_attached-up f s p b.order first_up ∙ b.there in
      let cut = preorder-cut key_of (alone 0 f) s (tree_distinct f b.order) (grind (arith, so)) in
      no_repeats_back (named.preorder key_of (alone s (alone 0 f))) (behind f s)
      (no_repeats_back cut.0 (from f s) (subst NoRepeats cut.1 (NoRepeats-preorder_of f b.order)))

  -- the nodes wholly between are those of the trees of the children between
  pub covered_keys : (i j : ℕ) → covered f (text_point s i) (text_point e j) ≡ keys_between
  covered_keys i j =
      let test : ℕ → Bool = λ k. not (is_within f k e) in
      let cut : until (first_of (behind f e)) (behind f s) ≡ keys_between ++ (e ∷ []) =
      ap (until (first_of (behind f e))) behind_first
      ∙ until_front (keys_between ++ (e ∷ [])) (behind f e) (subst NoRepeats behind_first once_behind) in
      let own : is_within f e e ≡ true = is_within-self f e ∙ has-child f e p last_up in
      let goes : filter test (e ∷ []) ≡ [] = rw own refl in
      let stay : filter test keys_between ≡ keys_between = keeps_all test keys_between (λ q among.
      let one = in_one f mid q among in
      let far : is_within f one.tree e ≡ false =
      is_within-up f one.tree e p b.order last_up (mid_other one.tree one.at) ∙ is_within-parent f one.tree p b.order (mid_up one.tree one.at) in
      elim (cases_Bool (is_within f q e)) [
        | inl bad ↦ absurd (let no : false ≡ true = sym far ∙ is_within-trans f one.tree q e b.order one.inside bad in cc)
        | inr fine ↦ ap not fine
      ]) in
      ap (filter test) cut ∙ filter-append test keys_between (e ∷ []) ∙ ap₂ (λ x y. x ++ y) stay goes ∙ append-nil keys_between

  -- of these the children between are the outermost
  pub outermost_between : (i j : ℕ) → outermost f (covered f (text_point s i) (text_point e j)) ≡ mid
  outermost_between i j =
      let test : ℕ → Bool = λ k. not (stands_below (parent_of f k) keys_between) in
      let out : is_among p keys_between ≡ false = elim (cases_Bool (is_among p keys_between)) [
        | inl among ↦
            let one = in_one f mid p among in
            absurd (let no : false ≡ true = sym (is_within-parent f one.tree p b.order (mid_up one.tree one.at)) ∙ one.inside in cc)
        | inr none ↦ none
      ] in
      ap (outermost f) (covered_keys i j)
      ∙ tops f test mid b.order (λ m at. has-child f m p (mid_up m at))
      (λ m at. ap (λ o. not (stands_below o keys_between)) (mid_up m at) ∙ ap not out)
      (λ m q at inside other. low m q at inside other (parent_of f q) refl) where
        low : (m q : ℕ) → is_among m mid ≡ true → is_within f m q ≡ true → q ≢ m → (o : Option ℕ) → parent_of f q ≡ o
            → not (stands_below (parent_of f q) keys_between) ≡ false
        low m q at inside other None is = absurd (let no : true ≡ false = sym inside ∙ is_within-top f m q b.order is other in cc)
        low m q at inside other (Some x) is =
            let above : is_within f m x ≡ true = sym (is_within-up f m q x b.order is other) ∙ inside in
            ap (λ o. not (stands_below o keys_between)) is ∙ ap not (among_trees f mid m x at above)
