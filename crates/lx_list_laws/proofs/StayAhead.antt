-- Nodes that come after the list with which an item begins: which there are as lists take in items, and what is in them.
use Rattle.std.proofs.Common.{◌≡◌, ◌≢◌, ◌∙◌, ℕ, ◌⊎◌, Bool, true, false, cond, not, ◌&&◌, List, [], ◌∷◌, Option, None, Some, refl, sym, ap, ap₂, arith, inl, inr}
use Rattle.std.specs.Prelude.{is_some}
use Rattle.std.proofs.lemmas.Bool.{cases_Bool}
use Rattle.std.proofs.lemmas.Bool.Decides.{eqb_tells}
use Rattle.lx_trees.specs.Siblings.{is_among, is_named, first_of}
use Rattle.lx_trees.proofs.Siblings.{first_of-among, names_without-absent_list}
use Rattle.lx_node.specs.Kinds.{is_item, is_list}
use Rattle.lx_node.specs.declared.kind.Kind.{Kind}
use Rattle.lx_forest.specs.Forest.{Forest}
use Rattle.lx_forest.specs.Lookups.{has, kind_of, parent_of, children_of, first_child, ancestors, is_within, IsForest}
use Rattle.lx_forest.specs.Edits.{take_out}
use Rattle.lx_forest.proofs.Lookups.{kind_of-take_out, parent_of-take_out, children_of-take_out, has-child}
use Rattle.lx_forest.proofs.Order.{IsForest-take_out}
use Rattle.lx_forest.proofs.Within.{is_within-self, is_within-up}
use Rattle.lx_draft.proofs.Gaps.{child_of, parent_here}
use Rattle.lx_edit_laws.proofs.WrapTrees.{not_child}
use Rattle.lx_blocks.specs.Blocks.{passes, is_at}
use Rattle.lx_list.specs.Nesting.{if_list, is_nesting}
use Rattle.lx_list_laws.specs.Staying.{is_further_in, is_behind_list}
use Rattle.lx_list_laws.proofs.ReadEdits.{so_at}
use Rattle.lx_list_laws.proofs.ReadDissolved.{within_below}
use Rattle.lx_list_laws.proofs.StayUnder.{rise, list_no_item}

-- a node is in nothing that comes after the list with which an item begins
abbrev pub Outside : Forest → ℕ → Type 0
Outside f q = (k : ℕ) → is_behind_list f k ≡ true → is_within f k q ≡ false

-- ---- which nodes come after such a list

-- what such a node is
pub record IsBehind (f : Forest) (k : ℕ) : Type 0 where
  pub item : ℕ
  pub up : parent_of f k ≡ Some item
  pub is : is_at is_item f item ≡ true
  pub nests : is_nesting f item ≡ true
  pub other : is_named (first_child f item) k ≡ false

pub behind_tells : (f : Forest) (k : ℕ) → is_behind_list f k ≡ true → IsBehind f k
behind_tells f k e = by_parent (parent_of f k) refl e where
  by_parent : (o : Option ℕ) → parent_of f k ≡ o → is_further_in f o k ≡ true → IsBehind f k
  by_parent None up e = absurd (cc)
  by_parent (Some item) up e =
      record { item = item; up = up; is = grind (arith, e); nests = grind (arith, e); other = grind (arith, e) }

pub behind_is : (f : Forest) (k item : ℕ) → parent_of f k ≡ Some item → is_at is_item f item ≡ true → is_nesting f item ≡ true
    → is_named (first_child f item) k ≡ false
    → is_behind_list f k ≡ true
behind_is f k item up is nests other = ap (λ o. is_further_in f o k) up ∙ ap₂ ◌&&◌ is (ap₂ ◌&&◌ nests (ap not other))

-- a child of a list is none, nor is the list with which an item begins
pub none_in_list : (f : Forest) (k p : ℕ) → parent_of f k ≡ Some p → is_at is_list f p ≡ true → is_behind_list f k ≡ false
none_in_list f k p up is = ap (λ o. is_further_in f o k) up ∙ grind (arith, so_at is_list is_item false list_no_item f p is)

pub first_is_none : (f : Forest) (k p : ℕ) → parent_of f k ≡ Some p → first_child f p ≡ Some k → is_behind_list f k ≡ false
first_is_none f k p up first = ap (λ o. is_further_in f o k) up ∙ grind (arith, first, eqb_tells k k)

-- ---- in another forest

-- the items of the second have the children that they had in the first, or one alone; and lists are lists
pub record ItemsKeep (f g : Forest) : Type 0 where
  pub before : IsForest f
  pub behind : IsForest g
  pub lists : (q : ℕ) → has q f ≡ true → is_at is_list g q ≡ is_at is_list f q
  pub items : (i : ℕ) → is_at is_item g i ≡ true
      → ((is_at is_item f i ≡ true) × (children_of g i ≡ children_of f i)) ⊎ ((c : ℕ) × (children_of g i ≡ c ∷ []))

nests_still : (f g : Forest) (o : Option ℕ) → ((c : ℕ) → o ≡ Some c → is_at is_list g c ≡ is_at is_list f c) → is_some (if_list g o) ≡ is_some (if_list f o)
nests_still f g None lists = refl
nests_still f g (Some c) lists = ap (λ b. is_some (cond b (Some c) None)) (lists c refl)

pub behind_before : (f g : Forest) → ItemsKeep f g → (k : ℕ) → is_behind_list g k ≡ true → is_behind_list f k ≡ true
behind_before f g keep k e =
    let b = behind_tells g k e in
    let among : is_among k (children_of g b.item) ≡ true = child_of g b.item k keep.behind b.up in
    elim (keep.items b.item b.is) [
      | inl same ↦
          let first : first_child g b.item ≡ first_child f b.item = ap first_of same.1 in
          let up : parent_of f k ≡ Some b.item = parent_here f b.item k keep.before (sym (ap (is_among k) same.1) ∙ among) in
          let nests : is_some (if_list g (first_child g b.item)) ≡ is_some (if_list f (first_child f b.item)) =
          ap (λ o. is_some (if_list g o)) first ∙ nests_still f g (first_child f b.item) (λ c is.
          keep.lists c (has-child f c b.item (parent_here f b.item c keep.before (first_of-among (children_of f b.item) c is)))) in
          behind_is f k b.item up same.0 (sym nests ∙ b.nests) (sym (ap (λ o. is_named o k) first) ∙ b.other)
      | inr one ↦ absurd (grind (arith, b.other, one.1, ap (is_among k) (sym one.1) ∙ among, eqb_tells one.0 k))
    ]

-- ---- what is in them

-- each node of the second forest has a place in the first, its own where it was there, and what is above stays above: at
-- least those that come after a list
pub record Carries (f g : Forest) (place : ℕ → ℕ) : Type 0 where
  pub keep : ItemsKeep f g
  pub own : (k : ℕ) → is_behind_list f k ≡ true → place k ≡ k
  pub step : (k q b : ℕ) → is_behind_list f k ≡ true → parent_of g q ≡ Some b → is_within f k (place b) ≡ true → is_within f k (place q) ≡ true

pub outside_carried : (f g : Forest) (place : ℕ → ℕ) → Carries f g place → (q : ℕ) → Outside f (place q) → Outside g q
outside_carried f g place c q out k e = by_test (is_within g k q) refl where
  before : is_behind_list f k ≡ true
  before = behind_before f g c.keep k e

  there : is_within f k (place k) ≡ true
  there = let b = behind_tells f k before in ap (is_within f k) (c.own k before) ∙ is_within-self f k ∙ has-child f k b.item b.up

  by_test : (b : Bool) → is_within g k q ≡ b → is_within g k q ≡ false
  by_test false is = is
  by_test true is =
      let was : is_within f k (place q) ≡ true =
      rise g k c.keep.behind (λ x. is_within f k (place x) ≡ true) there (λ x b up higher so. c.step k x b before up so) (ancestors g q) q refl is in
      absurd (grind (arith, was, out k before))

-- ---- some nodes go from below one to below a list

pub record GoUnder (f g : Forest) (from list : ℕ) (ks : List ℕ) : Type 0 where
  pub before : IsForest f
  pub behind : IsForest g
  pub kinds : (q : ℕ) → kind_of g q ≡ kind_of f q
  pub up : (q : ℕ) → parent_of g q ≡ cond (is_among q ks) (Some list) (parent_of f q)
  pub came : (q : ℕ) → is_among q ks ≡ true → parent_of f q ≡ Some from
  pub items : (i : ℕ) → is_at is_item f i ≡ true → children_of g i ≡ children_of f i
  -- what comes after a list and is above the one is above the other
  pub level : (k : ℕ) → is_behind_list f k ≡ true → is_within f k list ≡ true → is_within f k from ≡ true

module _ (f g : Forest) (from list : ℕ) (ks : List ℕ) (m : GoUnder f g from list ks) where
  under_keep : ItemsKeep f g
  under_keep = record {
    before = m.before;
    behind = m.behind;
    lists = λ q there. ap (passes is_list) (m.kinds q);
    items = λ i is. let was : is_at is_item f i ≡ true = sym (ap (passes is_item) (m.kinds i)) ∙ is in inl (was, m.items i was);
  }

  under_step : (k q b : ℕ) → is_behind_list f k ≡ true → parent_of g q ≡ Some b → is_within f k b ≡ true → is_within f k q ≡ true
  under_step k q b e up inside = elim (cases_Bool (is_among q ks)) [
    | inl among ↦
        let is : list ≡ b = grind (arith, m.up q, among, up) in
        within_below f k q from m.before (m.came q among) (m.level k e (ap (is_within f k) is ∙ inside))
    | inr away ↦ within_below f k q b m.before (grind (arith, m.up q, away, up)) inside
  ]

  pub outside_under : (q : ℕ) → Outside f q → Outside g q
  outside_under q out = outside_carried f g (λ x. x) (record { keep = under_keep; own = λ k e. refl; step = under_step }) q out

-- the list with which an item begins is as deep in such nodes as what is beside that item
pub level_beside : (f : Forest) (s p list : ℕ) → IsForest f → parent_of f s ≡ Some p → is_at is_list f p ≡ true → first_child f s ≡ Some list → (k : ℕ)
    → is_behind_list f k ≡ true → is_within f k list ≡ true → is_within f k p ≡ true
level_beside f s p list h up is first k e inside =
    let list_up : parent_of f list ≡ Some s = parent_here f s list h (first_of-among (children_of f s) list first) in
    let one : list ≢ k = λ same. absurd (grind (arith, e, ap (is_behind_list f) (sym same) ∙ first_is_none f list s list_up first)) in
    let two : s ≢ k = λ same. absurd (grind (arith, e, ap (is_behind_list f) (sym same) ∙ none_in_list f s p up is)) in
    sym (is_within-up f k s p h up two) ∙ sym (is_within-up f k list s h list_up one) ∙ inside

-- ---- a child of a list is taken out

pub outside_taken : (f : Forest) (k p : ℕ) → IsForest f → parent_of f k ≡ Some p → is_at is_list f p ≡ true → (q : ℕ) → Outside f q → Outside (take_out k f) q
outside_taken f k p h up is q out =
    let kinds : (test : Kind → Bool) (x : ℕ) → is_at test (take_out k f) x ≡ is_at test f x = λ test x. ap (passes test) (kind_of-take_out k f x h) in
    outside_carried f (take_out k f) (λ x. x) (record {
      keep = record {
        before = h;
        behind = IsForest-take_out k f h;
        lists = λ x there. kinds is_list x;
        items = λ i item.
            let was : is_at is_item f i ≡ true = sym (kinds is_item i) ∙ item in
            let other : p ≢ i = λ same. absurd (grind (arith, was, sym (ap (is_at is_item f) same) ∙ so_at is_list is_item false list_no_item f p is)) in
            inl (was, children_of-take_out k f i h ∙ names_without-absent_list k (children_of f i) (not_child f k p i h up other));
      };
      own = λ x e. refl;
      step = λ x c b e above inside.
          let before : parent_of f c ≡ Some b = grind (arith, above, parent_of-take_out k f c h, eqb_tells c k) in within_below f x c b h before inside;
    }) q out
