-- How many reads are needed, against the marked children and the nodes that aren't kept.
use Rattle.std.proofs.Common.{◌≡◌, ◌∙◌, ◌+◌, ◌*◌, ◌<◌, ◌≤◌, ◌⊎◌, ℕ, Bool, true, false, cond, eqb, List, [], ◌∷◌, ◌++◌, length, Option, None, Some, inl, inr, refl, sym, ap, arith, append-nil}
use Rattle.std.proofs.lemmas.Bool.{cases_Bool, cases_lt}
use Rattle.std.proofs.lemmas.Bool.Decides.{eqb_tells}
use Rattle.lx_trees.specs.Trees.{nil, tree, joined}
use Rattle.lx_trees.specs.NamedTrees as named
use Rattle.lx_trees.specs.NamedTrees.{total}
use Rattle.lx_trees.specs.Siblings.{is_among, NoRepeats, names_without}
use Rattle.lx_trees.proofs.NamedTrees.{is_among-preorder, NoRepeats-preorder}
use Rattle.lx_trees.proofs.Siblings.{is_among-names_without, names_without-absent_list}
use Rattle.lx_trees.proofs.Spots.{children_at-spot_below}
use Rattle.lx_forest.specs.Forest.{Label, Forest}
use Rattle.lx_forest.specs.Lookups.{key_of, has, count, alone, roots, children_of, trees_of, IsForest}
use Rattle.lx_reconcile.specs.Allowed.{unkept, marked_children, staying}
use Rattle.lx_reconcile.specs.Reading.{reads_in}
use Rattle.lx_reconcile.proofs.Children.{stands_there}
use Rattle.lx_reconcile.proofs.UnkeptNodes.{kept_here}

-- ---- sums over names

abbrev pub weight : (ℕ → ℕ) → List ℕ → ℕ
weight w [] = 0
weight w (k ∷ ks) = w k + weight w ks

weight-append : (w : ℕ → ℕ) (xs ys : List ℕ) → weight w (xs ++ ys) ≡ weight w xs + weight w ys
weight-append w [] ys = omega arith
weight-append w (x ∷ xs) ys = omega (arith, weight-append w xs ys)

weight-same : (w u : ℕ → ℕ) (xs : List ℕ) → ((k : ℕ) → is_among k xs ≡ true → w k ≡ u k) → weight w xs ≡ weight u xs
weight-same w u [] same = refl
weight-same w u (x ∷ xs) same = omega (arith, same x (grind (arith, eqb_tells x x)), weight-same w u xs (λ k e. same k (grind (arith, e))))

weight-without : (w : ℕ → ℕ) (x : ℕ) (ys : List ℕ) → is_among x ys ≡ true → w x + weight w (names_without x ys) ≤ weight w ys
weight-without w x [] e = absurd (cc)
weight-without w x (y ∷ ys) e =
    grind (arith, e, eqb_tells y x, weight-without w x ys, names_without-absent_list x ys, cases_Bool (is_among x ys))

-- over some of the names it is less
pub weight-some : (w : ℕ → ℕ) (xs ys : List ℕ) → NoRepeats xs → ((k : ℕ) → is_among k xs ≡ true → (w k ≡ 0) ⊎ (is_among k ys ≡ true))
    → weight w xs ≤ weight w ys
weight-some w [] ys once some = omega arith
weight-some w (x ∷ xs) ys once some = elim (some x (grind (arith, eqb_tells x x))) [
  | inl none ↦ omega (arith, none, weight-some w xs ys once.1 (λ k e. some k (grind (arith, e))))
  | inr there ↦
      omega (
        arith,
        weight-without w x ys there,
        weight-some w xs (names_without x ys) once.1
            (λ k e. elim (some k (grind (arith, e))) [
              | inl none ↦ inl none
              | inr among ↦ inr (grind (arith, among, e, once.0, is_among-names_without x k ys, eqb_tells k x, eqb_tells x k))
            ]),
      )
]

-- ---- the children of marked nodes, by their names

abbrev pub size_if : (ℕ → Bool) → (ℕ → List ℕ) → ℕ → ℕ
size_if noted kids k = cond (noted k) (length (kids k)) 0

part_of : (f : Forest) (k : ℕ) → 0 < count k f → is_among k (named.preorder key_of f) ≡ true
part_of f k some = is_among-preorder key_of k f ∙ grind (arith, some)

among_part : (f : Forest) (k : ℕ) → is_among k (named.preorder key_of f) ≡ true → 0 < count k f
among_part f k e = grind (arith, e, is_among-preorder key_of k f)

children-absent : (q : ℕ) (f : Forest) → count q f ≡ 0 → named.children_of key_of q f ≡ []
children-absent q nil e = refl
children-absent q (tree l b t) e = grind (arith, e, children-absent q b, children-absent q t)

children-first : (l : Label) (b t : Forest) → count l.key t ≡ 0 → named.children_of key_of l.key (tree l b t) ≡ roots b
children-first l b t out = grind (arith, eqb_tells l.key l.key, children-absent l.key t out, append-nil (roots b))

children-below : (l : Label) (b t : Forest) (k : ℕ) → eqb l.key k ≡ false → count k t ≡ 0
    → named.children_of key_of k (tree l b t) ≡ named.children_of key_of k b
children-below l b t k other out = grind (arith, other, children-absent k t out, append-nil (named.children_of key_of k b))

children-behind : (l : Label) (b t : Forest) (k : ℕ) → eqb l.key k ≡ false → count k b ≡ 0
    → named.children_of key_of k (tree l b t) ≡ named.children_of key_of k t
children-behind l b t k other out = grind (arith, other, children-absent k b out)

other_key : (l : Label) (b t : Forest) (k : ℕ) → count k (tree l b t) < 2 → 0 < count k b + count k t → eqb l.key k ≡ false
other_key l b t k once some = grind (arith, once, some, eqb_tells l.key k)

own_out : (l : Label) (b t : Forest) → count l.key (tree l b t) < 2 → count l.key t ≡ 0
own_out l b t once = grind (arith, once, eqb_tells l.key l.key)

children_weight : (noted : ℕ → Bool) (f : Forest) → ((q : ℕ) → count q f < 2)
    → marked_children noted f ≡ weight (size_if noted (λ k. named.children_of key_of k f)) (named.preorder key_of f)
children_weight noted nil once = refl
children_weight noted (tree l b t) once =
    let f = tree l b t in
    let w = size_if noted (λ k. named.children_of key_of k f) in
    let below : weight w (named.preorder key_of b) ≡ marked_children noted b =
    weight-same w (size_if noted (λ k. named.children_of key_of k b)) (named.preorder key_of b)
    (λ k e. ap (λ xs. cond (noted k) (length xs) 0)
    (children-below l b t k (other_key l b t k (once k) (omega (arith, among_part b k e))) (omega (arith, once k, among_part b k e))))
    ∙ sym (children_weight noted b (λ q. omega (arith, once q))) in
    let behind : weight w (named.preorder key_of t) ≡ marked_children noted t =
    weight-same w (size_if noted (λ k. named.children_of key_of k t)) (named.preorder key_of t)
    (λ k e. ap (λ xs. cond (noted k) (length xs) 0)
    (children-behind l b t k (other_key l b t k (once k) (omega (arith, among_part t k e))) (omega (arith, once k, among_part t k e))))
    ∙ sym (children_weight noted t (λ q. omega (arith, once q))) in
    let own : w l.key ≡ cond (noted l.key) (length (roots b)) 0 =
    ap (λ xs. cond (noted l.key) (length xs) 0) (children-first l b t (own_out l b t (once l.key))) in
    omega (arith, own, below, behind, weight-append w (named.preorder key_of b) (named.preorder key_of t))

-- ---- the sizes that marked nodes had which stay

children_are : (f : Forest) (k : ℕ) → IsForest f → children_of f k ≡ named.children_of key_of k f
children_are f k h = children_at-spot_below key_of None f k h.once

pub old_sizes_less : (old new : Forest) (noted : ℕ → Bool) → IsForest old → IsForest new
    → weight (size_if noted (children_of old)) (named.preorder key_of new) ≤ marked_children (staying noted new) old
old_sizes_less old new noted g h =
    let here = staying noted new in
    let w = size_if here (children_of old) in
    let all : marked_children here old ≡ weight w (named.preorder key_of old) =
    children_weight here old g.once
    ∙ weight-same (size_if here (λ k. named.children_of key_of k old)) w (named.preorder key_of old)
    (λ k e. ap (λ xs. cond (here k) (length xs) 0) (sym (children_are old k g))) in
    let same : weight (size_if noted (children_of old)) (named.preorder key_of new) ≡ weight w (named.preorder key_of new) =
    weight-same (size_if noted (children_of old)) w (named.preorder key_of new) (λ k e. grind (arith, e, is_among-preorder key_of k new)) in
    omega (
      arith,
      all,
      same,
      weight-some w (named.preorder key_of new) (named.preorder key_of old) (NoRepeats-preorder key_of new h.once)
          (λ k e. elim (cases_lt 0 (count k old)) [
            | inl there ↦ inr (part_of old k there)
            | inr out ↦ inl (let none = children_are old k g ∙ children-absent k old (omega (arith, out)) in grind (arith, none))
          ]),
    )

-- ---- the sum

pub reads_less : (old : Forest) (noted : ℕ → Bool) (parent : Option ℕ) (f : Forest)
    → reads_in old noted parent f
    ≤ 4 * length (roots f) + 2 * unkept old parent f + weight (size_if noted (children_of old)) (named.preorder key_of f) + 5 * marked_children noted f
reads_less old noted parent nil = omega arith
reads_less old noted parent (tree l b t) =
    let w = size_if noted (children_of old) in
    grind (arith, reads_less old noted parent t, reads_less old noted (Some l.key) b, weight-append w (named.preorder key_of b) (named.preorder key_of t))

pub marked_children-total : (noted : ℕ → Bool) (f : Forest) → marked_children noted f + length (roots f) ≤ total f
marked_children-total noted nil = omega arith
marked_children-total noted (tree l b t) = grind (arith, marked_children-total noted b, marked_children-total noted t)

-- ---- of one child

pub reads-joined : (old : Forest) (noted : ℕ → Bool) (p : Option ℕ) (f g : Forest)
    → reads_in old noted p (joined f g) ≡ reads_in old noted p f + reads_in old noted p g
reads-joined old noted p nil g = omega arith
reads-joined old noted p (tree l b t) g = omega (arith, reads-joined old noted p t g)

pub reads_unkept : (old : Forest) (noted : ℕ → Bool) (p : Option ℕ) (l : Label) (b : Forest) → kept_here old p l ≡ false
    → reads_in old noted p (tree l b nil) ≡ 2 + 2 * total (tree l b nil)
reads_unkept old noted p l b e = rw e (omega arith)

pub reads_kept : (old : Forest) (noted : ℕ → Bool) (p : Option ℕ) (l : Label) (b : Forest) → kept_here old p l ≡ true → noted l.key ≡ true
    → reads_in old noted p (tree l b nil) ≡ 4 + length (children_of old l.key) + length (roots b) + reads_in old noted (Some l.key) b
reads_kept old noted p l b e d = rw (e, d) (omega arith)

pub reads_append : (old new : Forest) (noted : ℕ → Bool) (p : Option ℕ) (xs ys : List ℕ)
    → reads_in old noted p (trees_of new (xs ++ ys)) ≡ reads_in old noted p (trees_of new xs) + reads_in old noted p (trees_of new ys)
reads_append old new noted p [] ys = omega arith
reads_append old new noted p (x ∷ xs) ys =
    omega (
      arith,
      reads-joined old noted p (alone x new) (trees_of new (xs ++ ys)),
      reads-joined old noted p (alone x new) (trees_of new xs),
      reads_append old new noted p xs ys,
    )

pub reads-alone : (old new : Forest) (noted : ℕ → Bool) (p : Option ℕ) (c : ℕ)
    → reads_in old noted p (trees_of new (c ∷ [])) ≡ reads_in old noted p (alone c new)
reads-alone old new noted p c = omega (arith, reads-joined old noted p (alone c new) nil)

pub roots_of : (f : Forest) (ks : List ℕ) → IsForest f → ((c : ℕ) → is_among c ks ≡ true → has c f ≡ true) → roots (trees_of f ks) ≡ ks
roots_of f [] h there = refl
roots_of f (k ∷ ks) h there =
    let s = stands_there f k h (there k (grind (arith, eqb_tells k k))) in
    ap (λ t. roots (joined t (trees_of f ks))) s.tree_is ∙ ap (λ x. x ∷ roots (trees_of f ks)) s.key
    ∙ ap (λ xs. k ∷ xs) (roots_of f ks h (λ c e. there c (grind (arith, e))))
