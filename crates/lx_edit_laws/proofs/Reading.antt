-- What is read below a node, one level at a time, and what holds of every node of a forest since it does of each whose
-- children have it.
use Rattle.std.proofs.Common.{◌≡◌, ◌≢◌, ◌∙◌, ℕ, zero, suc, ◌<◌, Bool, true, false, List, [], ◌∷◌, ◌++◌, Option, None, Some, refl, sym, ap, ap₂, arith, append_assoc, append-nil, inl, inr}
use Rattle.std.proofs.lemmas.Bool.Decides.{eqb_tells}
use Rattle.lx_trees.specs.NamedTrees as named
use Rattle.lx_trees.specs.NamedTrees.{total}
use Rattle.lx_trees.specs.Siblings.{is_among, NoRepeats, names_without, names_with}
use Rattle.lx_node.specs.Kinds.{may_hold}
use Rattle.lx_trees.specs.Spots.{Spot}
use Rattle.lx_node.specs.declared.kind.Kind.{Kind}
use Rattle.lx_node.specs.declared.kind.Kind.TheVariants as kinds
use Rattle.lx_trees.proofs.NamedTrees.{preorder-joined, alone-absent}
use Rattle.lx_forest.specs.Forest.{Forest, Label}
use Rattle.lx_forest.specs.Lookups.{key_of, has, alone, count, trees_of, spot, kind_of, parent_of, children_of, keys_within, holds, IsForest, IsHeld}
use Rattle.lx_forest.specs.Edits.{take_out}
use Rattle.lx_forest.proofs.Edits.{key-spot, is_some-spot}
use Rattle.lx_forest.proofs.Lookups.{alone-spot, has-child, label_of-take_out, children_of-take_out}
use Rattle.lx_forest.proofs.Order.{IsForest-take_out}
use Rattle.lx_forest.proofs.Walks.{total-alone-lt}
use Rattle.lx_draft.specs.Faults.{text_in}
use Rattle.lx_draft.proofs.Gaps.{parent_here}
use Rattle.lx_draft.proofs.Touched.{is_some-kind_of}
use Rattle.lx_edit.specs.Texts.{text_or_none}
use Rattle.lx_edit_laws.specs.Reading.{text_at, texts_of, read_below, in_place_of}

-- ---- down a tree

down_by : (f : Forest) → IsForest f → (P : ℕ → Type 0) → ((b : ℕ) → ((c : ℕ) → parent_of f c ≡ Some b → P c) → P b)
    → (n b : ℕ) → total (alone b f) < n → P b
down_by f h P each zero b few = absurd (omega (arith, few))
down_by f h P each (suc n) b few =
    each b (λ c up. down_by f h P each n c (omega (arith, few, total-alone-lt f c b h up)))

-- what holds of a node since it holds of its children holds of each
pub down : (f : Forest) → IsForest f → (P : ℕ → Type 0) → ((b : ℕ) → ((c : ℕ) → parent_of f c ≡ Some b → P c) → P b) → (b : ℕ) → P b
down f h P each b = down_by f h P each (suc (total (alone b f))) b (omega arith)

-- ---- what nodes give, one after another

abbrev pub spread : (ℕ → List ℕ) → List ℕ → List ℕ
spread give [] = []
spread give (k ∷ ks) = give k ++ spread give ks

pub spread-append : (give : ℕ → List ℕ) (xs ys : List ℕ) → spread give (xs ++ ys) ≡ spread give xs ++ spread give ys
spread-append give [] ys = refl
spread-append give (x ∷ xs) ys =
    ap (λ t. give x ++ t) (spread-append give xs ys) ∙ sym (append_assoc (give x) (spread give xs) (spread give ys))

pub spread-same : (one other : ℕ → List ℕ) (xs : List ℕ) → ((q : ℕ) → is_among q xs ≡ true → one q ≡ other q) → spread one xs ≡ spread other xs
spread-same one other [] each = refl
spread-same one other (x ∷ xs) each =
    ap₂ (λ a b. a ++ b) (each x (grind (arith, eqb_tells x x))) (spread-same one other xs (λ q among. each q (grind (arith, among))))

pub spread-none : (give : ℕ → List ℕ) (xs : List ℕ) → ((q : ℕ) → is_among q xs ≡ true → give q ≡ []) → spread give xs ≡ []
spread-none give [] each = refl
spread-none give (x ∷ xs) each = rw (each x (grind (arith, eqb_tells x x))) (spread-none give xs (λ q among. each q (grind (arith, among))))

-- what the nodes of a tree give
abbrev pub below : (ℕ → List ℕ) → Forest → ℕ → List ℕ
below give f k = spread give (keys_within f k)

spread-trees : (give : ℕ → List ℕ) (f : Forest) (ks : List ℕ) → spread give (named.preorder key_of (trees_of f ks)) ≡ spread (below give f) ks
spread-trees give f [] = refl
spread-trees give f (k ∷ ks) =
    ap (spread give) (preorder-joined key_of (alone k f) (trees_of f ks))
    ∙ spread-append give (keys_within f k) (named.preorder key_of (trees_of f ks))
    ∙ ap (λ t. below give f k ++ t) (spread-trees give f ks)

-- of a node: what it gives itself, and then what the trees of its children do
pub below-level : (give : ℕ → List ℕ) (f : Forest) (k : ℕ) → IsForest f → (has k f ≡ false → give k ≡ [])
    → below give f k ≡ give k ++ spread (below give f) (children_of f k)
below-level give f k h none = by_spot (spot f k) refl where
  by_spot : (o : Option (Spot Label)) → spot f k ≡ o → below give f k ≡ give k ++ spread (below give f) (children_of f k)
  by_spot None is =
      let gone : count k f ≡ 0 = grind (arith, is, is_some-spot f k) in
      let here : give k ≡ [] = none (grind (arith, gone)) in
      ap (λ t. spread give (named.preorder key_of t)) (alone-absent key_of k f gone) ∙ rw (is, here) refl
  by_spot (Some s) is =
      ap (λ t. spread give (named.preorder key_of t)) (alone-spot f k s h is)
      ∙ ap₂ (λ q ks. give q ++ spread give ks) (key-spot f k s is) (append-nil (named.preorder key_of (trees_of f s.children)))
      ∙ ap (λ t. give k ++ t) (spread-trees give f s.children)
      ∙ rw is refl

-- ---- texts

pub spread-texts : (f : Forest) (xs : List ℕ) → texts_of f xs ≡ spread (text_at f) xs
spread-texts f [] = refl
spread-texts f (x ∷ xs) = ap (λ t. text_at f x ++ t) (spread-texts f xs)

-- what is read below nodes, one after another
abbrev pub reads_of : Forest → List ℕ → List ℕ
reads_of f ks = spread (read_below f) ks

pub reads_of-append : (f : Forest) (xs ys : List ℕ) → reads_of f (xs ++ ys) ≡ reads_of f xs ++ reads_of f ys
reads_of-append f = spread-append (read_below f)

-- a key that isn't there has nothing
pub record IsAbsent (f : Forest) (k : ℕ) : Type 0 where
  pub text : text_at f k ≡ []
  pub children : children_of f k ≡ []
  pub parent : parent_of f k ≡ None

pub absent : (f : Forest) (k : ℕ) → has k f ≡ false → IsAbsent f k
absent f k free =
    let none : spot f k ≡ None = grind (arith, free, is_some-spot f k) in
    record { text = rw none refl; children = rw none refl; parent = rw none refl }

-- Below a node its own text is read, and then what is read below its children. This is so of a key that isn't there too.
pub read-level : (f : Forest) (k : ℕ) → IsForest f → read_below f k ≡ text_at f k ++ reads_of f (children_of f k)
read-level f k h =
    spread-texts f (keys_within f k) ∙ below-level (text_at f) f k h (λ free. (absent f k free).text)
    ∙ ap (λ t. text_at f k ++ t) (spread-same (below (text_at f) f) (read_below f) (children_of f k) (λ q among. sym (spread-texts f (keys_within f q))))

-- a node without children
pub read-leaf : (f : Forest) (k : ℕ) → IsForest f → children_of f k ≡ [] → read_below f k ≡ text_at f k
read-leaf f k h none = read-level f k h ∙ ap (λ ks. text_at f k ++ reads_of f ks) none ∙ append-nil (text_at f k)

pub reads-leaves : (f : Forest) (ks : List ℕ) → IsForest f → ((q : ℕ) → is_among q ks ≡ true → children_of f q ≡ []) → reads_of f ks ≡ texts_of f ks
reads-leaves f ks h none = spread-same (read_below f) (text_at f) ks (λ q among. read-leaf f q h (none q among)) ∙ sym (spread-texts f ks)

-- ---- two forests, of which one came out of the other

pub reads-same : (f g : Forest) (ks : List ℕ) → ((q : ℕ) → is_among q ks ≡ true → read_below g q ≡ read_below f q) → reads_of g ks ≡ reads_of f ks
reads-same f g = spread-same (read_below g) (read_below f)

-- the same is read below the children of a node, and below theirs, but for some
pub record IsKnown (f g : Forest) (skip : ℕ → Bool) (b : ℕ) : Type 0 where
  pub child : (c : ℕ) → parent_of f c ≡ Some b → skip c ≡ false → read_below g c ≡ read_below f c
  pub grandchild : (c d : ℕ) → parent_of f c ≡ Some b → parent_of f d ≡ Some c → skip d ≡ false → read_below g d ≡ read_below f d

record ReadSo (f g : Forest) (skip : ℕ → Bool) (b : ℕ) : Type 0 where
  here : skip b ≡ false → read_below g b ≡ read_below f b
  child : (c : ℕ) → parent_of f c ≡ Some b → skip c ≡ false → read_below g c ≡ read_below f c

-- a node has the same text, and the same is read below its children taken together
pub record ReadsOn (f g : Forest) (b : ℕ) : Type 0 where
  pub text : text_at g b ≡ text_at f b
  pub below : reads_of g (children_of g b) ≡ reads_of f (children_of f b)

-- The same is read below each node but for some, where it is below its children taken together, since it is below what they hold.
pub reads_by : (f g : Forest) (skip : ℕ → Bool) → IsForest f → IsForest g → ((b : ℕ) → skip b ≡ false → IsKnown f g skip b → ReadsOn f g b) → (b : ℕ)
    → skip b ≡ false → read_below g b ≡ read_below f b
reads_by f g skip h j level b clear = (down f h (ReadSo f g skip) (λ b each.
    let known : IsKnown f g skip b =
    record { child = λ c up clear. (each c up).here clear; grandchild = λ c d up below clear. (each c up).child d below clear } in
    record {
      here = λ clear. let on = level b clear known in read-level g b j ∙ ap₂ (λ x y. x ++ y) on.text on.below ∙ sym (read-level f b h);
      child = known.child;
    }) b).here clear

-- the children of a node, none of which is skipped, read the same
pub reads_known : (f g : Forest) (skip : ℕ → Bool) (b : ℕ) → IsForest f → IsKnown f g skip b → ((c : ℕ) → parent_of f c ≡ Some b → skip c ≡ false)
    → reads_of g (children_of f b) ≡ reads_of f (children_of f b)
reads_known f g skip b h k none = reads-same f g (children_of f b) (λ c among. let up = parent_here f b c h among in k.child c up (none c up))

-- others are in the place of one of a list, and the same is read
pub reads-in_place : (f g : Forest) (k : ℕ) (new ks : List ℕ) → NoRepeats ks → reads_of g new ≡ read_below f k
    → ((q : ℕ) → is_among q ks ≡ true → q ≢ k → read_below g q ≡ read_below f q) → reads_of g (in_place_of k new ks) ≡ reads_of f ks
reads-in_place f g k new [] once same each = refl
reads-in_place f g k new (x ∷ xs) once same each =
    elim (eqb_tells x k) [
      | inl own ↦
          let rest : reads_of g xs ≡ reads_of f xs =
          reads-same f g xs (λ q among. each q (grind (arith, among)) (λ is. absurd (grind (arith, is, own, among, once)))) in
          rw own.0 (reads_of-append g new xs ∙ ap₂ (λ a b. a ++ b) (same ∙ ap (read_below f) (sym own.1)) rest)
      | inr other ↦
          let first : read_below g x ≡ read_below f x = each x (grind (arith, eqb_tells x x)) (λ is. absurd (grind (arith, other, is, eqb_tells x k))) in
          rw other.0 (ap₂ (λ a b. a ++ b) first (reads-in_place f g k new xs once.1 same (λ q among ne. each q (grind (arith, among)) ne)))
    ]

-- others come before one, and together they read as it did
names_with-in_place : (k : ℕ) (new xs : List ℕ) → is_among k xs ≡ true → names_with (Some k) new xs ≡ in_place_of k (new ++ (k ∷ [])) xs
names_with-in_place k new [] among = absurd (cc)
names_with-in_place k new (x ∷ xs) among = elim (eqb_tells x k) [
  | inl own ↦ rw (own.0, own.1) (sym (append_assoc new (k ∷ []) xs))
  | inr other ↦ rw other.0 (ap (λ ys. x ∷ ys) (names_with-in_place k new xs (grind (arith, among, other.0))))
]

pub reads-instead : (f g : Forest) (k : ℕ) (new xs : List ℕ) → NoRepeats xs → is_among k xs ≡ true → reads_of g new ++ read_below g k ≡ read_below f k
    → ((q : ℕ) → is_among q xs ≡ true → q ≢ k → read_below g q ≡ read_below f q) → reads_of g (names_with (Some k) new xs) ≡ reads_of f xs
reads-instead f g k new xs once among same each =
    ap (reads_of g) (names_with-in_place k new xs among)
    ∙ reads-in_place f g k (new ++ (k ∷ [])) xs once (reads_of-append g new (k ∷ []) ∙ ap (λ t. reads_of g new ++ t) (append-nil (read_below g k)) ∙ same) each

-- ---- a tree in which nothing is read goes

reads-without : (f g : Forest) (k : ℕ) (xs : List ℕ) → read_below f k ≡ [] → ((q : ℕ) → is_among q xs ≡ true → read_below g q ≡ read_below f q)
    → reads_of g (names_without k xs) ≡ reads_of f xs
reads-without f g k [] silent each = refl
reads-without f g k (x ∷ xs) silent each =
    let rest : reads_of g (names_without k xs) ≡ reads_of f xs = reads-without f g k xs silent (λ q among. each q (grind (arith, among))) in
    elim (eqb_tells x k) [
      | inl own ↦ rw own.0 (rest ∙ sym (ap (λ t. t ++ reads_of f xs) (ap (read_below f) own.1 ∙ silent)))
      | inr other ↦ rw other.0 (ap₂ (λ a b. a ++ b) (each x (grind (arith, eqb_tells x x))) rest)
    ]

pub read_without : (f : Forest) (k : ℕ) → IsForest f → read_below f k ≡ [] → (b : ℕ) → read_below (take_out k f) b ≡ read_below f b
read_without f k h silent b = reads_by f (take_out k f) (λ q. false) h (IsForest-take_out k f h) (λ b clear known. record {
  text = ap (λ o. text_or_none (text_in o)) (label_of-take_out k f b h);
  below = ap (reads_of (take_out k f)) (children_of-take_out k f b h)
      ∙ reads-without f (take_out k f) k (children_of f b) silent (λ q among. known.child q (parent_here f b q h among) refl);
}) b refl

-- ---- what has nothing below it

-- what is there is of a kind
pub kind_known : (f : Forest) (k : ℕ) → has k f ≡ true → (kind : Kind) × (kind_of f k ≡ Some kind)
kind_known f k there = by_kind (kind_of f k) refl where
  by_kind : (o : Option Kind) → kind_of f k ≡ o → (kind : Kind) × (kind_of f k ≡ Some kind)
  by_kind None is = absurd (grind (arith, there, is, is_some-kind_of f k))
  by_kind (Some kind) is = (kind, is)

-- a text, where each node holds what it may
pub childless_text : (f : Forest) (k : ℕ) → IsForest f → IsHeld may_hold f → kind_of f k ≡ Some kinds.Text → children_of f k ≡ []
unfolding may_hold
childless_text f k h held text = by_list (children_of f k) refl where
  by_list : (ks : List ℕ) → children_of f k ≡ ks → children_of f k ≡ []
  by_list [] is = is
  by_list (c ∷ cs) is =
      let up : parent_of f c ≡ Some k = parent_here f k c h (ap (is_among c) is ∙ grind (arith, eqb_tells c c)) in
      let bad : false ≡ true = sym (ap₂ (holds may_hold) text (kind_known f c (has-child f c k up)).1) ∙ held.each c k up in
      absurd (cc)
