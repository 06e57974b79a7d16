-- How many nodes aren't kept, and which children that are met aren't.
use Rattle.std.proofs.Common.{◌≡◌, ◌∙◌, ◌+◌, ◌≤◌, ℕ, ◌&&◌, Bool, true, false, filter, List, [], ◌∷◌, Option, None, Some, option_map, refl, sym, ap, arith}
use Rattle.std.specs.Bool.{Decides}
use Rattle.std.proofs.lemmas.Bool.{false_from_ne_true}
use Rattle.std.proofs.lemmas.Bool.Decides.{eqb_tells, Decides-like}
use Rattle.lx_node.specs.Same.{same_text}
use Rattle.lx_node.proofs.Same.{same_text-Decides}
use Rattle.lx_host.specs.Words.{tag_word}
use Rattle.std.proofs.lemmas.Option.{same_Some}
use Rattle.lx_trees.specs.Trees.{nil, tree, joined}
use Rattle.lx_trees.specs.NamedTrees.{total}
use Rattle.lx_trees.specs.Siblings.{is_among, is_named}
use Rattle.lx_trees.specs.Spots.{Spot, parent_at}
use Rattle.lx_host.specs.declared.tag.Tag.{Tag}
use Rattle.lx_host.specs.declared.tag.Tag.TheVariants.{Div, P, H1, H2, H3, H4, H5, H6, Blockquote, Ul, Ol, Li, A, Table, Tr, Th, Td, Br, Hr, Inline}
use Rattle.lx_host.specs.declared.tag.Inner.TheVariants.{Strong, Em, Span}
use Rattle.lx_host.specs.declared.tag.Outer.TheVariants.{Code, Mark, Sub, Sup}
use Rattle.lx_forest.specs.Forest.{Label, Forest}
use Rattle.lx_forest.specs.Lookups.{spot, label_of, children_of, IsForest}
use Rattle.lx_forest.proofs.Lookups.{is_among-children_of}
use Rattle.lx_render.specs.Render.{tag_of}
use Rattle.lx_reconcile.specs.Allowed.{places_of, is_tag, is_parent, is_only, unkept}
use Rattle.lx_reconcile.proofs.Kept.{places_at, places_of-spot}

-- ---- a tag by its word

abbrev all_tags : List Tag
all_tags =
    Div ∷ P ∷ H1 ∷ H2 ∷ H3 ∷ H4 ∷ H5 ∷ H6 ∷ Blockquote ∷ Ul ∷ Ol ∷ Li ∷ A ∷ Table ∷ Tr ∷ Th ∷ Td ∷ Br ∷ Hr
    ∷ Inline None Strong ∷ Inline None Em ∷ Inline None Span
    ∷ Inline (Some Code) Strong ∷ Inline (Some Code) Em ∷ Inline (Some Code) Span
    ∷ Inline (Some Mark) Strong ∷ Inline (Some Mark) Em ∷ Inline (Some Mark) Span
    ∷ Inline (Some Sub) Strong ∷ Inline (Some Sub) Em ∷ Inline (Some Sub) Span
    ∷ Inline (Some Sup) Strong ∷ Inline (Some Sup) Em ∷ Inline (Some Sup) Span ∷ []

-- the tags that have this word
abbrev with_word : List ℕ → List Tag
with_word word = filter (λ t. same_text (tag_word t) word) all_tags

one_tag : (t : Tag) → with_word (tag_word t) ≡ t ∷ []
unfolding same_text tag_word
one_tag (Inline None Strong) = refl
one_tag (Inline (Some Code) Em) = refl
one_tag (Inline (Some Mark) Em) = refl
one_tag (Inline (Some Sub) Em) = refl
one_tag (Inline (Some Sup) Em) = refl
one_tag _ = refl

same_word : (a b : Tag) → tag_word a ≡ tag_word b → a ≡ b
same_word a b e = let one = sym (one_tag a) ∙ ap with_word e ∙ one_tag b in cc

pub is_tag-Decides : (a b : Tag) → Decides (is_tag a b) (a ≡ b)
is_tag-Decides a b = Decides-like _ (same_word a b) (ap tag_word) (same_text-Decides (tag_word a) (tag_word b))

other_tag : (a b : Tag) → (a ≡ b → ⊥) → is_tag a b ≡ false
other_tag a b other = false_from_ne_true (is_tag a b) (λ same. other ((is_tag-Decides a b).0 same))

pub same_parent : (o p : Option ℕ) → is_parent o p ≡ true → o ≡ p
same_parent None None e = refl
same_parent (Some q) (Some p) e = grind (arith, e, eqb_tells q p)
same_parent _ _ e = absurd (cc)

-- ---- whether a child is kept, where its parent is

abbrev pub kept_here : Forest → Option ℕ → Label → Bool
kept_here old parent l = is_only parent (tag_of l.kind l.fields) (places_of l.key None old)

by_parent : (o : Option ℕ) (k : ℕ) → is_named o k ≡ is_parent o (Some k)
by_parent None k = refl
by_parent (Some p) k = grind (arith, eqb_tells p k, eqb_tells k p)

places_are : (old : Forest) (q : ℕ) → IsForest old → places_of q None old ≡ places_at (spot old q)
places_are old q h = places_of-spot q None old (h.once q)

kept_spot : (old : Forest) (k : ℕ) (tag : Tag) (o : Option (Spot Label)) → is_named (parent_at o) k ≡ false → is_only (Some k) tag (places_at o) ≡ false
kept_spot old k tag None e = refl
kept_spot old k tag (Some s) e = grind (arith, e, by_parent s.parent k)

-- one that was no child there isn't
pub new_unkept : (old : Forest) (k : ℕ) (l : Label) → IsForest old → is_among l.key (children_of old k) ≡ false → kept_here old (Some k) l ≡ false
new_unkept old k l h out =
    ap (is_only (Some k) (tag_of l.kind l.fields)) (places_are old l.key h)
    ∙ kept_spot old k (tag_of l.kind l.fields) (spot old l.key) (sym (is_among-children_of old l.key k h) ∙ out)

not_second : (a b : Bool) → b ≡ false → (a && b) ≡ false
not_second true b e = e
not_second false b e = refl

-- nor is one that was another element
pub other_unkept : (old : Forest) (k : ℕ) (x l : Label) → IsForest old → label_of old l.key ≡ Some x → (tag_of x.kind x.fields ≡ tag_of l.kind l.fields → ⊥)
    → kept_here old (Some k) l ≡ false
other_unkept old k x l h was other = ap (is_only (Some k) (tag_of l.kind l.fields)) (places_are old l.key h) ∙ from_spot (spot old l.key) refl where
  from_spot : (o : Option (Spot Label)) → spot old l.key ≡ o → is_only (Some k) (tag_of l.kind l.fields) (places_at o) ≡ false
  from_spot None at = refl
  from_spot (Some s) at =
      let same : Some s.label ≡ Some x = sym (ap (option_map (λ (s : Spot Label). s.label)) at) ∙ was in
      let own : s.label ≡ x = same_Some s.label x same in
      let differ : is_tag (tag_of s.label.kind s.label.fields) (tag_of l.kind l.fields) ≡ false =
      other_tag _ _ (λ e. other (sym (ap (λ (l : Label). tag_of l.kind l.fields) own) ∙ e)) in
      not_second (is_parent s.parent (Some k)) _ differ

-- but one that was one there with the same element is
pub same_kept : (old : Forest) (k : ℕ) (x l : Label) → IsForest old → is_among l.key (children_of old k) ≡ true → label_of old l.key ≡ Some x
    → tag_of x.kind x.fields ≡ tag_of l.kind l.fields → kept_here old (Some k) l ≡ true
same_kept old k x l h among was same =
    ap (is_only (Some k) (tag_of l.kind l.fields)) (places_are old l.key h)
    ∙ from_spot (spot old l.key) (sym (is_among-children_of old l.key k h) ∙ among) was
  where
    from_spot : (o : Option (Spot Label)) → is_named (parent_at o) k ≡ true → option_map (λ (s : Spot Label). s.label) o ≡ Some x
        → is_only (Some k) (tag_of l.kind l.fields) (places_at o) ≡ true
    from_spot None named is = absurd (cc)
    from_spot (Some s) named is =
        let own : s.label ≡ x = same_Some s.label x is in
        let tags : tag_of s.label.kind s.label.fields ≡ tag_of l.kind l.fields = ap (λ (l : Label). tag_of l.kind l.fields) own ∙ same in
        rw (sym (by_parent s.parent k) ∙ named, (is_tag-Decides (tag_of s.label.kind s.label.fields) (tag_of l.kind l.fields)).1 tags) refl

-- ---- how many aren't kept

pub unkept-joined : (old : Forest) (p : Option ℕ) (f g : Forest) → unkept old p (joined f g) ≡ unkept old p f + unkept old p g
unkept-joined old p nil g = omega arith
unkept-joined old p (tree l b t) g = omega (arith, unkept-joined old p t g)

pub unkept-total : (old : Forest) (p : Option ℕ) (f : Forest) → unkept old p f ≤ total f
unkept-total old p nil = omega arith
unkept-total old p (tree l b t) = grind (arith, unkept-total old p t, unkept-total old (Some l.key) b)

-- below a node no more than in its whole tree
pub unkept-below : (old : Forest) (p : Option ℕ) (l : Label) (b : Forest) → unkept old (Some l.key) b ≤ unkept old p (tree l b nil)
unkept-below old p l b = grind (arith, unkept-total old (Some l.key) b)

-- in the tree of one that isn't kept all aren't
pub unkept-all : (old : Forest) (p : Option ℕ) (l : Label) (b : Forest) → kept_here old p l ≡ false → unkept old p (tree l b nil) ≡ total (tree l b nil)
unkept-all old p l b e = rw e (omega arith)
