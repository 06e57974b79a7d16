-- The text of a heading is what its children say and theirs: a link holds no link, and any other inline node nothing.
use Rattle.std.proofs.Common.{◌≡◌, ◌∙◌, ℕ, Bool, true, false, ◌&&◌, List, [], ◌∷◌, ◌++◌, Option, None, Some, inl, inr, refl, sym, ap, arith, append_assoc, append-nil}
use Rattle.std.specs.Prelude.{option_map, is_some, not}
use Rattle.std.proofs.lemmas.Bool.{cases_Bool}
use Rattle.std.proofs.lemmas.Bool.Decides.{eqb_tells}
use Rattle.std.proofs.lemmas.Option.{same_Some}
use Rattle.lx_node.specs.Kinds.{is_inline, is_link, may_hold}
use Rattle.lx_node.specs.OfKind.{is_of_kind, fits_kind, is_element_of}
use Rattle.lx_trees.specs.Siblings.{is_among}
use Rattle.lx_trees.specs.Spots.{Spot, children_at}
use Rattle.lx_trees.specs.Trees.{nil, tree, joined}
use Rattle.lx_node.specs.declared.fields.Fields.{Fields}
use Rattle.lx_node.specs.declared.fields.Fields.TheVariants as fields
use Rattle.lx_node.specs.declared.kind.Kind.{Kind}
use Rattle.lx_node.specs.declared.kind.Kind.TheVariants as kind
use Rattle.lx_node.specs.declared.node.Node.{Node}
use Rattle.lx_forest.specs.Forest.{Label, Forest}
use Rattle.lx_forest.specs.Lookups.{has, spot, label_of, kind_of, parent_of, children_of, alone, trees_of, holds, IsForest}
use Rattle.lx_forest.specs.Suited.{is_suited}
use Rattle.lx_forest.proofs.Edits.{is_some-spot}
use Rattle.lx_forest.proofs.Lookups.{alone-spot, has-child}
use Rattle.lx_links.specs.Stands.{Sound}
use Rattle.lx_links.proofs.Placed.{parent_of-child}
use Rattle.lx_links.proofs.Seen.{Seen}
use Rattle.lx_links.proofs.Up.{in_order_at}
use Rattle.lx_outline.specs.Outline.{piece_of, level_of, text_of, heading_with, heading_by, heading_at}
use Rattle.lx_outline.specs.Reading.{label_piece, piece_at, gathered, with_below}

-- ---- kinds

pub link_is : (k : Kind) → is_link k ≡ true → k ≡ kind.Link
unfolding is_link
link_is kind.Link e = refl
link_is other e = absurd (cc)

pub level_is : (k : Kind) (level : ℕ) → level_of k ≡ Some level → k ≡ kind.Heading level
level_is (kind.Heading l) level e = ap kind.Heading (same_Some l level e)
level_is other level e = absurd (cc)

-- an inline node that is no link holds nothing
leaf_kind : (k : Kind) → is_inline k ≡ true → is_link k ≡ false → (x : Kind) → may_hold k x ≡ false
unfolding is_inline is_link may_hold
leaf_kind kind.Text e g x = refl
leaf_kind kind.Tab e g x = refl
leaf_kind kind.Break e g x = refl
leaf_kind kind.Embed e g x = refl
leaf_kind other e g x = absurd (cc)

heading_holds : (level : ℕ) (x : Kind) → may_hold (kind.Heading level) x ≡ true → is_inline x ≡ true
unfolding may_hold
heading_holds level x e = e

both_of : (a b : Bool) → (a && not b) ≡ true → (a ≡ true) × (b ≡ false)
both_of true false e = (refl, refl)
both_of true true e = absurd (cc)
both_of false b e = absurd (cc)

link_holds : (x : Kind) → may_hold kind.Link x ≡ true → (is_inline x ≡ true) × (is_link x ≡ false)
unfolding may_hold
link_holds x e = both_of (is_inline x) (is_link x) e

right_of : (a b : Bool) → (a && b) ≡ true → b ≡ true
right_of true b e = e
right_of false b e = absurd (cc)

silent : (level : ℕ) (own : Fields) → is_of_kind (kind.Heading level) own ≡ true → piece_of (kind.Heading level) own ≡ []
unfolding is_of_kind fits_kind is_element_of
silent level (fields.Element e) fits = refl
silent level (fields.Text t) fits = absurd (let h : false ≡ true = right_of _ false fits in cc)
silent level (fields.Embed s) fits = refl
silent level fields.Bare fits = refl

-- ---- what is where

pub record IsThere (f : Forest) (q : ℕ) : Type 0 where
  pub at : Spot Label
  pub at_is : spot f q ≡ Some at
  pub kind_is : kind_of f q ≡ Some at.label.kind
  pub label_is : label_of f q ≡ Some at.label

pub is_there : (f : Forest) (q : ℕ) → has q f ≡ true → IsThere f q
is_there f q there = from_spot (spot f q) refl where
  from_spot : (o : Option (Spot Label)) → spot f q ≡ o → IsThere f q
  from_spot None at = absurd (let e = is_some-spot f q in let g = ap is_some at in cc)
  from_spot (Some x) at = record {
    at = x;
    at_is = at;
    kind_is = ap (λ o. option_map (λ (l : Label). l.kind) (option_map (λ (s : Spot Label). s.label) o)) at;
    label_is = ap (option_map (λ (s : Spot Label). s.label)) at;
  }

-- a child is of a kind that its parent may hold
pub held_by : (f : Forest) (q p : ℕ) (outer inner : Kind) → Sound f → parent_of f q ≡ Some p → kind_of f p ≡ Some outer → kind_of f q ≡ Some inner
    → may_hold outer inner ≡ true
held_by f q p outer inner s up e g =
    sym (ap (λ o. holds may_hold o (kind_of f q)) e ∙ ap (holds may_hold (Some outer)) g) ∙ s.held.each q p up

-- what holds nothing has no children
childless : (f : Forest) (q : ℕ) (k : Kind) → Sound f → kind_of f q ≡ Some k → ((x : Kind) → may_hold k x ≡ false) → children_of f q ≡ []
childless f q k s is holds_none = by_list (children_of f q) refl where
  by_list : (ks : List ℕ) → children_of f q ≡ ks → children_of f q ≡ []
  by_list [] e = e
  by_list (c ∷ cs) e =
      let up : parent_of f c ≡ Some q = parent_of-child f c q s (ap (is_among c) e ∙ grind (arith, eqb_tells c c)) in
      let child = is_there f c (has-child f c q up) in
      absurd (let h = held_by f c q k child.at.label.kind s up is child.kind_is in let g = holds_none child.at.label.kind in cc)

-- a child of a heading is an inline node
pub record IsInline (f : Forest) (q : ℕ) : Type 0 where
  pub kind : Kind
  pub kind_is : kind_of f q ≡ Some kind
  pub inline : is_inline kind ≡ true

pub below_heading : (f : Forest) (q c level : ℕ) → Sound f → kind_of f q ≡ Some (kind.Heading level) → parent_of f c ≡ Some q → IsInline f c
below_heading f q c level s is up =
    let child = is_there f c (has-child f c q up) in
    record {
      kind = child.at.label.kind;
      kind_is = child.kind_is;
      inline = heading_holds level child.at.label.kind (held_by f c q (kind.Heading level) child.at.label.kind s up is child.kind_is);
    }

-- the parent of a child of an inline node is a link, and has no children itself
pub record IsInLink (f : Forest) (c g : ℕ) : Type 0 where
  pub link : kind_of f c ≡ Some kind.Link
  pub child : IsInline f g
  pub childless : children_of f g ≡ []

pub below_inline : (f : Forest) (c g : ℕ) → Sound f → IsInline f c → parent_of f g ≡ Some c → IsInLink f c g
below_inline f c g s outer up = elim (cases_Bool (is_link outer.kind)) [
  | inl link ↦
      let link_kind : kind_of f c ≡ Some kind.Link = outer.kind_is ∙ ap (λ (k : Kind). Some k) (link_is outer.kind link) in
      let child = is_there f g (has-child f g c up) in
      let held = link_holds child.at.label.kind (held_by f g c kind.Link child.at.label.kind s up link_kind child.kind_is) in
      record {
        link = link_kind;
        child = record { kind = child.at.label.kind; kind_is = child.kind_is; inline = held.0 };
        childless = childless f g child.at.label.kind s child.kind_is (leaf_kind child.at.label.kind held.0 held.1);
      }
  | inr other ↦
      let child = is_there f g (has-child f g c up) in
      absurd (let h = held_by f g c outer.kind child.at.label.kind s up outer.kind_is child.kind_is in let e = leaf_kind outer.kind outer.inline other
      child.at.label.kind in cc)
]

-- ---- the text of a tree

text_of-joined : (s t : Forest) → text_of (joined s t) ≡ text_of s ++ text_of t
text_of-joined nil t = refl
text_of-joined (tree l below rest) t =
    ap (λ x. (piece_of l.kind l.fields ++ text_of below) ++ x) (text_of-joined rest t)
    ∙ sym (append_assoc (piece_of l.kind l.fields ++ text_of below) (text_of rest) (text_of t))

text_of-trees : (f : Forest) (ks : List ℕ) → text_of (trees_of f ks) ≡ gathered (λ c. text_of (alone c f)) ks
text_of-trees f [] = refl
text_of-trees f (k ∷ ks) = text_of-joined (alone k f) (trees_of f ks) ∙ ap (λ x. text_of (alone k f) ++ x) (text_of-trees f ks)

text_alone : (f : Forest) (k : ℕ) → IsForest f → has k f ≡ true → text_of (alone k f) ≡ piece_at f k ++ gathered (λ c. text_of (alone c f)) (children_of f k)
text_alone f k h there =
    let s = is_there f k there in
    ap text_of (alone-spot f k s.at h s.at_is)
    ∙ append-nil (piece_of s.at.label.kind s.at.label.fields ++ text_of (trees_of f s.at.children))
    ∙ ap (λ x. piece_of s.at.label.kind s.at.label.fields ++ x) (text_of-trees f s.at.children)
    ∙ sym (ap (λ o. label_piece (option_map (λ (s : Spot Label). s.label) o) ++ gathered (λ c. text_of (alone c f)) (children_at o)) s.at_is)

gathered_same : (p r : ℕ → List ℕ) (ks : List ℕ) → ((c : ℕ) → is_among c ks ≡ true → p c ≡ r c) → gathered p ks ≡ gathered r ks
gathered_same p r [] same = refl
gathered_same p r (k ∷ ks) same =
    ap (λ x. x ++ gathered p ks) (same k (grind (arith, eqb_tells k k)))
    ∙ ap (λ x. r k ++ x) (gathered_same p r ks (λ c e. same c (grind (arith, e))))

leaf_text : (f : Forest) (k : ℕ) → IsForest f → has k f ≡ true → children_of f k ≡ [] → text_of (alone k f) ≡ piece_at f k
leaf_text f k h there none =
    text_alone f k h there ∙ ap (λ ks. piece_at f k ++ gathered (λ c. text_of (alone c f)) ks) none ∙ append-nil (piece_at f k)

-- a child of a heading
child_text : (f : Forest) (c : ℕ) → Sound f → IsForest f → has c f ≡ true → IsInline f c → text_of (alone c f) ≡ with_below f c
child_text f c s h there inline =
    text_alone f c h there
    ∙ ap (λ x. piece_at f c ++ x) (gathered_same (λ g. text_of (alone g f)) (piece_at f) (children_of f c) (λ g among.
    let up : parent_of f g ≡ Some c = parent_of-child f g c s among in
    leaf_text f g h (has-child f g c up) (below_inline f c g s inline up).childless))

heading_silent : (f : Forest) (q level : ℕ) → Sound f → has q f ≡ true → kind_of f q ≡ Some (kind.Heading level) → piece_at f q ≡ []
heading_silent f q level s there is =
    let x = is_there f q there in
    let own : x.at.label.kind ≡ kind.Heading level = same_Some x.at.label.kind (kind.Heading level) (sym x.kind_is ∙ is) in
    let fits : is_of_kind x.at.label.kind x.at.label.fields ≡ true = sym (ap is_suited x.label_is) ∙ s.suited.each q in
    ap label_piece x.label_is ∙ ap (λ k. piece_of k x.at.label.fields) own
    ∙ silent level x.at.label.fields (sym (ap (λ k. is_of_kind k x.at.label.fields) own) ∙ fits)

pub heading_text : (f : Forest) (q level : ℕ) → Sound f → has q f ≡ true → kind_of f q ≡ Some (kind.Heading level)
    → text_of (alone q f) ≡ gathered (with_below f) (children_of f q)
heading_text f q level s there is =
    let h = in_order_at f q s there in
    text_alone f q h there
    ∙ ap (λ x. x ++ gathered (λ c. text_of (alone c f)) (children_of f q)) (heading_silent f q level s there is)
    ∙ gathered_same (λ c. text_of (alone c f)) (with_below f) (children_of f q) (λ c among.
    let up : parent_of f c ≡ Some q = parent_of-child f c q s among in
    child_text f c s h (has-child f c q up) (below_heading f q c level s is up))

-- ---- a heading that was read

pub heading_read : (f : Forest) (q : ℕ) (n : Node) (level : ℕ) (text : List ℕ) → Sound f → Seen f q n → level_of n.kind ≡ Some level
    → text ≡ gathered (with_below f) (children_of f q)
    → Some (heading_with text level) ≡ heading_at f q
heading_read f q n level text s seen is read =
    let own : kind_of f q ≡ Some (kind.Heading level) = seen.kind ∙ ap (λ (k : Kind). Some k) (level_is n.kind level is) in
    ap (λ t. Some (heading_with t level)) (read ∙ sym (heading_text f q level s seen.has own))
    ∙ sym (ap (λ o. heading_by o (text_of (alone q f))) own)
