-- Two lines beside each other that became one: the same is read in each other node.
use Rattle.lx_caret_laws.proofs.Covers.{among_at, no_repeats_back}
use Rattle.lx_caret_laws.proofs.InPlace.{apart_children, below_parent}
use Rattle.lx_caret_laws.proofs.JoinedIn.{IsSetIn, read_joined, says}
use Rattle.lx_caret_laws.proofs.ReadLevels.{reads-append, reads-same, reads_by, reads_known}
use Rattle.lx_caret_laws.specs.Reading.{read_in, reads_in, said}
use Rattle.lx_draft.proofs.Gaps.{parent_here}
use Rattle.lx_forest.proofs.Lookups.{NoRepeats-children_of, has-child}
use Rattle.lx_forest.proofs.Within.{is_within-self}
use Rattle.lx_forest.specs.Forest.{Forest}
use Rattle.lx_forest.specs.Lookups.{IsForest, children_of, has, is_within, label_of, parent_of}
use Rattle.lx_trees.proofs.Siblings.{is_among-append}
use Rattle.lx_trees.specs.Siblings.{NoRepeats, is_among}
use Rattle.std.proofs.Common.{Bool, List, Some, [], ap, append_assoc, ap₂, arith, eqb, false, inl, inr, subst, sym, true, ℕ, ◌++◌, ◌||◌, ◌∙◌, ◌∷◌, ◌≡◌, ◌≢◌}
use Rattle.std.proofs.lemmas.Bool.Decides.{eqb_tells}
use Rattle.std.proofs.lemmas.Bool.{or_parts}

-- ---- the forests

-- the children of the second of two children of a node went after those of the first, and the second went
pub record LeftJoined (f g : Forest) (parent first second : ℕ) (before behind : List ℕ) : Type 0 where
  pub ordered : IsForest f
  pub order_after : IsForest g
  pub are : children_of f parent ≡ before ++ (first ∷ (second ∷ behind))
  pub silent : said f second ≡ []
  pub labels : (q : ℕ) → label_of g q ≡ label_of f q
  pub joined : children_of g first ≡ children_of f first ++ children_of f second
  pub left : children_of g parent ≡ before ++ (first ∷ behind)
  pub others : (q : ℕ) → q ≢ parent → q ≢ first → q ≢ second → children_of g q ≡ children_of f q

module _ (f g : Forest) (parent first second : ℕ) (before behind : List ℕ) (l : LeftJoined f g parent first second before behind) where
  h : IsForest f
  h = l.ordered

  j : IsForest g
  j = l.order_after

  abbrev ones : List ℕ
  ones = children_of f first

  abbrev twos : List ℕ
  twos = children_of f second

  up_first : parent_of f first ≡ Some parent
  up_first = parent_here f parent first h (ap (is_among first) l.are ∙ among_at before first (second ∷ behind))

  up_second : parent_of f second ≡ Some parent
  up_second = parent_here f parent second h (ap (is_among second) l.are ∙ is_among-append second before (first ∷ (second ∷ behind))
      ∙ grind (arith, eqb_tells second second))

  once : NoRepeats (before ++ (first ∷ (second ∷ behind)))
  once = subst NoRepeats l.are (NoRepeats-children_of f parent h)

  apart : first ≢ second
  apart e =
      let back = no_repeats_back before (first ∷ (second ∷ behind)) once in
      absurd (grind (arith, e, back.0, eqb_tells second first, eqb_tells second second))

  there_first : has first f ≡ true
  there_first = has-child f first parent up_first

  there_second : has second f ≡ true
  there_second = has-child f second parent up_second

  own_first : is_within f first first ≡ true
  own_first = is_within-self f first ∙ there_first

  own_second : is_within f second second ≡ true
  own_second = is_within-self f second ∙ there_second

  first_off : is_within f first second ≡ false
  first_off = apart_children f first second parent second h up_first up_second apart own_second

  second_off : is_within f second first ≡ false
  second_off = apart_children f second first parent first h up_second up_first (λ e. apart (sym e)) own_first

  pub set_in : IsSetIn f g first second
  set_in = record {
    ordered = h;
    order_after = j;
    there_first = there_first;
    there_second = there_second;
    first_off = first_off;
    second_off = second_off;
    silent = l.silent;
    labels = l.labels;
    joined = l.joined;
    children_aside = λ b one two.
        let over : is_within f parent first ≡ true = below_parent f first parent h up_first in
        l.others b (λ e. absurd (grind (arith, e, one, over))) (λ e. absurd (grind (arith, e, one, own_first)))
        (λ e. absurd (grind (arith, e, two, own_second)));
  }

  pub read_line : read_in g first ≡ read_in f first ++ read_in f second
  read_line = read_joined f g first second set_in

  abbrev is_line : ℕ → Bool
  is_line x = eqb x first || eqb x second

  other_line : (x : ℕ) → x ≢ first → x ≢ second → is_line x ≡ false
  other_line x one two = grind (arith, one, two, eqb_tells x first, eqb_tells x second)

  read_parent : ((c : ℕ) → parent_of f c ≡ Some parent → is_line c ≡ false → read_in g c ≡ read_in f c)
      → reads_in g (children_of g parent) ≡ reads_in f (children_of f parent)
  read_parent known =
      let back = no_repeats_back before (first ∷ (second ∷ behind)) once in
      let child : (c : ℕ) → is_among c (before ++ (first ∷ (second ∷ behind))) ≡ true → parent_of f c ≡ Some parent =
      λ c among. parent_here f parent c h (ap (is_among c) l.are ∙ among) in
      let ahead : reads_in g before ≡ reads_in f before =
      reads-same f g before (λ c among. known c (child c (is_among-append c before (first ∷ (second ∷ behind)) ∙ grind (arith, among)))
      (other_line c (λ e. early c among first (grind (arith, eqb_tells first first)) e)
      (λ e. early c among second (grind (arith, eqb_tells second second)) e))) in
      let later : reads_in g behind ≡ reads_in f behind =
      reads-same f g behind (λ c among. known c (child c (is_among-append c before (first ∷ (second ∷ behind)) ∙ grind (arith, among)))
      (other_line c (λ e. absurd (grind (arith, e, among, back.0, back.1, eqb_tells second first)))
      (λ e. absurd (grind (arith, e, among, back.1.0))))) in
      ap (reads_in g) l.left ∙ reads-append g before (first ∷ behind)
      ∙ ap₂ (λ a b. a ++ b) ahead (ap₂ (λ a b. a ++ b) read_line later ∙ append_assoc (read_in f first) (read_in f second) (reads_in f behind))
      ∙ sym (reads-append f before (first ∷ (second ∷ behind))) ∙ ap (reads_in f) (sym l.are) where
        early_in : (xs : List ℕ) (c x : ℕ) (ys : List ℕ) → NoRepeats (xs ++ ys) → is_among c xs ≡ true → is_among x ys ≡ true → c ≢ x
        early_in [] c x ys once at there e = absurd (cc)
        early_in (y ∷ xs) c x ys once at there e = elim (eqb_tells y c) [
          | inl own ↦ absurd (grind (arith, own.1, e, there, once.0, is_among-append y xs ys))
          | inr other ↦ early_in xs c x ys once.1 (grind (arith, at, other.0)) there e
        ]

        early : (c : ℕ) → is_among c before ≡ true → (x : ℕ) → is_among x (first ∷ (second ∷ behind)) ≡ true → c ≢ x
        early c at x there e = early_in before c x (first ∷ (second ∷ behind)) once at there e

  -- everywhere but in the two lines
  pub read_others : (b : ℕ) → b ≢ first → b ≢ second → read_in g b ≡ read_in f b
  read_others b one two = reads_by f g is_line h j (λ b clear known.
      let c = or_parts (eqb b first) (eqb b second) clear in
      record {
        own = says f g first second set_in b;
        below = elim (eqb_tells b parent) [
          | inl own ↦
              ap (λ x. reads_in g (children_of g x)) own.1
              ∙ read_parent (λ x up clear. known x (up ∙ ap (λ y. Some y) (sym own.1)) clear)
              ∙ ap (λ x. reads_in f (children_of f x)) (sym own.1)
          | inr other ↦
              ap (reads_in g) (l.others b other.1 (λ e. absurd (grind (arith, e, c.0, eqb_tells first first)))
              (λ e. absurd (grind (arith, e, c.1, eqb_tells second second))))
              ∙ reads_known f g is_line b h known (λ x up.
              other_line x (λ e. other.1 (same_parent x first b up up_first e)) (λ e. other.1 (same_parent x second b up up_second e)))
        ];
      }) b (other_line b one two) where
        same_parent : (x y b : ℕ) → parent_of f x ≡ Some b → parent_of f y ≡ Some parent → x ≡ y → b ≡ parent
        same_parent x y b up over e = let g : Some b ≡ Some parent = sym up ∙ ap (parent_of f) e ∙ over in cc
