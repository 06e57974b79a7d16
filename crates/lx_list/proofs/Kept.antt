-- What numbering leaves as it was, and which lists stay numbered while others change.
use Rattle.std.proofs.Common.{◌≡◌, ◌∙◌, ℕ, zero, suc, ◌+◌, Bool, true, false, cond, not, List, [], ◌∷◌, take, Option, None, Some, refl, sym, ap, arith}
use Rattle.std.specs.Prelude.{option_map, is_some}
use Rattle.std.specs.List.{slice_get, count_by}
use Rattle.lx_trees.specs.Spots.{Spot, parent_at}
use Rattle.lx_trees.specs.Siblings.{is_among}
use Rattle.lx_node.specs.Kinds.{may_hold, is_list, is_item, is_possible}
use Rattle.lx_node.specs.OfKind.{is_of_kind, is_item_extra, is_extra_of, is_element_of, fits_kind}
use Rattle.lx_trees.proofs.Positions.{is_among-slice_get}
use Rattle.lx_node.specs.declared.kind.Kind.{Kind}
use Rattle.lx_node.specs.declared.kind.Kind.TheVariants.{List as ListKind, Item}
use Rattle.lx_node.specs.declared.fields.Extra.{Extra}
use Rattle.lx_node.specs.declared.fields.Extra.TheVariants as extra
use Rattle.lx_node.specs.declared.fields.Fields.{Fields}
use Rattle.lx_node.specs.declared.fields.Fields.TheVariants as fields
use Rattle.lx_forest.specs.Forest.{Forest, Label}
use Rattle.lx_forest.specs.Lookups.{spot, kind_of, fields_of, children_of, holds, IsHeld}
use Rattle.std.proofs.lemmas.Bool.Decides.{eqb_tells}
use Rattle.std.proofs.lemmas.List.Sums.{sum_by-cons}
use Rattle.lx_forest.specs.Suited.{is_suited, IsSuited}
use Rattle.lx_blocks.specs.Blocks.{passes}
use Rattle.lx_list.specs.Nesting.{is_nesting}
use Rattle.lx_list.specs.Numbering.{list_start}
use Rattle.lx_list.specs.Numbered.{number_in, item_number, due, IsNumberedList}
use Rattle.lx_list.proofs.Numbered.{HasItems}

-- ---- rest and joining know nothing of it

-- ---- the children of lists are items, with numbers

suited-item : (kind : Kind) (o : Fields) → is_item kind ≡ true → is_of_kind kind o ≡ true → is_some (item_number (Some o)) ≡ true
unfolding is_item is_of_kind is_possible fits_kind is_element_of is_extra_of is_item_extra
suited-item Item (fields.Element element) is suited = by_extra element.extra suited where
  by_extra : (e : Extra) → is_extra_of Item e ≡ true → is_some (number_in e) ≡ true
  by_extra (extra.Item value checked) h = refl
  by_extra extra.Plain h = absurd (cc)
  by_extra (extra.List start) h = absurd (cc)
  by_extra (extra.Link rel target title url) h = absurd (cc)
  by_extra (extra.Cell header rows columns background) h = absurd (cc)
suited-item Item (fields.Text text) is suited = absurd (cc)
suited-item Item (fields.Embed source) is suited = absurd (cc)
suited-item Item fields.Bare is suited = absurd (cc)
suited-item kind o is suited = absurd (cc)

pub held_below : (outer inner : Kind) → is_list outer ≡ true → may_hold outer inner ≡ true → is_item inner ≡ true
unfolding is_list may_hold
held_below (ListKind type) inner is h = h
held_below outer inner is h = absurd (cc)

pub HasItems-held : (f : Forest) → IsHeld may_hold f → IsSuited f → HasItems f
HasItems-held f held suited list q is_a_list up = by_spots (spot f list) (spot f q) refl refl where
  some_is : {A : Type 0} (a b : A) → ◌≡◌ {A = Option A} (Some a) (Some b) → a ≡ b
  some_is a b e = cc

  by_spots : (o p : Option (Spot Label)) → spot f list ≡ o → spot f q ≡ p → is_some (item_number (fields_of f q)) ≡ true
  by_spots None p e g = let b : false ≡ true =
      sym (ap (λ x. passes is_list (option_map (λ (l : Label). l.kind) (option_map (λ (s : Spot Label). s.label) x))) e) ∙ is_a_list in absurd (cc)
  by_spots (Some outer) None e g = let b : None ≡ Some list = sym (ap parent_at g) ∙ up in absurd (cc)
  by_spots (Some outer) (Some inner) e g =
      let a_list : is_list outer.label.kind ≡ true =
      sym (ap (λ x. passes is_list (option_map (λ (l : Label). l.kind) (option_map (λ (s : Spot Label). s.label) x))) e) ∙ is_a_list in
      let held_in : may_hold outer.label.kind inner.label.kind ≡ true =
      sym (ap (λ x. holds may_hold (option_map (λ (l : Label). l.kind) (option_map (λ (s : Spot Label). s.label) x)) (kind_of f q)) e
      ∙ ap (λ x. holds may_hold (Some outer.label.kind) (option_map (λ (l : Label). l.kind) (option_map (λ (s : Spot Label). s.label) x))) g)
      ∙ held.each q list up in
      let suits : is_of_kind inner.label.kind inner.label.fields ≡ true =
      sym (ap (λ x. is_suited (option_map (λ (s : Spot Label). s.label) x)) g) ∙ suited.each q in
      ap (λ x. is_some (item_number (option_map (λ (l : Label). l.fields) (option_map (λ (s : Spot Label). s.label) x)))) g
      ∙ suited-item inner.label.kind inner.label.fields (held_below outer.label.kind inner.label.kind a_list held_in) suits

-- ---- lists that stay numbered

-- nothing of a list's start, its children, their numbers and whether they are nesting has changed
pub record IsUnchanged (f g : Forest) (list : ℕ) : Type 0 where
  pub start : list_start (fields_of g list) ≡ list_start (fields_of f list)
  pub children : children_of g list ≡ children_of f list
  pub numbers : (q : ℕ) → is_among q (children_of f list) ≡ true → item_number (fields_of g q) ≡ item_number (fields_of f q)
  pub nesting : (q : ℕ) → is_among q (children_of f list) ≡ true → is_nesting g q ≡ is_nesting f q

count-agree_among : (p r : ℕ → Bool) (xs : List ℕ) → ((q : ℕ) → is_among q xs ≡ true → p q ≡ r q) → (i : ℕ) → count_by p (take i xs) ≡ count_by r (take i xs)
count-agree_among p r [] same zero = refl
count-agree_among p r [] same (suc i) = refl
count-agree_among p r (x ∷ xs) same zero = refl
count-agree_among p r (x ∷ xs) same (suc i) =
    let here : p x ≡ r x = same x (grind (arith, eqb_tells x x)) in
    let rest : count_by p (take i xs) ≡ count_by r (take i xs) = count-agree_among p r xs (λ q among. same q (grind (arith, among))) i in
    sum_by-cons (λ q. cond (p q) 1 0) x (take i xs) ∙ ap (λ b. cond b 1 0 + count_by p (take i xs)) here
    ∙ ap (λ n. cond (r x) 1 0 + n) rest ∙ sym (sum_by-cons (λ q. cond (r q) 1 0) x (take i xs))

pub stays_numbered : (f g : Forest) (list : ℕ) → IsUnchanged f g list → IsNumberedList f list → IsNumberedList g list
stays_numbered f g list u numbered i item at =
    let was_at : slice_get (children_of f list) i ≡ Some item = ap (λ xs. slice_get xs i) (sym u.children) ∙ at in
    u.numbers item (is_among-slice_get (children_of f list) item i was_at) ∙ numbered i item was_at ∙ ap (λ n. Some n) (sym (due_same))
  where
    due_same : due g list i ≡ due f list i
    due_same =
        ap (λ n. n + count_by (λ q. not (is_nesting g q)) (take i (children_of g list))) u.start
        ∙ ap (λ xs. list_start (fields_of f list) + count_by (λ q. not (is_nesting g q)) (take i xs)) u.children
        ∙ ap (λ n. list_start (fields_of f list) + n)
        (count-agree_among (λ q. not (is_nesting g q)) (λ q. not (is_nesting f q)) (children_of f list) (λ q among. ap not (u.nesting q among)) i)
