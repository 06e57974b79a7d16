-- What the edits leave of which lists are made: what is read, and whether inline children come first in each item.
use Rattle.std.proofs.Common.{◌≡◌, ◌≢◌, ◌∙◌, ℕ, ◌⊎◌, Bool, true, false, cond, eqb, List, [], ◌∷◌, ◌++◌, Option, None, Some, Ok, refl, sym, ap, subst, arith, inl, inr}
use Rattle.std.specs.Prelude.{option_map}
use Rattle.std.proofs.lemmas.Bool.Decides.{eqb_tells}
use Rattle.std.proofs.lemmas.Option.{slice_get_past}
use Rattle.lx_trees.specs.Siblings.{names_without, names_with}
use Rattle.lx_node.specs.Kinds.{is_inline, is_item, is_text}
use Rattle.lx_node.specs.declared.kind.Kind.{Kind}
use Rattle.lx_node.specs.declared.fields.Fields.{Fields}
use Rattle.lx_forest.specs.Forest.{Forest, Label}
use Rattle.lx_forest.specs.Lookups.{has, label_of, kind_of, parent_of, children_of, size_of, IsForest}
use Rattle.lx_forest.specs.Edits.{with_new, take_out, put_in, CanPut}
use Rattle.lx_forest.proofs.Lookups.{label_of-with_new, kind_of-with_new, parent_of-with_new, children_of-with_new, label_of-put_in, parent_of-put_in, children_of-put_in, kind_of-take_out, children_of-take_out}
use Rattle.lx_forest.proofs.Order.{IsForest-put_in}
use Rattle.lx_forest.proofs.Within.{is_within-self}
use Rattle.lx_draft.specs.Working.{Working}
use Rattle.lx_draft.specs.Faults.{text_in}
use Rattle.lx_draft.specs.Steps.{new_step, put_step}
use Rattle.lx_draft.specs.Beside.{put_before_step}
use Rattle.lx_list.proofs.Itemless.{there_at}
use Rattle.lx_edit.specs.Edits.{remove_step}
use Rattle.lx_edit.specs.Texts.{text_or_none}
use Rattle.lx_blocks.specs.Blocks.{passes, is_at}
use Rattle.lx_edit_laws.specs.Reading.{text_at, read_below}
use Rattle.lx_edit_laws.proofs.Reading.{absent, read_without, kind_known}
use Rattle.lx_edit_laws.proofs.WrapTurns.{WentOver, was_removed as removal}
use Rattle.lx_edit_laws.proofs.WrapTold.{WentAll}
use Rattle.lx_edit_laws.proofs.WrapSteps.{was_put, was_put_before, before_below, silent}
use Rattle.lx_list_laws.specs.Reading.{stand_first, InlinesFirst, IsSoundDraft}
use Rattle.lx_list_laws.proofs.ReadOrder.{first-same, first-without, first-with}
use Rattle.lx_list_laws.proofs.ReadForests.{CameNew, came_empty}
use Rattle.lx_list_laws.proofs.ReadSound.{new_forest, is_free, sound_new}

-- ---- a new node among the children of another

-- A new node of a kind came among the children of p. Every other node has the kind that it had.
pub record IsBorn (w v : Working) (kind : Kind) (p : ℕ) (before : Option ℕ) : Type 0 where
  pub came : CameNew w.forest v.forest w.next_key p before
  pub kinds : (q : ℕ) → kind_of v.forest q ≡ cond (eqb q w.next_key) (Some kind) (kind_of w.forest q)

text_new : (f : Forest) (l : Label) (q : ℕ) → IsForest f → has l.key f ≡ false → is_text l.kind ≡ false → text_at (with_new l f) q ≡ text_at f q
text_new f l q h free mute = elim (eqb_tells q l.key) [
  | inl here ↦
      let kind : kind_of (with_new l f) q ≡ Some l.kind = grind (arith, kind_of-with_new l f q h free, here.0) in
      silent (with_new l f) q (λ found is. grind (arith, is, kind, mute)) ∙ sym (absent f q (ap (λ k. has k f) here.1 ∙ free)).text
  | inr other ↦ ap (λ o. text_or_none (text_in o)) (label_of-with_new l f q h free ∙ ap (λ b. cond b (Some l) (label_of f q)) other.0)
]

pub born : (kind : Kind) (fields : Fields) (w u v : Working) (p : ℕ) (before : Option ℕ) → IsSoundDraft w → is_text kind ≡ false → new_step kind fields w ≡ Ok u
    → CanPut p w.next_key u.forest → v.forest ≡ put_in p before w.next_key u.forest → IsBorn w v kind p before
born kind fields w u v p before s mute e can put =
    let f : Forest = w.forest in
    let n : ℕ = w.next_key in
    let h : IsForest f = s.ready.in_order in
    let l : Label = record { key = n; kind = kind; fields = fields } in
    let free : has n f ≡ false = is_free w s in
    let is : u.forest ≡ with_new l f = new_forest kind fields w u e in
    let order : IsForest u.forest = (sound_new kind fields w u s e).sound.ready.in_order in
    record {
      came = record {
        told = record {
          before = h;
          behind = subst IsForest (sym put) (IsForest-put_in p before n u.forest order can);
          texts = λ q. ap (λ x. text_at x q) put ∙ ap (λ o. text_or_none (text_in o)) (label_of-put_in p before n u.forest q order can)
              ∙ ap (λ x. text_at x q) is ∙ text_new f l q h free mute;
        };
        free = free;
        other = grind (arith, eqb_tells n p, can.outside, can.there, is_within-self u.forest n);
        up = λ q. ap (λ x. parent_of x q) put ∙ parent_of-put_in p before n u.forest q order can
            ∙ ap (cond (eqb q n) (Some p)) (ap (λ x. parent_of x q) is ∙ parent_of-with_new l f q h free);
        children = λ q. ap (λ x. children_of x q) put ∙ children_of-put_in p before n u.forest q order can
            ∙ ap (λ ks. cond (eqb q p) (names_with before (n ∷ []) ks) ks) (ap (λ x. children_of x q) is ∙ children_of-with_new l f q h free);
      };
      kinds = λ q. ap (option_map (λ (x : Label). x.kind)) (ap (λ x. label_of x q) put ∙ label_of-put_in p before n u.forest q order can)
          ∙ ap (λ x. kind_of x q) is ∙ kind_of-with_new l f q h free;
    }

-- at the end of a node's children
pub born_last : (kind : Kind) (fields : Fields) (w u v : Working) (p : ℕ) → IsSoundDraft w → is_text kind ≡ false → new_step kind fields w ≡ Ok u
    → put_step w.next_key p (size_of u.forest p) u ≡ Ok v → IsBorn w v kind p None
born_last kind fields w u v p s mute e put =
    let was = was_put w.next_key p (size_of u.forest p) u v put in
    born kind fields w u v p None s mute e was.0
    (was.1 ∙ ap (λ o. put_in p o w.next_key u.forest) (slice_get_past (children_of u.forest p) (size_of u.forest p) (omega arith)))

-- a new node changes no parent
pub parent_made : (kind : Kind) (fields : Fields) (w u : Working) (q : ℕ) → IsSoundDraft w → new_step kind fields w ≡ Ok u
    → parent_of u.forest q ≡ parent_of w.forest q
parent_made kind fields w u q s e =
    ap (λ x. parent_of x q) (new_forest kind fields w u e)
    ∙ parent_of-with_new (record { key = w.next_key; kind = kind; fields = fields }) w.forest q s.ready.in_order (is_free w s)

-- before another node
pub born_at : (kind : Kind) (fields : Fields) (w u v : Working) (other p : ℕ) → IsSoundDraft w → is_text kind ≡ false → parent_of w.forest other ≡ Some p
    → new_step kind fields w ≡ Ok u
    → put_before_step w.next_key other u ≡ Ok v → IsBorn w v kind p (Some other)
born_at kind fields w u v other p s mute up e put =
    let order : IsForest u.forest = (sound_new kind fields w u s e).sound.ready.in_order in
    let was = was_put_before w.next_key other p u v order (parent_made kind fields w u other s e ∙ up) put in
    born kind fields w u v p (Some other) s mute e was.0 was.1

pub record IsBornBefore (w v : Working) (kind : Kind) (other : ℕ) : Type 0 where
  pub parent : ℕ
  pub up : parent_of w.forest other ≡ Some parent
  pub born : IsBorn w v kind parent (Some other)

pub born_before : (kind : Kind) (fields : Fields) (w u v : Working) (other : ℕ) → IsSoundDraft w → is_text kind ≡ false → new_step kind fields w ≡ Ok u
    → put_before_step w.next_key other u ≡ Ok v → IsBornBefore w v kind other
born_before kind fields w u v other s mute e put =
    let below = before_below w.next_key other u v put in
    let up : parent_of w.forest other ≡ Some below.0 = sym (parent_made kind fields w u other s e) ∙ below.1 in
    record { parent = below.0; up = up; born = born_at kind fields w u v other below.0 s mute up e put }

-- where one test of kinds says what another does, it does so of a node
pub so_at : (test other : Kind → Bool) (t : Bool) → ((kind : Kind) → test kind ≡ true → other kind ≡ t) → (f : Forest) (k : ℕ) → is_at test f k ≡ true
    → is_at other f k ≡ t
so_at test other t so f k is = let kind = kind_known f k (there_at test f k is) in ap (passes other) kind.1 ∙ so kind.0 (sym (ap (passes test) kind.1) ∙ is)

-- a key that isn't there is of no kind
absent_at : (test : Kind → Bool) (f : Forest) (k : ℕ) → has k f ≡ false → is_at test f k ≡ false
absent_at test f k free = grind (arith, free, there_at test f k)

-- whether a node is of a kind stays, where the new one isn't
pub kinds_born : (test : Kind → Bool) (w v : Working) (kind : Kind) (p : ℕ) (before : Option ℕ) → IsBorn w v kind p before → test kind ≡ false → (q : ℕ)
    → is_at test v.forest q ≡ is_at test w.forest q
kinds_born test w v kind p before b clear q =
    ap (passes test) (b.kinds q) ∙ grind (arith, clear, absent_at test w.forest w.next_key b.came.free, eqb_tells q w.next_key)

-- Inline children come first in each item then: where the new node, which isn't inline, has no item as its parent, or comes
-- before a node that isn't inline.
pub first_born : (w v : Working) (kind : Kind) (p : ℕ) (before : Option ℕ) → IsBorn w v kind p before → is_inline kind ≡ false
    → (is_at is_item w.forest p ≡ false) ⊎ ((o : ℕ) × (before ≡ Some o) × (is_at is_inline w.forest o ≡ false)) → InlinesFirst w.forest → InlinesFirst v.forest
first_born w v kind p before b clear place first = record { each = λ x item. by_key x item (eqb_tells x w.next_key) } where
  same : (q : ℕ) → is_at is_inline v.forest q ≡ is_at is_inline w.forest q
  same q = kinds_born is_inline w v kind p before b clear q

  there : (x : ℕ) → is_at is_item w.forest x ≡ true
      → stand_first (is_at is_inline w.forest) (cond (eqb x p) (names_with before (w.next_key ∷ []) (children_of w.forest x)) (children_of w.forest x)) ≡ true
  there x item = elim place [
    | inl none ↦ grind (arith, none, item, first.each x item, eqb_tells x p)
    | inr (o, is, other) ↦
        let born =
        first-with (is_at is_inline w.forest) w.next_key o (children_of w.forest x) (absent_at is_inline w.forest w.next_key b.came.free) other
        (first.each x item) in
        rw is (grind (arith, born, first.each x item))
  ]

  by_key : (x : ℕ) → is_at is_item v.forest x ≡ true → ((eqb x w.next_key ≡ true) × (x ≡ w.next_key)) ⊎ ((eqb x w.next_key ≡ false) × (x ≢ w.next_key))
      → stand_first (is_at is_inline v.forest) (children_of v.forest x) ≡ true
  by_key x item (inl own) =
      ap (stand_first (is_at is_inline v.forest)) (ap (children_of v.forest) own.1 ∙ came_empty w.forest v.forest w.next_key p before b.came)
  by_key x item (inr other) =
      let was : is_at is_item w.forest x ≡ true = sym (ap (passes is_item) (b.kinds x ∙ ap (λ t. cond t (Some kind) (kind_of w.forest x)) other.0)) ∙ item in
      ap (stand_first (is_at is_inline v.forest)) (b.came.children x)
      ∙ first-same (is_at is_inline v.forest) (is_at is_inline w.forest)
      (cond (eqb x p) (names_with before (w.next_key ∷ []) (children_of w.forest x)) (children_of w.forest x)) (λ q among. same q)
      ∙ there x was

-- ---- all children of a node go to another

-- whether a node is of a kind stays
pub kinds_went : (test : Kind → Bool) (f g : Forest) (from to : ℕ) (ks : List ℕ) → WentOver f g from to ks → (q : ℕ) → is_at test g q ≡ is_at test f q
kinds_went test f g from to ks o q = ap (λ l. passes test (option_map (λ (x : Label). x.kind) l)) (o.label q)

-- Inline children come first in each item then, where they do in the node to which all went.
pub first_went : (f g : Forest) (from to : ℕ) → WentAll f g from to
    → (is_at is_item f to ≡ true → stand_first (is_at is_inline f) (children_of f to ++ children_of f from) ≡ true) → InlinesFirst f → InlinesFirst g
first_went f g from to t there first =
    record {
      each = λ x item. same (children_of g x)
          ∙ by_key x (sym (kinds_went is_item f g from to (children_of f from) t.over x) ∙ item) (eqb_tells x from) (eqb_tells x to);
    } where
      same : (xs : List ℕ) → stand_first (is_at is_inline g) xs ≡ stand_first (is_at is_inline f) xs
      same xs = first-same (is_at is_inline g) (is_at is_inline f) xs (λ q among. kinds_went is_inline f g from to (children_of f from) t.over q)

      by_key : (x : ℕ) → is_at is_item f x ≡ true → ((eqb x from ≡ true) × (x ≡ from)) ⊎ ((eqb x from ≡ false) × (x ≢ from))
          → ((eqb x to ≡ true) × (x ≡ to)) ⊎ ((eqb x to ≡ false) × (x ≢ to)) → stand_first (is_at is_inline f) (children_of g x) ≡ true
      by_key x item (inl own) place = ap (stand_first (is_at is_inline f)) (ap (children_of g) own.1 ∙ t.none)
      by_key x item (inr away) (inl own) =
          ap (stand_first (is_at is_inline f)) (ap (children_of g) own.1 ∙ t.over.there) ∙ there (ap (is_at is_item f) (sym own.1) ∙ item)
      by_key x item (inr away) (inr other) = ap (stand_first (is_at is_inline f)) (t.over.others x away.1 other.1) ∙ first.each x item

-- ---- removed

-- what is left where a tree in which nothing is read was removed
pub record WasRemoved (f g : Forest) : Type 0 where
  pub read : (b : ℕ) → read_below g b ≡ read_below f b
  pub first : InlinesFirst f → InlinesFirst g

first_out : (f : Forest) (k : ℕ) → IsForest f → InlinesFirst f → InlinesFirst (take_out k f)
first_out f k h first = record {
  each = λ x item.
      let was : is_at is_item f x ≡ true = sym (ap (passes is_item) (kind_of-take_out k f x h)) ∙ item in
      ap (stand_first (is_at is_inline (take_out k f))) (children_of-take_out k f x h)
      ∙ first-same (is_at is_inline (take_out k f)) (is_at is_inline f) (names_without k (children_of f x))
      (λ q among. ap (passes is_inline) (kind_of-take_out k f q h))
      ∙ first-without (is_at is_inline f) k (children_of f x) (first.each x was);
}

pub was_removed : (k : ℕ) (w v : Working) → IsForest w.forest → read_below w.forest k ≡ [] → remove_step k w ≡ Ok v → WasRemoved w.forest v.forest
was_removed k w v h silent e = removal WasRemoved (record {
  self = λ f. record { read = λ b. refl; first = λ x. x };
  then = λ f g h a b. record { read = λ q. b.read q ∙ a.read q; first = λ x. b.first (a.first x) };
  out = λ k f h silent. record { read = read_without f k h silent; first = first_out f k h };
}) k w v h silent e
