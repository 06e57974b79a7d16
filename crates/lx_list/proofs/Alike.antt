-- Forests that are alike but for the numbers of items.
use Rattle.std.proofs.Common.{◌≡◌, ◌∙◌, ℕ, true, false, cond, List, [], ◌∷◌, Option, None, Some, refl, sym, ap, arith, inl, inr, ◌⊎◌, eqb}
use Rattle.std.specs.Prelude.{option_map}
use Rattle.std.proofs.lemmas.Bool.{cases_Bool}
use Rattle.std.proofs.lemmas.Bool.Decides.{eqb_tells}
use Rattle.lx_trees.specs.Spots.{Spot, parent_at, children_at}
use Rattle.lx_trees.specs.Siblings.{next_in, previous_in}
use Rattle.lx_node.specs.declared.kind.Kind.{Kind}
use Rattle.lx_node.specs.declared.fields.Extra.{Extra}
use Rattle.lx_node.specs.declared.fields.Extra.TheVariants as extra
use Rattle.lx_node.specs.declared.fields.Fields.{Fields}
use Rattle.lx_node.specs.declared.fields.Fields.TheVariants as fields
use Rattle.lx_forest.specs.Forest.{Forest, Label}
use Rattle.lx_forest.specs.Lookups.{spot, kind_of, fields_of, parent_of, children_of, children_below, siblings, previous_of, next_of, is_within, preorder}
use Rattle.lx_forest.specs.Edits.{with_fields, reset}
use Rattle.lx_forest.specs.Views.{unnumbered, seen_fields, kind_at, with_kind, kinds_of, viewed, view_of}
use Rattle.lx_forest.proofs.Edits.{option_map-map, option_map-agree, spot-with_fields}
use Rattle.lx_forest.proofs.Within.{is_within-with_fields}
use Rattle.lx_forest.proofs.Preorder.{preorder-with_fields}
use Rattle.lx_draft.specs.Faults.{text_in, text_fields}
use Rattle.lx_edit.specs.Texts.{if_simple, simple_at}
use Rattle.lx_list.specs.Making.{element_fields_changed, with_number, with_extra_changed}

-- where a node is, with an item's number put as 1
abbrev pub seen_label : Label → Label
seen_label l = record { key = l.key; kind = l.kind; fields = seen_fields l.fields }

abbrev pub seen_spot : Spot Label → Spot Label
seen_spot s = record { label = seen_label s.label; parent = s.parent; children = s.children }

abbrev pub seen_at : Forest → ℕ → Option (Spot Label)
seen_at f q = option_map seen_spot (spot f q)

pub record IsAlike (f g : Forest) : Type 0 where
  pub spots : (q : ℕ) → seen_at g q ≡ seen_at f q
  pub within : (a q : ℕ) → is_within g a q ≡ is_within f a q
  pub order : preorder g ≡ preorder f

pub alike-self : (f : Forest) → IsAlike f f
alike-self f = record { spots = λ q. refl; within = λ a q. refl; order = refl }

pub alike-then : (f g h : Forest) → IsAlike f g → IsAlike g h → IsAlike f h
alike-then f g h a b = record {
  spots = λ q. b.spots q ∙ a.spots q;
  within = λ k q. b.within k q ∙ a.within k q;
  order = b.order ∙ a.order;
}

-- ---- what is read from a seen spot

seen_twice-extra : (e : Extra) → unnumbered (unnumbered e) ≡ unnumbered e
seen_twice-extra extra.Plain = refl
seen_twice-extra other = refl

pub seen_twice : (o : Fields) → seen_fields (seen_fields o) ≡ seen_fields o
seen_twice (fields.Element element) = ap (λ e. fields.Element (record element { extra = e })) (seen_twice-extra element.extra)
seen_twice other = refl

parent-seen : (o : Option (Spot Label)) → parent_at (option_map seen_spot o) ≡ parent_at o
parent-seen None = refl
parent-seen (Some s) = refl

children-seen : (o : Option (Spot Label)) → children_at (option_map seen_spot o) ≡ children_at o
children-seen None = refl
children-seen (Some s) = refl

abbrev kind_in : Option (Spot Label) → Option Kind
kind_in o = option_map (λ (l : Label). l.kind) (option_map (λ (s : Spot Label). s.label) o)

kind-seen : (o : Option (Spot Label)) → kind_in (option_map seen_spot o) ≡ kind_in o
kind-seen None = refl
kind-seen (Some s) = refl

abbrev fields_in : Option (Spot Label) → Option Fields
fields_in o = option_map (λ (l : Label). l.fields) (option_map (λ (s : Spot Label). s.label) o)

fields-seen : (o : Option (Spot Label)) → fields_in (option_map seen_spot o) ≡ option_map seen_fields (fields_in o)
fields-seen None = refl
fields-seen (Some s) = refl

pub parent-alike : (f g : Forest) → IsAlike f g → (q : ℕ) → parent_of g q ≡ parent_of f q
parent-alike f g a q = sym (parent-seen (spot g q)) ∙ ap parent_at (a.spots q) ∙ parent-seen (spot f q)

pub children-alike : (f g : Forest) → IsAlike f g → (q : ℕ) → children_of g q ≡ children_of f q
children-alike f g a q = sym (children-seen (spot g q)) ∙ ap children_at (a.spots q) ∙ children-seen (spot f q)

pub kind-alike : (f g : Forest) → IsAlike f g → (q : ℕ) → kind_of g q ≡ kind_of f q
kind-alike f g a q = sym (kind-seen (spot g q)) ∙ ap kind_in (a.spots q) ∙ kind-seen (spot f q)

pub fields-alike : (f g : Forest) → IsAlike f g → (q : ℕ) → option_map seen_fields (fields_of g q) ≡ option_map seen_fields (fields_of f q)
fields-alike f g a q = sym (fields-seen (spot g q)) ∙ ap fields_in (a.spots q) ∙ fields-seen (spot f q)

below-alike : (f g : Forest) → IsAlike f g → (p : Option ℕ) → children_below g p ≡ children_below f p
below-alike f g a None = refl
below-alike f g a (Some p) = children-alike f g a p

pub siblings-alike : (f g : Forest) → IsAlike f g → (q : ℕ) → siblings g q ≡ siblings f q
siblings-alike f g a q = below-alike f g a (parent_of g q) ∙ ap (children_below f) (parent-alike f g a q)

pub next-alike : (f g : Forest) → IsAlike f g → (q : ℕ) → next_of g q ≡ next_of f q
next-alike f g a q = ap (λ xs. next_in xs q) (siblings-alike f g a q)

pub previous-alike : (f g : Forest) → IsAlike f g → (q : ℕ) → previous_of g q ≡ previous_of f q
previous-alike f g a q = ap (λ xs. previous_in xs q) (siblings-alike f g a q)

-- ---- rules see nothing of it

kind_at-alike : (f g : Forest) → IsAlike f g → (o : Option ℕ) → kind_at g o ≡ kind_at f o
kind_at-alike f g a None = refl
kind_at-alike f g a (Some k) = kind-alike f g a k

kinds-alike : (f g : Forest) → IsAlike f g → (xs : List ℕ) → kinds_of g xs ≡ kinds_of f xs
kinds-alike f g a [] = refl
kinds-alike f g a (x ∷ xs) = ap (λ k. with_kind k (kinds_of g xs)) (kind-alike f g a x) ∙ ap (with_kind (kind_of f x)) (kinds-alike f g a xs)

viewed-alike : (f g : Forest) → IsAlike f g → (q : ℕ) (s : Spot Label) → viewed g q s ≡ viewed f q s
viewed-alike f g a q s =
    ap (λ p. record
    { kind = s.label.kind; fields = seen_fields s.label.fields; parent = p; prev = kind_at g (previous_of g q); next = kind_at g (next_of g q); children = kinds_of g s.children }) (kind_at-alike f g a s.parent)
    ∙ ap (λ p. record
    { kind = s.label.kind; fields = seen_fields s.label.fields; parent = kind_at f s.parent; prev = p; next = kind_at g (next_of g q); children = kinds_of g s.children }) (kind_at-alike f g a (previous_of g q) ∙ ap (kind_at f) (previous-alike f g a q))
    ∙ ap (λ p. record
    { kind = s.label.kind; fields = seen_fields s.label.fields; parent = kind_at f s.parent; prev = kind_at f (previous_of f q); next = p; children = kinds_of g s.children }) (kind_at-alike f g a (next_of g q) ∙ ap (kind_at f) (next-alike f g a q))
    ∙ ap (λ p. record
    { kind = s.label.kind; fields = seen_fields s.label.fields; parent = kind_at f s.parent; prev = kind_at f (previous_of f q); next = kind_at f (next_of f q); children = p }) (kinds-alike f g a s.children)

viewed-seen : (f : Forest) (q : ℕ) (s : Spot Label) → viewed f q (seen_spot s) ≡ viewed f q s
viewed-seen f q s =
    ap (λ o. record
    { kind = s.label.kind; fields = o; parent = kind_at f s.parent; prev = kind_at f (previous_of f q); next = kind_at f (next_of f q); children = kinds_of f s.children }) (seen_twice s.label.fields)

view-seen : (f : Forest) (q : ℕ) → option_map (viewed f q) (seen_at f q) ≡ view_of f q
view-seen f q =
    option_map-map (viewed f q) seen_spot (spot f q)
    ∙ option_map-agree (λ (s : Spot Label). viewed f q (seen_spot s)) (viewed f q) (spot f q) (λ s e. viewed-seen f q s)

pub view-alike : (f g : Forest) → IsAlike f g → (q : ℕ) → view_of g q ≡ view_of f q
view-alike f g a q =
    option_map-agree (viewed g q) (viewed f q) (spot g q) (λ s e. viewed-alike f g a q s)
    ∙ sym (view-seen-of g) ∙ ap (option_map (viewed f q)) (a.spots q) ∙ view-seen f q
  where
    view-seen-of : (h : Forest) → option_map (viewed f q) (seen_at h q) ≡ option_map (viewed f q) (spot h q)
    view-seen-of h =
        option_map-map (viewed f q) seen_spot (spot h q)
        ∙ option_map-agree (λ (s : Spot Label). viewed f q (seen_spot s)) (viewed f q) (spot h q) (λ s e. viewed-seen f q s)

-- ---- nor does the join step

text-seen : (kind : Kind) (o : Fields) → text_fields kind (seen_fields o) ≡ text_fields kind o
text-seen kind (fields.Element element) = grind arith
text-seen kind other = refl

text_in-seen : (o : Option (Spot Label))
    → text_in (option_map (λ (s : Spot Label). s.label) (option_map seen_spot o)) ≡ text_in (option_map (λ (s : Spot Label). s.label) o)
text_in-seen None = refl
text_in-seen (Some s) = text-seen s.label.kind s.label.fields

pub simple-alike : (f g : Forest) → IsAlike f g → (q : ℕ) → simple_at g q ≡ simple_at f q
simple-alike f g a q =
    ap if_simple (sym (text_in-seen (spot g q)) ∙ ap (λ o. text_in (option_map (λ (s : Spot Label). s.label) o)) (a.spots q) ∙ text_in-seen (spot f q))

-- ---- a set of an item's number

numbered-seen : (n : ℕ) (e : Extra) → unnumbered (with_number n e) ≡ unnumbered e
numbered-seen n extra.Plain = refl
numbered-seen n other = refl

pub changed-seen : (n : ℕ) (o : Fields) → seen_fields (element_fields_changed (with_extra_changed (with_number n)) o) ≡ seen_fields o
changed-seen n (fields.Element element) = ap (λ e. fields.Element (record element { extra = e })) (numbered-seen n element.extra)
changed-seen n other = refl

reset-seen : (k q : ℕ) (new : Fields) (s : Spot Label) → ((q ≡ k) → seen_fields new ≡ seen_fields s.label.fields) → seen_spot (reset k new q s) ≡ seen_spot s
reset-seen k q new s same =
    ap (λ o. record { label = record { key = s.label.key; kind = s.label.kind; fields = o }; parent = s.parent; children = s.children })
    (seen_if (cases_Bool (eqb q k)))
  where
    seen_if : (eqb q k ≡ true) ⊎ (eqb q k ≡ false) → seen_fields (cond (eqb q k) new s.label.fields) ≡ seen_fields s.label.fields
    seen_if (inl here) = let is : q ≡ k = grind (arith, here, eqb_tells) in rw here (same is)
    seen_if (inr other) = rw other refl

pub alike-set : (f : Forest) (k : ℕ) (old new : Fields) → fields_of f k ≡ Some old → seen_fields new ≡ seen_fields old → IsAlike f (with_fields k new f)
alike-set f k old new was same = record {
  spots = λ q. ap (option_map seen_spot) (spot-with_fields k new f q) ∙ option_map-map seen_spot (reset k new q) (spot f q)
      ∙ option_map-agree (λ (s : Spot Label). seen_spot (reset k new q s)) seen_spot (spot f q) (λ s e. reset-seen k q new s (λ is. same_there q s e is));
  within = λ a q. is_within-with_fields k new f a q;
  order = preorder-with_fields k new f;
} where
  some_is : (a b : Fields) → ◌≡◌ {A = Option Fields} (Some a) (Some b) → a ≡ b
  some_is a b e = cc

  same_there : (q : ℕ) (s : Spot Label) → spot f q ≡ Some s → q ≡ k → seen_fields new ≡ seen_fields s.label.fields
  same_there q s e is =
      let there : spot f k ≡ Some s = ap (spot f) (sym is) ∙ e in
      same ∙ sym (ap seen_fields (some_is s.label.fields old (sym (ap fields_in there) ∙ was)))
