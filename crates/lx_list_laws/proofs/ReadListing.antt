-- Lines that are made items, and lists that get another type, read the same.
use Rattle.std.proofs.Common.{◌≡◌, ◌≢◌, ◌∙◌, ℕ, Bool, true, false, cond, eqb, List, [], ◌∷◌, ◌++◌, Option, None, Some, Result, Ok, refl, sym, ap, ap₂, subst, arith, inl, inr}
use Rattle.std.specs.Prelude.{option_map}
use Rattle.std.specs.List.{list_all}
use Rattle.std.proofs.lemmas.Bool.Decides.{eqb_tells}
use Rattle.lx_trees.specs.Siblings.{NoRepeats, names_with, previous_in}
use Rattle.lx_node.specs.Kinds.{is_inline, is_item, is_list, is_text}
use Rattle.lx_node.specs.declared.kind.Kind.{Kind}
use Rattle.lx_node.specs.declared.kind.Kind.TheVariants.{Item, List as ListKind}
use Rattle.lx_node.specs.declared.kind.Kind.TheVariants as kinds
use Rattle.lx_node.specs.declared.kind.ListType.{ListType}
use Rattle.lx_node.specs.declared.kind.ListType.TheVariants.{Check}
use Rattle.lx_node.specs.declared.fields.Fields.{Fields}
use Rattle.lx_node.specs.declared.fields.Fields.TheVariants as fields
use Rattle.lx_node.specs.declared.fields.ElementFields.{ElementFields}
use Rattle.lx_node.specs.declared.cause.Cause.{Cause}
use Rattle.lx_forest.specs.Forest.{Forest, Label}
use Rattle.lx_forest.specs.Lookups.{label_of, kind_of, fields_of, parent_of, children_of, children_below, size_of, previous_of, IsForest}
use Rattle.lx_forest.specs.Edits.{with_fields, fields_at}
use Rattle.lx_forest.proofs.Edits.{parent_of-root}
use Rattle.lx_forest.proofs.Lookups.{has-child, key-label_of, NoRepeats-children_of, parent_of-self, label_of-with_fields, kind_of-with_fields, children_of-with_fields}
use Rattle.lx_forest.proofs.Walks.{cases_option}
use Rattle.lx_draft.specs.Working.{Working}
use Rattle.lx_draft.specs.Faults.{after, text_in, text_fields}
use Rattle.lx_draft.specs.Steps.{new_step, put_step}
use Rattle.lx_draft.specs.Beside.{put_before_step}
use Rattle.lx_draft.proofs.Gaps.{child_of}
use Rattle.lx_edit.specs.InTurn.{in_turn}
use Rattle.lx_edit.specs.Edits.{children_step, remove_step}
use Rattle.lx_edit.specs.Texts.{text_or_none}
use Rattle.lx_edit.proofs.Climbed.{first_part}
use Rattle.lx_edit.proofs.Paths.{put_before_path, children_path, remove_path}
use Rattle.lx_blocks.specs.Blocks.{passes, is_at}
use Rattle.lx_list.specs.Listing.{is_list_of, item_made, list_made, itemized, has_mark, remarked, retyped_with, retyped, retyped_above, listed}
use Rattle.lx_list.specs.Making.{list_fields, item_fields, unchecked, element_fields_changed, set_changed, change_step, with_extra_changed, checked_as, check_item}
use Rattle.lx_list.proofs.Above.{list_above}
use Rattle.lx_edit_laws.specs.Reading.{text_at, read_below}
use Rattle.lx_edit_laws.proofs.Reading.{read-leaf}
use Rattle.lx_edit_laws.proofs.WrapTrees.{own}
use Rattle.lx_edit_laws.proofs.WrapTold.{WentAll, went_all}
use Rattle.lx_edit_laws.proofs.WrapLists.{names_with-end}
use Rattle.lx_edit_laws.proofs.WrapSteps.{was_same}
use Rattle.lx_list_laws.specs.Reading.{stand_first, InlinesFirst, IsSoundDraft, ReadsAs}
use Rattle.lx_list_laws.proofs.ReadOrder.{all-same, first-same, first-all, StandBeside, beside-previous, beside-with, beside-apart}
use Rattle.lx_list_laws.proofs.ReadForests.{reads_alike, CameNew, came_here, came_elsewhere, came_empty, read_came}
use Rattle.lx_list_laws.proofs.ReadLines.{list_tells}
use Rattle.lx_list_laws.proofs.ReadOver.{both_up, GoesBackIn, up_item, read_back, read_back_in}
use Rattle.lx_list_laws.proofs.ReadSound.{StaysSound, stays_then, stays_selected, set_forest, sound_path}
use Rattle.lx_list_laws.proofs.ReadEdits.{IsBorn, born_last, born_before, so_at, kinds_born, first_born, first_went, was_removed}

-- ---- what an edit keeps

-- what became of a draft is sound and reads the same, and inline children come first in each item if they did
pub record Keeps (w v : Working) : Type 0 where
  pub stays : StaysSound w v
  pub first : InlinesFirst w.forest → InlinesFirst v.forest
  pub read : ReadsAs w v

pub keeps_then : (u v w : Working) → Keeps u v → Keeps v w → Keeps u w
keeps_then u v w a b = record { stays = stays_then u v w a.stays b.stays; first = λ x. b.first (a.first x); read = b.read ∙ a.read }

pub keeps_same : (w v : Working) → IsSoundDraft w → ◌≡◌ {A = Result Working Cause} (Ok w) (Ok v) → Keeps w v
keeps_same w v s e = subst (Keeps w) (was_same w v e) (record { stays = stays_selected w w s refl refl; first = λ x. x; read = refl })

-- where a test chooses between two
pub keeps_either : (t : Bool) (one other : Result Working Cause) (w v : Working) → (t ≡ true → one ≡ Ok v → Keeps w v) → (t ≡ false → other ≡ Ok v → Keeps w v)
    → cond t one other ≡ Ok v → Keeps w v
keeps_either true one other w v first second e = first refl e
keeps_either false one other w v first second e = second refl e

-- a step for each of a list
pub keeps_each : (step : ℕ → Working → Result Working Cause) → ((k : ℕ) (w v : Working) → IsSoundDraft w → step k w ≡ Ok v → Keeps w v)
    → (ks : List ℕ) (w v : Working) → IsSoundDraft w → in_turn step ks w ≡ Ok v → Keeps w v
unfolding in_turn
keeps_each step each [] w v s e = keeps_same w v s e
keeps_each step each (k ∷ ks) w v s e =
    let a = first_part (step k w) (in_turn step ks) v e in
    let one = each k w a.0 s a.1 in
    keeps_then w a.0 v one (keeps_each step each ks a.0 v one.stays.sound a.2)

not_root : (f : Forest) (k p : ℕ) → IsForest f → parent_of f k ≡ Some p → 0 ≢ k
not_root f k p h up same = absurd (grind (arith, up, same, parent_of-root f h))

-- ---- a line becomes an item

item_kind : (is_text Item ≡ false) × (is_inline Item ≡ false)
unfolding is_text is_inline
item_kind = (refl, refl)

-- a line right after a list, where all children of the line are inline
pub record MayBeItem (f : Forest) (line list : ℕ) : Type 0 where
  pub parent : ℕ
  pub beside : StandBeside (children_of f parent) list line
  pub no_item : is_at is_item f list ≡ false
  pub inline : list_all (is_at is_inline f) (children_of f line) ≡ true

-- the new item comes last in the list, and nothing else has changed
record HasItem (f u : Forest) (p line list item : ℕ) : Type 0 where
  beside : StandBeside (children_of u p) list line
  last : children_of u list ≡ children_of f list ++ (item ∷ [])
  leaf : children_of u item ≡ []
  kept : children_of u line ≡ children_of f line
  apart : line ≢ item

has_item : (f u : Forest) (line list item : ℕ) (m : MayBeItem f line list) → CameNew f u item list None → HasItem f u m.parent line list item
has_item f u line list item m c =
    let h : IsForest f = c.told.before in
    let up = both_up f m.parent list line h m.beside in
    let two : eqb list line ≡ false =
    (beside-apart m.beside.front m.beside.rest list line (subst NoRepeats m.beside.is (NoRepeats-children_of f m.parent h))).two in
    let elsewhere : (q : ℕ) → eqb q list ≡ false → children_of u q ≡ children_of f q = came_elsewhere f u item list None c in
    let here : children_of u m.parent ≡ children_of f m.parent =
    elsewhere m.parent (grind (arith, up.0, parent_of-self f list h, eqb_tells list m.parent, eqb_tells m.parent list)) in
    record {
      beside = record { front = m.beside.front; rest = m.beside.rest; is = here ∙ m.beside.is };
      last = came_here f u item list None c ∙ names_with-end item (children_of f list);
      leaf = came_empty f u item list None c;
      kept = elsewhere line (grind (arith, two, eqb_tells list line, eqb_tells line list));
      apart = λ same. absurd (grind (arith, same, has-child f line m.parent up.1, c.free));
    }

-- it takes what is in the line
item_filled : (f u x : Forest) (line list item : ℕ) (m : MayBeItem f line list) → CameNew f u item list None → WentAll u x line item
    → read_below x 0 ≡ read_below u 0
item_filled f u x line list item m c t =
    let i = has_item f u line list item m c in
    let h : IsForest u = c.told.behind in
    let back : GoesBackIn u x m.parent list line item = record {
      back = record { in_order = h; all = t; beside = i.beside };
      ahead = children_of f list;
      last = i.last;
      leaf = i.leaf;
    } in
    let up = both_up u m.parent list line h i.beside in
    read_back_in u x m.parent list line item back 0 (not_root u list m.parent h up.0) (not_root u line m.parent h up.1)
    (not_root u item list h (up_item u x m.parent list line item back))

item_first : (w u : Working) (x : Forest) (line list : ℕ) (m : MayBeItem w.forest line list) (b : IsBorn w u Item list None)
    → WentAll u.forest x line w.next_key → InlinesFirst w.forest → InlinesFirst x
item_first w u x line list m b t first =
    let i = has_item w.forest u.forest line list w.next_key m b.came in
    let same : (q : ℕ) → is_at is_inline u.forest q ≡ is_at is_inline w.forest q = λ q. kinds_born is_inline w u Item list None b item_kind.1 q in
    first_went u.forest x line w.next_key t (λ item.
    ap₂ (λ xs ys. stand_first (is_at is_inline u.forest) (xs ++ ys)) i.leaf i.kept
    ∙ first-same (is_at is_inline u.forest) (is_at is_inline w.forest) (children_of w.forest line) (λ q among. same q)
    ∙ first-all (is_at is_inline w.forest) (children_of w.forest line) m.inline) (first_born w u Item list None b item_kind.1 (inl m.no_item) first)

pub keeps_item : (type : ListType) (line list : ℕ) (w v : Working) → IsSoundDraft w → MayBeItem w.forest line list → item_made type line list w ≡ Ok v → Keeps w v
unfolding item_made
keeps_item type line list w v s m e =
    let item : ℕ = w.next_key in
    let a = first_part (new_step Item (item_fields (unchecked type)) w)
    (λ o. after (put_step item list (size_of o.forest list) o) (λ u. after (children_step line item u) (remove_step line))) v e in
    let b = first_part (put_step item list (size_of a.0.forest list) a.0) (λ u. after (children_step line item u) (remove_step line)) v a.2 in
    let c = first_part (children_step line item b.0) (remove_step line) v b.2 in
    let made = sound_path.new Item (item_fields (unchecked type)) w a.0 s a.1 in
    let put = stays_then w a.0 b.0 made (sound_path.put item list (size_of a.0.forest list) a.0 b.0 tt made.sound b.1) in
    let went = stays_then w b.0 c.0 put (children_path sound_path line item b.0 c.0 put.sound (λ k among. tt) c.1) in
    let left = stays_then w c.0 v went (remove_path sound_path line c.0 v went.sound c.2) in
    let born = born_last Item (item_fields (unchecked type)) w a.0 b.0 list s item_kind.0 a.1 b.1 in
    let i = has_item w.forest b.0.forest line list item m born.came in
    let all = went_all line item b.0 c.0 put.sound.ready.in_order i.apart c.1 in
    let mute : text_at c.0.forest line ≡ [] = ap (λ l. text_or_none (text_in l)) (all.over.label line) ∙ all.silent in
    let gone = was_removed line c.0 v went.sound.ready.in_order (read-leaf c.0.forest line went.sound.ready.in_order all.none ∙ mute) c.2 in
    record {
      stays = left;
      first = λ x. gone.first (item_first w b.0 c.0.forest line list m born all x);
      read = gone.read 0 ∙ item_filled w.forest b.0.forest c.0.forest line list item m born.came all ∙ read_came w.forest b.0.forest item list None born.came 0;
    }

-- ---- of a new list

list_kind : (type : ListType) → (is_text (ListKind type) ≡ false) × (is_inline (ListKind type) ≡ false) × (is_item (ListKind type) ≡ false)
unfolding is_text is_inline is_item
list_kind type = (refl, refl, refl)

-- a new list before a node: it has no children, and the node those that it had
record HasList (w v : Working) (type : ListType) (p other : ℕ) : Type 0 where
  beside : StandBeside (children_of v.forest p) w.next_key other
  leaf : children_of v.forest w.next_key ≡ []
  children : children_of v.forest other ≡ children_of w.forest other
  kind : kind_of v.forest w.next_key ≡ Some (ListKind type)
  apart : other ≢ w.next_key

has_list : (w v : Working) (type : ListType) (p other : ℕ) → parent_of w.forest other ≡ Some p → IsBorn w v (ListKind type) p (Some other)
    → HasList w v type p other
has_list w v type p other up b =
    let f : Forest = w.forest in
    let n : ℕ = w.next_key in
    let h : IsForest f = b.came.told.before in
    let elsewhere : (q : ℕ) → eqb q p ≡ false → children_of v.forest q ≡ children_of f q = came_elsewhere f v.forest n p (Some other) b.came in
    let here : children_of v.forest p ≡ names_with (Some other) (n ∷ []) (children_of f p) = came_here f v.forest n p (Some other) b.came in
    let at = beside-with n other (children_of f p) (child_of f p other h up) in
    record {
      beside = record { front = at.front; rest = at.rest; is = here ∙ at.is };
      leaf = came_empty f v.forest n p (Some other) b.came;
      children = elsewhere other (grind (arith, up, parent_of-self f other h, eqb_tells other p));
      kind = b.kinds n ∙ ap (λ t. cond t (Some (ListKind type)) (kind_of f n)) (own n);
      apart = λ same. absurd (grind (arith, same, has-child f other p up, b.came.free));
    }

pub keeps_list : (type : ListType) (line : ℕ) (w v : Working) → IsSoundDraft w → is_at is_inline w.forest line ≡ false
    → list_all (is_at is_inline w.forest) (children_of w.forest line) ≡ true
    → list_made type line w ≡ Ok v → Keeps w v
unfolding list_made
keeps_list type line w v s clear inline e =
    let list : ℕ = w.next_key in
    let a = first_part (new_step (ListKind type) list_fields w) (λ o. after (put_before_step list line o) (item_made type line list)) v e in
    let b = first_part (put_before_step list line a.0) (item_made type line list) v a.2 in
    let made = sound_path.new (ListKind type) list_fields w a.0 s a.1 in
    let put = stays_then w a.0 b.0 made (put_before_path sound_path list line tt a.0 b.0 made.sound b.1) in
    let born = born_before (ListKind type) list_fields w a.0 b.0 line s (list_kind type).0 a.1 b.1 in
    let l = has_list w b.0 type born.parent line born.up born.born in
    let same : (q : ℕ) → is_at is_inline b.0.forest q ≡ is_at is_inline w.forest q =
    λ q. kinds_born is_inline w b.0 (ListKind type) born.parent (Some line) born.born (list_kind type).1 q in
    let may : MayBeItem b.0.forest line list = record {
      parent = born.parent;
      beside = l.beside;
      no_item = ap (passes is_item) l.kind ∙ (list_kind type).2;
      inline =
          ap (list_all (is_at is_inline b.0.forest)) l.children
          ∙ all-same (is_at is_inline b.0.forest) (is_at is_inline w.forest) (children_of w.forest line) (λ q among. same q) ∙ inline;
    } in
    let rest = keeps_item type line list b.0 v put.sound may b.2 in
    record {
      stays = stays_then w b.0 v put rest.stays;
      first = λ x. rest.first (first_born w b.0 (ListKind type) born.parent (Some line) born.born (list_kind type).1 (inr (line, refl, clear)) x);
      read = rest.read ∙ read_came w.forest b.0.forest list born.parent (Some line) born.born.came 0;
    }

list_of_no_item : (type : ListType) (kind : Kind) → is_list_of type kind ≡ true → is_item kind ≡ false
unfolding is_item
list_of_no_item type (ListKind found) e = refl
list_of_no_item type other e = absurd (cc)

-- the list before a line
before_in : (f : Forest) (line list : ℕ) → previous_of f line ≡ Some list → (p : ℕ) × StandBeside (children_of f p) list line
before_in f line list e =
    elim (cases_option (parent_of f line)) [
      | inl top ↦ absurd (grind (arith, e, top))
      | inr (p, up) ↦ (p, beside-previous (children_of f p) line list (sym (ap (λ o. previous_in (children_below f o) line) up) ∙ e))
    ]

pub keeps_itemized : (type : ListType) (line : ℕ) (o : Option ℕ) (w v : Working) → IsSoundDraft w → is_at is_inline w.forest line ≡ false
    → list_all (is_at is_inline w.forest) (children_of w.forest line) ≡ true
    → previous_of w.forest line ≡ o → itemized type line o w ≡ Ok v → Keeps w v
keeps_itemized type line None w v s clear inline at e = keeps_list type line w v s clear inline e
keeps_itemized type line (Some list) w v s clear inline at e =
    keeps_either (is_at (is_list_of type) w.forest list) (item_made type line list w) (list_made type line w) w v (λ is e.
    let found = before_in w.forest line list at in
    let no_item = so_at (is_list_of type) is_item false (list_of_no_item type) w.forest list is in
    keeps_item type line list w v s (record { parent = found.0; beside = found.1; no_item = no_item; inline = inline }) e)
    (λ is e. keeps_list type line w v s clear inline e) e

-- ---- check marks

-- the same fields with a change of what only elements have give the same text
changed_silent : (change : ElementFields → ElementFields) (kind : Kind) (x : Fields)
    → text_or_none (text_fields kind (element_fields_changed change x)) ≡ text_or_none (text_fields kind x)
changed_silent change kinds.Text (fields.Element element) = refl
changed_silent change kind (fields.Element element) = refl
changed_silent change kind other = refl

set_text : (change : ElementFields → ElementFields) (f : Forest) (k : ℕ) (x : Fields) (q : ℕ) → fields_of f k ≡ Some x
    → text_at (with_fields k (element_fields_changed change x) f) q ≡ text_at f q
set_text change f k x q is =
    ap (λ o. text_or_none (text_in o)) (label_of-with_fields k (element_fields_changed change x) f q) ∙ by_label (label_of f q) refl where
      by_label : (o : Option Label) → label_of f q ≡ o → text_or_none (text_in (option_map (fields_at k (element_fields_changed change x)) o)) ≡ text_or_none (text_in o)
      by_label None at = refl
      by_label (Some l) at = elim (eqb_tells l.key k) [
        | inl here ↦
            let same : Some l.fields ≡ Some x =
            sym (ap (option_map (λ (y : Label). y.fields)) at) ∙ ap (fields_of f) (sym (key-label_of f q l at) ∙ here.1) ∙ is in
            rw here.0 (changed_silent change l.kind x ∙ grind (arith, same))
        | inr other ↦ rw other.0 refl
      ]

keeps_change : (change : ElementFields → ElementFields) (k : ℕ) (w v : Working) → IsSoundDraft w → change_step change k w ≡ Ok v → Keeps w v
unfolding change_step
keeps_change change k w v s e = by_fields (fields_of w.forest k) refl e where
  by_fields : (o : Option Fields) → fields_of w.forest k ≡ o → set_changed change k o w ≡ Ok v → Keeps w v
  by_fields None is e = keeps_same w v s e
  by_fields (Some x) is e =
      let f : Forest = w.forest in
      let y : Fields = element_fields_changed change x in
      let here : v.forest ≡ with_fields k y f = set_forest k y w v e in
      let stays = sound_path.set k y w v s e in
      let kind : (q : ℕ) → kind_of v.forest q ≡ kind_of f q = λ q. ap (λ g. kind_of g q) here ∙ kind_of-with_fields k y f q in
      let children : (q : ℕ) → children_of v.forest q ≡ children_of f q = λ q. ap (λ g. children_of g q) here ∙ children_of-with_fields k y f q in
      record {
        stays = stays;
        first = λ first. record {
          each = λ item is. ap (stand_first (is_at is_inline v.forest)) (children item)
              ∙ first-same (is_at is_inline v.forest) (is_at is_inline f) (children_of f item) (λ q among. ap (passes is_inline) (kind q))
              ∙ first.each item (sym (ap (passes is_item) (kind item)) ∙ is);
        };
        read = reads_alike f v.forest (record {
          before = s.ready.in_order;
          behind = stays.sound.ready.in_order;
          texts = λ q. ap (λ g. text_at g q) here ∙ set_text change f k x q is;
        }) children 0;
      }

keeps_remarked : (type : ListType) (k : ℕ) (w v : Working) → IsSoundDraft w → remarked type k w ≡ Ok v → Keeps w v
unfolding check_item
keeps_remarked Check k w v s e =
    keeps_either (has_mark (fields_of w.forest k)) (Ok w) (check_item (Some false) k w) w v (λ is e. keeps_same w v s e)
    (λ is e. keeps_change (with_extra_changed (checked_as (Some false))) k w v s e) e
keeps_remarked other k w v s e = keeps_change (with_extra_changed (checked_as None)) k w v s e

-- ---- a list gets another type

-- what is in it goes to the new list before it
list_filled : (w u : Working) (x : Forest) (type : ListType) (p list : ℕ) → parent_of w.forest list ≡ Some p → IsBorn w u (ListKind type) p (Some list)
    → WentAll u.forest x list w.next_key → read_below x 0 ≡ read_below u.forest 0
list_filled w u x type p list up b t =
    let l = has_list w u type p list up b in
    let h : IsForest u.forest = b.came.told.behind in
    let ups = both_up u.forest p w.next_key list h l.beside in
    read_back u.forest x p list w.next_key (record { in_order = h; all = t; beside = l.beside }) 0
    (not_root u.forest w.next_key p h ups.0) (not_root u.forest list p h ups.1)

keeps_retyped_with : (type : ListType) (list : ℕ) (o : Option Fields) (w v : Working) → IsSoundDraft w → is_at is_inline w.forest list ≡ false
    → retyped_with type list o w ≡ Ok v → Keeps w v
keeps_retyped_with type list None w v s clear e = keeps_same w v s e
keeps_retyped_with type list (Some x) w v s clear e =
    let new : ℕ = w.next_key in
    let rest : Working → Result Working Cause = λ left. in_turn (remarked type) (children_of left.forest new) left in
    let a = first_part (new_step (ListKind type) x w)
    (λ o. after (put_before_step new list o) (λ put. after (children_step list new put) (λ moved. after (remove_step list moved) rest))) v e in
    let b = first_part (put_before_step new list a.0) (λ put. after (children_step list new put) (λ moved. after (remove_step list moved) rest)) v a.2 in
    let c = first_part (children_step list new b.0) (λ moved. after (remove_step list moved) rest) v b.2 in
    let d = first_part (remove_step list c.0) rest v c.2 in
    let made = sound_path.new (ListKind type) x w a.0 s a.1 in
    let put = stays_then w a.0 b.0 made (put_before_path sound_path new list tt a.0 b.0 made.sound b.1) in
    let went = stays_then w b.0 c.0 put (children_path sound_path list new b.0 c.0 put.sound (λ k among. tt) c.1) in
    let left = stays_then w c.0 d.0 went (remove_path sound_path list c.0 d.0 went.sound d.1) in
    let born = born_before (ListKind type) x w a.0 b.0 list s (list_kind type).0 a.1 b.1 in
    let l = has_list w b.0 type born.parent list born.up born.born in
    let all = went_all list new b.0 c.0 put.sound.ready.in_order l.apart c.1 in
    let mute : text_at c.0.forest list ≡ [] = ap (λ o. text_or_none (text_in o)) (all.over.label list) ∙ all.silent in
    let gone = was_removed list c.0 d.0 went.sound.ready.in_order (read-leaf c.0.forest list went.sound.ready.in_order all.none ∙ mute) d.1 in
    let no_item : is_at is_item b.0.forest new ≡ false = ap (passes is_item) l.kind ∙ (list_kind type).2 in
    let up_to : Keeps w d.0 = record {
      stays = left;
      first = λ first. gone.first (first_went b.0.forest c.0.forest list new all (λ item. absurd (grind (arith, item, no_item)))
          (first_born w b.0 (ListKind type) born.parent (Some list) born.born (list_kind type).1 (inr (list, refl, clear)) first));
      read = gone.read 0 ∙ list_filled w b.0 c.0.forest type born.parent list born.up born.born all
          ∙ read_came w.forest b.0.forest new born.parent (Some list) born.born.came 0;
    } in
    keeps_then w d.0 v up_to (keeps_each (remarked type) (keeps_remarked type) (children_of d.0.forest new) d.0 v left.sound d.2)

pub keeps_retyped_above : (type : ListType) (line : ℕ) (o : Option ℕ) (w v : Working) → IsSoundDraft w → is_at is_item w.forest line ≡ true
    → parent_of w.forest line ≡ o → retyped_above type o w ≡ Ok v → Keeps w v
unfolding retyped
keeps_retyped_above type line None w v s item up e = keeps_same w v s e
keeps_retyped_above type line (Some list) w v s item up e =
    let apart : is_at is_inline w.forest list ≡ false =
    so_at is_list is_inline false (λ kind e. (list_tells kind e).1) w.forest list (list_above w.forest line list s.held item up) in
    keeps_either (is_at (is_list_of type) w.forest list) (Ok w) (retyped type list w) w v (λ is e. keeps_same w v s e)
    (λ is e. keeps_retyped_with type list (fields_of w.forest list) w v s apart e) e

-- ---- a line

pub keeps_listed : (type : ListType) (line : ℕ) (w v : Working) → IsSoundDraft w → is_at is_inline w.forest line ≡ false → listed type line w ≡ Ok v → Keeps w v
unfolding listed
keeps_listed type line w v s clear e =
    let all : Bool = list_all (is_at is_inline w.forest) (children_of w.forest line) in
    let one : Result Working Cause = itemized type line (previous_of w.forest line) w in
    keeps_either (is_at is_item w.forest line) (retyped_above type (parent_of w.forest line) w) (cond all one (Ok w)) w v
    (λ item e. keeps_retyped_above type line (parent_of w.forest line) w v s item refl e)
    (λ is e. keeps_either all one (Ok w) w v (λ inline e. keeps_itemized type line (previous_of w.forest line) w v s clear inline refl e)
    (λ is e. keeps_same w v s e) e) e
