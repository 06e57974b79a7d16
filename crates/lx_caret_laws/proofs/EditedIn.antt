-- A piece of a text is replaced: what is read in each element around it.
use Rattle.lx_blocks.specs.Blocks.{is_at, passes}
use Rattle.lx_caret_laws.proofs.InPlace.{IsIn, OnlyAt, first_place, is_spliced, keys-level, of_equals, read_above, read_elsewhere}
use Rattle.lx_caret_laws.proofs.ReadLevels.{read-leaf}
use Rattle.lx_caret_laws.specs.Carets.{OnlyReads}
use Rattle.lx_caret_laws.specs.Reading.{ReadsBetween, place_along, place_in, read_in, said}
use Rattle.lx_caret.proofs.Lies.{text_at}
use Rattle.lx_draft.proofs.Touched.{is_some-kind_of}
use Rattle.lx_draft.specs.Faults.{text_in}
use Rattle.lx_draft.specs.Selecting.{text_of}
use Rattle.lx_edit.specs.Edits.{text_point}
use Rattle.lx_edit_laws.proofs.Reading.{childless_text, spread}
use Rattle.lx_forest.proofs.Within.{is_within-self}
use Rattle.lx_forest.specs.Forest.{Forest, Label}
use Rattle.lx_forest.specs.Lookups.{IsForest, IsHeld, children_of, has, is_within, keys_within, kind_of, label_of}
use Rattle.lx_node.specs.Kinds.{is_element, may_hold}
use Rattle.lx_node.specs.declared.cause.Point.{Point}
use Rattle.lx_node.specs.declared.fields.TextFields.{TextFields}
use Rattle.lx_node.specs.declared.kind.Kind.TheVariants as kinds
use Rattle.lx_node.specs.declared.kind.Kind.{Kind}
use Rattle.lx_text.proofs.Places.{length-append, offset_is}
use Rattle.lx_text.proofs.Told.{offset_at, piece-length, piece_of, pieces-whole}
use Rattle.lx_text.specs.Texts.{front_of, is_offset, rest_of, slice_fault, slice_of, spliced_text, text_length}
use Rattle.lx_trees.specs.Spots.{Spot, children_at}
use Rattle.std.proofs.Common.{List, None, Option, Some, [], ap, arith, cond, eqb, false, inl, inr, option_map, refl, sym, true, ℕ, ◌++◌, ◌+◌, ◌∙◌, ◌∷◌, ◌≡◌, ◌≢◌, ◌≤◌, ◌⊎◌}
use Rattle.std.proofs.lemmas.Bool.Decides.{eqb_tells}
use Rattle.std.specs.Prelude.{is_some}

-- ---- elements

-- an element isn't a text
pub apart_from : (f : Forest) (k b : ℕ) → kind_of f k ≡ Some kinds.Text → is_at is_element f b ≡ true → b ≢ k
unfolding is_element
apart_from f k b text e same = let bad : false ≡ true = sym (ap (passes is_element) (ap (kind_of f) same ∙ text)) ∙ e in absurd (cc)

pub there_by : (f : Forest) (b : ℕ) → is_at is_element f b ≡ true → has b f ≡ true
there_by f b e = by_kind (kind_of f b) refl e where
  by_kind : (o : Option Kind) → kind_of f b ≡ o → passes is_element o ≡ true → has b f ≡ true
  by_kind None is e = absurd (cc)
  by_kind (Some kind) is e = sym (is_some-kind_of f b) ∙ ap is_some is

-- ---- between two places

-- what holds of places at which a piece is replaced
pub record Around (n m : ℕ) (new old now : List ℕ) : Type 0 where
  pub first : is_offset n old ≡ true
  pub second : is_offset m old ≡ true
  pub order : n ≤ m
  pub is : now ≡ front_of n old ++ new ++ rest_of m old

pub around_it : (n m : ℕ) (new old now : List ℕ) → IsIn n m new old now → Around n m new old now
unfolding spliced_text
around_it n m new old now i = record {
  first = first_place n m new old now i;
  second = offset_at m (i.front ++ i.gone) i.back old i.old_is i.end;
  order = omega (arith, i.start, i.end, length-append i.front i.gone);
  is = is_spliced n m new old now i;
}

-- ---- in a text

-- a text with a piece replaced
pub piece_in : (from to : ℕ) (new text : List ℕ) → slice_fault text from to ≡ None
    → IsIn from to new text (front_of from text ++ new ++ rest_of to text)
piece_in from to new text piece =
    let p = piece_of from to text piece in
    record {
      front = front_of from text;
      gone = slice_of from to text;
      back = rest_of to text;
      old_is = sym (pieces-whole from to text piece);
      now_is = refl;
      start = offset_is from text p.first;
      end = omega (arith, length-append (front_of from text) (slice_of from to text), offset_is from text p.first, piece-length from to text p);
    }

-- the place of a point on a leaf
pub place_leaf : (f : Forest) (k at : ℕ) → IsForest f → has k f ≡ true → children_of f k ≡ [] → place_in f k (text_point k at) ≡ at
place_leaf f k at h there none =
    let keys : keys_within f k ≡ k ∷ [] = keys-level f k h there ∙ ap (λ cs. k ∷ spread (keys_within f) cs) none in
    let own : eqb k k ≡ true = grind (arith, eqb_tells k k) in
    ap (place_along f (text_point k at)) keys ∙ ap (λ t. cond t at (text_length (said f k) + 0)) own

-- what is said elsewhere, and which children are there
says_by : (f g : Forest) (k : ℕ) (now : List ℕ) → OnlyReads k now f g → (x : ℕ) → x ≢ k → said g x ≡ said f x
says_by f g k now only x other = ap (λ s. text_of (option_map (λ (l : Label). l.fields) (option_map (λ (y : Spot Label). y.label) s)))
    (only.others x other)

pub edited_at : (f g : Forest) (k : ℕ) (now : List ℕ) → IsForest f → IsForest g → has k f ≡ true → OnlyReads k now f g → OnlyAt f g k k
edited_at f g k now h j there only =
    let own : is_within f k k ≡ true = is_within-self f k ∙ there in
    let apart : (x : ℕ) → (is_within f x k ≡ false) ⊎ (is_within f k x ≡ false) → x ≢ k =
    λ x out same. absurd (elim out [ inl a ↦ grind (arith, a, same, own) | inr b ↦ grind (arith, b, same, own) ]) in
    record {
      ordered = h;
      order_after = j;
      there = there;
      holds = own;
      says = λ x so out. says_by f g k now only x (apart x out);
      children = λ x so out. ap children_at (only.others x (apart x out));
    }

-- a text with a piece replaced, and what is read around it
pub edited_around : (f g : Forest) (k from to : ℕ) (new : List ℕ) (t : TextFields) → IsForest f → IsForest g → IsHeld may_hold f
    → text_in (label_of f k) ≡ Some t → slice_fault t.text from to ≡ None → OnlyReads k (front_of from t.text ++ new ++ rest_of to t.text) f g
    → ReadsBetween (text_point k from) (text_point k to) new f g
edited_around f g k from to new t h j held here piece only =
    let now : List ℕ = front_of from t.text ++ new ++ rest_of to t.text in
    let text = text_at f k t here in
    let there : has k f ≡ true = sym (is_some-kind_of f k) ∙ ap is_some text.kind_is in
    let leaf : children_of f k ≡ [] = childless_text f k h held text.kind_is in
    let o = edited_at f g k now h j there only in
    let p : Point = text_point k from in
    let q : Point = text_point k to in
    let old_is : read_in f k ≡ t.text = read-leaf f k h leaf ∙ ap text_of text.fields_are in
    let now_is : read_in g k ≡ now =
    read-leaf g k j (only.children ∙ leaf) ∙ ap (λ l. text_of (option_map (λ (l : Label). l.fields) l)) (only.text t here) in
    let inside : IsIn (place_in f k p) (place_in f k q) new (read_in f k) (read_in g k) =
    of_equals from to _ _ new t.text now _ _ (place_leaf f k from h there leaf) (place_leaf f k to h there leaf) old_is now_is
    (piece_in from to new t.text piece) in
    let all : (b : ℕ) → is_within f b k ≡ true → Around (place_in f b p) (place_in f b q) new (read_in f b) (read_in g b) =
    λ b over. around_it _ _ new _ _ (read_above f g k k o p q new refl refl inside b over) in
    record {
      places = λ b element first second. let a = all b first in (a.first, a.second, a.order);
      around = λ b element first second. (all b first).is;
      elsewhere = λ b element first second. read_elsewhere f g k k o b (there_by f b element) first;
      aside = record {
        each = λ x so first second.
            let other : x ≢ k = λ same. absurd (grind (arith, first, same, is_within-self f k, there)) in
            (ap (option_map (λ (y : Spot Label). y.label)) (only.others x other), ap children_at (only.others x other));
      };
    }
