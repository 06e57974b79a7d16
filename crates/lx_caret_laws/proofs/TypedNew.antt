-- A new node that comes at a caret, such as a text that one types: what is read in each element around it.
use Rattle.lx_blocks.specs.Blocks.{is_at}
use Rattle.lx_blocks.specs.Ranges.{lies, normal_at}
use Rattle.lx_caret.proofs.Fit.{after_tells}
use Rattle.lx_caret.proofs.Lies.{both}
use Rattle.lx_caret.proofs.Parents.{characters_no_element, no_children}
use Rattle.lx_caret.specs.Adding.{add_step, is_inside, kind_around, no_room, opened, put_by}
use Rattle.lx_caret_laws.proofs.EditedIn.{Around, around_it, place_leaf, there_by}
use Rattle.lx_caret_laws.proofs.InPlace.{IsIn, OnlyAt, below_parent, keys-level, read_above, read_elsewhere, read_level}
use Rattle.lx_caret_laws.proofs.Opened.{IsOpened, opened_tells}
use Rattle.lx_caret_laws.proofs.Placed.{IsBeside, IsPlaced, in_place_of-again, label_new, put_after, put_ahead, put_placed}
use Rattle.lx_caret_laws.proofs.ReadLevels.{read-leaf, read-level, reads-same}
use Rattle.lx_caret_laws.specs.Carets.{IsSound}
use Rattle.lx_caret_laws.specs.Reading.{ReadsBetween, place_along, place_in, read_in, reads_in, said, said_by}
use Rattle.lx_draft.proofs.Gaps.{parent_here}
use Rattle.lx_draft.proofs.Touched.{is_some-kind_of}
use Rattle.lx_draft.specs.Beside.{put_before_step, put_behind_step}
use Rattle.lx_draft.specs.Faults.{after, answer}
use Rattle.lx_draft.specs.Selecting.{is_counted_in, is_place, lies_in, text_of}
use Rattle.lx_draft.specs.Steps.{new_step}
use Rattle.lx_draft.specs.Working.{Working}
use Rattle.lx_edit.specs.Edits.{element_point, text_point}
use Rattle.lx_edit_laws.proofs.Reading.{spread}
use Rattle.lx_edit_laws.specs.Reading.{in_place_of}
use Rattle.lx_forest.proofs.Lookups.{NoRepeats-children_of, has-child, has-parent_of, is_among-children_of, parent_of-self}
use Rattle.lx_forest.proofs.Within.{is_within-parent, is_within-self, is_within-up}
use Rattle.lx_forest.specs.Forest.{Forest, Label}
use Rattle.lx_forest.specs.Lookups.{IsForest, children_of, has, is_attached, is_within, keys_within, kind_of, label_of, parent_of, size_of}
use Rattle.lx_node.specs.Kinds.{is_element}
use Rattle.lx_node.specs.declared.cause.Cause.{Cause}
use Rattle.lx_node.specs.declared.cause.Point.{Point}
use Rattle.lx_node.specs.declared.cause.PointKind.TheVariants as point
use Rattle.lx_node.specs.declared.fields.Fields.{Fields}
use Rattle.lx_node.specs.declared.kind.Kind.{Kind}
use Rattle.lx_text.proofs.Places.{length-none}
use Rattle.lx_text.specs.Texts.{text_length}
use Rattle.lx_trees.proofs.Positions.{names_with-insert}
use Rattle.lx_trees.specs.Siblings.{is_among}
use Rattle.std.proofs.Common.{Bool, List, None, Ok, Option, Some, [], ap, append-nil, append_assoc, ap₂, arith, cond, eqb, false, inl, inr, length, option_map, refl, suc, sym, true, zero, ℕ, ◌++◌, ◌+◌, ◌∙◌, ◌∷◌, ◌≡◌, ◌≢◌, ◌≤◌, ◌||◌}
use Rattle.std.proofs.lemmas.Bool.Decides.{eqb_tells, nat_tests}
use Rattle.std.specs.Prelude.{drop, insert, is_some, slice_get, take}

-- ---- labels

pub said_label : (f g : Forest) (q : ℕ) → label_of g q ≡ label_of f q → said g q ≡ said f q
said_label f g q e = ap (λ o. text_of (option_map (λ (l : Label). l.fields) o)) e

pub has_label : (f g : Forest) (q : ℕ) → has q f ≡ true → label_of g q ≡ label_of f q → has q g ≡ true
has_label f g q so e =
    sym (is_some-kind_of g q) ∙ ap (λ o. is_some (option_map (λ (l : Label). l.kind) o)) e ∙ is_some-kind_of f q ∙ so

pub among_placed : (k q : ℕ) (ks xs : List ℕ) → is_among k xs ≡ true → is_among q ks ≡ true → is_among q (in_place_of k ks xs) ≡ true
among_placed k q ks [] there among = absurd (cc)
among_placed k q ks (x ∷ xs) there among = elim (eqb_tells x k) [
  | inl own ↦ rw own.0 (among_front q ks xs among)
  | inr other ↦ rw other.0 (later (eqb x q) (among_placed k q ks xs (grind (arith, there, other.0)) among))
] where
  among_front : (q : ℕ) (ks xs : List ℕ) → is_among q ks ≡ true → is_among q (ks ++ xs) ≡ true
  among_front q [] xs e = absurd (cc)
  among_front q (y ∷ ys) xs e = grind (arith, e, among_front q ys xs)

  later : (b : Bool) → is_among q (in_place_of k ks xs) ≡ true → (b || is_among q (in_place_of k ks xs)) ≡ true
  later true e = refl
  later false e = e

-- ---- beside a text or tab

module _ (typed : List ℕ) (k at : ℕ) (kind : Kind) (x : Fields) (w s v : Working) (rest ks : List ℕ) (sound : IsSound w)
    (place : lies w.forest (text_point k at) ≡ true)
    (text : text_of (Some x) ≡ typed) (o : IsOpened k at rest w s)
    (b : IsBeside s.forest v.forest k s.next_key ks (label_new s kind x)) where
  h : IsForest w.forest
  h = sound.ready.in_order

  abbrev pr : ℕ
  pr = b.parent

  pub no_element : is_at is_element w.forest k ≡ false
  no_element =
      let inner = (both (is_attached w.forest k) (lies_in w.forest (text_point k at)) place).1 in
      characters_no_element (kind_of w.forest k) (both (is_counted_in point.Text (kind_of w.forest k))
      (is_place w.forest (text_point k at) point.Text) inner).0

  pub leaf : children_of w.forest k ≡ []
  leaf = no_children w.forest k h sound.held no_element

  pub there : has k w.forest ≡ true
  there = known (kind_of w.forest k) refl where
    known : (c : Option Kind) → kind_of w.forest k ≡ c → has k w.forest ≡ true
    known None is =
        let inner = (both (is_attached w.forest k) (lies_in w.forest (text_point k at)) place).1 in
        let counted = (both (is_counted_in point.Text (kind_of w.forest k)) (is_place w.forest (text_point k at) point.Text) inner).0 in
        let bad : false ≡ true = sym (ap (is_counted_in point.Text) is) ∙ counted in absurd (cc)
    known (Some found) is = sym (is_some-kind_of w.forest k) ∙ ap is_some is

  pub up : parent_of w.forest k ≡ Some pr
  up = sym (o.stay.parents k there) ∙ b.up

  above : is_within w.forest pr k ≡ true
  above = below_parent w.forest k pr h up

  parent_there : has pr w.forest ≡ true
  parent_there = has-parent_of w.forest k pr up

  pub apart : k ≢ pr
  apart e = absurd (grind (arith, e, up, parent_of-self w.forest k h, eqb_tells k k))

  -- the same label, and the same children
  pub label_still : (q : ℕ) → has q w.forest ≡ true → q ≢ k → label_of v.forest q ≡ label_of w.forest q
  label_still q so other =
      let first = o.stay.labels q so other in b.labels q (has_label w.forest s.forest q so first) ∙ first

  children_there : (q : ℕ) → has q w.forest ≡ true → q ≢ pr → children_of v.forest q ≡ children_of w.forest q
  children_there q so other = b.children q other ∙ o.stay.children q so (λ e. other (let f : Some q ≡ Some pr = sym e ∙ up in cc))

  pub order : children_of v.forest pr ≡ in_place_of k (ks ++ rest) (children_of w.forest pr)
  order = b.order ∙ ap (in_place_of k ks) (o.stay.order pr up) ∙ in_place_of-again k ks rest (children_of w.forest pr)

  pub only_at : OnlyAt w.forest v.forest pr k
  only_at =
      let own : is_within w.forest k k ≡ true = is_within-self w.forest k ∙ there in
      let own_parent : is_within w.forest pr pr ≡ true = is_within-self w.forest pr ∙ parent_there in
      record {
        ordered = h;
        order_after = b.ordered;
        there = parent_there;
        holds = above;
        says = λ q so out. said_label w.forest v.forest q (label_still q so (λ same.
            absurd (elim out [ inl a ↦ grind (arith, a, same, own) | inr c ↦ grind (arith, c, same, above) ])));
        children = λ q so out. children_there q so (λ same.
            absurd (elim out [ inl a ↦ grind (arith, a, same, above) | inr c ↦ grind (arith, c, same, own_parent) ]));
      }

  -- each piece is read as it is in the draft before the new text came
  pub piece_read : (q : ℕ) → is_among q (k ∷ rest) ≡ true → read_in v.forest q ≡ said s.forest q
  piece_read q among =
      let bare : children_of s.forest q ≡ [] = o.stay.bare leaf q among in
      let there_k : is_among k (children_of w.forest pr) ≡ true = grind (arith, is_among-children_of w.forest k pr h, up, eqb_tells pr pr) in
      let below : is_among q (children_of s.forest pr) ≡ true = ap (is_among q) (o.stay.order pr up)
      ∙ among_placed k q (k ∷ rest) (children_of w.forest pr) there_k among in
      let so : has q s.forest ≡ true = has-child s.forest q pr (parent_here s.forest pr q o.stay.ready.in_order below) in
      let other : q ≢ pr = λ e.
      let none : is_among q [] ≡ true = sym (ap (is_among q) (ap (children_of s.forest) (sym e) ∙ bare)) ∙ below in absurd (cc) in
      read-leaf v.forest q b.ordered (b.children q other ∙ bare) ∙ said_label s.forest v.forest q (b.labels q so)

  pieces_read : (qs : List ℕ) → ((q : ℕ) → is_among q qs ≡ true → is_among q (k ∷ rest) ≡ true) → reads_in v.forest qs ≡ said_by s.forest qs
  pieces_read [] each = refl
  pieces_read (q ∷ qs) each =
      ap₂ (λ a c. a ++ c) (piece_read q (each q (grind (arith, eqb_tells q q)))) (pieces_read qs (λ y among. each y (grind (arith, among))))

  new_read : read_in v.forest s.next_key ≡ typed
  new_read =
      read-leaf v.forest s.next_key b.ordered b.bare ∙ ap (λ l. text_of (option_map (λ (y : Label). y.fields) l)) b.new ∙ text

  old_read : read_in w.forest k ≡ said w.forest k
  old_read = read-leaf w.forest k h leaf

  abbrev p : Point
  p = text_point k at

  here : place_in w.forest k p ≡ at
  here = place_leaf w.forest k at h there leaf

  -- the new text before it
  ahead : at ≡ 0 → ks ≡ s.next_key ∷ k ∷ [] → IsIn (place_in w.forest k p) (place_in w.forest k p) typed (read_in w.forest k)
      (reads_in v.forest (ks ++ rest))
  ahead start is =
      let now : reads_in v.forest (ks ++ rest) ≡ typed ++ said w.forest k =
      ap (λ qs. reads_in v.forest (qs ++ rest)) is ∙ ap₂ (λ a c. a ++ c) new_read (pieces_read (k ∷ rest) (λ q among. among) ∙ o.whole) in
      record {
        front = [];
        gone = [];
        back = said w.forest k;
        old_is = old_read;
        now_is = now;
        start = length-none ∙ sym start ∙ sym here;
        end = length-none ∙ sym start ∙ sym here;
      }

  -- the new text after it, or after its first part
  behind : at ≢ 0 → ks ≡ k ∷ s.next_key ∷ [] → IsIn (place_in w.forest k p) (place_in w.forest k p) typed (read_in w.forest k)
      (reads_in v.forest (ks ++ rest))
  behind some is =
      let first : is_among k (k ∷ rest) ≡ true = grind (arith, eqb_tells k k) in
      let front : List ℕ = said s.forest k in
      let back : List ℕ = said_by s.forest rest in
      let now : reads_in v.forest (ks ++ rest) ≡ front ++ (typed ++ back) =
      ap (λ qs. reads_in v.forest (qs ++ rest)) is
      ∙ ap₂ (λ a c. a ++ c) (piece_read k first) (ap₂ (λ a c. a ++ c) new_read (pieces_read rest (λ q among. grind (arith, among)))) in
      record {
        front = front;
        gone = [];
        back = back;
        old_is = old_read ∙ sym o.whole ∙ sym (ap (λ t. t ++ back) (append-nil front));
        now_is = now ∙ sym (append_assoc front typed back);
        start = o.length some ∙ sym here;
        end = ap text_length (append-nil front) ∙ o.length some ∙ sym here;
      }

  pub beside_around : IsIn (place_in w.forest k p) (place_in w.forest k p) typed (read_in w.forest k) (reads_in v.forest (ks ++ rest))
      → ReadsBetween (text_point k at) (text_point k at) typed w.forest v.forest
  beside_around inside =
      let f : Forest = w.forest in
      let g : Forest = v.forest in
      let says : said g pr ≡ said f pr = said_label f g pr (label_still pr parent_there (λ e. apart (sym e))) in
      let level = read_level f g pr k only_at p p typed refl refl pr k (ks ++ rest) up (is_within-self f k ∙ there) says order inside in
      let all : (b : ℕ) → is_at is_element f b ≡ true → is_within f b k ≡ true
      → Around (place_in f b p) (place_in f b p) typed (read_in f b) (read_in g b) =
      λ b element over.
      let other : k ≢ b = λ e. let bad : false ≡ true = sym (ap (is_at is_element f) (sym e) ∙ no_element) ∙ element in absurd (cc) in
      around_it _ _ typed _ _ (read_above f g pr k only_at p p typed refl refl level b (sym (is_within-up f b k pr h up other) ∙ over)) in
      record {
        places = λ b element first second. let a = all b element first in (a.first, a.second, a.order);
        around = λ b element first second. (all b element first).is;
        elsewhere = λ b element first second. read_elsewhere f g pr k only_at b (there_by f b element) first;
        aside = record {
          each = λ q so first second. (
            label_still q so (λ same. absurd (grind (arith, first, same, is_within-self f k, there))),
            children_there q so (λ same. absurd (grind (arith, first, same, above))),
          );
        };
      }

  pub ahead_around : at ≡ 0 → ks ≡ s.next_key ∷ k ∷ [] → ReadsBetween (text_point k at) (text_point k at) typed w.forest v.forest
  ahead_around start is = beside_around (ahead start is)

  pub behind_around : at ≢ 0 → ks ≡ k ∷ s.next_key ∷ [] → ReadsBetween (text_point k at) (text_point k at) typed w.forest v.forest
  behind_around some is = beside_around (behind some is)

-- ---- in an element

insert_read : (f g : Forest) (n i : ℕ) (cs : List ℕ) → ((q : ℕ) → is_among q cs ≡ true → read_in g q ≡ read_in f q) → i ≤ length cs
    → reads_in g (insert cs i n) ≡ reads_in f (take i cs) ++ (read_in g n ++ reads_in f (drop i cs))
insert_read f g n zero cs same within = ap (λ t. read_in g n ++ t) (reads-same f g cs same)
insert_read f g n (suc i) [] same within = absurd (omega (arith, within))
insert_read f g n (suc i) (c ∷ cs) same within =
    ap₂ (λ a t. a ++ t) (same c (grind (arith, eqb_tells c c)))
    (insert_read f g n i cs (λ q among. same q (grind (arith, among))) (omega (arith, within)))
    ∙ sym (append_assoc (read_in f c) (reads_in f (take i cs)) (read_in g n ++ reads_in f (drop i cs)))

pub parts_read : (f : Forest) (i : ℕ) (cs : List ℕ) → reads_in f cs ≡ reads_in f (take i cs) ++ reads_in f (drop i cs)
parts_read f zero cs = refl
parts_read f (suc i) [] = refl
parts_read f (suc i) (c ∷ cs) =
    ap (λ t. read_in f c ++ t) (parts_read f i cs) ∙ sym (append_assoc (read_in f c) (reads_in f (take i cs)) (reads_in f (drop i cs)))

module _ (typed : List ℕ) (k i : ℕ) (kind : Kind) (x : Fields) (w v : Working) (sound : IsSound w) (text : text_of (Some x) ≡ typed)
    (there : has k w.forest ≡ true)
    (within : i ≤ size_of w.forest k)
    (b : IsPlaced w.forest v.forest k w.next_key (slice_get (children_of w.forest k) i) (label_new w kind x)) where
  h' : IsForest w.forest
  h' = sound.ready.in_order

  pub only_here : OnlyAt w.forest v.forest k k
  only_here =
      let own : is_within w.forest k k ≡ true = is_within-self w.forest k ∙ there in
      record {
        ordered = h';
        order_after = b.ordered;
        there = there;
        holds = own;
        says = λ q so out. said_label w.forest v.forest q (b.labels q so);
        children = λ q so out. b.children q (λ same.
            absurd (elim out [ inl a ↦ grind (arith, a, same, own) | inr c ↦ grind (arith, c, same, own) ]));
      }

  pub element_around : ReadsBetween (element_point k i) (element_point k i) typed w.forest v.forest
  element_around =
      let f : Forest = w.forest in
      let g : Forest = v.forest in
      let p : Point = element_point k i in
      let cs : List ℕ = children_of f k in
      let n : ℕ = w.next_key in
      let front : List ℕ = said f k ++ reads_in f (take i cs) in
      let back : List ℕ = reads_in f (drop i cs) in
      let own : eqb k k ≡ true = grind (arith, eqb_tells k k) in
      let here : place_in f k p ≡ text_length front =
      ap (place_along f p) (keys-level f k h' there) ∙ ap (λ t. cond t (text_length front)
      (text_length (said f k) + place_along f p (spread (keys_within f) cs))) own in
      let order : children_of g k ≡ insert cs i n = b.order ∙ names_with-insert cs n i (NoRepeats-children_of f k h') within in
      let same : (q : ℕ) → is_among q cs ≡ true → read_in g q ≡ read_in f q =
      λ q among. let up = parent_here f k q h' among in read_elsewhere f g k k only_here q (has-child f q k up) (is_within-parent f q k h' up) in
      let new : read_in g n ≡ typed =
      read-leaf g n b.ordered b.bare ∙ ap (λ l. text_of (option_map (λ (y : Label). y.fields) l)) b.new ∙ text in
      let old_is : read_in f k ≡ (front ++ []) ++ back =
      read-level f k h' ∙ ap (λ t. said f k ++ t) (parts_read f i cs) ∙ sym (append_assoc (said f k) (reads_in f (take i cs)) back)
      ∙ sym (ap (λ t. t ++ back) (append-nil front)) in
      let now_is : read_in g k ≡ (front ++ typed) ++ back =
      read-level g k b.ordered
      ∙ ap₂ (λ a t. a ++ t) (said_label f g k (b.labels k there))
      (ap (reads_in g) order ∙ insert_read f g n i cs same within ∙ ap (λ t. reads_in f (take i cs) ++ (t ++ back)) new)
      ∙ sym (append_assoc (said f k) (reads_in f (take i cs)) (typed ++ back)) ∙ sym (append_assoc front typed back) in
      let inside : IsIn (place_in f k p) (place_in f k p) typed (read_in f k) (read_in g k) =
      record {
        front = front;
        gone = [];
        back = back;
        old_is = old_is;
        now_is = now_is;
        start = sym here;
        end = ap text_length (append-nil front)
            ∙ sym here;
      } in
      let all : (b : ℕ) → is_within f b k ≡ true → Around (place_in f b p) (place_in f b p) typed (read_in f b) (read_in g b) =
      λ b over. around_it _ _ typed _ _ (read_above f g k k only_here p p typed refl refl inside b over) in
      record {
        places = λ b element first second. let a = all b first in (a.first, a.second, a.order);
        around = λ b element first second. (all b first).is;
        elsewhere = λ b element first second. read_elsewhere f g k k only_here b (there_by f b element) first;
        aside = record {
          each = λ q so first second.
              (b.labels q so, b.children q (λ same. absurd (grind (arith, first, same, is_within-self f k, there))));
        };
      }

-- ---- a node added at a point

module _ (typed : List ℕ) (k at : ℕ) (kind : Kind) (x : Fields) (w v : Working) (sound : IsSound w) (text : text_of (Some x) ≡ typed) where
  by_place : (s m : Working) (rest : List ℕ) → lies w.forest (text_point k at) ≡ true → IsOpened k at rest w s → new_step kind x s ≡ Ok m
      → put_by s.next_key (text_point k at) point.Text m ≡ Ok v → ReadsBetween (text_point k at) (text_point k at) typed w.forest v.forest
  by_place s m rest place o new e = elim (eqb_tells at 0) [
    | inl start ↦
        let put : put_before_step s.next_key k m ≡ Ok v = sym
        (ap (λ t. cond t (put_before_step s.next_key k m) (put_behind_step s.next_key k m)) start.0) ∙ e in
        ahead_around typed k at kind x w s v rest (s.next_key ∷ k ∷ []) sound place text o
        (put_ahead kind x k s m v o.stay.ready new put) start.1 refl
    | inr later ↦
        let put : put_behind_step s.next_key k m ≡ Ok v = sym
        (ap (λ t. cond t (put_before_step s.next_key k m) (put_behind_step s.next_key k m)) later.0) ∙ e in
        behind_around typed k at kind x w s v rest (k ∷ s.next_key ∷ []) sound place text o
        (put_after kind x k s m v o.stay.ready new put) later.1 refl
  ]

  pub added_there : lies w.forest (text_point k at) ≡ true
      → (is_inside w.forest (text_point k at) point.Text ≡ true → is_some (normal_at w.forest k) ≡ true)
      → add_step (text_point k at) kind x w ≡ Ok v → ReadsBetween (text_point k at) (text_point k at) typed w.forest v.forest
  unfolding add_step
  added_there place may e = by_fault (no_room kind (kind_around w.forest k point.Text)) e where
    by_fault : (c : Option Cause) → after (answer c w) (λ u. after (opened (text_point k at) u)
        (λ split. after (new_step kind x split) (put_by split.next_key (text_point k at) point.Text))) ≡ Ok v
        → ReadsBetween (text_point k at) (text_point k at) typed w.forest v.forest
    by_fault (Some cause) e = absurd (cc)
    by_fault None e =
        let one = after_tells (opened (text_point k at) w)
        (λ split. after (new_step kind x split) (put_by split.next_key (text_point k at) point.Text)) v e in
        let two = after_tells (new_step kind x one.0) (put_by one.0.next_key (text_point k at) point.Text) v one.1.1 in
        let o = opened_tells k at w one.0 sound place may one.1.0 in
        by_place one.0 two.0 o.0 place o.1 two.1.0 two.1.1

  pub added_element : lies w.forest (element_point k at) ≡ true
      → add_step (element_point k at) kind x w ≡ Ok v → ReadsBetween (element_point k at) (element_point k at) typed w.forest v.forest
  unfolding add_step
  added_element place e = by_fault (no_room kind (kind_around w.forest k point.Element)) e where
    counted : (c : Option Kind) → kind_of w.forest k ≡ c → is_counted_in point.Element c ≡ true → has k w.forest ≡ true
    counted None is e = absurd (cc)
    counted (Some found) is e = sym (is_some-kind_of w.forest k) ∙ ap is_some is

    by_fault : (c : Option Cause) → after (answer c w) (λ u. after (opened (element_point k at) u)
        (λ split. after (new_step kind x split) (put_by split.next_key (element_point k at) point.Element))) ≡ Ok v
        → ReadsBetween (element_point k at) (element_point k at) typed w.forest v.forest
    by_fault (Some cause) e = absurd (cc)
    by_fault None e =
        let two = after_tells (new_step kind x w) (put_by w.next_key (element_point k at) point.Element) v e in
        let inner = (both (is_attached w.forest k) (lies_in w.forest (element_point k at)) place).1 in
        let parts = both (is_counted_in point.Element (kind_of w.forest k)) (is_place w.forest (element_point k at) point.Element) inner in
        let within : at ≤ size_of w.forest k = grind (arith, nat_tests, parts.1) in
        element_around typed k at kind x w v sound text (counted (kind_of w.forest k) refl parts.0) within
        (put_placed kind x k at w two.0 v sound.ready two.1.0 two.1.1)
