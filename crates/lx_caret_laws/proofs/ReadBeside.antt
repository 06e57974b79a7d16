-- What is read in a node of which two texts are children, where what is between two places of them went.
use Rattle.lx_caret.proofs.Lies.{text_at}
use Rattle.lx_caret_laws.proofs.Covers.{AreBeside, out_of_front}
use Rattle.lx_caret_laws.proofs.EditedIn.{place_leaf}
use Rattle.lx_caret_laws.proofs.InPlace.{IsIn, apart_children, below_parent, place-behind, place-here, place-level}
use Rattle.lx_caret_laws.proofs.ReadAcross.{OnlyBelow, read_aside, reads_across}
use Rattle.lx_caret_laws.proofs.ReadLevels.{read-leaf, read-level, reads-append, reads-same}
use Rattle.lx_caret_laws.specs.Ranges.{ReadsNow}
use Rattle.lx_caret_laws.specs.Reading.{ReadsBetween, place_along, place_in, read_in, reads_in, said}
use Rattle.lx_blocks.specs.Blocks.{is_at}
use Rattle.lx_caret_laws.proofs.Covers as covers
use Rattle.lx_draft.proofs.Gaps.{parent_here}
use Rattle.lx_draft.specs.Faults.{text_in}
use Rattle.lx_draft.specs.Selecting.{text_of}
use Rattle.lx_edit.specs.Edits.{text_point}
use Rattle.lx_edit_laws.proofs.Reading.{spread}
use Rattle.lx_forest.proofs.Lookups.{NoRepeats-children_of, has-child, has-parent_of}
use Rattle.lx_forest.proofs.Within.{is_within-parent, is_within-self, is_within-up}
use Rattle.lx_forest.specs.Forest.{Forest, Label}
use Rattle.lx_forest.specs.Lookups.{IsForest, children_of, has, is_within, keys_within, label_of, parent_of}
use Rattle.lx_node.specs.Kinds.{is_element}
use Rattle.lx_node.specs.declared.cause.Point.{Point}
use Rattle.lx_node.specs.declared.fields.TextFields.{TextFields}
use Rattle.lx_text.proofs.Places.{length-append, length-none, offset_is, parts}
use Rattle.lx_text.specs.Texts.{front_of, is_offset, rest_of, text_length}
use Rattle.lx_trees.proofs.Siblings.{is_among-append}
use Rattle.lx_trees.specs.Siblings.{NoRepeats, is_among}
use Rattle.std.proofs.Common.{List, Some, [], ap, append-nil, append_assoc, ap₂, arith, false, option_map, subst, sym, true, ℕ, ◌++◌, ◌+◌, ◌∙◌, ◌∷◌, ◌≡◌, ◌≢◌}
use Rattle.std.proofs.lemmas.Bool.Decides.{eqb_tells}

-- ---- lists of characters

-- what is before, within and after what goes, of all
regroup : (a b x y m u v r : List ℕ)
    → a ++ (b ++ ((x ++ y) ++ (m ++ ((u ++ v) ++ r)))) ≡ (a ++ (b ++ x)) ++ (y ++ (m ++ u)) ++ (v ++ r)
regroup a b x y m u v r =
    let tail : List ℕ = v ++ r in
    let inner : (x ++ y) ++ (m ++ ((u ++ v) ++ r)) ≡ x ++ ((y ++ (m ++ u)) ++ tail) =
    append_assoc x y (m ++ ((u ++ v) ++ r))
    ∙ ap (λ t. x ++ (y ++ t)) (ap (λ t. m ++ t) (append_assoc u v r) ∙ sym (append_assoc m u tail))
    ∙ ap (λ t. x ++ t) (sym (append_assoc y (m ++ u) tail)) in
    ap (λ t. a ++ (b ++ t)) inner
    ∙ ap (λ t. a ++ t) (sym (append_assoc b x ((y ++ (m ++ u)) ++ tail)))
    ∙ sym (append_assoc a (b ++ x) ((y ++ (m ++ u)) ++ tail))
    ∙ sym (append_assoc (a ++ (b ++ x)) (y ++ (m ++ u)) tail)

-- what is left of all
regroup_left : (a b x v r : List ℕ) → a ++ (b ++ (x ++ (v ++ r))) ≡ (a ++ (b ++ x)) ++ [] ++ (v ++ r)
regroup_left a b x v r =
    ap (λ t. a ++ t) (sym (append_assoc b x (v ++ r)))
    ∙ sym (append_assoc a (b ++ x) (v ++ r))
    ∙ ap (λ t. t ++ (v ++ r)) (sym (append-nil (a ++ (b ++ x))))

-- ---- places

-- the place of a point in one of some trees, which those before it don't hold
placed_at : (f : Forest) (p : Point) (front : List ℕ) (x : ℕ) (rest : List ℕ) → is_within f x p.key ≡ true
    → ((y : ℕ) → is_among y front ≡ true → is_within f y p.key ≡ false)
    → place_along f p (spread (keys_within f) (front ++ (x ∷ rest))) ≡ text_length (reads_in f front) + place_in f x p
placed_at f p [] x rest here out = omega (arith, length-none, place-here f p x (spread (keys_within f) rest) here)
placed_at f p (y ∷ ys) x rest here out =
    let far = out y (grind (arith, eqb_tells y y)) in
    let more = placed_at f p ys x rest here (λ z at. out z (grind (arith, at))) in
    omega (arith, place-behind f p y (spread (keys_within f) (ys ++ (x ∷ rest))) far, more, length-append (read_in f y) (reads_in f ys))

-- the place of a point in a text below a node
text_place : (f : Forest) (b x i : ℕ) (front rest : List ℕ) → IsForest f → children_of f b ≡ front ++ (x ∷ rest) → children_of f x ≡ []
    → place_in f b (text_point x i) ≡ text_length (said f b) + (text_length (reads_in f front) + i)
text_place f b x i front rest h are leaf =
    let p : Point = text_point x i in
    let up : parent_of f x ≡ Some b = parent_here f b x h (ap (is_among x) are ∙ covers.among_at front x rest) in
    let there : has x f ≡ true = has-child f x b up in
    let own : is_within f x x ≡ true = is_within-self f x ∙ there in
    let off : x ≢ b = λ e. absurd (grind (arith, e, own, is_within-parent f x b h up)) in
    let once : NoRepeats (front ++ (x ∷ rest)) = subst NoRepeats are (NoRepeats-children_of f b h) in
    let out : (y : ℕ) → is_among y front ≡ true → is_within f y x ≡ false = λ y at.
    let up_y : parent_of f y ≡ Some b = parent_here f b y h (ap (is_among y) are ∙ is_among-append y front (x ∷ rest) ∙ grind (arith, at)) in
    apart_children f y x b x h up_y up (λ e. absurd (grind (arith, e, at, out_of_front front x rest once))) own in
    place-level f p b h (has-parent_of f x b up) off
    ∙ ap (λ ks. text_length (said f b) + place_along f p (spread (keys_within f) ks)) are
    ∙ ap (λ n. text_length (said f b) + n)
    (placed_at f p front x rest own out ∙ ap (λ n. text_length (reads_in f front) + n) (place_leaf f x i h there leaf))

-- ---- what is left

-- from one text to another the nodes between went, with the end of the one and the front of the other
pub record LeftBeside (p s e i j : ℕ) (one other : TextFields) (before rest : List ℕ) (f g : Forest) : Type 0 where
  pub ordered : IsForest g
  pub first : ReadsNow g s one (front_of i one.text)
  pub last : ReadsNow g e other (rest_of j other.text)
  pub labels : (q : ℕ) → q ≢ s → q ≢ e → label_of g q ≡ label_of f q
  pub at : children_of g p ≡ before ++ (s ∷ (e ∷ rest))
  pub others : (q : ℕ) → q ≢ p → children_of g q ≡ children_of f q

said_by_label : (f g : Forest) (q : ℕ) → label_of g q ≡ label_of f q → said g q ≡ said f q
said_by_label f g q same = ap (λ l. text_of (option_map (λ (l : Label). l.fields) l)) same

module _ (f g : Forest) (p s e i j : ℕ) (one other : TextFields) (before mid rest : List ℕ) (b : AreBeside f p s e before mid rest)
    (l : LeftBeside p s e i j one other before rest f g) (first : text_in (label_of f s) ≡ Some one) (last : text_in (label_of f e) ≡ Some other)
    (in_one : is_offset i one.text ≡ true) (in_other : is_offset j other.text ≡ true) where
  abbrev pub from_p : Point
  from_p = text_point s i

  abbrev pub to_p : Point
  to_p = text_point e j

  up_s : parent_of f s ≡ Some p
  up_s = covers.first_up f p s e before mid rest b

  up_e : parent_of f e ≡ Some p
  up_e = covers.last_up f p s e before mid rest b

  there : has p f ≡ true
  there = has-parent_of f s p up_s

  own_s : is_within f s s ≡ true
  own_s = is_within-self f s ∙ has-child f s p up_s

  own_e : is_within f e e ≡ true
  own_e = is_within-self f e ∙ has-child f e p up_e

  -- what is above the parent is neither text
  above_other : (q k : ℕ) → parent_of f k ≡ Some p → is_within f q p ≡ true → q ≢ k
  above_other q k up over same = absurd (grind (arith, over, same, is_within-parent f k p b.order up))

  pub only_below : OnlyBelow f g from_p to_p p
  only_below = record {
    ordered = b.order;
    order_after = l.ordered;
    first = below_parent f s p b.order up_s;
    second = below_parent f e p b.order up_e;
    aside = record {
      each = λ q so one two.
          let not_s : q ≢ s = λ same. absurd (grind (arith, one, same, own_s)) in
          let not_e : q ≢ e = λ same. absurd (grind (arith, two, same, own_e)) in
          let not_p : q ≢ p = λ same. absurd (grind (arith, one, same, below_parent f s p b.order up_s)) in
          (l.labels q not_s not_e, l.others q not_p);
    };
    above = λ q so apart over.
        (said_by_label f g q (l.labels q (above_other q s up_s over) (above_other q e up_e over)), l.others q apart);
  }

  -- other children read what they read
  child_same : (q : ℕ) → parent_of f q ≡ Some p → q ≢ s → q ≢ e → read_in g q ≡ read_in f q
  child_same q up not_s not_e =
      read_aside f g from_p to_p p only_below q (has-child f q p up) (apart_children f q s p s b.order up up_s not_s own_s)
      (apart_children f q e p e b.order up up_e not_e own_e)

  moved_on : children_of f p ≡ (before ++ (s ∷ mid)) ++ (e ∷ rest)
  moved_on = covers.moved_on f p s e before mid rest b

  once : NoRepeats (before ++ (s ∷ (mid ++ (e ∷ rest))))
  once = subst NoRepeats b.are (NoRepeats-children_of f p b.order)

  once_moved : NoRepeats ((before ++ (s ∷ mid)) ++ (e ∷ rest))
  once_moved = subst NoRepeats moved_on (NoRepeats-children_of f p b.order)

  before_same : reads_in g before ≡ reads_in f before
  before_same = reads-same f g before (λ q at.
      let up : parent_of f q ≡ Some p =
      parent_here f p q b.order (ap (is_among q) b.are ∙ is_among-append q before (s ∷ (mid ++ (e ∷ rest))) ∙ grind (arith, at)) in
      let no_e = out_of_front (before ++ (s ∷ mid)) e rest once_moved in
      child_same q up (λ same. absurd (grind (arith, same, at, out_of_front before s (mid ++ (e ∷ rest)) once)))
      (λ same. absurd (grind (arith, same, at, no_e, is_among-append e before (s ∷ mid)))))

  rest_same : reads_in g rest ≡ reads_in f rest
  rest_same = reads-same f g rest (λ q at.
      let up : parent_of f q ≡ Some p =
      parent_here f p q b.order (ap (is_among q) moved_on ∙ is_among-append q (before ++ (s ∷ mid)) (e ∷ rest) ∙ grind (arith, at)) in
      let back = covers.no_repeats_back (before ++ (s ∷ mid)) (e ∷ rest) once_moved in
      let later = covers.no_repeats_back before (s ∷ (mid ++ (e ∷ rest))) once in
      child_same q up (λ same. absurd (grind (arith, same, at, later.0, is_among-append s mid (e ∷ rest))))
      (λ same. absurd (grind (arith, same, at, back.0))))

  -- the two texts
  text_read : (k : ℕ) (t : TextFields) → text_in (label_of f k) ≡ Some t → children_of f k ≡ [] → read_in f k ≡ t.text
  text_read k t here leaf = read-leaf f k b.order leaf ∙ ap text_of (text_at f k t here).fields_are

  now_read : (k : ℕ) (t : TextFields) (now : List ℕ) → parent_of f k ≡ Some p → children_of f k ≡ [] → ReadsNow g k t now → read_in g k ≡ now
  now_read k t now up leaf is =
      let off : k ≢ p = λ same. absurd (grind (arith, same, is_within-self f k, has-child f k p up, is_within-parent f k p b.order up)) in
      read-leaf g k l.ordered (l.others k off ∙ leaf) ∙ ap (λ l. text_of (option_map (λ (l : Label). l.fields) l)) is

  abbrev pub own_front : List ℕ
  own_front = said f p ++ (reads_in f before ++ front_of i one.text)

  abbrev pub own_gone : List ℕ
  own_gone = rest_of i one.text ++ (reads_in f mid ++ front_of j other.text)

  abbrev pub own_back : List ℕ
  own_back = rest_of j other.text ++ reads_in f rest

  old_read : read_in f p ≡ own_front ++ own_gone ++ own_back
  old_read =
      let one_is : read_in f s ≡ front_of i one.text ++ rest_of i one.text = text_read s one first b.first ∙ sym (parts i one.text) in
      let other_is : read_in f e ≡ front_of j other.text ++ rest_of j other.text = text_read e other last b.last ∙ sym (parts j other.text) in
      read-level f p b.order
      ∙ ap (λ ks. said f p ++ reads_in f ks) b.are
      ∙ ap (λ t. said f p ++ t) (reads-append f before (s ∷ (mid ++ (e ∷ rest)))
      ∙ ap (λ t. reads_in f before ++ (read_in f s ++ t)) (reads-append f mid (e ∷ rest)))
      ∙ ap₂ (λ x y. said f p ++ (reads_in f before ++ (x ++ (reads_in f mid ++ (y ++ reads_in f rest))))) one_is other_is
      ∙ regroup (said f p) (reads_in f before) (front_of i one.text) (rest_of i one.text) (reads_in f mid) (front_of j other.text)
      (rest_of j other.text) (reads_in f rest)

  now_all : read_in g p ≡ own_front ++ [] ++ own_back
  now_all =
      let own : said g p ≡ said f p =
      said_by_label f g p (l.labels p (λ same. absurd (grind (arith, same, own_s, is_within-parent f s p b.order up_s)))
      (λ same. absurd (grind (arith, same, own_e, is_within-parent f e p b.order up_e)))) in
      let one_is : read_in g s ≡ front_of i one.text = now_read s one (front_of i one.text) up_s b.first l.first in
      let other_is : read_in g e ≡ rest_of j other.text = now_read e other (rest_of j other.text) up_e b.last l.last in
      read-level g p l.ordered
      ∙ ap₂ (λ x ks. x ++ reads_in g ks) own l.at
      ∙ ap (λ t. said f p ++ t) (reads-append g before (s ∷ (e ∷ rest)))
      ∙ ap₂ (λ x y. said f p ++ (x ++ (read_in g s ++ (read_in g e ++ y)))) before_same rest_same
      ∙ ap₂ (λ x y. said f p ++ (reads_in f before ++ (x ++ (y ++ reads_in f rest)))) one_is other_is
      ∙ regroup_left (said f p) (reads_in f before) (front_of i one.text) (rest_of j other.text) (reads_in f rest)

  -- in the parent what was between the two places went
  pub inside : IsIn (place_in f p from_p) (place_in f p to_p) [] (read_in f p) (read_in g p)
  inside =
      let start : place_in f p from_p ≡ text_length (said f p) + (text_length (reads_in f before) + i) =
      text_place f p s i before (mid ++ (e ∷ rest)) b.order b.are b.first in
      let stop : place_in f p to_p ≡ text_length (said f p) + (text_length (reads_in f (before ++ (s ∷ mid))) + j) =
      text_place f p e j (before ++ (s ∷ mid)) rest b.order moved_on b.last in
      let front_long : text_length own_front ≡ text_length (said f p) + (text_length (reads_in f before) + i) =
      length-append (said f p) (reads_in f before ++ front_of i one.text)
      ∙ ap (λ n. text_length (said f p) + n) (length-append (reads_in f before) (front_of i one.text)
      ∙ ap (λ n. text_length (reads_in f before) + n) (offset_is i one.text in_one)) in
      let one_long : text_length (read_in f s) ≡ i + text_length (rest_of i one.text) =
      ap text_length (text_read s one first b.first ∙ sym (parts i one.text)) ∙ length-append (front_of i one.text) (rest_of i one.text)
      ∙ ap (λ n. n + text_length (rest_of i one.text)) (offset_is i one.text in_one) in
      let mid_long : text_length (reads_in f (before ++ (s ∷ mid)))
      ≡ text_length (reads_in f before) + (text_length (read_in f s) + text_length (reads_in f mid)) =
      ap text_length (reads-append f before (s ∷ mid)) ∙ length-append (reads_in f before) (read_in f s ++ reads_in f mid)
      ∙ ap (λ n. text_length (reads_in f before) + n) (length-append (read_in f s) (reads_in f mid)) in
      let gone_long : text_length own_gone ≡ text_length (rest_of i one.text) + (text_length (reads_in f mid) + j) =
      length-append (rest_of i one.text) (reads_in f mid ++ front_of j other.text)
      ∙ ap (λ n. text_length (rest_of i one.text) + n) (length-append (reads_in f mid) (front_of j other.text)
      ∙ ap (λ n. text_length (reads_in f mid) + n) (offset_is j other.text in_other)) in
      let whole_long : text_length (own_front ++ own_gone) ≡ text_length own_front + text_length own_gone = length-append own_front own_gone in
      record {
        front = own_front;
        gone = own_gone;
        back = own_back;
        old_is = old_read;
        now_is = now_all;
        start = front_long ∙ sym start;
        end = omega (arith, stop, front_long, one_long, mid_long, gone_long, whole_long);
      }

  pub between : is_at is_element f s ≡ false → ReadsBetween from_p to_p [] f g
  between leaf = reads_across f g from_p to_p p only_below [] (λ q element one two.
      let other : s ≢ q = λ same. absurd (grind (arith, same, element, leaf)) in
      sym (is_within-up f q s p b.order up_s other) ∙ one) inside

  -- and the first place is where it was, in the parent
  pub place_still : place_in g p from_p ≡ place_in f p from_p
  place_still =
      let off : s ≢ p = λ same. absurd (grind (arith, same, own_s, is_within-parent f s p b.order up_s)) in
      let own : said g p ≡ said f p =
      said_by_label f g p (l.labels p (λ same. off (sym same))
      (λ same. absurd (grind (arith, same, own_e, is_within-parent f e p b.order up_e)))) in
      text_place g p s i before (e ∷ rest) l.ordered l.at (l.others s off ∙ b.first)
      ∙ ap₂ (λ x y. text_length x + (text_length y + i)) own before_same
      ∙ sym (text_place f p s i before (mid ++ (e ∷ rest)) b.order b.are b.first)
