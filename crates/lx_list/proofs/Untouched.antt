-- Lists that are numbered can be counted at once, before the others are numbered.
use Rattle.std.proofs.Common.{◌≡◌, ◌∙◌, ℕ, ◌+◌, Bool, true, false, cond, not, List, [], ◌∷◌, length, Option, None, Some, Result, Ok, Err, refl, sym, ap, ap₂, subst, arith, inl, inr}
use Rattle.std.specs.Prelude.{option_map, sum_by, filter}
use Rattle.std.specs.Option.{option_or}
use Rattle.std.specs.List.{slice_get}
use Rattle.std.proofs.lemmas.Bool.{cases_Bool}
use Rattle.std.proofs.lemmas.Bool.Decides.{eqb_tells}
use Rattle.std.proofs.lemmas.List.Sums.{sum_by-cons}
use Rattle.lx_trees.specs.Siblings.{is_among}
use Rattle.lx_trees.specs.Spots.{Spot}
use Rattle.lx_node.specs.Kinds.{may_hold, is_list, is_item}
use Rattle.lx_node.specs.OfKind.{is_of_kind}
use Rattle.lx_node.specs.Strings.{characters_of, characters_of_element, characters_of_extra}
use Rattle.lx_node.specs.declared.cause.Cause.{Cause}
use Rattle.lx_node.specs.declared.fields.Extra.{Extra}
use Rattle.lx_node.specs.declared.fields.Extra.TheVariants as extra
use Rattle.lx_node.specs.declared.fields.Fields.{Fields}
use Rattle.lx_node.specs.declared.fields.Fields.TheVariants as fields
use Rattle.lx_select.specs.declared.selection.Selection.{Selection}
use Rattle.lx_forest.specs.Forest.{Forest, Label}
use Rattle.lx_forest.specs.Lookups.{spot, label_of, kind_of, fields_of, children_of, holds, preorder, without, IsForest, IsHeld}
use Rattle.lx_forest.specs.Edits.{with_fields}
use Rattle.lx_forest.specs.Suited.{IsSuited}
use Rattle.lx_forest.specs.Views.{unnumbered, seen_fields}
use Rattle.lx_forest.specs.Weights.{weight, own_weight, weight_in}
use Rattle.lx_forest.proofs.Order.{IsForest-with_fields}
use Rattle.lx_forest.proofs.Suited.{IsSuited-with_fields}
use Rattle.lx_forest.proofs.Weights.{weight-preorder, weight-drop_detached}
use Rattle.lx_links.specs.Sums.{items_in, item_characters_in}
use Rattle.lx_links.specs.Faults.{wrong_fields, set_fault}
use Rattle.lx_draft.specs.Working.{Working}
use Rattle.lx_draft.specs.Faults.{answer, after, over_limits}
use Rattle.lx_draft.specs.Steps.{differ, marked_if, wrote, rewritten, fields_written, set_points, set_step}
use Rattle.lx_draft.specs.Marking.{mark_nodes}
use Rattle.lx_draft.proofs.Again.{within_limits}
use Rattle.lx_draft.proofs.Covered.{answered}
use Rattle.lx_draft.proofs.Rewritten.{rewritten-none, rewritten-more}
use Rattle.lx_edit.specs.InTurn.{in_turn}
use Rattle.lx_blocks.specs.Blocks.{passes, is_at}
use Rattle.lx_list.specs.Making.{element_fields_changed, with_number, with_extra_changed, set_changed, change_step, number_item}
use Rattle.lx_list.specs.Nesting.{is_nesting}
use Rattle.lx_list.specs.Numbering.{list_start, numbered_from, list_numbered}
use Rattle.lx_list.specs.Numbered.{IsNumberedList}
use Rattle.lx_list.specs.Touched.{items_below, characters_below}
use Rattle.lx_list.proofs.Alike.{seen_label, seen_spot, IsAlike, alike-self, alike-then, alike-set, changed-seen, parent-alike, children-alike, kind-alike}
use Rattle.lx_list.proofs.Counted.{HasRoomFor, own_items, own_characters, list_again}
use Rattle.lx_list.proofs.Itemless.{spot_known, there_at, item_below}
use Rattle.lx_list.proofs.Kept.{HasItems-held}
use Rattle.lx_list.proofs.Numbered.{AreGiven, list_given, is_at-alike, due-alike, due_there, parent_there}
use Rattle.lx_list.proofs.Sums.{weighed, filtered_sum, zero_sum, tree_sum, light_child, light_root}

-- ---- sums

sum_agree : (g h : ℕ → ℕ) → ((q : ℕ) → g q ≡ h q) → (xs : List ℕ) → sum_by g xs ≡ sum_by h xs
sum_agree g h same [] = refl
sum_agree g h same (x ∷ xs) = sum_by-cons g x xs ∙ ap₂ (λ a b. a + b) (same x) (sum_agree g h same xs) ∙ sym (sum_by-cons h x xs)

-- a sum is that of what passes a test and that of what doesn't
pub sums_part : (g : ℕ → ℕ) (t : ℕ → Bool) (xs : List ℕ) → sum_by g xs ≡ sum_by g (filter t xs) + sum_by g (filter (λ x. not (t x)) xs)
sums_part g t [] = omega arith
sums_part g t (x ∷ xs) =
    elim (cases_Bool (t x)) [
      | inl passes ↦ rw passes (omega (arith, sum_by-cons g x xs, sum_by-cons g x (filter t xs), sums_part g t xs))
      | inr fails ↦ rw fails (omega (arith, sum_by-cons g x xs, sum_by-cons g x (filter (λ q. not (t q)) xs), sums_part g t xs))
    ]

-- what the items of the root tree's lists weigh, with what the items of detached trees do, is what all items weigh
pub all_items : (of : Label → ℕ) (f : Forest) → IsForest f → IsHeld may_hold f
    → sum_by (λ list. sum_by (own_weight (weighed of) f) (children_of f list)) (filter (is_at is_list f) (preorder f)) + weight (weighed of) (without 0 f)
    ≡ weight (weighed of) f
all_items of f h held =
    let own : ℕ → ℕ = own_weight (weighed of) f in
    let inner : ℕ → ℕ = λ k. sum_by own (children_of f k) in
    let below : sum_by inner (filter (is_at is_list f) (preorder f)) ≡ sum_by inner (preorder f) =
    filtered_sum inner (is_at is_list f) (preorder f)
    (λ k other. zero_sum own (children_of f k) (λ q among. light_child of f k q held other (parent_there f k q h among))) in
    let kept =
    weight-preorder (weighed of) own f h
    (λ q s e. ap (λ (o : Option (Spot Label)). weight_in (weighed of) (option_map (λ (t : Spot Label). t.label) o)) e) in
    omega (arith, below, tree_sum own f h, light_root of f h, kept, weight-drop_detached (weighed of) f)

-- ---- alike forests weigh the same

weight-seen : (of : Label → ℕ) → ((l : Label) → of (seen_label l) ≡ of l) → (o : Option (Spot Label))
    → weight_in of (option_map (λ (s : Spot Label). s.label) (option_map seen_spot o)) ≡ weight_in of (option_map (λ (s : Spot Label). s.label) o)
weight-seen of same None = refl
weight-seen of same (Some s) = same s.label

weight-alike : (of : Label → ℕ) → ((l : Label) → of (seen_label l) ≡ of l) → (f g : Forest) → IsAlike f g → (q : ℕ)
    → own_weight of g q ≡ own_weight of f q
weight-alike of same f g a q =
    sym (weight-seen of same (spot g q)) ∙ ap (λ (o : Option (Spot Label)). weight_in of (option_map (λ (s : Spot Label). s.label) o)) (a.spots q)
    ∙ weight-seen of same (spot f q)

extra-seen : (e : Extra) → characters_of_extra (unnumbered e) ≡ characters_of_extra e
unfolding characters_of_extra
extra-seen (extra.Item value checked) = refl
extra-seen extra.Plain = refl
extra-seen other = refl

characters-seen : (o : Fields) → characters_of (seen_fields o) ≡ characters_of o
unfolding characters_of characters_of_element
characters-seen (fields.Element element) = ap (λ n. length element.text_style + n) (extra-seen element.extra)
characters-seen other = refl

pub items-alike : (f g : Forest) → IsAlike f g → (q : ℕ) → own_items g q ≡ own_items f q
items-alike f g a q = weight-alike items_in (λ l. refl) f g a q

pub item_characters-alike : (f g : Forest) → IsAlike f g → (q : ℕ) → own_characters g q ≡ own_characters f q
item_characters-alike f g a q = weight-alike item_characters_in (λ l. ap (λ n. cond (is_item l.kind) n 0) (characters-seen l.fields)) f g a q

pub items_below-alike : (f g : Forest) → IsAlike f g → (q : ℕ) → items_below g q ≡ items_below f q
items_below-alike f g a q = sum_agree (own_items g) (own_items f) (items-alike f g a) (children_of g q) ∙ ap (sum_by (own_items f)) (children-alike f g a q)

pub characters_below-alike : (f g : Forest) → IsAlike f g → (q : ℕ) → characters_below g q ≡ characters_below f q
characters_below-alike f g a q =
    sum_agree (own_characters g) (own_characters f) (item_characters-alike f g a) (children_of g q) ∙ ap (sum_by (own_characters f)) (children-alike f g a q)

-- ---- a set, with counts taken before it or after it

counts_same : (w : Working) (a b c d e g : ℕ) → a ≡ d → b ≡ e → c ≡ g
    → ◌≡◌ {A = Working} (record w { counted = a; edits = b; written = c }) (record w { counted = d; edits = e; written = g })
counts_same w a b c d e g h i j =
    ap (λ n. record w { counted = n; edits = b; written = c }) h
    ∙ ap (λ n. record w { counted = d; edits = n; written = c }) i
    ∙ ap (λ n. record w { counted = d; edits = e; written = n }) j

-- what is written, by whether it is marked
abbrev written_if : Bool → ℕ → Fields → ℕ → (Selection → Selection) → Working → Working
written_if b k o c moved w = record (marked_if b w.forest k (wrote c w)) { forest = with_fields k o w.forest; selection = moved w.selection }

written_shifted : (b : Bool) (n m k : ℕ) (o : Fields) (c : ℕ) (moved : Selection → Selection) (w : Working)
    → written_if b k o c moved (rewritten n m w) ≡ rewritten n m (written_if b k o c moved w)
written_shifted true n m k o c moved w =
    counts_same (record w {
      marks = mark_nodes w.forest (k ∷ []) w.marks;
      fresh = mark_nodes w.forest (k ∷ []) w.fresh;
      forest = with_fields k o w.forest;
      selection = moved w.selection;
    })
    (w.counted + n + 1) (w.edits + n + 1) (w.written + m + c) (w.counted + 1 + n) (w.edits + 1 + n) (w.written + c + m)
    (omega arith) (omega arith) (omega arith)
written_shifted false n m k o c moved w =
    counts_same (record w { forest = with_fields k o w.forest; selection = moved w.selection })
    (w.counted + n + 1) (w.edits + n + 1) (w.written + m + c) (w.counted + 1 + n) (w.edits + 1 + n) (w.written + c + m)
    (omega arith) (omega arith) (omega arith)

set_shifted : (n m k : ℕ) (o : Fields) (w : Working) → HasRoomFor (n + 1) (m + characters_of o) w
    → set_step k o (rewritten n m w) ≡ after (set_step k o w) (λ v. Ok (rewritten n m v))
unfolding set_step
set_shifted n m k o w fits =
    by_fault (set_fault k o w.forest) (within_limits (characters_of o) w (omega (arith, fits.0)) (omega (arith, fits.1)))
    (within_limits (characters_of o) (rewritten n m w) (omega (arith, fits.0)) (omega (arith, fits.1)))
  where
    by_fault : (fault : Option Cause) → over_limits (characters_of o) w ≡ None → over_limits (characters_of o) (rewritten n m w) ≡ None
        → answer (option_or fault (over_limits (characters_of o) (rewritten n m w)))
        (fields_written k o (characters_of o) (set_points k o) (rewritten n m w))
        ≡ after (answer (option_or fault (over_limits (characters_of o) w)) (fields_written k o (characters_of o) (set_points k o) w))
        (λ v. Ok (rewritten n m v))
    by_fault (Some cause) here there = refl
    by_fault None here there =
        ap (λ r. answer r (fields_written k o (characters_of o) (set_points k o) (rewritten n m w))) there
        ∙ ap Ok (written_shifted (differ (fields_of w.forest k) o) n m k o (characters_of o) (set_points k o) w)
        ∙ sym (ap (λ r. after (answer r (fields_written k o (characters_of o) (set_points k o) w)) (λ v. Ok (rewritten n m v))) here)

-- ---- what a set leaves

second_none : (a b : Option Cause) → option_or a b ≡ None → b ≡ None
second_none None b e = e
second_none (Some cause) b e = absurd (cc)

first_none : (a b : Option Cause) → option_or a b ≡ None → a ≡ None
first_none None b e = refl
first_none (Some cause) b e = absurd (cc)

if_none : (b : Bool) (cause : Cause) → cond b None (Some cause) ≡ None → b ≡ true
if_none true cause e = refl
if_none false cause e = absurd (cc)

-- fields that can be set are of the node's kind
of_kind_there : (k : ℕ) (o : Fields) (f : Forest) (l : Label) → set_fault k o f ≡ None → label_of f k ≡ Some l → is_of_kind l.kind o ≡ true
of_kind_there k o f l fine is =
    if_none (is_of_kind l.kind o) _
    (sym (ap (λ x. wrong_fields (option_map (λ (m : Label). m.kind) x) o) is) ∙ second_none _ (wrong_fields (kind_of f k) o) fine)

-- a forest in order, whose nodes are held and have fields of their kinds
pub record IsSound (f : Forest) : Type 0 where
  pub in_order : IsForest f
  pub held : IsHeld may_hold f
  pub suited : IsSuited f

-- so many counts were taken, and so many scalar values written: the forest is alike, and sound still
pub record IsTaken (n m : ℕ) (w u : Working) : Type 0 where
  pub alike : IsAlike w.forest u.forest
  pub in_order : IsForest u.forest
  pub held : IsHeld may_hold u.forest
  pub suited : IsSuited u.forest
  pub counted : u.counted ≡ w.counted + n
  pub written : u.written ≡ w.written + m

held-alike : (f g : Forest) → IsAlike f g → IsHeld may_hold f → IsHeld may_hold g
held-alike f g a held = record {
  each = λ q p up. ap₂ (holds may_hold) (kind-alike f g a p) (kind-alike f g a q) ∙ held.each q p (sym (parent-alike f g a q) ∙ up);
}

pub sound_left : (n m : ℕ) (w u : Working) → IsTaken n m w u → IsSound u.forest
sound_left n m w u t = record { in_order = t.in_order; held = t.held; suited = t.suited }

taken-none : (w : Working) → IsSound w.forest → IsTaken 0 0 w w
taken-none w s = record {
  alike = alike-self w.forest;
  in_order = s.in_order;
  held = s.held;
  suited = s.suited;
  counted = omega arith;
  written = omega arith;
}

taken-then : (a b n m : ℕ) (w u v : Working) → IsTaken a b w u → IsTaken n m u v → IsTaken (a + n) (b + m) w v
taken-then a b n m w u v s t = record {
  alike = alike-then w.forest u.forest v.forest s.alike t.alike;
  in_order = t.in_order;
  held = t.held;
  suited = t.suited;
  counted = omega (arith, s.counted, t.counted);
  written = omega (arith, s.written, t.written);
}

taken_as : (a b n m : ℕ) (w u : Working) → a ≡ n → b ≡ m → IsTaken a b w u → IsTaken n m w u
taken_as a b n m w u e g t = record {
  alike = t.alike;
  in_order = t.in_order;
  held = t.held;
  suited = t.suited;
  counted = omega (arith, t.counted, e);
  written = omega (arith, t.written, g);
}

counted_if : (b : Bool) (k : ℕ) (o : Fields) (c : ℕ) (moved : Selection → Selection) (w : Working) → (written_if b k o c moved w).counted ≡ w.counted + 1
counted_if true k o c moved w = refl
counted_if false k o c moved w = refl

length_if : (b : Bool) (k : ℕ) (o : Fields) (c : ℕ) (moved : Selection → Selection) (w : Working) → (written_if b k o c moved w).written ≡ w.written + c
length_if true k o c moved w = refl
length_if false k o c moved w = refl

-- ---- one item

-- what an item is, and weighs
record IsItem (f : Forest) (k : ℕ) (l : Label) : Type 0 where
  here : label_of f k ≡ Some l
  one : own_items f k ≡ 1
  all : own_characters f k ≡ characters_of l.fields

item_known : (f : Forest) (k : ℕ) → is_at is_item f k ≡ true → (l : Label) × IsItem f k l
item_known f k is_it =
    let known = spot_known f k (there_at is_item f k is_it) in
    let l : Label = known.0.label in
    let here : label_of f k ≡ Some l = ap (option_map (λ (s : Spot Label). s.label)) known.1 in
    let item : is_item l.kind ≡ true = sym (ap (λ o. passes is_item (option_map (λ (m : Label). m.kind) o)) here) ∙ is_it in (
      l,
      record {
        here = here;
        one = ap (weight_in items_in) here ∙ ap (λ b. cond b 1 0) item;
        all = ap (weight_in item_characters_in) here ∙ ap (λ b. cond b (characters_of l.fields) 0) item;
      },
    )

-- what an item gets
abbrev given_number : ℕ → Label → Fields
given_number n l = element_fields_changed (with_extra_changed (with_number n)) l.fields

characters-given : (n : ℕ) (l : Label) → characters_of (given_number n l) ≡ characters_of l.fields
characters-given n l =
    sym (characters-seen (given_number n l)) ∙ ap characters_of (changed-seen n l.fields) ∙ characters-seen l.fields

number_set : (n k : ℕ) (l : Label) (w : Working) → label_of w.forest k ≡ Some l → number_item n k w ≡ set_step k (given_number n l) w
unfolding number_item change_step
number_set n k l w is = ap (λ x. set_changed (with_extra_changed (with_number n)) k (option_map (λ (m : Label). m.fields) x) w) is

item_shifted : (n k c d : ℕ) (w : Working) → is_at is_item w.forest k ≡ true → HasRoomFor (c + own_items w.forest k) (d + own_characters w.forest k) w
    → number_item n k (rewritten c d w) ≡ after (number_item n k w) (λ v. Ok (rewritten c d v))
item_shifted n k c d w is fits =
    let known = item_known w.forest k is in
    let l : Label = known.0 in
    number_set n k l (rewritten c d w) known.1.here
    ∙ set_shifted c d k (given_number n l) w (omega (arith, fits.0, known.1.one), omega (arith, fits.1, known.1.all, characters-given n l))
    ∙ sym (ap (λ r. after r (λ v. Ok (rewritten c d v))) (number_set n k l w known.1.here))

set_taken : (k : ℕ) (o : Fields) (l : Label) (w u : Working) → IsSound w.forest → label_of w.forest k ≡ Some l → seen_fields o ≡ seen_fields l.fields
    → set_step k o w ≡ Ok u → IsTaken 1 (characters_of o) w u
unfolding set_step
set_taken k o l w u s is same e =
    let told = answered _ _ u e in
    let fine : set_fault k o w.forest ≡ None = first_none _ _ told.0 in
    let a : IsAlike w.forest (with_fields k o w.forest) =
    alike-set w.forest k l.fields o (ap (option_map (λ (m : Label). m.fields)) is) same in
    subst (IsTaken 1 (characters_of o) w) told.1
    (record {
      alike = a;
      in_order = IsForest-with_fields k o w.forest s.in_order;
      held = held-alike w.forest (with_fields k o w.forest) a s.held;
      suited = IsSuited-with_fields w.forest k o (λ m there. of_kind_there k o w.forest m fine there) s.suited;
      counted = counted_if (differ (fields_of w.forest k) o) k o (characters_of o) (set_points k o) w;
      written = length_if (differ (fields_of w.forest k) o) k o (characters_of o) (set_points k o) w;
    })

item_taken : (n k : ℕ) (w u : Working) → IsSound w.forest → is_at is_item w.forest k ≡ true → number_item n k w ≡ Ok u
    → IsTaken (own_items w.forest k) (own_characters w.forest k) w u
item_taken n k w u s is e =
    let known = item_known w.forest k is in
    let l : Label = known.0 in
    taken_as 1 (characters_of (given_number n l)) (own_items w.forest k) (own_characters w.forest k) w u
    (sym known.1.one) (characters-given n l ∙ sym known.1.all)
    (set_taken k (given_number n l) l w u s known.1.here (changed-seen n l.fields) (sym (number_set n k l w known.1.here) ∙ e))

-- ---- the items of a list

-- all of these are items
abbrev pub AreItems : Forest → List ℕ → Type 0
AreItems f items = (q : ℕ) → is_among q items ≡ true → is_at is_item f q ≡ true

first_item : (f : Forest) (item : ℕ) (items : List ℕ) → AreItems f (item ∷ items) → is_at is_item f item ≡ true
first_item f item items are = are item (grind (arith, eqb_tells item item))

other_items : (f g : Forest) (item : ℕ) (items : List ℕ) → IsAlike f g → AreItems f (item ∷ items) → AreItems g items
other_items f g item items a are q among = is_at-alike f g a is_item q ∙ are q (grind (arith, among))

-- one step after another that isn't refused
pub both_ok : (r : Result Working Cause) (next : Working → Result Working Cause) (v : Working) → after r next ≡ Ok v → (u : Working) × (r ≡ Ok u) × (next u ≡ Ok v)
both_ok (Ok u) next v e = (u, refl, e)
both_ok (Err cause) next v e = absurd (cc)

pub sum-alike : (of : Forest → ℕ → ℕ) → ((f g : Forest) → IsAlike f g → (q : ℕ) → of g q ≡ of f q) → (f g : Forest) → IsAlike f g → (xs : List ℕ)
    → sum_by (of g) xs ≡ sum_by (of f) xs
sum-alike of same f g a xs = sum_agree (of g) (of f) (same f g a) xs

pub items_taken : (n : ℕ) (items : List ℕ) (w v : Working) → IsSound w.forest → AreItems w.forest items → numbered_from n items w ≡ Ok v
    → IsTaken (sum_by (own_items w.forest) items) (sum_by (own_characters w.forest) items) w v
unfolding numbered_from
items_taken n [] w v s are e = let same : w ≡ v = cc in subst (IsTaken 0 0 w) same (taken-none w s)
items_taken n (item ∷ items) w v s are e =
    let f : Forest = w.forest in
    let next : ℕ = cond (is_nesting f item) n (n + 1) in
    let both = both_ok (number_item n item w) (numbered_from next items) v e in
    let u : Working = both.0 in
    let first = item_taken n item w u s (first_item f item items are) both.1 in
    let rest = items_taken next items u v (sound_left _ _ w u first) (other_items f u.forest item items first.alike are) both.2 in
    taken_as _ _ (sum_by (own_items f) (item ∷ items)) (sum_by (own_characters f) (item ∷ items)) w v
    (ap (λ k. own_items f item + k) (sum-alike own_items items-alike f u.forest first.alike items) ∙ sym (sum_by-cons (own_items f) item items))
    (ap (λ k. own_characters f item + k) (sum-alike own_characters item_characters-alike f u.forest first.alike items)
    ∙ sym (sum_by-cons (own_characters f) item items))
    (taken-then _ _ _ _ w u v first rest)

pub items_shifted : (c d n : ℕ) (items : List ℕ) (w : Working) → IsSound w.forest → AreItems w.forest items
    → HasRoomFor (c + sum_by (own_items w.forest) items) (d + sum_by (own_characters w.forest) items) w
    → numbered_from n items (rewritten c d w) ≡ after (numbered_from n items w) (λ v. Ok (rewritten c d v))
unfolding numbered_from
items_shifted c d n [] w s are fits = refl
items_shifted c d n (item ∷ items) w s are fits =
    let next : ℕ = cond (is_nesting w.forest item) n (n + 1) in
    let more = sum_by-cons (own_items w.forest) item items in
    let longer = sum_by-cons (own_characters w.forest) item items in
    ap (λ r. after r (numbered_from next items))
    (item_shifted n item c d w (first_item w.forest item items are) (omega (arith, fits.0, more), omega (arith, fits.1, longer)))
    ∙ by_first (number_item n item w) (numbered_from next items) (λ u is.
    let first = item_taken n item w u s (first_item w.forest item items are) is in
    let many = sum-alike own_items items-alike w.forest u.forest first.alike items in
    let long = sum-alike own_characters item_characters-alike w.forest u.forest first.alike items in
    items_shifted c d next items u (sound_left _ _ w u first) (other_items w.forest u.forest item items first.alike are)
    (omega (arith, fits.0, more, first.counted, many), omega (arith, fits.1, longer, first.written, long)))
  where
    by_first : (r : Result Working Cause) (next : Working → Result Working Cause)
        → ((u : Working) → r ≡ Ok u → next (rewritten c d u) ≡ after (next u) (λ v. Ok (rewritten c d v)))
        → after (after r (λ v. Ok (rewritten c d v))) next ≡ after (after r next) (λ v. Ok (rewritten c d v))
    by_first (Err cause) next rest = refl
    by_first (Ok u) next rest = rest u refl

-- ---- a list

-- the items of a list are items
pub items_there : (f : Forest) (list : ℕ) → IsSound f → is_at is_list f list ≡ true → AreItems f (children_of f list)
items_there f list s is q among = item_below f list q s.held is (parent_there f list q s.in_order among)

-- numbering a list takes a count for each of its items, and leaves an alike forest
pub list_taken : (list : ℕ) (w v : Working) → IsSound w.forest → is_at is_list w.forest list ≡ true → list_numbered list w ≡ Ok v
    → IsTaken (items_below w.forest list) (characters_below w.forest list) w v
list_taken list w v s is e =
    items_taken (list_start (fields_of w.forest list)) (children_of w.forest list) w v s (items_there w.forest list s is) e

-- it does the same where other counts were taken before
pub shifted : (c d list : ℕ) (w : Working) → IsSound w.forest → is_at is_list w.forest list ≡ true
    → HasRoomFor (c + items_below w.forest list) (d + characters_below w.forest list) w
    → list_numbered list (rewritten c d w) ≡ after (list_numbered list w) (λ v. Ok (rewritten c d v))
shifted c d list w s is fits =
    items_shifted c d (list_start (fields_of w.forest list)) (children_of w.forest list) w s (items_there w.forest list s is) fits

-- a list whose items have their numbers stays so while another is numbered, or itself
pub stays_right : (list other : ℕ) (w v : Working) → IsSound w.forest → is_at is_list w.forest list ≡ true → list_numbered list w ≡ Ok v
    → IsNumberedList w.forest other → IsNumberedList v.forest other
stays_right list other w v s is e with_number i item at =
    let f : Forest = w.forest in
    let g : AreGiven f f v.forest (children_of f list) =
    list_given f list w v s.in_order (HasItems-held f s.held s.suited) is (alike-self f) e in
    let was_at : slice_get (children_of f other) i ≡ Some item = ap (λ xs. slice_get xs i) (sym (children-alike f v.forest g.alike other)) ∙ at in
    let own = due_there f other item i s.in_order was_at in
    g.kept item (with_number i item was_at ∙ ap Some (sym own)) ∙ ap Some (own ∙ sym (due-alike f v.forest g.alike other i))

-- ---- lists

filter_in : (t : ℕ → Bool) (x : ℕ) (xs : List ℕ) → t x ≡ true → filter t (x ∷ xs) ≡ x ∷ filter t xs
filter_in t x xs is = rw is refl

filter_out : (t : ℕ → Bool) (x : ℕ) (xs : List ℕ) → t x ≡ false → filter t (x ∷ xs) ≡ filter t xs
filter_out t x xs is = rw is refl

-- those that fail a test
abbrev others : (ℕ → Bool) → List ℕ → List ℕ
others t lists = filter (λ l. not (t l)) lists

-- lists of a draft that can be numbered apart: those that fail the test have their numbers, and there is room for all of them
record AreApart (t : ℕ → Bool) (lists : List ℕ) (w : Working) : Type 0 where
  sound : IsSound w.forest
  are : (list : ℕ) → is_among list lists ≡ true → is_at is_list w.forest list ≡ true
  done : (list : ℕ) → is_among list lists ≡ true → t list ≡ false → IsNumberedList w.forest list
  fits : HasRoomFor (sum_by (items_below w.forest) lists) (sum_by (characters_below w.forest) lists) w

first_list : (t : ℕ → Bool) (list : ℕ) (lists : List ℕ) (w : Working) → AreApart t (list ∷ lists) w → is_at is_list w.forest list ≡ true
first_list t list lists w p = p.are list (grind (arith, eqb_tells list list))

-- there is room for the first of them with the others that fail
first_fits : (t : ℕ → Bool) (list : ℕ) (lists : List ℕ) (w : Working) → AreApart t (list ∷ lists) w
    → HasRoomFor (sum_by (items_below w.forest) (others t lists) + items_below w.forest list)
    (sum_by (characters_below w.forest) (others t lists) + characters_below w.forest list) w
first_fits t list lists w p = (
  omega (arith, p.fits.0, sum_by-cons (items_below w.forest) list lists, sums_part (items_below w.forest) t lists),
  omega (arith, p.fits.1, sum_by-cons (characters_below w.forest) list lists, sums_part (characters_below w.forest) t lists),
)

-- the first of them was numbered
apart_numbered : (t : ℕ → Bool) (list : ℕ) (lists : List ℕ) (w u : Working) → AreApart t (list ∷ lists) w → list_numbered list w ≡ Ok u → AreApart t lists u
apart_numbered t list lists w u p e =
    let own = first_list t list lists w p in
    let taken = list_taken list w u p.sound own e in
    let many = sum-alike items_below items_below-alike w.forest u.forest taken.alike lists in
    let long = sum-alike characters_below characters_below-alike w.forest u.forest taken.alike lists in
    record {
      sound = sound_left _ _ w u taken;
      are = λ other among. is_at-alike w.forest u.forest taken.alike is_list other ∙ p.are other (grind (arith, among));
      done = λ other among fails. stays_right list other w u p.sound own e (p.done other (grind (arith, among)) fails);
      fits = (
        omega (arith, p.fits.0, sum_by-cons (items_below w.forest) list lists, taken.counted, many),
        omega (arith, p.fits.1, sum_by-cons (characters_below w.forest) list lists, taken.written, long),
      );
    }

-- or took its counts
apart_counted : (t : ℕ → Bool) (list : ℕ) (lists : List ℕ) (w : Working) → AreApart t (list ∷ lists) w
    → AreApart t lists (rewritten (items_below w.forest list) (characters_below w.forest list) w)
apart_counted t list lists w p = record {
  sound = p.sound;
  are = λ other among. p.are other (grind (arith, among));
  done = λ other among fails. p.done other (grind (arith, among)) fails;
  fits = (
    omega (arith, p.fits.0, sum_by-cons (items_below w.forest) list lists),
    omega (arith, p.fits.1, sum_by-cons (characters_below w.forest) list lists),
  );
}

-- the first of them is one that is to be numbered
touched_first : (c d list : ℕ) (lists rest : List ℕ) (w : Working)
    → list_numbered list (rewritten c d w) ≡ after (list_numbered list w) (λ v. Ok (rewritten c d v))
    → ((u : Working) → list_numbered list w ≡ Ok u → in_turn list_numbered lists u ≡ in_turn list_numbered rest (rewritten c d u))
    → in_turn list_numbered (list ∷ lists) w ≡ in_turn list_numbered (list ∷ rest) (rewritten c d w)
unfolding in_turn
touched_first c d list lists rest w same later =
    by_first (list_numbered list w) later ∙ sym (ap (λ r. after r (in_turn list_numbered rest)) same)
  where
    by_first : (r : Result Working Cause)
        → ((u : Working) → r ≡ Ok u → in_turn list_numbered lists u ≡ in_turn list_numbered rest (rewritten c d u))
        → after r (in_turn list_numbered lists) ≡ after (after r (λ v. Ok (rewritten c d v))) (in_turn list_numbered rest)
    by_first (Err cause) later = refl
    by_first (Ok u) later = later u refl

-- the first of them is one that has its numbers
standing_first : (a b c d list : ℕ) (lists rest : List ℕ) (w : Working) → list_numbered list w ≡ Ok (rewritten a b w)
    → in_turn list_numbered lists (rewritten a b w) ≡ in_turn list_numbered rest (rewritten c d (rewritten a b w))
    → in_turn list_numbered (list ∷ lists) w ≡ in_turn list_numbered rest (rewritten (a + c) (b + d) w)
unfolding in_turn
standing_first a b c d list lists rest w first later =
    ap (λ r. after r (in_turn list_numbered lists)) first ∙ later ∙ ap (in_turn list_numbered rest) (rewritten-more a b c d w)

-- what is left once those that fail took their counts
abbrev told_apart : (ℕ → Bool) → Forest → List ℕ → Working → Working
told_apart t f lists w = rewritten (sum_by (items_below f) (others t lists)) (sum_by (characters_below f) (others t lists)) w

told_alike : (t : ℕ → Bool) (f g : Forest) (lists : List ℕ) (w : Working) → IsAlike f g → told_apart t g lists w ≡ told_apart t f lists w
told_alike t f g lists w a =
    ap₂ (λ n m. rewritten n m w) (sum-alike items_below items_below-alike f g a (others t lists))
    (sum-alike characters_below characters_below-alike f g a (others t lists))

told_after : (t : ℕ → Bool) (f : Forest) (list : ℕ) (lists : List ℕ) (w : Working) → t list ≡ false
    → rewritten (items_below f list + sum_by (items_below f) (others t lists)) (characters_below f list + sum_by (characters_below f) (others t lists)) w
    ≡ told_apart t f (list ∷ lists) w
told_after t f list lists w fails =
    ap₂ (λ n m. rewritten n m w) (sym (sum_by-cons (items_below f) list (others t lists))) (sym (sum_by-cons (characters_below f) list (others t lists)))
    ∙ ap (λ ks. rewritten (sum_by (items_below f) ks) (sum_by (characters_below f) ks) w) (sym (filter_in (λ l. not (t l)) list lists (ap not fails)))

apart : (t : ℕ → Bool) (lists : List ℕ) (w : Working) → AreApart t lists w
    → in_turn list_numbered lists w ≡ in_turn list_numbered (filter t lists) (told_apart t w.forest lists w)
apart t [] w p = ap (in_turn list_numbered []) (sym (rewritten-none w))
apart t (list ∷ lists) w p =
    let f : Forest = w.forest in
    let own = first_list t list lists w p in
    let room = first_fits t list lists w p in
    let c : ℕ = sum_by (items_below f) (others t lists) in
    let d : ℕ = sum_by (characters_below f) (others t lists) in
    elim (cases_Bool (t list)) [
      | inl passes ↦
          touched_first c d list lists (filter t lists) w (shifted c d list w p.sound own room)
          (λ u e. apart t lists u (apart_numbered t list lists w u p e)
          ∙ ap (in_turn list_numbered (filter t lists)) (told_alike t f u.forest lists u (list_taken list w u p.sound own e).alike))
          ∙ ap₂ (λ js ks. in_turn list_numbered js (rewritten (sum_by (items_below f) ks) (sum_by (characters_below f) ks) w))
          (sym (filter_in t list lists passes)) (sym (filter_out (λ l. not (t l)) list lists (ap not passes)))
      | inr fails ↦
          standing_first (items_below f list) (characters_below f list) c d list lists (filter t lists) w
          (list_again list w p.sound.in_order p.sound.held p.sound.suited own (p.done list (grind (arith, eqb_tells list list)) fails)
          (omega (arith, room.0), omega (arith, room.1)))
          (apart t lists (rewritten (items_below f list) (characters_below f list) w) (apart_counted t list lists w p))
          ∙ ap₂ (in_turn list_numbered) (sym (filter_out t list lists fails)) (told_after t f list lists w fails)
    ]

-- the counts of the lists that fail a test may be taken before the others are numbered
pub numbered_apart : (t : ℕ → Bool) (lists : List ℕ) (w : Working) → IsForest w.forest → IsHeld may_hold w.forest → IsSuited w.forest
    → ((list : ℕ) → is_among list lists ≡ true → is_at is_list w.forest list ≡ true)
    → ((list : ℕ) → is_among list lists ≡ true → t list ≡ false → IsNumberedList w.forest list)
    → HasRoomFor (sum_by (items_below w.forest) lists) (sum_by (characters_below w.forest) lists) w
    → in_turn list_numbered lists w
    ≡ in_turn list_numbered (filter t lists)
    (rewritten (sum_by (items_below w.forest) (filter (λ l. not (t l)) lists)) (sum_by (characters_below w.forest) (filter (λ l. not (t l)) lists)) w)
numbered_apart t lists w h held suited are done fits =
    apart t lists w (record { sound = record { in_order = h; held = held; suited = suited }; are = are; done = done; fits = fits })
