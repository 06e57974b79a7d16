-- What a join did: two texts were beside each other, the first got the second's text after its own, and the second was
-- taken out.
use Rattle.lx_draft.proofs.Covered.{answered}
use Rattle.lx_draft.proofs.Gaps.{child_of}
use Rattle.lx_draft.proofs.Put.{both_none}
use Rattle.lx_draft.proofs.Touched.{is_some-kind_of}
use Rattle.lx_draft.specs.Faults.{over_counts, over_limits, splice_fault, text_in}
use Rattle.lx_draft.specs.Selecting.{length_told, unlike}
use Rattle.lx_draft.specs.Steps.{fields_written, label_with_piece, node_taken, splice_points, splice_step, take_points, take_step, text_replaced, with_piece}
use Rattle.lx_draft.specs.Working.{Working}
use Rattle.lx_edit.proofs.Climbed.{first_part}
use Rattle.lx_edit.specs.Conditions.{is_key, join_fault, length_at, length_in}
use Rattle.lx_edit.specs.Edits.{pointed}
use Rattle.lx_edit.specs.Texts.{join_step, text_or_none, texts_joined}
use Rattle.lx_forest.proofs.Edits.{is_some-spot}
use Rattle.lx_forest.proofs.Lookups.{NoRepeats-children_of, parent_of-with_fields}
use Rattle.lx_forest.proofs.Siblings.{parent_of-next, siblings-with_fields}
use Rattle.lx_forest.specs.Edits.{take_out, with_fields}
use Rattle.lx_forest.specs.Forest.{Forest}
use Rattle.lx_forest.specs.Lookups.{IsForest, children_below, children_of, has, index_of, kind_of, label_of, next_of, parent_of}
use Rattle.lx_links.specs.Faults.{detach_fault}
use Rattle.lx_forest.proofs.Walks.{cases_option}
use Rattle.lx_edit_laws.proofs.SplitLaws.{kind_by}
use Rattle.lx_edit_laws.proofs.WrapSteps.{was_allowed}
use Rattle.lx_edit_laws.proofs.SplitPoints.{each_twice}
use Rattle.lx_edit_laws.specs.Reading.{text_at}
use Rattle.lx_trees.proofs.Positions.{place_in, index_in-among}
use Rattle.lx_trees.proofs.Siblings.{first_of-among}
use Rattle.lx_node.specs.Kinds.{is_text}
use Rattle.lx_node.specs.Limits.{last_u32}
use Rattle.lx_trees.specs.Siblings.{NoRepeats, index_in, next_in}
use Rattle.lx_node.specs.declared.cause.Cause.TheVariants.{BadPlace}
use Rattle.lx_node.specs.declared.cause.Point.{Point}
use Rattle.lx_node.specs.declared.fields.Fields.{Fields}
use Rattle.lx_node.specs.declared.fields.TextFields.{TextFields}
use Rattle.lx_select.specs.Rules.{join_moves, splice_moves, take_moves}
use Rattle.lx_select.specs.Selection.{each_point}
use Rattle.lx_text.proofs.Appended.{spliced-end}
use Rattle.lx_text.proofs.Places.{length-append}
use Rattle.lx_text.proofs.Told.{told-all}
use Rattle.lx_text.specs.Texts.{text_length}
use Rattle.std.proofs.Common.{List, None, Ok, Option, Some, [], ap, ap₂, arith, cond, inl, inr, length, refl, subst, sym, true, ℕ, ◌++◌, ◌∙◌, ◌∷◌, ◌≡◌, ◌≢◌, ◌≤◌}
use Rattle.std.proofs.lemmas.Bool.Decides.{eqb_tells}
use Rattle.std.specs.Option.{option_or}
use Rattle.lx_node.specs.declared.kind.Kind.TheVariants as kinds

-- ---- texts

-- where a piece may be replaced there is a text
pub text_spliced : (f : Forest) (k from to : ℕ) → splice_fault k from to f ≡ None → (t : TextFields) × (text_in (label_of f k) ≡ Some t)
text_spliced f k from to e = elim (cases_option (text_in (label_of f k))) [
  | inl none ↦ absurd (grind (arith, e, none, is_some-spot f k))
  | inr found ↦ found
]

-- a text's fields with more after its own text
abbrev pub with_behind : TextFields → List ℕ → Fields
with_behind own more = text_replaced own (own.text ++ more)

-- ---- two beside each other

-- two children of one node, the second right after the first
pub record AreBeside (f : Forest) (first second : ℕ) : Type 0 where
  pub parent : ℕ
  pub up : parent_of f first ≡ Some parent
  pub below : parent_of f second ≡ Some parent
  pub next : next_in (children_of f parent) first ≡ Some second
  pub apart : first ≢ second
  pub index : ℕ
  pub at : index_of f second ≡ Some index

-- what comes right after a name is another
pub next_apart : (xs : List ℕ) (q n : ℕ) → NoRepeats xs → next_in xs q ≡ Some n → q ≢ n
next_apart [] q n once e same = absurd (cc)
next_apart (x ∷ xs) q n once e same =
    elim (eqb_tells x q) [
      | inl own ↦ absurd (grind (arith, own, same, once.0, e, first_of-among xs n))
      | inr other ↦ next_apart xs q n once.1 (grind (arith, other, e)) same
    ]

beside_by : (f : Forest) (o : Option ℕ) (first second : ℕ) → IsForest f → parent_of f first ≡ o → next_of f first ≡ Some second → AreBeside f first second
beside_by f None first second h up e = absurd (grind (arith, up, e))
beside_by f (Some p) first second h up e =
    let next : next_in (children_of f p) first ≡ Some second = sym (ap (λ o. next_in (children_below f o) first) up) ∙ e in
    let below : parent_of f second ≡ Some p = parent_of-next f first second p h up e in
    record {
      parent = p;
      up = up;
      below = below;
      next = next;
      apart = next_apart (children_of f p) first second (NoRepeats-children_of f p h) next;
      index = place_in (children_of f p) second;
      at = ap (λ o. index_in (children_below f o) second) below ∙ index_in-among (children_of f p) second (child_of f p second h below);
    }

-- what comes next is a child of the same node
pub beside : (f : Forest) (first second : ℕ) → IsForest f → next_of f first ≡ Some second → AreBeside f first second
beside f first second h e = beside_by f (parent_of f first) first second h refl e

-- ---- what a join did

-- where it moves a point
abbrev pub joined_point : ℕ → ℕ → ℕ → ℕ → ℕ → ℕ → Point → Point
joined_point first second end len parent index x = take_moves parent index (join_moves first end second (splice_moves first end end len x))

-- two texts were joined, the second of which came right after the first: what the first has now, and where points went
pub record AreJoined (first second : ℕ) (w v : Working) : Type 0 where
  pub own : TextFields
  pub own_is : text_in (label_of w.forest first) ≡ Some own
  pub place : AreBeside w.forest first second
  pub first_text : kind_of w.forest first ≡ Some kinds.Text
  pub second_text : kind_of w.forest second ≡ Some kinds.Text
  pub forest : v.forest ≡ take_out second (with_fields first (with_behind own (text_at w.forest second)) w.forest)
  pub selection : v.selection
      ≡ each_point (joined_point first second (length_at w.forest first) (length_told (text_at w.forest second)) place.parent place.index) w.selection

-- what these causes say where they aren't there
next_is : (o : Option ℕ) (k : ℕ) → cond (is_key o k) None (Some (BadPlace k)) ≡ None → o ≡ Some k
next_is None k e = absurd (cc)
next_is (Some x) k e = grind (arith, e, eqb_tells x k)

like_text : (f : Forest) (k : ℕ) → has k f ≡ true → unlike is_text (kind_of f k) ≡ None → kind_of f k ≡ Some kinds.Text
like_text f k there e = kind_by (kind_of f k) (is_some-kind_of f k ∙ there) e

-- what the splice left
record IsSpliced (first second : ℕ) (w s : Working) : Type 0 where
  own : TextFields
  own_is : text_in (label_of w.forest first) ≡ Some own
  forest : s.forest
      ≡ with_fields first (label_with_piece (label_of w.forest first) (length_at w.forest first) (length_at w.forest first) (text_at w.forest second)) w.forest
  selection : s.selection
      ≡ each_point (splice_moves first (length_at w.forest first) (length_at w.forest first) (length_told (text_at w.forest second))) w.selection

spliced_of : (first second : ℕ) (w s : Working) → splice_step first (length_at w.forest first) (length_at w.forest first) (text_at w.forest second) w ≡ Ok s
    → IsSpliced first second w s
unfolding splice_step
spliced_of first second w s e =
    let end : ℕ = length_at w.forest first in
    let text : List ℕ = text_at w.forest second in
    let made : Working = fields_written first (label_with_piece (label_of w.forest first) end end text) (length text) (splice_points first end end text) w in
    let told = answered (option_or (splice_fault first end end w.forest) (over_limits (length text) w)) made s e in
    let own = text_spliced w.forest first end end (both_none (splice_fault first end end w.forest) (over_limits (length text) w) told.0).0 in
    record {
      own = own.0;
      own_is = own.1;
      forest = ap (λ (x : Working). x.forest) (sym told.1);
      selection = ap (λ (x : Working). x.selection) (sym told.1);
    }

-- its new fields, where offsets can say every place of both texts
spliced_fields : (f : Forest) (k : ℕ) (t : TextFields) (more : List ℕ) → text_in (label_of f k) ≡ Some t → text_length (t.text ++ more) ≤ last_u32
    → label_with_piece (label_of f k) (length_at f k) (length_at f k) more ≡ with_behind t more
spliced_fields f k t more is fits =
    let end : length_at f k ≡ text_length t.text = ap length_in is ∙ told-all t.text (omega (arith, fits, length-append t.text more)) in
    ap (λ o. with_piece o (length_at f k) (length_at f k) more) is ∙ ap (text_replaced t) (spliced-end (length_at f k) more t.text end)

index_of-with_fields : (k : ℕ) (fields : Fields) (f : Forest) (q : ℕ) → index_of (with_fields k fields f) q ≡ index_of f q
index_of-with_fields k fields f q = ap (λ xs. index_in xs q) (siblings-with_fields k fields f q)

joined_of : (first second : ℕ) (w s v : Working) → IsForest w.forest → join_fault first second w.forest ≡ None
    → text_length (text_at w.forest first ++ text_at w.forest second) ≤ last_u32
    → IsSpliced first second w s → take_step second (pointed (join_moves first (length_at w.forest first) second) s) ≡ Ok v → AreJoined first second w v
unfolding take_step
joined_of first second w s v h none fits spliced e =
    let end : ℕ = length_at w.forest first in
    let text : List ℕ = text_at w.forest second in
    let u : Working = pointed (join_moves first end second) s in
    let taken = (answered (option_or (detach_fault second u.forest) (over_counts u)) (node_taken second u) v e).1 in
    let same : text_at w.forest first ≡ spliced.own.text = ap text_or_none spliced.own_is in
    let room : text_length (spliced.own.text ++ text) ≤ last_u32 = subst (λ xs. text_length (xs ++ text) ≤ last_u32) same fits in
    let place = beside w.forest first second h (next_is (next_of w.forest first) second (grind (arith, none))) in
    let piece : Fields = label_with_piece (label_of w.forest first) end end text in
    let up : parent_of s.forest second ≡ Some place.parent =
    ap (λ f. parent_of f second) spliced.forest ∙ parent_of-with_fields first piece w.forest second ∙ place.below in
    let at : index_of s.forest second ≡ Some place.index =
    ap (λ f. index_of f second) spliced.forest ∙ index_of-with_fields first piece w.forest second ∙ place.at in
    record {
      own = spliced.own;
      own_is = spliced.own_is;
      place = place;
      first_text = like_text w.forest first (grind (arith, none)) (grind (arith, none));
      second_text = like_text w.forest second (grind (arith, none)) (grind (arith, none));
      forest =
          ap (λ (x : Working). x.forest) (sym taken)
          ∙ ap (take_out second)
          (spliced.forest ∙ ap (λ x. with_fields first x w.forest) (spliced_fields w.forest first spliced.own text spliced.own_is room));
      selection =
          ap (λ (x : Working). x.selection) (sym taken)
          ∙ ap₂ (λ p i. take_points p i u.selection) up at
          ∙ ap (λ x. each_point (take_moves place.parent place.index) (each_point (join_moves first end second) x)) spliced.selection
          ∙ ap (each_point (take_moves place.parent place.index))
          (each_twice (splice_moves first end end (length_told text)) (join_moves first end second) w.selection)
          ∙ each_twice (λ x. join_moves first end second (splice_moves first end end (length_told text) x)) (take_moves place.parent place.index) w.selection;
    }

-- what a join did that wasn't refused, where offsets can say every place of both texts
pub are_joined : (first second : ℕ) (w v : Working) → IsForest w.forest → text_length (text_at w.forest first ++ text_at w.forest second) ≤ last_u32
    → join_step first second w ≡ Ok v → AreJoined first second w v
unfolding join_step
are_joined first second w v h fits e =
    let allowed = was_allowed (join_fault first second w.forest) w v (texts_joined first second) e in
    let end : ℕ = length_at w.forest first in
    let b = first_part (splice_step first end end (text_at w.forest second) w) (λ x. take_step second (pointed (join_moves first end second) x)) v allowed.1 in
    joined_of first second w b.0 v h allowed.0 fits (spliced_of first second w b.0 b.1) b.2
